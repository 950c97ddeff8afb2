use Rattle.std.proofs.Common.{◌+◌, ◌*◌, false, length, length-set, count_by, ap, ◌∙◌, arith}
use Rattle.studio_core.proofs.Walked.{less_left, next_marked, one_less}
use Rattle.studio_core.proofs.settling.bind_tiles.Goals as goal

pub loop-tile-preserved : goal.loop-tile-preserved
loop-tile-preserved g c =
    let design = c.args.design.now in
    let each = design.tile * (design.size.columns + design.size.picks) in
    let marks = c.loop-tile.bind in
    let tile = c.in-Some.tile in
    let marked = next_marked marks c.loop-tile.from tile c.in-Some.ensures.some in
    let less = ap (λ xs. count_by (λ b. b) xs + 1) c.bind_in_place.ensures.bind ∙ one_less marks tile marked.0 marked.1 in
    record {
      long = ap length c.bind_in_place.ensures.bind ∙ length-set marks tile false ∙ c.loop-tile.invariant.long;
      of_bits = c.bind_in_place.ensures.bits;
      cells = c.bind_in_place.ensures.cells;
      rooms = c.bind_in_place.ensures.rooms;
      later = (let h = c.bind_in_place.ensures.later in let k = c.loop-tile.invariant.later in omega arith);
      most = less_left (count_by (λ b. b) c.bind_in_place.new.bind) (count_by (λ b. b) marks) each c.loop-tile.steps c.bind_in_place.new.steps (c.args.steps.now + count_by (λ b. b) c.args.bind.now * each)
          less c.bind_in_place.ensures.most c.loop-tile.invariant.most;
    }
