use Rattle.std.proofs.Common.{◌+◌, ◌*◌, get_or, refl, sym, ◌∙◌, arith}
use Rattle.std.proofs.Math.Nat.{suc-mul}
use Rattle.point_paper.specs.Papers.{line_of}
use Rattle.tile_rebuild.proofs.lemmas.Lists.{line_within, one_more_line, put_room, length-line_of}
use Rattle.tile_rebuild.proofs.colour_lines.copy_lines.Goals as goal

pub copy_line-requires-clause-room : goal.copy_line-requires-clause-room
copy_line-requires-clause-room g c =
    let within = line_within c.args.len c.args.count c.loop-k.k c.loop-k-test.true in
    omega (arith, within, c.requires.room, c.loop-k.invariant.room)

pub loop-k-preserved : goal.loop-k-preserved
loop-k-preserved g c =
    let k = c.loop-k.k in
    let len = c.args.len in
    let line = line_of c.args.kind c.args.paper.now (c.args.from + k) in
    let long = length-line_of c.args.kind c.args.paper.now (c.args.from + k) ∙ sym c.requires.len in
    let within = line_within len c.args.count k c.loop-k-test.true in
    record {
      cells = one_more_line c.loop-k.out.items c.copy_line.new.out.items line len c.args.count k (λ j x. get_or (line_of c.args.kind c.args.paper.now (c.args.from + j)) x 0) c.copy_line.ensures.line c.loop-k-test.true
          (omega (arith, c.requires.room, c.loop-k.invariant.room)) long (λ x h. refl) c.loop-k.invariant.cells;
      room = put_room c.loop-k.out.items c.copy_line.new.out.items line (k * len) len c.copy_line.ensures.line (omega (arith, within, c.requires.room, c.loop-k.invariant.room)) long ∙ c.loop-k.invariant.room;
      steps = omega (arith, c.copy_line.ensures.steps, c.loop-k.invariant.steps, suc-mul k len);
    }
