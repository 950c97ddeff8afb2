use Rattle.std.proofs.Common.{◌≡◌, ◌+◌, ◌*◌, ◌<◌, ◌≤◌, true, get_or, sym, subst, ◌∙◌, ⊎_elim, arith}
use Rattle.std.proofs.Math.Nat.{suc-mul}
use Rattle.std.proofs.lemmas.Bool.{cases_lt}
use Rattle.point_paper.specs.Papers.{line_of}
use Rattle.tile_rebuild.specs.Lines.{item_of}
use Rattle.tile_rebuild.proofs.lemmas.Lists.{line_within, same_line_each, line_by_each, length-line_of}
use Rattle.tile_rebuild.proofs.colour_lines.same_lines.Goals as goal

pub same_line-requires-clause-room : goal.same_line-requires-clause-room
same_line-requires-clause-room g c =
    let within = line_within c.args.len c.args.count c.loop-k.k c.loop-k-test.true in
    omega (arith, within, c.requires.room)

pub returns-then-not-same_line-clause-differ : goal.returns-then-not-same_line-clause-differ
returns-then-not-same_line-clause-differ g c = λ each.
    let k = c.loop-k.k in
    let len = c.args.len in
    let within = line_within len c.args.count k c.loop-k-test.true in
    let same : c.same_line.result ≡ true = c.same_line.ensures.same.1
    (line_by_each c.args.kept.now (line_of c.args.kind c.args.paper.now (c.args.from + k)) (k * len) len (omega (arith, within, c.requires.room))
    (length-line_of c.args.kind c.args.paper.now (c.args.from + k) ∙ sym c.requires.len) (λ x h. each k x c.loop-k-test.true h)) in
    cc c.if-not-same_line.true

pub returns-then-not-same_line-clause-most : goal.returns-then-not-same_line-clause-most
returns-then-not-same_line-clause-most g c =
    let within = line_within c.args.len c.args.count c.loop-k.k c.loop-k-test.true in
    omega (arith, within, c.same_line.ensures.steps, c.loop-k.invariant.steps)

pub loop-k-preserved : goal.loop-k-preserved
loop-k-preserved g c =
    let n = c.loop-k.k in
    let len = c.args.len in
    record {
      same = λ k x h low. ⊎_elim
          (λ (before : k < n). c.loop-k.invariant.same k x before low)
          (λ (last : n ≤ k).
          let here : n ≡ k = omega arith in
          subst (λ m. item_of len c.args.kept.now m x ≡ get_or (line_of c.args.kind c.args.paper.now (c.args.from + m)) x 0) here
          (same_line_each c.args.kept.now (line_of c.args.kind c.args.paper.now (c.args.from + n)) (n * len) len x (c.same_line.ensures.same.0 c.if-not-same_line.false) low))
          (cases_lt k n);
      steps = omega (arith, c.same_line.ensures.steps, c.loop-k.invariant.steps, suc-mul n len);
    }
