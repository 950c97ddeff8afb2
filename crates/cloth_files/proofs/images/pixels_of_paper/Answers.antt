use Rattle.std.proofs.Common.{◌≡◌, ◌-◌, ◌++◌, ap, ◌∙◌, arith}
use Rattle.mill_base.proofs.lemmas.Lines.{length-line_by}
use Rattle.mill_base.specs.Lines.{line_by}
use Rattle.point_paper.specs.Papers.{pick_of}
use Rattle.cloth_files.proofs.Files.{paper_more}
use Rattle.cloth_files.proofs.Rows.{rows_all}
use Rattle.cloth_files.proofs.images.pixels_of_paper.Goals as goal

pub loop-row-preserved : goal.loop-row-preserved
loop-row-preserved g c =
    let picks : c.size-size.result.picks ≡ c.args.paper.now.picks = ap (λ s. s.picks) c.size-size.ensures.size in
    record {
      line = c.in_ok-push_pick.ensures.line;
      pixels = paper_more c.args.paper.now c.loop-row.row c.loop-row.pixels.items c.push_pick.new.pixels.items (omega (arith, picks, c.loop-row-test.true)) c.loop-row.invariant.pixels
          (c.in_ok-push_pick.ensures.pixels ∙ ap (λ n. c.loop-row.pixels.items ++ pick_of c.args.paper.now (n - 1 - c.loop-row.row)) picks);
    }

pub returns : goal.returns
returns g c =
    let picks : c.size-size.result.picks ≡ c.args.paper.now.picks = ap (λ s. s.picks) c.size-size.ensures.size in
    c.loop-row.invariant.pixels
    ∙ rows_all (line_by c.args.paper.now.picks (pick_of c.args.paper.now)) c.loop-row.row (omega (arith, picks, c.loop-row-test.false, length-line_by c.args.paper.now.picks (pick_of c.args.paper.now)))
