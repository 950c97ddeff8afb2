use Rattle.std.proofs.Common.{◌-◌, ap, [], get_or, ◌∙◌, arith}
use Rattle.cloth_files.proofs.Files.{cloth_more}
use Rattle.cloth_files.proofs.images.pixels_of_cloth.Goals as goal

pub loop-row-preserved : goal.loop-row-preserved
loop-row-preserved c =
    cloth_more c.args.cloth.now.rows c.loop-row.row c.row.result.now c.loop-row.pixels.items c.push_row.new.pixels.items (omega (arith, c.loop-row-test.true, c.picks-picks.ensures))
    (c.row.ensures.row ∙ ap (λ n. get_or c.args.cloth.now.rows (n - 1 - c.loop-row.row) []) c.picks-picks.ensures) c.loop-row.invariant c.in_ok-push_row.ensures
