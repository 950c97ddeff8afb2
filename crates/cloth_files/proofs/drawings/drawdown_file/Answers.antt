use Rattle.cloth_files.proofs.Files.{drawn_picks, drawn_cells}
use Rattle.cloth_files.proofs.drawings.drawdown_file.Goals as goal

pub cloth_file-requires-clause-picks : goal.cloth_file-requires-clause-picks
cloth_file-requires-clause-picks c = drawn_picks c.args.design.now c.args.paper.now c.in_ok-cloth.cloth c.in_ok-cloth.ensures c.requires.paper c.requires.fits

pub cloth_file-requires-clause-cells : goal.cloth_file-requires-clause-cells
cloth_file-requires-clause-cells c = drawn_cells c.args.design.now c.args.paper.now c.in_ok-cloth.cloth c.in_ok-cloth.ensures c.requires.paper c.requires.fits
