use Rattle.cloth_files.proofs.Files.{cloth_writable}
use Rattle.cloth_files.proofs.drawings.cloth_file.Goals as goal

pub write-requires : goal.write-requires
write-requires c = cloth_writable c.args.cloth.now c.in_ok-image.image c.in_ok-image.ensures c.ends.ensures.rows c.requires.ends c.requires.picks c.requires.cells
