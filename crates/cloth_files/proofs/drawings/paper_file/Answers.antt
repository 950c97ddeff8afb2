use Rattle.cloth_files.proofs.Files.{paper_writable}
use Rattle.cloth_files.proofs.drawings.paper_file.Goals as goal

pub write-requires : goal.write-requires
write-requires c =
    paper_writable c.args.colour_map.now c.args.paper.now c.in_ok-image.image c.in_ok-image.ensures c.requires.columns c.requires.picks c.requires.colours
