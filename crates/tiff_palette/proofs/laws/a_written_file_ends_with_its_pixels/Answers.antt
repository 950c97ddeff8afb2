use Rattle.tiff_palette.proofs.Codecs.{written_length}
use Rattle.tiff_palette.proofs.laws.a_written_file_ends_with_its_pixels.Goals as goal

pub returns : goal.returns
returns c = written_length
