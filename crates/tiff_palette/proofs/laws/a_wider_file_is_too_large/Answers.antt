use Rattle.tiff_palette.proofs.Codecs.{too_wide}
use Rattle.tiff_palette.proofs.laws.a_wider_file_is_too_large.Goals as goal

pub returns : goal.returns
returns c = too_wide
