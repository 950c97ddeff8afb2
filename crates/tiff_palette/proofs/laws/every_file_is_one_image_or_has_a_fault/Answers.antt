use Rattle.tiff_palette.proofs.Found.{one_image, some_image}
use Rattle.tiff_palette.proofs.laws.every_file_is_one_image_or_has_a_fault.Goals as goal

pub returns-clause-one : goal.returns-clause-one
returns-clause-one c = one_image

pub returns-clause-decided : goal.returns-clause-decided
returns-clause-decided c = some_image
