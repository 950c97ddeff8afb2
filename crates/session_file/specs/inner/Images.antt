-- What is known of an image that was read, or that was not.
use Rattle.std.specs.Prelude.{◌≡◌, ◌<◌, ℕ, List, Some}
use Rattle.mill_base.specs.declared.size.Size.{Size}
use Rattle.point_paper.specs.Papers.{PaperCells, cell_of}
use Rattle.tiff_palette.specs.Rules.{image_fault}
use Rattle.tiff_palette.specs.declared.fault.TiffFault.{TiffFault}
use Rattle.session_rules.specs.declared.fault.SessionFaultKind.TheVariants.{Image as BadImage}
use Rattle.session_rules.specs.declared.fault.SessionRefusal.{SessionRefusal}
use Rattle.session_rules.specs.declared.fault.SessionRefusal.TheVariants.{Fault, ReadFault, TooLong, OutOfMemory}
use Rattle.session_file.specs.Sessions.{IsImageFault, opening_path}

-- a paper of the size has colours of a book of so many
abbrev pub HasColours : Size → ℕ → PaperCells → Type 0
HasColours size colours paper = (column pick : ℕ) → column < size.columns → pick < size.picks → cell_of paper column pick < colours

-- what is told of bytes that are no image
abbrev pub TellsNoImage : List ℕ → SessionRefusal → Type 0
TellsNoImage bytes (Fault broken) = (kind : TiffFault) × (image_fault bytes ≡ Some kind) × (broken ≡ record { path = opening_path; kind = BadImage kind })
TellsNoImage bytes (ReadFault name) = ⊥
TellsNoImage bytes (TooLong name) = ⊥
TellsNoImage bytes OutOfMemory = Unit {0}

-- what is told of bytes that give no paper
abbrev pub TellsImage : Size → ℕ → List ℕ → SessionRefusal → Type 0
TellsImage size colours bytes (Fault broken) = IsImageFault size colours bytes broken
TellsImage size colours bytes (ReadFault name) = ⊥
TellsImage size colours bytes (TooLong name) = ⊥
TellsImage size colours bytes OutOfMemory = Unit {0}
