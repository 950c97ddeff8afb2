-- What is told of a fault of an image file.
use Rattle.std.specs.Prelude.{ℕ, codes, decimal, List, [], ◌∷◌}
use Rattle.std.specs.List.{concat}
use Rattle.tiff_palette.specs.declared.fault.TiffFault.{TiffFault}
use Rattle.tiff_palette.specs.declared.fault.TiffFault.TheVariants.{Truncated, NotTiff, NoDirectory, Missing, BadField, Compressed, Photometric, Bits, Samples, FillOrder, Orientation, TooLarge, ColorMapCount, StripCount, ShortStrip, OutOfMemory}

abbrev pub tiff_text : TiffFault → List ℕ
tiff_text Truncated = concat (codes "truncated" ∷ [])
tiff_text NotTiff = concat (codes "not tiff" ∷ [])
tiff_text NoDirectory = concat (codes "no directory" ∷ [])
tiff_text (Missing tag) = concat (codes "missing field " ∷ decimal tag ∷ [])
tiff_text (BadField tag) = concat (codes "bad field " ∷ decimal tag ∷ [])
tiff_text (Compressed n) = concat (codes "compression " ∷ decimal n ∷ [])
tiff_text (Photometric n) = concat (codes "photometric " ∷ decimal n ∷ [])
tiff_text (Bits n) = concat (codes "bits " ∷ decimal n ∷ [])
tiff_text (Samples n) = concat (codes "samples " ∷ decimal n ∷ [])
tiff_text (FillOrder n) = concat (codes "fill order " ∷ decimal n ∷ [])
tiff_text (Orientation n) = concat (codes "orientation " ∷ decimal n ∷ [])
tiff_text TooLarge = concat (codes "too large" ∷ [])
tiff_text (ColorMapCount n) = concat (codes "colour map " ∷ decimal n ∷ [])
tiff_text (StripCount tag kept found) = concat (codes "field " ∷ decimal tag ∷ codes " has " ∷ decimal found ∷ codes " strips, not " ∷ decimal kept ∷ [])
tiff_text (ShortStrip k) = concat (codes "short strip " ∷ decimal k ∷ [])
tiff_text OutOfMemory = concat (codes "out of memory" ∷ [])
