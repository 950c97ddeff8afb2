-- Which image a file is.
use Rattle.std.specs.Prelude.{◌≡◌, ℕ, ◌+◌, ◌*◌, ◌<◌, List, length, slice_index, None}
use Rattle.mill_base.specs.declared.limits.TheConstants.{MAX_COLOURS}
use Rattle.tiff_palette.specs.declared.image.PaletteImage.{PaletteImage}
use Rattle.tiff_palette.specs.Layouts.{layout_of}
use Rattle.tiff_palette.specs.Pixels.{pixel_of, shade_of}
use Rattle.tiff_palette.specs.Rules.{image_fault}

-- the file keeps every rule, and the image has the size that its fields say, each pixel of its strips and each colour
-- of its map
pub record Image (bytes : List ℕ) (image : PaletteImage) : Type 0 where
  pub sound : image_fault bytes ≡ None
  pub width : image.width ≡ (layout_of bytes).width
  pub height : image.height ≡ (layout_of bytes).height
  pub drawn : length image.pixels ≡ image.width * image.height
  pub pixels : (x y : ℕ) → x < image.width → y < image.height → slice_index image.pixels (y * image.width + x) ≡ pixel_of (layout_of bytes) bytes x y
  pub mapped : length image.colour_map ≡ 3 * MAX_COLOURS
  pub colours : (part k : ℕ) → part < 3 → k < MAX_COLOURS → slice_index image.colour_map (part * MAX_COLOURS + k) ≡ shade_of (layout_of bytes).bits bytes part k
