-- The sizes of what is written.
use Rattle.std.specs.Prelude.{◌≡◌, ◌*◌, ◌≤◌}
use Rattle.mill_base.specs.Limits.{IsWithin}
use Rattle.mill_base.specs.declared.limits.TheConstants.{MAX_ENDS, MAX_PICKS, MAX_CLOTH_CELLS}
use Rattle.tiff_palette.specs.declared.layout.Layout.{Layout}
use Rattle.tiff_palette.specs.declared.writing.TheConstants.{STRIP_SIZE}

-- the layout of an image that is written
pub record IsCut (l : Layout) : Type 0 where
  pub width : IsWithin 1 l.width MAX_ENDS
  pub height : IsWithin 1 l.height MAX_PICKS
  pub cells : l.width * l.height ≤ MAX_CLOTH_CELLS
  pub bits : l.bits ≡ 8
  pub rows : IsWithin 1 l.rows_per_strip STRIP_SIZE
