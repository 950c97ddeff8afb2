-- What an opening is once it is bound and checked.
use Rattle.std.specs.Prelude.{◌≡◌, ℕ, ◌<◌, false, replicate}
use Rattle.std.specs.Arc.{arc_value}
use Rattle.harness_ties.specs.Ties.{IsTie}
use Rattle.point_paper.specs.Papers.{PaperCells, IsPaper}
use Rattle.draft_model.specs.declared.design.Design.{Design}
use Rattle.draft_model.specs.Drawdowns.{bound}
use Rattle.tile_grid.specs.Tiles.{tiles}
use Rattle.tile_rebuild.specs.Tiles.{grid_of, has_long}
use Rattle.studio_core.specs.declared.opening.Opened.{Opened}
use Rattle.card_image.specs.Sets.{cards_of}

-- the bits are the bound paper, no tile of it has a long cell and no flag is set, and the cards are cut of it; with what the tie and the
-- paper are by their types
pub record IsOpened (design : Design) (opening : PaperCells) (opened : Opened) : Type 0 where
  pub bits_are : opened.bits ≡ bound design opening
  pub none_long : (t : ℕ) → t < tiles (grid_of design) → has_long design (bound design opening) t ≡ false
  pub flags_are : opened.flags ≡ replicate (tiles (grid_of design)) false
  pub cards_are : arc_value opened.cards ≡ cards_of design opening
  pub tied : IsTie design.tie
  pub whole : IsPaper opening
