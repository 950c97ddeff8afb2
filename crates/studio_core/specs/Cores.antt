-- What a core keeps, and what holds of every core.
use Rattle.std.specs.Prelude.{◌≡◌, ℕ, ◌+◌, ◌-◌, ◌^◌, ◌<◌, ◌≤◌, Bool, false, List, length, slice_index_or}
use Rattle.harness_ties.specs.Ties.{IsTie}
use Rattle.point_paper.specs.Papers.{PaperCells, BitCells, IsPaper, IsBitPaper, bit_cell}
use Rattle.draft_model.specs.declared.design.Design.{Design}
use Rattle.draft_model.specs.Designs.{Fits, IsPaperOf, IsBitsOf}
use Rattle.draft_model.specs.Drawdowns.{bound}
use Rattle.card_image.specs.Sets.{CardsValue, design_by}
use Rattle.version_journal.specs.declared.entry.Entry.{Entry}
use Rattle.version_journal.specs.declared.entry.Reply.{Reply}
use Rattle.tile_grid.specs.Tiles.{tile_of, tiles}
use Rattle.tile_rebuild.specs.Tiles.{bound_in, grid_of, has_long}

-- What contracts see of a core: the design, the paper as it is now, the entries and how many more there is room for, the number and the
-- cards of the newest version; the cells of the tiles (`bits`), which tiles are marked for binding and which for checking, and each
-- tile's flag; and how many results were installed.
pub record CoreValue : Type 0 where
  pub design : Design
  pub paper : PaperCells
  pub entries : List Entry
  pub spare : ℕ
  pub version : ℕ
  pub cards : CardsValue
  pub bits : BitCells
  pub bind : List Bool
  pub check : List Bool
  pub flags : List Bool
  pub installed : ℕ

-- an act that was done, by whom, and the reply to it
abbrev pub entry_by : ℕ → ℕ → ℕ → Reply → Entry
entry_by shift painter number reply = record { shift = shift; painter = painter; number = number; reply = reply }

-- a tile without a bind mark has the bound cells of the paper
abbrev pub AreCells : Design → PaperCells → BitCells → List Bool → Type 0
AreCells design paper bits bind = (c p : ℕ) → c < design.size.columns → p < design.size.picks
    → slice_index_or bind (tile_of (grid_of design) c p) false ≡ false → bit_cell bits c p ≡ bound_in design paper c p

-- a tile without a check mark has a flag that says whether some cell of it is long in the cloth of a bit paper
abbrev pub AreFlags : Design → BitCells → List Bool → List Bool → Type 0
AreFlags design bits check flags = (t : ℕ) → t < tiles (grid_of design)
    → slice_index_or check t false ≡ false → slice_index_or flags t false ≡ has_long design bits t

-- The central fact. Cells are those of the present paper's bound paper, and so are the flags, whatever stands in tiles that are still
-- marked.
pub record IsCentral (design : Design) (paper : PaperCells) (bits : BitCells) (bind check flags : List Bool) : Type 0 where
  pub cells : AreCells design paper bits bind
  pub long : AreFlags design (bound design paper) check flags

-- What holds of every core: the design fits, paper and bits are of it, each tile has its marks and its flag, the central fact, cards of
-- the design, no more versions than entries, and not too many entries to be counted.
pub record IsCore (core : CoreValue) : Type 0 where
  pub fits : Fits core.design
  pub tied : IsTie core.design.tie
  pub of_paper : IsPaperOf core.design core.paper
  pub whole_paper : IsPaper core.paper
  pub of_bits : IsBitsOf core.design core.bits
  pub whole_bits : IsBitPaper core.bits
  pub for_bind : length core.bind ≡ tiles (grid_of core.design)
  pub for_check : length core.check ≡ tiles (grid_of core.design)
  pub for_flags : length core.flags ≡ tiles (grid_of core.design)
  pub central : IsCentral core.design core.paper core.bits core.bind core.check core.flags
  pub of_cards : core.cards.design ≡ design_by core.design.casting core.design.size.picks
  pub for_version : core.version ≤ length core.entries
  pub for_entries : length core.entries + core.spare ≤ 2 ^ 32 - 1
