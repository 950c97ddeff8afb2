-- A core as the place that a history of acts has come to.
use Rattle.std.specs.Prelude.{◌≡◌, ◌+◌, Some, length, slice_get}
use Rattle.point_paper.specs.Papers.{PaperCells}
use Rattle.version_journal.specs.Journals.{History}
use Rattle.card_image.specs.Sets.{cards_of}
use Rattle.studio_core.specs.Cores.{CoreValue}

-- the core's paper is the history's, its version is the number of the history's last one, and its cards are cut of that version
pub record IsAt (h : History) (core : CoreValue) : Type 0 where
  pub painted : core.paper ≡ h.paper
  pub last : length h.versions ≡ core.version + 1
  pub current : (newest : PaperCells) × (slice_get h.versions core.version ≡ Some newest) × (core.cards ≡ cards_of core.design newest)
