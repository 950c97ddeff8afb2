-- The laws of lower crates that a shift rests on.
use Rattle.std.specs.Prelude.{◌≡◌, ◌+◌, List, ◌++◌, length, take, count_by, slice_get, Some}
use Rattle.mill_base.specs.declared.face.Face.{Face}
use Rattle.casting_out.specs.Castings.{IsCasting}
use Rattle.point_paper.specs.Papers.{PaperCells}
use Rattle.draft_model.specs.declared.design.Design.{Design}
use Rattle.version_journal.specs.Entries.{is_accepted}
use Rattle.version_journal.specs.Journals.{ActWithMotif, replies, versions}
use Rattle.card_image.specs.Sets.{cards_of}
use Rattle.loom_threads.specs.Cuts.{machine_of}
use Rattle.loom_threads.specs.Lifts.{cloth_from}
use Rattle.loom_threads.specs.Woven.{lifted}

-- what other acts follow changes no version
abbrev pub VersionsStay : Type 0
VersionsStay = (design : Design) (opening : PaperCells) (one other : List ActWithMotif)
    → take (length (versions design opening one)) (versions design opening (one ++ other)) ≡ versions design opening one

-- each accepted commit makes a version
abbrev pub VersionsCount : Type 0
VersionsCount = (design : Design) (opening : PaperCells) (acts : List ActWithMotif)
    → length (versions design opening acts) ≡ count_by is_accepted (replies design opening acts) + 1

-- version 0 is the opening
abbrev pub OpeningFirst : Type 0
OpeningFirst = (design : Design) (opening : PaperCells) (acts : List ActWithMotif) → slice_get (versions design opening acts) 0 ≡ Some opening

-- from the cards of a paper a loom lifts the paper's cloth
abbrev pub CardsLift : Type 0
CardsLift = (design : Design) (face : Face) (paper : PaperCells) → IsCasting design.casting → cloth_from (machine_of design) face (cards_of design paper) ≡ lifted design face paper
