-- The model of all interleavings: a list of events, of any kinds, in any order and number. Acts of painters reach the one paper, tiles are
-- rebuilt from lines that may be old by then, versions are published, looms weave from them, and shifts end. The model knows no thread, no
-- mail and no memory. An event whose condition does not hold changes nothing.
use Rattle.std.specs.Prelude.{◌≡◌, ℕ, ◌+◌, ◌<◌, ◌≤◌, ◌==◌, ◌&&◌, nat_lt, nat_le, List, [], ◌∷◌, ◌++◌, length, map, fold, take, replicate, count_by, slice_get, slice_index, slice_index_or, slice_set, Bool, Option, Some, None, is_none, All, if◌then◌else◌}
use Rattle.std.specs.List.{list_all}
use Rattle.mill_base.specs.declared.face.Face.{Face}
use Rattle.mill_base.specs.declared.face.Face.TheVariants.{Up}
use Rattle.point_paper.specs.Papers.{PaperCells}
use Rattle.draft_model.specs.Cards.{card, lift, woven}
use Rattle.draft_model.specs.Drawdowns.{bound, drawdown}
use Rattle.draft_model.specs.declared.design.Design.{Design}
use Rattle.version_journal.specs.Entries.{is_accepted}
use Rattle.version_journal.specs.Journals.{ActWithMotif, History, begun, step}
use Rattle.version_journal.specs.declared.entry.Entry.{Entry}
use Rattle.version_journal.specs.declared.run_log.Repeat.{Repeat}
use Rattle.version_journal.specs.declared.run_log.RunLog.{RunLog}
use Rattle.session_file.specs.declared.session.Session.{Session}
use Rattle.loom_threads.specs.Woven.{repeat_of}
use Rattle.shift_model.specs.Logs.{Merge, entries_of_shift, named_act}
use Rattle.shift_model.specs.Plans.{plan_of}

-- An act is done: it paints, or is a commit. A result is made from the lines of a tile. A result is offered, by its place among all. The
-- next version is published. A loom begins a repeat of a version. A loom lifts the next pick of its repeat. A shift ends.
pub data Event : Type 0 where
  Do : ActWithMotif → Event
  Take : ℕ → Event
  Give : ℕ → Event
  Publish : Event
  Begin : ℕ → ℕ → Event
  Pick : ℕ → Event
  Cut : Event

-- a repeat: how many shifts had ended when a loom began it, the version that it is woven from, and its rows so far, from pick 0 on
pub record Weaving : Type 0 where
  pub shift : ℕ
  pub version : ℕ
  pub rows : List (List Bool)

-- a loom: the oldest version that its next repeat may have, the repeats that it ended, in their order, and the one that is not ended
pub record LoomState : Type 0 where
  pub floor : ℕ
  pub ended : List Weaving
  pub unfinished : Option Weaving

-- a result of rebuilding: the tile, and the paper as it was when the tile's lines were taken
pub record TileResult : Type 0 where
  pub tile : ℕ
  pub paper : PaperCells

-- The acts that were done and where they have come to, the number of the newest published version, the looms, all results that were ever
-- made, and for each end of a shift how many acts were done before it.
pub record World : Type 0 where
  pub acts : List ActWithMotif
  pub history : History
  pub published : ℕ
  pub looms : List LoomState
  pub results : List TileResult
  pub cuts : List ℕ

abbrev pub idle : LoomState
idle = record { floor = 0; ended = []; unfinished = None }

-- before the first event: the opening paper is version 0 and is published, and there is a loom for each face
abbrev pub beginning : PaperCells → List Face → World
beginning opening faces = record { acts = []; history = begun opening; published = 0; looms = replicate (length faces) idle; results = []; cuts = [] }

-- how many commits were accepted so far
abbrev pub accepted : World → ℕ
accepted world = count_by is_accepted world.history.replies

abbrev pub loom_at : World → ℕ → LoomState
loom_at world loom = slice_index_or world.looms loom idle

abbrev pub face_at : List Face → ℕ → Face
face_at faces loom = slice_index_or faces loom Up

-- the paper of a version; no event asks for one that is not made
abbrev pub version_at : World → PaperCells → ℕ → PaperCells
version_at world opening version = slice_index_or world.history.versions version opening

-- one loom changes, and all else stays
abbrev pub with_loom : World → ℕ → LoomState → World
with_loom world loom changed = record world { looms = slice_set world.looms loom changed }

-- A repeat is begun where none is open, of a version from the floor to the newest published one, and the floor becomes that version.
abbrev pub may_begin : ℕ → ℕ → LoomState → Bool
may_begin newest version loom = is_none loom.unfinished && (nat_le loom.floor version && nat_le version newest)

abbrev pub with_repeat : ℕ → ℕ → LoomState → LoomState
with_repeat shift version loom = record loom { floor = version; unfinished = Some (record { shift = shift; version = version; rows = [] }) }

-- what a loom of a face lifts from the card of a pick of a paper
abbrev pub row_of : Design → Face → PaperCells → ℕ → List Bool
row_of design face paper pick = lift design.tie.ends design.casting (card design.casting (bound design paper) face pick)

-- the repeat with the row of its next pick
abbrev pub with_row : Design → Face → (ℕ → PaperCells) → Weaving → Weaving
with_row design face paper_of weaving =
    record weaving { rows = weaving.rows ++ row_of design face (paper_of weaving.version) (length weaving.rows) ∷ [] }

-- a repeat is ended once it has a row for each pick
abbrev pub is_whole : Design → Weaving → Bool
is_whole design weaving = length weaving.rows == design.size.picks

abbrev pub keeping : Design → LoomState → Weaving → LoomState
keeping design loom weaving =
    if is_whole design weaving
    then (record loom { ended = loom.ended ++ weaving ∷ []; unfinished = None })
    else (record loom { unfinished = Some weaving })

-- the loom with one row more of its open repeat, if one is open
abbrev pub with_pick : Design → Face → (ℕ → PaperCells) → LoomState → Option Weaving → LoomState
with_pick design face paper_of loom None = loom
with_pick design face paper_of loom (Some weaving) = keeping design loom (with_row design face paper_of weaving)

-- the next version is published where one was accepted that is not published yet
abbrev pub may_publish : World → Bool
may_publish world = nat_lt world.published (accepted world)

-- A shift ends where no repeat is open and every accepted version is published. No loom begins with an older version from then on.
abbrev pub may_cut : World → Bool
may_cut world = world.published == accepted world && list_all (λ loom. is_none loom.unfinished) world.looms

abbrev pub raised : ℕ → LoomState → LoomState
raised newest loom = record loom { floor = newest }

abbrev pub with_cut : World → World
with_cut world = record world { looms = map (raised world.published) world.looms; cuts = world.cuts ++ length world.acts ∷ [] }

-- One event more. A result that is offered, be it taken or not, changes no history, no published version and no loom.
abbrev pub stepped : Design → PaperCells → List Face → World → Event → World
stepped design opening faces world (Do act) = record world { acts = world.acts ++ act ∷ []; history = step design world.history act }
stepped design opening faces world (Take tile) = record world { results = world.results ++ record { tile = tile; paper = world.history.paper } ∷ [] }
stepped design opening faces world (Give result) = world
stepped design opening faces world Publish = if may_publish world then (record world { published = world.published + 1 }) else world
stepped design opening faces world (Begin loom version) =
    if may_begin world.published version (loom_at world loom)
    then (with_loom world loom (with_repeat (length world.cuts) version (loom_at world loom)))
    else world
stepped design opening faces world (Pick loom) =
    with_loom world loom (with_pick design (face_at faces loom) (version_at world opening) (loom_at world loom) (loom_at world loom).unfinished)
stepped design opening faces world Cut = if may_cut world then (with_cut world) else world

-- all events, one after another
abbrev pub after_events : Design → PaperCells → List Face → List Event → World
after_events design opening faces events = fold (stepped design opening faces) (beginning opening faces) events

-- the acts among events, in their order
abbrev pub acts_in : Event → List ActWithMotif
acts_in (Do act) = act ∷ []
acts_in _ = []

abbrev pub acts_of : List Event → List ActWithMotif
acts_of [] = []
acts_of (event ∷ events) = acts_in event ++ acts_of events

-- the repeats that a loom began, in their order: those that it ended, and then the open one
abbrev pub and_unfinished : List Weaving → Option Weaving → List Weaving
and_unfinished ended None = ended
and_unfinished ended (Some weaving) = ended ++ weaving ∷ []

abbrev pub begun_on : LoomState → List Weaving
begun_on loom = and_unfinished loom.ended loom.unfinished

-- How many commits were accepted before a shift: among the acts before the cut that it began with. Before the first shift there are no
-- acts, and before a shift that did not begin yet there are all that were done.
abbrev pub accepted_at : World → ℕ → ℕ
accepted_at world shift = count_by is_accepted (take (slice_index_or (0 ∷ world.cuts) shift (length world.acts)) world.history.replies)

-- The repeat is no older than the last version that was accepted before its shift, and no newer than the last one that was accepted in
-- it. Its version was accepted, or is the opening paper.
pub record IsOfItsShift (world : World) (weaving : Weaving) : Type 0 where
  pub no_older : accepted_at world weaving.shift ≤ weaving.version
  pub no_newer : weaving.version ≤ accepted_at world (weaving.shift + 1)
  pub made : weaving.version ≤ accepted world

-- the repeat, read on the loom's face, is the drawdown of one version
pub record IsDrawdown (design : Design) (face : Face) (versions : List PaperCells) (weaving : Weaving) : Type 0 where
  pub paper : PaperCells
  pub version : slice_get versions weaving.version ≡ Some paper
  pub rows : map (woven face) weaving.rows ≡ (drawdown design paper).rows

-- a repeat as a log has it: the digest of its rows, and the rows where the session shows them
abbrev pub logged : Session → Weaving → Repeat
logged session weaving =
    repeat_of weaving.shift weaving.version session.show_rows (record { ends = length session.design.tie.ends; rows = weaving.rows })

-- the log of these entries and of the repeats that were ended
abbrev pub log_of_world : Session → List Entry → World → RunLog
log_of_world session entries world = record { entries = entries; looms = map (λ loom. map (logged session) loom.ended) world.looms }

-- an act, by its place among all acts, was done in a shift: after the cut that the shift began with, and before the one that it ended with
abbrev pub IsInShift : List ℕ → ℕ → ℕ → Type 0
IsInShift cuts place shift = (slice_index (0 ∷ cuts) shift ≤ place) × (place < slice_index cuts shift)

-- The events ran a session: there is a cut after each of its shifts and no other, and after the last one no act was done and no repeat
-- was ended. The entries name the acts that were done, and have their replies and shifts; those of each shift are a merge of its acts.
-- Each loom ended the stated repeats of each shift, and has none open.
pub record HasRun (session : Session) (entries : List Entry) (world : World) : Type 0 where
  pub cuts : length world.cuts ≡ length session.shifts
  pub acts : map (named_act session) entries ≡ world.acts
  pub replied : map (λ entry. entry.reply) entries ≡ world.history.replies
  pub shifts : (place : ℕ) → place < length entries → IsInShift world.cuts place (slice_index (map (λ entry. entry.shift) entries) place)
  pub merges : (shift : ℕ) → shift < length session.shifts → Merge (plan_of session shift) (entries_of_shift shift entries)
  pub closed : All (λ loom. loom.unfinished ≡ None) world.looms
  pub before : All (λ loom. All (λ weaving. weaving.shift < length session.shifts) loom.ended) world.looms
  pub counts : (loom shift : ℕ) → loom < session.looms → shift < length session.shifts
      → count_by (λ weaving. weaving.shift == shift) (loom_at world loom).ended ≡ slice_index (plan_of session shift).repeats loom
