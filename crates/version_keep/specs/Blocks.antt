-- Which blocks of a journal a session allows.
use Rattle.std.specs.Prelude.{ℕ, ◌+◌, ◌-◌, ◌==◌, ◌&&◌, nat_lt, not, Bool, false, List, [], ◌∷◌, ◌++◌, length, take, map, count_by, slice_index_or}
use Rattle.block_journal.specs.declared.mark.Mark.{Mark}
use Rattle.strokes.specs.declared.act.Act.TheVariants.{Commit}
use Rattle.version_journal.specs.Entries.{is_accepted}
use Rattle.version_journal.specs.Journals.{ActWithMotif, replies, with_motif}
use Rattle.version_journal.specs.declared.entry.Entry.{Entry}
use Rattle.version_journal.specs.declared.entry.Reply.{Reply}
use Rattle.version_journal.specs.declared.entry.Reply.TheVariants.{Painted}
use Rattle.session_file.specs.Plans.{acts_in}
use Rattle.session_file.specs.declared.session.Session.{Session}
use Rattle.shift_model.specs.Plans.{acts_of_painter, plan_of}

-- the mark of an entry: all but its reply
abbrev pub mark_of : Entry → Mark
mark_of entry = record { shift = entry.shift; painter = entry.painter; number = entry.number }

abbrev pub marks_of : List Entry → List Mark
marks_of entries = map mark_of entries

-- the act that a mark names, with the cells of its motif: its number counts the painter's acts of that shift from 1
abbrev pub named : Session → Mark → ActWithMotif
named session mark = with_motif session.motifs (slice_index_or (acts_of_painter (plan_of session mark.shift) mark.painter) (mark.number - 1) Commit)

-- the replies to the acts that marks name, one after another
abbrev pub replies_to : Session → List Mark → List Reply
replies_to session marks = replies session.design session.opening (map (named session) marks)

-- the reply to one act more
abbrev pub reply_to : Session → List Mark → Mark → Reply
reply_to session before mark = slice_index_or (replies_to session (before ++ mark ∷ [])) (length before) Painted

-- how many acts there are in the shifts below one
abbrev pub acts_below : Session → ℕ → ℕ
acts_below session shift = acts_in (take shift session.shifts)

-- how many acts of a painter in a shift are marked
abbrev pub marked : ℕ → ℕ → List Mark → ℕ
marked shift painter marks = count_by (λ mark. (mark.shift == shift) && (mark.painter == painter)) marks

-- Shifts are done one after another. So the shift that lacks acts is the one where the acts of those below it are no more than the marks
-- so far, and with its own they are more.
unfoldable pub lacks_acts : Session → ℕ → ℕ → Bool
lacks_acts session shift marks = nat_lt marks (acts_below session (shift + 1)) && not (nat_lt marks (acts_below session shift))

-- the mark's number is the one behind the painter's acts so far, and there is an act of that number
unfoldable pub is_next_of_painter : Session → List Mark → Mark → Bool
is_next_of_painter session before mark =
    nat_lt (marked mark.shift mark.painter before) (length (acts_of_painter (plan_of session mark.shift) mark.painter))
    && (mark.number == marked mark.shift mark.painter before + 1)

-- the mark is of the next act of a painter, in the first shift that still lacks acts
abbrev pub is_next : Session → List Mark → Mark → Bool
is_next session before mark = lacks_acts session mark.shift (length before) && is_next_of_painter session before mark

-- A block is an act whose reply is that of an accepted commit, or an act with another reply and a block behind it; each of its acts is a
-- next one.
abbrev pub allowed : Session → List Mark → List Mark → Bool
allowed session before [] = false
allowed session before (mark ∷ []) = is_next session before mark && is_accepted (reply_to session before mark)
allowed session before (mark ∷ next ∷ more) =
    is_next session before mark && (not (is_accepted (reply_to session before mark)) && allowed session (before ++ mark ∷ []) (next ∷ more))
