use Rattle.std.proofs.Common.{◌≡◌, ◌≤◌, ◌-◌, ◌++◌, length, map}
use Rattle.mill_base.specs.Words.{number_of}
use Rattle.strokes.specs.Motifs.{words_faults}
use Rattle.strokes.proofs.motif_rows.push_words.Given as goal

abbrev pub invariant-loop-word : goal.invariant-loop-word
invariant-loop-word l =
    (l.before ≤ length l.cells.items)
    × (l.before ≡ length l.initial.cells.items)
    × (l.cells.items ++ map number_of l.words ≡ l.initial.cells.items ++ map number_of l.initial.words)
    × (words_faults l.colours l.row (length l.cells.items - l.before) l.words ≡ words_faults l.colours l.row 0 l.initial.words)

abbrev pub decreases-loop-word : goal.decreases-loop-word
decreases-loop-word l = length l.words
