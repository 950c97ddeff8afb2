-- How acts are spelled, and what is wrong with a text that spells none. The spelling is this project's own.
use Rattle.std.specs.Prelude.{ℕ, ◌+◌, min, ◌==◌, nat_lt, List, [], ◌∷◌, ◌++◌, length, slice_get, slice_index_or, bytes_eq, codes, Option, Some, None, unwrap_or, Result, Ok, Err, if◌then◌else◌}
use Rattle.mill_base.specs.Words.{words_of, number_of}
use Rattle.mill_base.specs.declared.size.Size.{Size}
use Rattle.strokes.specs.Motifs.{motif_number}
use Rattle.strokes.specs.declared.act.Act.{Act}
use Rattle.strokes.specs.declared.act.Act.TheVariants as act
use Rattle.strokes.specs.declared.act.ActKind.{ActKind}
use Rattle.strokes.specs.declared.act.ActKind.TheVariants.{Dot, Rect, Line, Stamp, HalfDrop, Commit}
use Rattle.strokes.specs.declared.fault.ActFault.{ActFault}
use Rattle.strokes.specs.declared.fault.ActFault.TheVariants.{Word, Number, NoColour, NoMotif, OutOfPaper}
use Rattle.strokes.specs.declared.motifs.NamedMotif.{NamedMotif}

-- the kinds of acts by their first word
unfoldable pub kind_of : List ℕ → Option ActKind
kind_of word =
    if bytes_eq word (codes "dot") then Some Dot
    else (if bytes_eq word (codes "rect") then Some Rect
    else (if bytes_eq word (codes "line") then Some Line
    else (if bytes_eq word (codes "stamp") then Some Stamp
    else (if bytes_eq word (codes "halfdrop") then Some HalfDrop
    else (if bytes_eq word (codes "commit") then Some Commit
    else None)))))

-- what a word behind the first stands for
pub data Part : Type 0 where
  colour_number : Part
  motif_name : Part
  column_number : Part
  pick_number : Part

-- the words behind the first, kind by kind
abbrev pub parts_of : ActKind → List Part
parts_of Dot = colour_number ∷ column_number ∷ pick_number ∷ []
parts_of Rect = colour_number ∷ column_number ∷ pick_number ∷ column_number ∷ pick_number ∷ []
parts_of Line = colour_number ∷ column_number ∷ pick_number ∷ column_number ∷ pick_number ∷ []
parts_of Stamp = motif_name ∷ column_number ∷ pick_number ∷ []
parts_of HalfDrop = motif_name ∷ column_number ∷ pick_number ∷ []
parts_of Commit = []

-- the number that the k-th word behind the first spells, and the number of the motif that it names
abbrev pub number_in : List (List ℕ) → ℕ → ℕ
number_in words k = unwrap_or (number_of (slice_index_or words k [])) 0

abbrev pub motif_in : List NamedMotif → List (List ℕ) → ℕ → ℕ
motif_in motifs words k = unwrap_or (motif_number motifs (slice_index_or words k [])) 0

-- the act of the words behind the first, where they have no fault
abbrev pub act_of : List NamedMotif → ActKind → List (List ℕ) → Act
act_of motifs Dot words = act.Dot (number_in words 0) (number_in words 1) (number_in words 2)
act_of motifs Rect words = act.Rect (number_in words 0) (number_in words 1) (number_in words 2) (number_in words 3) (number_in words 4)
act_of motifs Line words = act.Line (number_in words 0) (number_in words 1) (number_in words 2) (number_in words 3) (number_in words 4)
act_of motifs Stamp words = act.Stamp (motif_in motifs words 0) (number_in words 1) (number_in words 2)
act_of motifs HalfDrop words = act.HalfDrop (motif_in motifs words 0) (number_in words 1) (number_in words 2)
act_of motifs Commit words = act.Commit

-- the fault where there is no number
abbrev pub unless_some : ActFault → Option ℕ → List ActFault
unless_some fault (Some n) = []
unless_some fault None = fault ∷ []

-- the fault where a number is not below a bound; a word that spells no number has its fault by an earlier rule
abbrev pub unless_below : ActFault → ℕ → Option ℕ → List ActFault
unless_below fault bound (Some n) = if nat_lt n bound then [] else fault ∷ []
unless_below fault bound None = []

-- Rule 1, of the words behind the first: there are as many as the kind has; the fault is the place of the first missing
-- or superfluous word.
abbrev pub count_faults : ℕ → ℕ → List ActFault
count_faults wanted found = if wanted == found then [] else Word (min wanted found + 1) ∷ []

-- Rule 2, of the k-th word: a number is spelled where one stands.
abbrev pub number_faults : Part → ℕ → List ℕ → List ActFault
number_faults motif_name k word = []
number_faults colour_number k word = unless_some (Number k) (number_of word)
number_faults column_number k word = unless_some (Number k) (number_of word)
number_faults pick_number k word = unless_some (Number k) (number_of word)

-- Rule 3: the colour is in the book.
abbrev pub colour_faults : ℕ → Part → ℕ → List ℕ → List ActFault
colour_faults colours colour_number k word = unless_below NoColour colours (number_of word)
colour_faults colours motif_name k word = []
colour_faults colours column_number k word = []
colour_faults colours pick_number k word = []

-- Rule 4: some motif has the name.
abbrev pub motif_faults : List NamedMotif → Part → ℕ → List ℕ → List ActFault
motif_faults motifs motif_name k word = unless_some NoMotif (motif_number motifs word)
motif_faults motifs colour_number k word = []
motif_faults motifs column_number k word = []
motif_faults motifs pick_number k word = []

-- Rule 5: the columns and the picks are on the paper.
abbrev pub paper_faults : Size → Part → ℕ → List ℕ → List ActFault
paper_faults size column_number k word = unless_below OutOfPaper size.columns (number_of word)
paper_faults size pick_number k word = unless_below OutOfPaper size.picks (number_of word)
paper_faults size colour_number k word = []
paper_faults size motif_name k word = []

-- the faults by a rule, word by word, of which the first has the place k
abbrev pub faults_by : (Part → ℕ → List ℕ → List ActFault) → ℕ → List Part → List (List ℕ) → List ActFault
faults_by rule k [] words = []
faults_by rule k (part ∷ parts) [] = []
faults_by rule k (part ∷ parts) (word ∷ words) = rule part k word ++ faults_by rule (k + 1) parts words

-- all faults of the words behind the first, rule by rule
abbrev pub act_faults : ℕ → Size → List NamedMotif → List Part → List (List ℕ) → List ActFault
act_faults colours size motifs parts words =
    count_faults (length parts) (length words)
    ++ faults_by number_faults 1 parts words
    ++ faults_by (colour_faults colours) 1 parts words
    ++ faults_by (motif_faults motifs) 1 parts words
    ++ faults_by (paper_faults size) 1 parts words

-- the act, or else the fault, which is the first
abbrev pub act_unless : Act → Option ActFault → Result Act ActFault
act_unless act None = Ok act
act_unless act (Some fault) = Err fault

unfoldable pub act_of_words : ℕ → Size → List NamedMotif → ActKind → List (List ℕ) → Result Act ActFault
act_of_words colours size motifs kind words = act_unless (act_of motifs kind words) (slice_get (act_faults colours size motifs (parts_of kind) words) 0)

-- rule 0: the first word is that of a kind
abbrev pub act_of_kind : ℕ → Size → List NamedMotif → Option ActKind → List (List ℕ) → Result Act ActFault
act_of_kind colours size motifs None words = Err (Word 0)
act_of_kind colours size motifs (Some kind) words = act_of_words colours size motifs kind words

abbrev pub act_of_text : ℕ → Size → List NamedMotif → List (List ℕ) → Result Act ActFault
act_of_text colours size motifs [] = Err (Word 0)
act_of_text colours size motifs (first ∷ words) = act_of_kind colours size motifs (kind_of first) words

-- the act that a text spells, with so many colours, on a paper of the size and with these motifs, or the first rule
-- that it breaks
unfoldable pub parsed_act : List ℕ → ℕ → Size → List NamedMotif → Result Act ActFault
parsed_act text colours size motifs = act_of_text colours size motifs (words_of text)

-- the fault of a text that spells no act
abbrev pub fault_of : Result Act ActFault → Option ActFault
fault_of (Ok act) = None
fault_of (Err fault) = Some fault

abbrev pub act_fault : List ℕ → ℕ → Size → List NamedMotif → Option ActFault
act_fault text colours size motifs = fault_of (parsed_act text colours size motifs)
