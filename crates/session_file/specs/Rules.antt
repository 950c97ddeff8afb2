-- The rules of a session file, one row for each: the key, what its value must be, and whether it may be absent. They are tried from
-- top to bottom, and the first broken one is told with its path. The rules are this project's own.
use Rattle.std.specs.Prelude.{ℕ, ◌+◌, ◌-◌, ◌*◌, ◌/◌, ◌==◌, Bool, true, false, List, [], ◌∷◌, ◌++◌, length, codes, if◌then◌else◌}
use Rattle.mill_base.specs.declared.limits.TheConstants.{MAX_COLUMNS, MAX_PICKS, MAX_ENDS, MAX_HOOKS, MAX_COLOURS, MAX_FLOAT, MIN_TILE, MAX_TILE, MAX_LOOMS, MAX_PAINTERS, MAX_SHIFTS, MAX_SECTIONS, MAX_MOTIFS, MAX_REPEATS, MAX_CLOTH_CELLS, MAX_MOTIF_CELLS, MAX_ACTS, MAX_COMMITS, MAX_CARD_BYTES, MAX_SHOWN_CELLS}
use Rattle.mill_base.specs.declared.size.Size.{Size}
use Rattle.casting_out.specs.Faults.{casting_fault}
use Rattle.harness_ties.specs.Faults.{tie_fault}
use Rattle.strokes.specs.Motifs.{motif_fault}
use Rattle.strokes.specs.declared.motifs.NamedMotif.{NamedMotif}
use Rattle.session_rules.specs.declared.fault.SessionFault.{SessionFault}
use Rattle.session_rules.specs.declared.fault.SessionFaultKind.TheVariants.{Casting, Tie, Motif}
use Rattle.session_rules.specs.Checks.{Check, any_list, array, at_most, list, list_by, text, whole, word}
use Rattle.session_rules.specs.Paths.{keyed}
use Rattle.session_rules.specs.Tables.{Rule, all_of, no_other, optional, required, table}
use Rattle.session_rules.specs.Values.{text_in, values, value_at}
use Rattle.session_file.specs.declared.draft.SessionDraft.{SessionDraft}
use Rattle.session_file.specs.Counts.{told}
use Rattle.session_file.specs.Plans.{acts_in, commits_in, motif_cells, repeats_in, shown_cells}
use Rattle.session_file.specs.Trade.{act, built, face_words, kind_words, new_name, opening, show_words, weave}
use Rattle.session_file.specs.Values.{cast_out_in, colours_in, columns_in, draft_of, format_in, design_in, hooks_in, looms_in, motifs_in, motifs_of, sections_in}

-- a rule for the files of one format
abbrev pub when : Bool → Rule → Rule
when true rule = rule
when false rule = λ path ms. []

-- ---- the single values of the top table

-- a word for each loom
unfoldable pub faces : ℕ → Check
faces looms = list looms looms (word face_words)

unfoldable pub head_rules : Rule
head_rules path ms = all_of
    (required (codes "format") (whole 1 2)
    ∷ optional (codes "looms") (whole 1 MAX_LOOMS)
    ∷ optional (codes "show") (word show_words)
    ∷ optional (codes "faces") (faces (looms_in ms))
    ∷ []) path ms

-- ---- the table `design`

-- the hooks that are cast out leave a casting
unfoldable pub cast : List ℕ → Rule
cast key path ms = built Casting (keyed path key) (casting_fault (hooks_in ms) (cast_out_in ms) (columns_in ms))

unfoldable pub hook_rules : Rule
hook_rules = all_of
    (required (codes "columns") (whole 1 MAX_COLUMNS)
    ∷ required (codes "picks") (whole 1 MAX_PICKS)
    ∷ optional (codes "hooks") (whole 1 MAX_HOOKS)
    ∷ optional (codes "cast_out") (list 0 MAX_HOOKS (whole 0 (MAX_HOOKS - 1)))
    ∷ cast (codes "cast_out")
    ∷ [])

unfoldable pub limit_rules : ℕ → Rule
limit_rules format = all_of
    (when (format == 1) (required (codes "weft_limit") (whole 1 MAX_FLOAT))
    ∷ when (format == 1) (required (codes "warp_limit") (whole 1 MAX_FLOAT))
    ∷ when (format == 2) (required (codes "weft_face") (whole 1 MAX_FLOAT))
    ∷ when (format == 2) (required (codes "weft_back") (whole 1 MAX_FLOAT))
    ∷ when (format == 2) (required (codes "warp_face") (whole 1 MAX_FLOAT))
    ∷ when (format == 2) (required (codes "warp_back") (whole 1 MAX_FLOAT))
    ∷ [])

unfoldable pub design_rules : ℕ → Rule
design_rules format = all_of
    (hook_rules
    ∷ limit_rules format
    ∷ optional (codes "raise") weave
    ∷ optional (codes "sink") weave
    ∷ optional (codes "tile") (whole MIN_TILE MAX_TILE)
    ∷ [])

-- ---- the lists `colour`, `tie`, `motif` and `shift`: of each, the rules of a table

unfoldable pub colour_rules : Rule
colour_rules = all_of
    (required (codes "weave") weave
    ∷ optional (codes "rgb") (list 3 3 (whole 0 65535))
    ∷ [])

unfoldable pub section_rules : Rule
section_rules = all_of
    (required (codes "kind") (word kind_words)
    ∷ required (codes "from") (whole 0 (MAX_COLUMNS - 1))
    ∷ required (codes "to") (whole 0 (MAX_COLUMNS - 1))
    ∷ optional (codes "times") (whole 1 MAX_ENDS)
    ∷ [])

-- the sections make a tie of so many columns
unfoldable pub tied : ℕ → List ℕ → Rule
tied columns key path ms = built Tie (keyed path key) (tie_fault (sections_in ms) columns)

unfoldable pub tie_rules : ℕ → Rule
tie_rules columns = all_of
    (optional (codes "tie") (list 0 MAX_SECTIONS (table section_rules))
    ∷ tied columns (codes "tie")
    ∷ [])

-- the rows make a motif of so many colours, for papers of a size
unfoldable pub stamped : ℕ → Size → List ℕ → Rule
stamped colours size key path ms = built Motif (keyed path key) (motif_fault (value_at key (values text_in) [] ms) colours size)

unfoldable pub motif_rules : ℕ → Size → List NamedMotif → Rule
motif_rules colours size earlier = all_of
    (required (codes "name") (new_name earlier)
    ∷ required (codes "rows") (list 1 MAX_PICKS text)
    ∷ stamped colours size (codes "rows")
    ∷ [])

-- each list of a painter is a list before any text of one is looked at
unfoldable pub shift_rules : ℕ → ℕ → Size → List NamedMotif → Rule
shift_rules looms colours size motifs = all_of
    (required (codes "repeats") (list looms looms (whole 0 MAX_REPEATS))
    ∷ optional (codes "acts") (list 0 MAX_PAINTERS array)
    ∷ optional (codes "acts") (list 0 MAX_PAINTERS (any_list (act colours size motifs)))
    ∷ [])

unfoldable pub motifs : ℕ → Size → Check
motifs colours size = list_by 0 MAX_MOTIFS (λ earlier. table (motif_rules colours size (motifs_of earlier)))

unfoldable pub shifts : ℕ → ℕ → Size → List NamedMotif → Check
shifts looms colours size motifs = list 1 MAX_SHIFTS (table (shift_rules looms colours size motifs))

-- ---- numbers of the whole session

abbrev pub commits_of : SessionDraft → ℕ
commits_of draft = commits_in draft.shifts

abbrev pub cloth_of : SessionDraft → ℕ
cloth_of draft = length draft.tie.ends * draft.design.size.picks

-- of each version and each pick, a bit for each hook
abbrev pub cards_of : SessionDraft → ℕ
cards_of draft = (commits_of draft + 1) * (draft.design.size.picks * ((draft.design.casting.hooks + 7) / 8))

abbrev pub shown_of : SessionDraft → ℕ
shown_of draft = shown_cells draft.head.show_rows (repeats_in draft.shifts) (cloth_of draft)

abbrev pub limit : List ℕ → List ℕ → ℕ → ℕ → List SessionFault
limit path key kept found = at_most (keyed path key) kept (told found)

abbrev pub one_by_one : List (List SessionFault) → List SessionFault
one_by_one [] = []
one_by_one (faults ∷ others) = faults ++ one_by_one others

unfoldable pub numbers : SessionDraft → List ℕ → List SessionFault
numbers draft path = one_by_one
    (limit path (codes "design.cloth") MAX_CLOTH_CELLS (cloth_of draft)
    ∷ limit path (codes "motif.cells") MAX_MOTIF_CELLS (motif_cells draft.motifs)
    ∷ limit path (codes "shift.acts") MAX_ACTS (acts_in draft.shifts)
    ∷ limit path (codes "shift.commits") MAX_COMMITS (commits_of draft)
    ∷ limit path (codes "shift.repeats") MAX_REPEATS (repeats_in draft.shifts)
    ∷ limit path (codes "design.cards") MAX_CARD_BYTES (cards_of draft)
    ∷ limit path (codes "design.shown") MAX_SHOWN_CELLS (shown_of draft)
    ∷ [])

-- ---- no table has other keys

unfoldable pub top_keys : List (List ℕ)
top_keys = codes "format" ∷ codes "looms" ∷ codes "show" ∷ codes "faces" ∷ codes "design" ∷ codes "colour" ∷ codes "tie" ∷ codes "motif" ∷ codes "shift" ∷ []

unfoldable pub limit_keys : ℕ → List (List ℕ)
limit_keys format = if format == 1
    then codes "weft_limit" ∷ codes "warp_limit" ∷ []
    else codes "weft_face" ∷ codes "weft_back" ∷ codes "warp_face" ∷ codes "warp_back" ∷ []

unfoldable pub design_keys : ℕ → List (List ℕ)
design_keys format = codes "columns" ∷ codes "picks" ∷ codes "hooks" ∷ codes "cast_out" ∷ codes "raise" ∷ codes "sink" ∷ codes "tile" ∷ codes "opening" ∷ limit_keys format

unfoldable pub colour_keys : List (List ℕ)
colour_keys = codes "weave" ∷ codes "rgb" ∷ []

unfoldable pub section_keys : List (List ℕ)
section_keys = codes "kind" ∷ codes "from" ∷ codes "to" ∷ codes "times" ∷ []

unfoldable pub motif_keys : List (List ℕ)
motif_keys = codes "name" ∷ codes "rows" ∷ []

unfoldable pub shift_keys : List (List ℕ)
shift_keys = codes "repeats" ∷ codes "acts" ∷ []

unfoldable pub known_rules : ℕ → Rule
known_rules format = all_of
    (no_other top_keys
    ∷ required (codes "design") (table (no_other (design_keys format)))
    ∷ required (codes "colour") (list 1 MAX_COLOURS (table (no_other colour_keys)))
    ∷ optional (codes "tie") (list 0 MAX_SECTIONS (table (no_other section_keys)))
    ∷ optional (codes "motif") (list 0 MAX_MOTIFS (table (no_other motif_keys)))
    ∷ required (codes "shift") (list 1 MAX_SHIFTS (table (no_other shift_keys)))
    ∷ [])

-- ---- the whole file

unfoldable pub value_rules : Rule
value_rules path ms = all_of
    (head_rules
    ∷ required (codes "design") (table (design_rules (format_in ms)))
    ∷ required (codes "colour") (list 1 MAX_COLOURS (table colour_rules))
    ∷ tie_rules (design_in ms).size.columns
    ∷ optional (codes "motif") (motifs (length (colours_in ms)) (design_in ms).size)
    ∷ required (codes "design") (table (required (codes "opening") (opening (length (colours_in ms)))))
    ∷ required (codes "shift") (shifts (looms_in ms) (length (colours_in ms)) (design_in ms).size (motifs_in ms))
    ∷ []) path ms

unfoldable pub session_rules : Rule
session_rules path ms = value_rules path ms ++ (numbers (draft_of ms) path ++ known_rules (format_in ms) path ms)
