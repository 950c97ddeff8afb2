-- Every float of the list is a float of the cloth.
use Rattle.std.proofs.Common.{◌≡◌, ◌+◌, ◌<◌, ◌≤◌, ℕ, zero, suc, Bool, List, length, filter, flat_map, take, get_or, slice_index, refl, sym, subst, ◌∙◌, arith}
use Rattle.std.specs.Prelude.{All}
use Rattle.std.specs.List.{range_with_len}
use Rattle.std.proofs.lemmas.List.Elements.{All-nil, All-append, All-take, All-map, All-filter}
use Rattle.mill_base.proofs.lemmas.Lines.{length-line_by}
use Rattle.cloth_floats.specs.declared.Run.{Run}
use Rattle.cloth_floats.specs.Floats.{runs_of, is_over, IsOnLine}
use Rattle.point_paper.specs.Papers.{BitCells, bit_cell}
use Rattle.draft_model.specs.declared.design.Design.{Design}
use Rattle.draft_model.specs.declared.float_run.FloatKind.{FloatKind}
use Rattle.draft_model.specs.declared.float_run.FloatKind.TheVariants.{Weft, Warp}
use Rattle.draft_model.specs.Designs.{Fits, IsBitsOf}
use Rattle.float_list.specs.declared.long_float.Limits.{Limits}
use Rattle.float_list.specs.Floats.{limits_of, lines_of, line_of, over_limit, floats_along, floats_of}
use Rattle.float_list.specs.Lists.{IsFloatOf, lines_in, cells_in}

-- the items of all pieces
all_pieces : {X : Type 0} (P : X → Type 0) (f : ℕ → List X) (a n : ℕ) → ((k : ℕ) → a ≤ k → k < a + n → All P (f k)) → All P (flat_map f (range_with_len a n))
all_pieces P f a zero each = All-nil P
all_pieces P f a (suc n) each =
    All-append P (f a) (flat_map f (range_with_len (a + 1) n)) (each a (omega arith) (omega arith))
    (all_pieces P f (a + 1) n (λ k low high. each k (omega arith) (omega arith)))

-- the law of one line, as it is handed in
abbrev pub AreOnLines : Type 0
AreOnLines = (line : List Bool) → 0 < length line → All (IsOnLine line) (runs_of line)

over_there : AreOnLines → (design : Design) (limits : Limits) (line : ℕ) (cells : List Bool)
    → line < lines_in limits.kind design → length cells ≡ cells_in limits.kind design → 0 < length cells → All (IsFloatOf design) (over_limit limits line cells)
unfolding over_limit
over_there law design limits line cells there long some =
    All-map (IsFloatOf design) (λ (run : Run). record { kind = limits.kind; line = line; run = run }) (filter (is_over limits.lifted limits.unlifted) (runs_of cells))
    (All-filter (is_over limits.lifted limits.unlifted) (λ (run : Run). IsFloatOf design (record { kind = limits.kind; line = line; run = run })) (runs_of cells)
    (λ k d h.
    let on = law cells some k d h in
    record {
      line = there;
      start = subst (λ n. (get_or (runs_of cells) k d).start < n) long on.start;
      some = on.some;
      within = subst (λ n. (get_or (runs_of cells) k d).length ≤ n) long on.within;
    }))

line_long : (kind : FloatKind) (design : Design) (bits : BitCells) (line : ℕ) → length bits.rows ≡ design.size.picks → length (line_of kind design bits line) ≡ cells_in kind design
line_long Weft design bits line high = length-line_by (length design.tie.ends) (λ e. bit_cell bits (slice_index design.tie.ends e) line)
line_long Warp design bits line high = length-line_by (length bits.rows) (λ p. bit_cell bits (slice_index design.tie.ends line) p) ∙ high

lines_there : (kind : FloatKind) (design : Design) (bits : BitCells) → length bits.rows ≡ design.size.picks → lines_of kind design bits ≡ lines_in kind design
lines_there Weft design bits high = high
lines_there Warp design bits high = refl

some_cells : (kind : FloatKind) (design : Design) → Fits design → 0 < cells_in kind design
some_cells Weft design fits = let some = fits.ends.0 in omega (arith, some)
some_cells Warp design fits = let some = fits.picks.0 in omega (arith, some)

lines_of_kind : (kind : FloatKind) (design : Design) → (limits_of kind design).kind ≡ kind
lines_of_kind Weft design = refl
lines_of_kind Warp design = refl

along_there : AreOnLines → (kind : FloatKind) (design : Design) (bits : BitCells) → Fits design → IsBitsOf design bits → All (IsFloatOf design) (floats_along kind design bits)
unfolding floats_along
along_there law kind design bits fits of =
    all_pieces (IsFloatOf design) (λ line. over_limit (limits_of kind design) line (line_of kind design bits line)) 0 (lines_of kind design bits)
    (λ k low high.
    let long : length (line_of kind design bits k) ≡ cells_in kind design = line_long kind design bits k of.picks in
    let many : lines_of kind design bits ≡ lines_in kind design = lines_there kind design bits of.picks in
    let some : 0 < cells_in kind design = some_cells kind design fits in
    let is : (limits_of kind design).kind ≡ kind = lines_of_kind kind design in
    let below : k < lines_in kind design = omega (arith, high, many) in
    over_there law design (limits_of kind design) k (line_of kind design bits k)
    (subst (λ (other : FloatKind). k < lines_in other design) (sym is) below)
    (subst (λ (other : FloatKind). length (line_of kind design bits k) ≡ cells_in other design) (sym is) long) (omega (arith, long, some)))

pub all_there : AreOnLines → (n : ℕ) (design : Design) (bits : BitCells) → Fits design → IsBitsOf design bits → All (IsFloatOf design) (take n (floats_of design bits))
all_there law n design bits fits of =
    All-take (IsFloatOf design) n (floats_of design bits)
    (All-append (IsFloatOf design) (floats_along Weft design bits) (floats_along Warp design bits)
    (along_there law Weft design bits fits of) (along_there law Warp design bits fits of))
