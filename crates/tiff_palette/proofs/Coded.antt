-- What stands where in a file that was written.
use Rattle.std.proofs.Common.{◌≡◌, ◌<◌, ◌^◌, ◌∙◌, sym, ap, subst, refl, ℕ, zero, suc, ◌+◌, ◌*◌, ◌==◌, nat_le, Bool, true, false, if◌then◌else◌, List, [], ◌++◌, length, length-append, drop, slice_index, append_assoc, arith}
use Rattle.std.specs.List.{flat_map}
use Rattle.byteorder.specs.Endian.{little_bytes}
use Rattle.byteorder.specs.Numbers.{little_number-reads_back}
use Rattle.std.proofs.lemmas.Bool.{lt-leb, eqb-true, eqb-false}
use Rattle.mill_base.specs.declared.limits.TheConstants.{MAX_COLOURS}
use Rattle.tiff_palette.specs.declared.layout.Layout.{Layout}
use Rattle.tiff_palette.specs.declared.numbers.Order.TheVariants.{Little}
use Rattle.tiff_palette.specs.declared.tags.TheConstants.{STRIP_OFFSETS, STRIP_BYTE_COUNTS}
use Rattle.tiff_palette.specs.declared.writing.TheConstants.{COLOURS, LISTS}
use Rattle.tiff_palette.specs.Numbers.{number_at, order_of}
use Rattle.tiff_palette.specs.Fields.{value_at}
use Rattle.tiff_palette.specs.Written.{head_of, counts_value, pixels_place}
use Rattle.tiff_palette.proofs.Arrays.{array_at, array_length}
use Rattle.tiff_palette.proofs.Heads.{head_length, head_order, long_entry, map_entry}

-- the lists of several strips
abbrev pub lists : ℕ → List ℕ → List ℕ → List ℕ
lists n offsets counts = if n == 1 then [] else flat_map (little_bytes 4) offsets ++ flat_map (little_bytes 4) counts

-- a file by its parts
abbrev pub file : Layout → ℕ → List ℕ → List ℕ → List ℕ → List ℕ → List ℕ
file l n colours offsets counts pixels = head_of l n ++ (flat_map (little_bytes 2) colours ++ (lists n offsets counts ++ pixels))

lists_length : (n : ℕ) (b : Bool) (offsets counts : List ℕ) → (n == 1) ≡ b → length offsets ≡ n → length counts ≡ n → LISTS + length (lists n offsets counts) ≡ pixels_place n
lists_length n true offsets counts e f g = rw e refl
lists_length n false offsets counts e f g =
    let a = length-append (flat_map (little_bytes 4) offsets) (flat_map (little_bytes 4) counts) in
    let b = array_length 4 offsets in
    let c = array_length 4 counts in
    rw e (omega (arith, a, b, c, f, g))

-- where the pixels begin
pub front_length : (l : Layout) (n : ℕ) (colours offsets counts : List ℕ) → length colours ≡ 3 * MAX_COLOURS → length offsets ≡ n → length counts ≡ n
    → length (head_of l n ++ (flat_map (little_bytes 2) colours ++ lists n offsets counts)) ≡ pixels_place n
front_length l n colours offsets counts c o s =
    let a = length-append (head_of l n) (flat_map (little_bytes 2) colours ++ lists n offsets counts) in
    let b = length-append (flat_map (little_bytes 2) colours) (lists n offsets counts) in
    let d = head_length l n in
    let e = array_length 2 colours in
    let f = lists_length n (n == 1) offsets counts refl o s in
    omega (arith, a, b, d, e, f, c)

-- the pixels stand behind all the rest
pub file_front : (l : Layout) (n : ℕ) (colours offsets counts pixels : List ℕ)
    → file l n colours offsets counts pixels ≡ (head_of l n ++ (flat_map (little_bytes 2) colours ++ lists n offsets counts)) ++ pixels
file_front l n colours offsets counts pixels =
    ap (λ xs. head_of l n ++ xs) (sym (append_assoc (flat_map (little_bytes 2) colours) (lists n offsets counts) pixels))
    ∙ sym (append_assoc (head_of l n) (flat_map (little_bytes 2) colours ++ lists n offsets counts) pixels)

pub file_length : (l : Layout) (n : ℕ) (colours offsets counts pixels : List ℕ) → length colours ≡ 3 * MAX_COLOURS → length offsets ≡ n → length counts ≡ n
    → length (file l n colours offsets counts pixels) ≡ pixels_place n + length pixels
file_length l n colours offsets counts pixels c o s =
    ap length (file_front l n colours offsets counts pixels) ∙ length-append (head_of l n ++ (flat_map (little_bytes 2) colours ++ lists n offsets counts)) pixels
    ∙ ap (λ (m : ℕ). m + length pixels) (front_length l n colours offsets counts c o s)

-- one strip: its offset and its count stand in the entries
offset_in_entry : (l : Layout) (rest : List ℕ) → value_at (head_of l 1 ++ rest) (long_entry STRIP_OFFSETS 70 1 LISTS) 0 ≡ LISTS
unfolding order_of head_of number_at value_at
offset_in_entry l rest = refl

count_in_entry : (l : Layout) (rest : List ℕ) → l.width * l.height < 256 ^ 4 → value_at (head_of l 1 ++ rest) (long_entry STRIP_BYTE_COUNTS 94 1 (l.width * l.height)) 0 ≡ l.width * l.height
unfolding order_of head_of number_at value_at
count_in_entry l rest fits = little_number-reads_back 4 (l.width * l.height) (drop 106 (head_of l 1 ++ rest)) fits

-- a list of several LONGs stands at its offset
long_at : (l : Layout) (n : ℕ) (rest : List ℕ) (tag place value k : ℕ) → 1 < n
    → value_at (head_of l n ++ rest) (long_entry tag place n value) k ≡ number_at Little 4 (value + 4 * k) (head_of l n ++ rest)
unfolding value_at
long_at l n rest tag place value k some =
    ap (λ order. number_at order 4 ((if nat_le (4 * n) 4 then place + 8 else value) + 4 * k) (head_of l n ++ rest)) (head_order l n rest)
    ∙ ap (λ (b : Bool). number_at Little 4 ((if b then place + 8 else value) + 4 * k) (head_of l n ++ rest)) (lt-leb (4 * n) 4 (omega arith))

at_least_two : (n k : ℕ) → k < n → (n == 1) ≡ false → 1 < n
at_least_two n k below e = let h = eqb-false n 1 e in omega (arith, h)

-- the front of the two lists
map_front : (l : Layout) (n : ℕ) (colours : List ℕ) → length colours ≡ 3 * MAX_COLOURS → LISTS ≡ length (head_of l n ++ flat_map (little_bytes 2) colours)
map_front l n colours c =
    let a = length-append (head_of l n) (flat_map (little_bytes 2) colours) in
    let b = head_length l n in
    let d = array_length 2 colours in
    omega (arith, a, b, c, d)

first_of_one : (l : Layout) (rest offsets : List ℕ) (n k : ℕ) → n ≡ 1 → k < n → slice_index offsets 0 ≡ LISTS
    → value_at (head_of l n ++ rest) (long_entry STRIP_OFFSETS 70 n LISTS) k ≡ slice_index offsets k
first_of_one l rest offsets n zero e below one =
    subst (λ (m : ℕ). value_at (head_of l m ++ rest) (long_entry STRIP_OFFSETS 70 m LISTS) 0 ≡ slice_index offsets 0) (sym e) (offset_in_entry l rest ∙ sym one)
first_of_one l rest offsets n (suc k) e below one = absurd (omega arith)

count_of_one : (l : Layout) (rest counts : List ℕ) (n k : ℕ) → n ≡ 1 → k < n → l.width * l.height < 256 ^ 4 → slice_index counts 0 ≡ l.width * l.height
    → value_at (head_of l n ++ rest) (long_entry STRIP_BYTE_COUNTS 94 n (counts_value n (l.width * l.height))) k ≡ slice_index counts k
count_of_one l rest counts n zero e below fits one =
    subst (λ (m : ℕ). value_at (head_of l m ++ rest) (long_entry STRIP_BYTE_COUNTS 94 m (counts_value m (l.width * l.height))) 0 ≡ slice_index counts 0) (sym e)
    (count_in_entry l rest fits ∙ sym one)
count_of_one l rest counts n (suc k) e below fits one = absurd (omega arith)

-- the two lists of several strips, behind the map
many_lists : (l : Layout) (n : ℕ) (colours offsets counts pixels : List ℕ) → (n == 1) ≡ false
    → file l n colours offsets counts pixels ≡ (head_of l n ++ flat_map (little_bytes 2) colours) ++ (flat_map (little_bytes 4) offsets ++ (flat_map (little_bytes 4) counts ++ pixels))
many_lists l n colours offsets counts pixels e =
    ap (λ (b : Bool). head_of l n ++ (flat_map (little_bytes 2) colours ++ ((if b then [] else flat_map (little_bytes 4) offsets ++ flat_map (little_bytes 4) counts) ++ pixels))) e
    ∙ ap (λ xs. head_of l n ++ (flat_map (little_bytes 2) colours ++ xs)) (append_assoc (flat_map (little_bytes 4) offsets) (flat_map (little_bytes 4) counts) pixels)
    ∙ sym (append_assoc (head_of l n) (flat_map (little_bytes 2) colours) (flat_map (little_bytes 4) offsets ++ (flat_map (little_bytes 4) counts ++ pixels)))

offset_by : (b : Bool) (l : Layout) (n : ℕ) (colours offsets counts pixels : List ℕ) (k : ℕ) → (n == 1) ≡ b → length colours ≡ 3 * MAX_COLOURS → length offsets ≡ n → k < n
    → slice_index offsets k < 256 ^ 4 → (n ≡ 1 → slice_index offsets 0 ≡ LISTS)
    → value_at (file l n colours offsets counts pixels) (long_entry STRIP_OFFSETS 70 n LISTS) k ≡ slice_index offsets k
offset_by true l n colours offsets counts pixels k e c o below fits one =
    let single = eqb-true n 1 e in
    first_of_one l (flat_map (little_bytes 2) colours ++ (lists n offsets counts ++ pixels)) offsets n k single below (one single)
offset_by false l n colours offsets counts pixels k e c o below fits one =
    long_at l n (flat_map (little_bytes 2) colours ++ (lists n offsets counts ++ pixels)) STRIP_OFFSETS 70 LISTS k (at_least_two n k below e)
    ∙ ap (number_at Little 4 (LISTS + 4 * k)) (many_lists l n colours offsets counts pixels e)
    ∙ array_at 4 (head_of l n ++ flat_map (little_bytes 2) colours) offsets (flat_map (little_bytes 4) counts ++ pixels) (LISTS + 4 * k) k LISTS (map_front l n colours c) refl (omega arith) fits

count_by : (b : Bool) (l : Layout) (n : ℕ) (colours offsets counts pixels : List ℕ) (k : ℕ) → (n == 1) ≡ b → length colours ≡ 3 * MAX_COLOURS → length offsets ≡ n → length counts ≡ n → k < n
    → slice_index counts k < 256 ^ 4 → l.width * l.height < 256 ^ 4 → (n ≡ 1 → slice_index counts 0 ≡ l.width * l.height)
    → value_at (file l n colours offsets counts pixels) (long_entry STRIP_BYTE_COUNTS 94 n (counts_value n (l.width * l.height))) k ≡ slice_index counts k
count_by true l n colours offsets counts pixels k e c o s below fits area one =
    let single = eqb-true n 1 e in
    count_of_one l (flat_map (little_bytes 2) colours ++ (lists n offsets counts ++ pixels)) counts n k single below area (one single)
count_by false l n colours offsets counts pixels k e c o s below fits area one =
    let front : List ℕ = (head_of l n ++ flat_map (little_bytes 2) colours) ++ flat_map (little_bytes 4) offsets in
    let place : counts_value n (l.width * l.height) ≡ LISTS + 4 * n = ap (λ (b : Bool). if b then l.width * l.height else LISTS + 4 * n) e in
    let behind : LISTS + 4 * n ≡ length ((head_of l n ++ flat_map (little_bytes 2) colours) ++ flat_map (little_bytes 4) offsets) =
    (let a = length-append (head_of l n ++ flat_map (little_bytes 2) colours) (flat_map (little_bytes 4) offsets) in
    let b = map_front l n colours c in
    let d = array_length 4 offsets in
    omega (arith, a, b, d, o)) in
    long_at l n (flat_map (little_bytes 2) colours ++ (lists n offsets counts ++ pixels)) STRIP_BYTE_COUNTS 94 (counts_value n (l.width * l.height)) k (at_least_two n k below e)
    ∙ ap (λ (m : ℕ). number_at Little 4 (m + 4 * k) (file l n colours offsets counts pixels)) place
    ∙ ap (number_at Little 4 (LISTS + 4 * n + 4 * k)) (many_lists l n colours offsets counts pixels e
    ∙ sym (append_assoc (head_of l n ++ flat_map (little_bytes 2) colours) (flat_map (little_bytes 4) offsets) (flat_map (little_bytes 4) counts ++ pixels)))
    ∙ array_at 4 front counts pixels (LISTS + 4 * n + 4 * k) k (LISTS + 4 * n) behind refl (omega (arith, s)) fits

pub file_offset : (l : Layout) (n : ℕ) (colours offsets counts pixels : List ℕ) (k : ℕ) → length colours ≡ 3 * MAX_COLOURS → length offsets ≡ n → k < n
    → slice_index offsets k < 256 ^ 4 → (n ≡ 1 → slice_index offsets 0 ≡ LISTS)
    → value_at (file l n colours offsets counts pixels) (long_entry STRIP_OFFSETS 70 n LISTS) k ≡ slice_index offsets k
file_offset l n colours offsets counts pixels k = offset_by (n == 1) l n colours offsets counts pixels k refl

pub file_count : (l : Layout) (n : ℕ) (colours offsets counts pixels : List ℕ) (k : ℕ) → length colours ≡ 3 * MAX_COLOURS → length offsets ≡ n → length counts ≡ n → k < n
    → slice_index counts k < 256 ^ 4 → l.width * l.height < 256 ^ 4 → (n ≡ 1 → slice_index counts 0 ≡ l.width * l.height)
    → value_at (file l n colours offsets counts pixels) (long_entry STRIP_BYTE_COUNTS 94 n (counts_value n (l.width * l.height))) k ≡ slice_index counts k
file_count l n colours offsets counts pixels k = count_by (n == 1) l n colours offsets counts pixels k refl

-- colour k of the map
pub file_colour : (l : Layout) (n : ℕ) (colours rest : List ℕ) (k : ℕ) → k < length colours → slice_index colours k < 256 ^ 2
    → value_at (head_of l n ++ (flat_map (little_bytes 2) colours ++ rest)) map_entry k ≡ slice_index colours k
unfolding value_at
file_colour l n colours rest k below fits =
    ap (λ order. number_at order 2 (COLOURS + 2 * k) (head_of l n ++ (flat_map (little_bytes 2) colours ++ rest))) (head_order l n (flat_map (little_bytes 2) colours ++ rest))
    ∙ array_at 2 (head_of l n) colours rest (COLOURS + 2 * k) k COLOURS (sym (head_length l n)) refl below fits
