-- The lines of the cloth that never ends, and those of one repeat.
use Rattle.std.proofs.Common.{◌≡◌, ◌+◌, ◌<◌, ◌||◌, ℕ, ℤ, pos, negsuc, Bool, false, List, length, get_or, slice_index, sym, ap, ◌∙◌, arith}
use Rattle.std.specs.Prelude.{◌+ℤ◌, ◌-ℤ◌}
use Rattle.std.proofs.lemmas.Nat.{mod_below}
use Rattle.std.proofs.Math.Nat.{mod-eq_of_lt}
use Rattle.mill_base.specs.Lines.{remainder, cell_at, line_by}
use Rattle.mill_base.proofs.lemmas.Belows.{any_alike, all_alike}
use Rattle.mill_base.proofs.lemmas.Lines.{length-line_by, get_or-line_by}
use Rattle.cloth_floats.specs.Cells.{limit_of}
use Rattle.mill_base.specs.Lines.{same}
use Rattle.cloth_floats.specs.Windows.{is_long, is_long_over, is_window}
use Rattle.point_paper.specs.Papers.{BitCells, bit_cell}
use Rattle.draft_model.specs.declared.design.Design.{Design}
use Rattle.draft_model.specs.Cloths.{cloth}
use Rattle.draft_model.specs.Floats.{long, is_even, is_over_at, weft_line, warp_line}

pub remainder_below : (z : ℤ) (n : ℕ) → 0 < n → remainder z n < n
remainder_below (pos x) n some = mod_below x n some
remainder_below (negsuc x) n some = omega arith

-- a pick of one repeat, followed round its edges, is the pick of the cloth
pub weft_cell : (tie : List ℕ) (bits : BitCells) (p : ℕ) (z : ℤ) → 0 < length tie → p < length bits.rows → cell_at (weft_line tie bits p) z ≡ cloth tie bits z (pos p)
weft_cell tie bits p z some there =
    ap (λ n. get_or (weft_line tie bits p) (remainder z n) false) (length-line_by (length tie) (λ e. bit_cell bits (slice_index tie e) p))
    ∙ get_or-line_by (length tie) (λ e. bit_cell bits (slice_index tie e) p) (remainder z (length tie)) false (remainder_below z (length tie) some)
    ∙ ap (bit_cell bits (slice_index tie (remainder z (length tie)))) (sym (mod-eq_of_lt there))

-- and so is an end
pub warp_cell : (tie : List ℕ) (bits : BitCells) (e : ℕ) (z : ℤ) → e < length tie → 0 < length bits.rows → cell_at (warp_line tie bits e) z ≡ cloth tie bits (pos e) z
warp_cell tie bits e z there some =
    ap (λ n. get_or (warp_line tie bits e) (remainder z n) false) (length-line_by (length bits.rows) (λ p. bit_cell bits (slice_index tie e) p))
    ∙ get_or-line_by (length bits.rows) (λ p. bit_cell bits (slice_index tie e) p) (remainder z (length bits.rows)) false (remainder_below z (length bits.rows) some)
    ∙ ap (λ k. bit_cell bits (slice_index tie k) (remainder z (length bits.rows))) (sym (mod-eq_of_lt there))

-- a line that never ends and repeats this one is long where this one is
over_alike : (line : List Bool) (cell : ℤ → Bool) (limit k : ℕ) → ((z : ℤ) → cell_at line z ≡ cell z) → is_over_at cell limit (pos k) ≡ is_long_over line limit k
unfolding is_over_at is_long_over is_window
over_alike line cell limit k one =
    any_alike (λ i. is_even cell limit (pos k) (pos k -ℤ pos i)) (λ i. is_window line limit k (pos k -ℤ pos i)) (limit + 1)
    (λ i h. all_alike (λ j. same (cell (pos k)) (cell ((pos k -ℤ pos i) +ℤ pos j))) (λ j. same (cell_at line (pos k)) (cell_at line ((pos k -ℤ pos i) +ℤ pos j))) (limit + 1)
    (λ j g. ap (λ b. same b (cell ((pos k -ℤ pos i) +ℤ pos j))) (sym (one (pos k))) ∙ ap (same (cell_at line (pos k))) (sym (one ((pos k -ℤ pos i) +ℤ pos j)))))

line_long : (line : List Bool) (cell : ℤ → Bool) (lifted unlifted k : ℕ) → ((z : ℤ) → cell_at line z ≡ cell z) → is_over_at cell (limit_of lifted unlifted (cell (pos k))) (pos k) ≡ is_long line lifted unlifted k
line_long line cell lifted unlifted k one =
    over_alike line cell (limit_of lifted unlifted (cell (pos k))) k one ∙ ap (λ b. is_long_over line (limit_of lifted unlifted b) k) (sym (one (pos k)))

pub long_by_lines : (design : Design) (bits : BitCells) (e p : ℕ) → e < length design.tie.ends → p < length bits.rows
    → long design bits (pos e) (pos p)
    ≡ (is_long (weft_line design.tie.ends bits p) design.weft_back design.weft_face e || is_long (warp_line design.tie.ends bits e) design.warp_face design.warp_back p)
unfolding long
long_by_lines design bits e p he hp =
    ap (λ b. b || is_over_at (λ y. cloth design.tie.ends bits (pos e) y) (limit_of design.warp_face design.warp_back (cloth design.tie.ends bits (pos e) (pos p))) (pos p))
    (line_long (weft_line design.tie.ends bits p) (λ x. cloth design.tie.ends bits x (pos p)) design.weft_back design.weft_face e (λ z. weft_cell design.tie.ends bits p z (omega arith) hp))
    ∙ ap (λ b. is_long (weft_line design.tie.ends bits p) design.weft_back design.weft_face e || b)
    (line_long (warp_line design.tie.ends bits e) (λ y. cloth design.tie.ends bits (pos e) y) design.warp_face design.warp_back p (λ z. warp_cell design.tie.ends bits e z he (omega arith)))
