use Rattle.std.proofs.Common.{◌≡◌, ◌<◌, ◌%◌, ℕ, pos, Bool, true, false, not, List, [], length, map, get_or, slice_index, sym, ap, subst, ◌∙◌, refl}
use Rattle.std.specs.Prelude.{All}
use Rattle.std.proofs.Math.Nat.{mod-eq_of_lt}
use Rattle.std.proofs.lemmas.List.{length-map, get_or-map}
use Rattle.mill_base.specs.Lines.{line_by}
use Rattle.mill_base.proofs.lemmas.Lines.{length-line_by, get_or-line_by, line_is, line_by_alike}
use Rattle.mill_base.specs.declared.face.Face.{Face}
use Rattle.mill_base.specs.declared.face.Face.TheVariants.{Up, Down}
use Rattle.casting_out.specs.Castings.{CastingValue}
use Rattle.casting_out.specs.Cards.{pierces}
use Rattle.point_paper.specs.Papers.{BitCells, bit_cell, bit_row}
use Rattle.draft_model.specs.Cards.{card, lift, woven}
use Rattle.draft_model.specs.Cloths.{cloth}
use Rattle.draft_model.proofs.laws.what_is_lifted_is_the_cloth.Goals as goal

negated_twice : (b : Bool) → not (not b) ≡ b
negated_twice true = refl
negated_twice false = refl

-- rows by a formula of pierced cells, read on their face, are the cells
face_read : (face : Face) (n : ℕ) (cell : ℕ → Bool) → woven face (line_by n (λ e. pierces face (cell e))) ≡ line_by n cell
face_read Up n cell = refl
face_read Down n cell = line_is false (map not (line_by n (λ e. not (cell e)))) n cell
    (length-map (line_by n (λ e. not (cell e))) not ∙ length-line_by n (λ e. not (cell e)))
    (λ k h. get_or-map not (line_by n (λ e. not (cell e))) k true false (subst (λ m. k < m) (sym (length-line_by n (λ e. not (cell e)))) h)
    ∙ ap not (get_or-line_by n (λ e. not (cell e)) k true h) ∙ negated_twice (cell k))

pub returns-clause-row : goal.returns-clause-row
unfolding lift
returns-clause-row c tie casting bits face p is there low =
    ap (woven face)
    (line_by_alike false (length tie) (λ e. get_or (card casting bits face p) (slice_index casting.columns (slice_index tie e)) false)
    (λ e. pierces face (cloth tie bits (pos e) (pos p)))
    (λ e h. c.holes_are_cells.ensures.cell casting face (bit_row bits p) (slice_index tie e) is (there e 0 h)
    ∙ ap (pierces face) (ap (λ k. bit_cell bits (slice_index tie k) p) (sym (mod-eq_of_lt h)) ∙ ap (λ q. bit_cell bits (slice_index tie (e % length tie)) q) (sym (mod-eq_of_lt low)))))
    ∙ face_read face (length tie) (λ e. cloth tie bits (pos e) (pos p))
