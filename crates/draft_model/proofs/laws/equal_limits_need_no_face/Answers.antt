use Rattle.std.proofs.Common.{◌≡◌, ◌||◌, ℕ, ℤ, Bool, true, false, sym, ap, ◌∙◌, refl}
use Rattle.cloth_floats.specs.Cells.{limit_of}
use Rattle.draft_model.specs.Cloths.{cloth}
use Rattle.draft_model.specs.Floats.{long, is_over_at}
use Rattle.draft_model.proofs.laws.equal_limits_need_no_face.Goals as goal

one_limit : (a b : ℕ) (cell : Bool) → a ≡ b → limit_of a b cell ≡ b
one_limit a b true same = same
one_limit a b false same = refl

pub returns : goal.returns
unfolding long
returns c design bits e p weft warp =
    let cell = cloth design.tie.ends bits e p in
    ap (λ n. is_over_at (λ x. cloth design.tie.ends bits x p) n e || is_over_at (λ y. cloth design.tie.ends bits e y) (limit_of design.warp_face design.warp_back cell) p)
    (one_limit design.weft_back design.weft_face cell (sym weft))
    ∙ ap (λ n. is_over_at (λ x. cloth design.tie.ends bits x p) design.weft_face e || is_over_at (λ y. cloth design.tie.ends bits e y) n p)
    (one_limit design.warp_face design.warp_back cell warp ∙ sym warp)
