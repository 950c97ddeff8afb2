use Rattle.std.proofs.Common.{◌≡◌, ℕ, ◌==◌, Bool, eqb, true, false, cond, length, map, get_or, take, refl, ap, ◌∙◌, arith, w8, length-take}
use Rattle.std.proofs.lemmas.Simd.{bitmask_splat, bit_mask_l}
use Rattle.std.proofs.lemmas.List.{get_or-map, get_or-take}
use Rattle.std.specs.Int.{bit_at}
use Rattle.weave_book.proofs.colour_marks.places_of.Goals as goal

-- a bit of a comparison's mask
bit_of_mask : (b : Bool) → (cond {A = ℕ} b 1 0 == 1) ≡ b
bit_of_mask true = refl
bit_of_mask false = refl

pub returns : goal.returns
returns c j h =
    let p = λ (x : ℕ). eqb x c.args.colour in
    let all = take 64 c.args.cells.now in
    let long : length all ≡ 64 = omega (arith, length-take 64 c.args.cells.now, c.requires) in
    ap (λ n. bit_at n j == 1) (bitmask_splat w8 eqb all 64 c.args.colour long (omega arith))
    ∙ ap (λ n. n == 1) (bit_mask_l (map p all) j) ∙ bit_of_mask (get_or (map p all) j false) ∙ get_or-map p all j 0 false (omega (arith, long, h))
    ∙ ap p (get_or-take 64 c.args.cells.now j 0 h)
