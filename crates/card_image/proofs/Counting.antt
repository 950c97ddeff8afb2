-- A card whose holes are all holes of the mask.
use Rattle.std.proofs.Common.{◌≡◌, ℕ, ◌+◌, ◌-◌, ◌*◌, ◌/◌, ◌%◌, ◌<◌, ◌≤◌, ◌==◌, Bool, true, false, cond, not, ◌&&◌, List, length, take, drop, Some, None, sym, ap, refl, ◌∙◌, arith}
use Rattle.std.proofs.lemmas.List.{get_or-take, get_or-drop}
use Rattle.std.specs.Int.{bit_at}
use Rattle.std.specs.Option.{option_or}
use Rattle.mill_base.specs.Below.{count_below}
use Rattle.mill_base.proofs.lemmas.Belows.{any_none, count_rest, count_few}
use Rattle.card_image.specs.Firsts.{passing}
use Rattle.card_image.specs.Places.{hole_bytes, hole_at}
use Rattle.card_image.specs.Sets.{hangs}
use Rattle.card_image.specs.inner.Masks.{IsMask}
use Rattle.card_image.specs.Faults.{has_pad, first_idle, idle_fault, count_fault, holes_fault}
use Rattle.card_image.specs.declared.fault.ChainFault.TheVariants.{PadBit}
use Rattle.card_image.proofs.Firsts.{first_rest}
use Rattle.card_image.proofs.Alike.{holes_alike}
use Rattle.card_image.proofs.Masks.{hole_here}

never : (a : Bool) → (a ≡ true → ⊥) → a ≡ false
never true f = absurd (f refl)
never false f = refl

pub within_fault : (hooks : ℕ) (columns mask : List ℕ) (pick written count : ℕ) (p : ℕ → Bool) → IsMask hooks columns mask
    → ((h : ℕ) → h < 8 * hole_bytes hooks → p h ≡ true → hole_at mask 0 h ≡ true) → count ≡ count_below p (8 * hole_bytes hooks)
    → holes_fault hooks columns pick written p ≡ count_fault written count
unfolding holes_fault
within_fault hooks columns mask pick written count p is within counted =
    let low : hooks ≤ 8 * hole_bytes hooks = omega arith in
    let past : (h : ℕ) → hooks ≤ h → h < 8 * hole_bytes hooks → p h ≡ false = λ h from below.
    never (p h) (λ e. let f : false ≡ true = sym (is.pads h from) ∙ (sym (is.bits h below) ∙ within h below e) in absurd (cc)) in
    let pad : has_pad hooks p ≡ false = any_none (λ k. p (hooks + k)) (8 * hole_bytes hooks - hooks) (λ k h. past (hooks + k) (omega arith) (omega (arith, h))) in
    let idle : first_idle hooks columns p ≡ None = first_rest (passing (λ h. p h && not (hangs columns h))) 0 hooks (omega arith)
    (λ h from below. unused (p h) (hangs columns h) h (λ e. sym (is.bits h (omega (arith, below))) ∙ within h (omega (arith, below)) e)) in
    let same : count_below p hooks ≡ count = sym (counted ∙ count_rest p hooks (8 * hole_bytes hooks) low past) in
    ap (λ b. cond b (Some (PadBit pick)) (option_or (idle_fault pick (first_idle hooks columns p)) (count_fault written (count_below p hooks)))) pad
    ∙ ap (λ o. option_or (idle_fault pick o) (count_fault written (count_below p hooks))) idle
    ∙ ap (count_fault written) same where
      unused : (a b : Bool) (h : ℕ) → (a ≡ true → b ≡ true) → cond (a && not b) (Some h) None ≡ None
      unused true b h used = ap (λ c. cond (not c) (Some h) None) (used refl)
      unused false b h used = refl

-- the holes of a part are those at its place
pub part_hole : (bytes : List ℕ) (at size h : ℕ) → h < 8 * size → hole_at (take size (drop at bytes)) 0 h ≡ hole_at bytes at h
part_hole bytes at size h low =
    hole_here (take size (drop at bytes)) h
    ∙ ap (λ (b : ℕ). bit_at b (7 - h % 8) == 1) (get_or-take size (drop at bytes) (h / 8) 0 (omega (arith, low)) ∙ get_or-drop at bytes (h / 8) 0)

-- the faults of the holes that stand at a place are those of the part
pub part_fault : (hooks : ℕ) (columns bytes : List ℕ) (pick written at n : ℕ) → n ≡ hole_bytes hooks
    → holes_fault hooks columns pick written (hole_at (take n (drop at bytes)) 0) ≡ holes_fault hooks columns pick written (hole_at bytes at)
part_fault hooks columns bytes pick written at n size =
    holes_alike hooks columns pick written (hole_at (take n (drop at bytes)) 0) (hole_at bytes at) (λ h low. part_hole bytes at n h (omega (arith, low, size)))

-- and no more than there are hooks
pub within_few : (hooks : ℕ) (columns mask : List ℕ) (count : ℕ) (p : ℕ → Bool) → IsMask hooks columns mask
    → ((h : ℕ) → h < 8 * hole_bytes hooks → p h ≡ true → hole_at mask 0 h ≡ true) → count ≡ count_below p (8 * hole_bytes hooks) → count ≤ hooks
within_few hooks columns mask count p is within counted =
    let few = count_few p hooks in
    let rest = count_rest p hooks (8 * hole_bytes hooks) (omega arith) (λ h from below.
    never (p h) (λ e. let f : false ≡ true = sym (is.pads h from) ∙ (sym (is.bits h below) ∙ within h below e) in absurd (cc))) in
    omega (arith, few, rest, counted)

-- where all holes were counted the count alone can be wrong
pub counted_fault : (hooks : ℕ) (columns mask holes used : List ℕ) (pick written found : ℕ) → IsMask hooks columns mask → used ≡ mask → length holes ≡ hole_bytes hooks
    → found ≡ count_below (hole_at holes 0) (8 * length holes) → ((h : ℕ) → h < 8 * length holes → hole_at holes 0 h ≡ true → hole_at used 0 h ≡ true)
    → (holes_fault hooks columns pick written (hole_at holes 0) ≡ count_fault written found) × (found ≤ hooks)
counted_fault hooks columns mask holes used pick written found is same long counted within =
    let inside : (h : ℕ) → h < 8 * hole_bytes hooks → hole_at holes 0 h ≡ true → hole_at mask 0 h ≡ true =
    λ h low set. ap (λ (xs : List ℕ). hole_at xs 0 h) (sym same) ∙ within h (omega (arith, low, long)) set in
    let all : found ≡ count_below (hole_at holes 0) (8 * hole_bytes hooks) = counted ∙ ap (λ (n : ℕ). count_below (hole_at holes 0) (8 * n)) long in (
      within_fault hooks columns mask pick written found (hole_at holes 0) is inside all,
      within_few hooks columns mask found (hole_at holes 0) is inside all,
    )
