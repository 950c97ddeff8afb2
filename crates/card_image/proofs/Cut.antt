-- Cards that are cut.
use Rattle.std.proofs.Common.{◌≡◌, ◌≢◌, ℕ, ◌<◌, ◌==◌, Bool, true, false, List, [], length, get_or, Option, Some, None, ◌↔◌, sym, refl, subst, ◌∙◌}
use Rattle.std.proofs.lemmas.Bool.{eq-eqb, ne_eqb}
use Rattle.mill_base.specs.declared.face.Face.{Face}
use Rattle.mill_base.specs.declared.face.Face.TheVariants.{Up}
use Rattle.mill_base.proofs.lemmas.Belows.{any_here, any_none}
use Rattle.mill_base.proofs.lemmas.Lines.{length-line_by, get_or-line_by}
use Rattle.casting_out.specs.Castings.{CastingValue, column_of}
use Rattle.casting_out.specs.Cards.{card as card_of_row}
use Rattle.point_paper.specs.Papers.{BitCells, bit_row}
use Rattle.draft_model.specs.Cards.{card}
use Rattle.card_image.specs.Sets.{cards_up, design_by, hangs}
use Rattle.card_image.specs.Chains.{IsCard}

-- facts of rows on hooks, as the laws of castings state them
abbrev pub Long : Type 0
Long = (hooks : ℕ) (columns : List ℕ) (face : Face) (row : List Bool) → length (card_of_row hooks columns face row) ≡ hooks

abbrev pub Idle : Type 0
Idle = (hooks : ℕ) (columns : List ℕ) (face : Face) (row : List Bool) (h : ℕ) → column_of columns h ≡ None → get_or (card_of_row hooks columns face row) h false ≡ false

abbrev pub Hangs : Type 0
Hangs = (columns : List ℕ) (h c : ℕ) → column_of columns h ≡ Some c → (c < length columns) × (get_or columns c 0 ≡ h)

abbrev pub Apart : Type 0
Apart = (columns : List ℕ) (h c : ℕ) → column_of columns h ≡ None → c < length columns → get_or columns c 0 ≢ h

-- where no column is found none hangs
pub hangs_nowhere : Apart → (columns : List ℕ) (h : ℕ) → column_of columns h ≡ None → hangs columns h ≡ false
hangs_nowhere apart columns h none = any_none (λ c. get_or columns c 0 == h) (length columns) (λ c low. ne_eqb (get_or columns c 0) h (apart columns h c none low))

-- where one is found it hangs
pub hangs_where : Hangs → (columns : List ℕ) (h : ℕ) (found : Option ℕ) → column_of columns h ≡ found → (found ≡ None → ⊥) → hangs columns h ≡ true
hangs_where law columns h None is some = absurd (some refl)
hangs_where law columns h (Some c) is some =
    let at = law columns h c is in
    any_here (λ c. get_or columns c 0 == h) (length columns) c at.0 (eq-eqb (get_or columns c 0) h at.1)

pub cards_up_at : (casting : CastingValue) (bits : BitCells) (pick : ℕ) → pick < length bits.rows → get_or (cards_up casting bits) pick [] ≡ card casting bits Up pick
cards_up_at casting bits pick low = get_or-line_by (length bits.rows) (card casting bits Up) pick [] low

pub cards_up_count : (casting : CastingValue) (bits : BitCells) → length (cards_up casting bits) ≡ length bits.rows
cards_up_count casting bits = length-line_by (length bits.rows) (card casting bits Up)

pub cut_is_card : Long → Idle → Hangs → (casting : CastingValue) (bits : BitCells) (pick : ℕ) → pick < length bits.rows
    → IsCard (design_by casting (length bits.rows)) (get_or (cards_up casting bits) pick [])
cut_is_card long idle law casting bits pick low =
    subst (IsCard (design_by casting (length bits.rows))) (sym (cards_up_at casting bits pick low)) (record {
      width = long casting.hooks casting.columns Up (bit_row bits pick);
      idle = λ h set. hangs_where law casting.columns h (column_of casting.columns h) refl (λ none.
          let clear : false ≡ true = sym (idle casting.hooks casting.columns Up (bit_row bits pick) h none) ∙ set in absurd (cc));
    })

-- ---- columns and their hooks

hung : (b : Bool) (o : Option ℕ) → (o ≡ None → b ≡ false) → ((o ≡ None → ⊥) → b ≡ true) → (b ≡ false → o ≡ None) × (b ≡ true → (c : ℕ) × (o ≡ Some c))
hung b None off on = ((λ e. refl), λ e. let f : true ≡ false = sym e ∙ off refl in absurd (cc))
hung b (Some c) off on = ((λ e. let f : true ≡ false = sym (on (λ g. absurd (cc))) ∙ e in absurd (cc)), λ e. (c, refl))

pub hangs_none : Apart → Hangs → (columns : List ℕ) (h : ℕ) → (hangs columns h ≡ false) ↔ (column_of columns h ≡ None)
hangs_none apart law columns h = (
  (hung (hangs columns h) (column_of columns h) (hangs_nowhere apart columns h) (hangs_where law columns h (column_of columns h) refl)).0,
  hangs_nowhere apart columns h,
)

pub hangs_some : Apart → Hangs → (columns : List ℕ) (h : ℕ) → (hangs columns h ≡ true) ↔ ((c : ℕ) × (column_of columns h ≡ Some c))
hangs_some apart law columns h = (
  (hung (hangs columns h) (column_of columns h) (hangs_nowhere apart columns h) (hangs_where law columns h (column_of columns h) refl)).1,
  λ found. hangs_where law columns h (column_of columns h) refl (λ none. let e : Some found.0 ≡ None = sym found.1 ∙ none in absurd (cc)),
)
