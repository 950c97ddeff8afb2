-- Rows that go from the hooks over the columns to the ends.
use Rattle.std.proofs.Common.{◌≡◌, ◌<◌, ◌-◌, ◌/◌, ◌%◌, ◌==◌, ℕ, Bool, false, List, length, get_or, ap, subst, sym, ◌∙◌}
use Rattle.std.specs.Prelude.{All}
use Rattle.std.specs.Int.{bit_at}
use Rattle.mill_base.proofs.lemmas.Lines.{get_or-line_by, line_by_alike, line_is}
use Rattle.harness_ties.specs.Ties.{TieValue, IsTie, tied}
use Rattle.casting_out.specs.Castings.{CastingValue}
use Rattle.casting_out.specs.Cards.{at_hooks}
use Rattle.draft_model.specs.Cards.{lift}
use Rattle.loom_machine.specs.Machines.{IsMachine, holes_in}

pub lifted : (tie : List ℕ) (casting : CastingValue) (hooks : List Bool) → All (λ c. c < length casting.columns) tie → tied tie (at_hooks casting.columns hooks) ≡ lift tie casting hooks
unfolding lift
lifted tie casting hooks there =
    line_by_alike false (length tie) (λ e. get_or (at_hooks casting.columns hooks) (get_or tie e 0) false) (λ e. get_or hooks (get_or casting.columns (get_or tie e 0) 0) false)
    (λ e low. get_or-line_by (length casting.columns) (λ c. get_or hooks (get_or casting.columns c 0) false) (get_or tie e 0) false (there e 0 low))

pub read : (hooks : ℕ) (card : List ℕ) (row : List Bool) → length row ≡ hooks → ((k : ℕ) → k < hooks → get_or row k false ≡ (bit_at (get_or card (k / 8) 0) (7 - k % 8) == 1)) → row ≡ holes_in hooks card
unfolding holes_in
read hooks card row long bits = line_is false row hooks (λ h. bit_at (get_or card (h / 8) 0) (7 - h % 8) == 1) long bits

-- columns that hang on the hooks of their own numbers have the row of the hooks
pub whole_columns : (columns : List ℕ) (row : List Bool) (hooks : ℕ) → length columns ≡ hooks → length row ≡ hooks → ((c : ℕ) → c < hooks → get_or columns c 0 ≡ c) → row ≡ at_hooks columns row
whole_columns columns row hooks all long own =
    line_is false row (length columns) (λ c. get_or row (get_or columns c 0) false) (long ∙ sym all)
    (λ c low. ap (λ (k : ℕ). get_or row k false) (sym (own c (subst (λ (n : ℕ). c < n) all low))))

-- a machine of a tie and a casting for its columns
pub made : (tie t : TieValue) (casting k : CastingValue) → t ≡ tie → k ≡ casting → length casting.columns ≡ tie.columns → IsTie tie → IsMachine (record { tie = t; casting = k })
made tie t casting k of_tie of_casting fit is =
    subst (λ (x : TieValue). IsMachine (record { tie = x; casting = k })) (sym of_tie)
    (subst (λ (x : CastingValue). IsMachine (record { tie = tie; casting = x })) (sym of_casting) (record {
      columns = fit;
      tied = subst (λ (n : ℕ). All (λ column. column < n) tie.ends) (sym fit) is.there;
    }))
