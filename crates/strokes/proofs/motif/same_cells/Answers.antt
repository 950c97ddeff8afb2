use Rattle.std.proofs.Common.{◌≡◌, ℕ, refl, ap}
use Rattle.std.specs.Bool.{Decides}
use Rattle.std.specs.Option.{option_eq}
use Rattle.std.specs.Prelude.{◌==◌, Option, Some, None, unwrap_or}
use Rattle.std.proofs.lemmas.Bool.Decides.{Decides-eqb}
use Rattle.std.proofs.lemmas.Bool.{false≢true}
use Rattle.std.proofs.lemmas.Slice.Eq.{slice_eq-Decides}
use Rattle.strokes.proofs.motif.same_cells.Goals as goal

cells_decide : (a b : Option ℕ) → Decides (option_eq (λ x y. x == y) a b) (a ≡ b)
cells_decide None None = (λ _. refl, λ _. refl)
cells_decide None (Some y) = (λ e. absurd (false≢true e), λ e. absurd (cc))
cells_decide (Some x) None = (λ e. absurd (false≢true e), λ e. absurd (cc))
cells_decide (Some x) (Some y) = (λ e. ap Some ((Decides-eqb x y).0 e), λ e. (Decides-eqb x y).1 (ap (λ o. unwrap_or o x) e))

pub returns : goal.returns
returns c = slice_eq-Decides cells_decide c.args.one.now c.args.other.now c.eq.result c.eq.ensures
