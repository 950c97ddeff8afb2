use Rattle.std.proofs.Common.{◌≡◌, ◌<◌, ℕ, Bool, true, false, cond, List, length, get_or, refl, arith}
use Rattle.std.specs.Prelude.{Some, None, nat_lt}
use Rattle.std.specs.List.{position, position_or_len}
use Rattle.std.specs.Str.{bytes_eq}
use Rattle.std.proofs.lemmas.Bool.{both_ways, ltb-false}
use Rattle.std.proofs.lemmas.List.Quantifiers.{position-Some}
use Rattle.std.proofs.lemmas.List.Sums.{fails_before_first}
use Rattle.std.proofs.lemmas.Slice.Eq.{bytes_eq-Decides}
use Rattle.strokes.specs.Motifs.{motif_number}
use Rattle.strokes.specs.declared.motifs.NamedMotif.{NamedMotif}
use Rattle.strokes.proofs.laws.the_number_of_a_name_is_the_least.Goals as goal

none_before : (p : NamedMotif → Bool) (motifs : List NamedMotif) (k : ℕ) (d : NamedMotif) → position p motifs ≡ None → k < length motifs → p (get_or motifs k d) ≡ false
none_before p motifs k d none low = by (nat_lt (position_or_len p motifs) (length motifs)) refl none where
  by : (b : Bool) → nat_lt (position_or_len p motifs) (length motifs) ≡ b → cond b (Some (position_or_len p motifs)) None ≡ None → p (get_or motifs k d) ≡ false
  by true is e = absurd (cc)
  by false is e = fails_before_first p motifs k d (omega (arith, low, ltb-false (position_or_len p motifs) (length motifs) is))

pub returns : goal.returns
unfolding motif_number
returns c = record {
  some = λ motifs name number d is.
      let w = position-Some (λ motif. bytes_eq motif.name name) motifs number d is in (
        w.0,
        (bytes_eq-Decides (get_or motifs number d).name name).0 w.1,
        λ k before same. both_ways (bytes_eq (get_or motifs k d).name name) (w.2 k before) ((bytes_eq-Decides (get_or motifs k d).name name).1 same),
      );
  none = λ motifs name k d is low same.
      both_ways (bytes_eq (get_or motifs k d).name name) (none_before (λ motif. bytes_eq motif.name name) motifs k d is low) ((bytes_eq-Decides (get_or motifs k d).name name).1 same);
}
