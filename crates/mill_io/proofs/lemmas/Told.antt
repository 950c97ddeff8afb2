-- Three texts that are put one after another.
use Rattle.std.proofs.Common.{◌≡◌, ℕ, List, ◌++◌, Option, Result}
use Rattle.mill_io.specs.Takes.{TookAll, TookPart, Took}
use Rattle.mill_io.proofs.lemmas.Joined.{part_of_more, took_both_all, took_both_part, took_both}

module _ (first second third : List ℕ) where
  -- the first was put in part
  pub first_failed : (old now : Option (List ℕ)) → TookPart old now first → TookPart old now (first ++ second ++ third)
  first_failed old now part = part_of_more old now (first ++ second) third (part_of_more old now first second part)

  -- the first was put, and the second in part
  pub second_failed : (old middle now : Option (List ℕ)) → TookAll old middle first → TookPart middle now second → TookPart old now (first ++ second ++ third)
  second_failed old middle now all part = part_of_more old now (first ++ second) third (took_both_part old middle now first second all part)

  -- the first two were put, and then the last, whatever the answer is
  pub third_put : {T E : Type 0} (old middle then_put now : Option (List ℕ)) (r : Result T E)
      → TookAll old middle first → TookAll middle then_put second → Took then_put now third r → Took old now (first ++ second ++ third) r
  third_put old middle then_put now r all then last = took_both old then_put now (first ++ second) third r (took_both_all old middle then_put first second all then) last
