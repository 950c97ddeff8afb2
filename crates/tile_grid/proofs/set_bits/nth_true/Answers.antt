use Rattle.std.proofs.Common.{◌<◌, ◌≤◌, ◌≡◌, ℕ, false, true, length, get_or, sym, subst, ⊎_elim, ◌∙◌, arith}
use Rattle.std.proofs.lemmas.Bool.{both_ways, cases_lt}
use Rattle.std.proofs.lemmas.List.{get_or_past}
use Rattle.mill_base.proofs.lemmas.Rows.{bit_is_cell}
use Rattle.tile_grid.proofs.Counts.{count_of_row, count_of_words}
use Rattle.tile_grid.proofs.set_bits.nth_true.Goals as goal

pub nth_set-requires-clause-words : goal.nth_set-requires-clause-words
nth_set-requires-clause-words c = let enough = c.words.ensures.room.enough in omega (arith, enough, c.requires.few)

pub nth_set-requires-clause-k : goal.nth_set-requires-clause-k
nth_set-requires-clause-k c = subst (λ (n : ℕ). c.args.k < n) (sym (count_of_words c.words.result.now c.args.row.now c.words.ensures)) c.requires.k

pub returns : goal.returns
returns c =
    let row = c.args.row.now in
    let here : get_or row c.nth_set.result false ≡ true = sym (bit_is_cell c.words.result.now row c.words.ensures c.nth_set.result) ∙ c.nth_set.ensures.here in
    record {
      within = ⊎_elim (λ (h : c.nth_set.result < length row). h)
          (λ (past : length row ≤ c.nth_set.result). absurd (both_ways (get_or row c.nth_set.result false) (get_or_past row c.nth_set.result false past) here))
          (cases_lt c.nth_set.result (length row));
      here = here;
      before = sym (count_of_row c.words.result.now row c.nth_set.result c.words.ensures) ∙ c.nth_set.ensures.before;
    }
