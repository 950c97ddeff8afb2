use Rattle.std.proofs.Common.{◌≡◌, ◌-◌, ◌*◌, ◌%◌, ◌^◌, ◌<◌, ◌≤◌, ℕ, bit_and, ap, subst, sym, ◌∙◌}
use Rattle.std.specs.Int.RustNames.{count_ones}
use Rattle.std.proofs.lemmas.Nat.{and_mask, mod_below, one_shl, ones-le, pow_pos}
use Rattle.tile_grid.proofs.set_bits.count_low.Goals as goal

masked : (word count : ℕ) → count < 64 → bit_and word (1 * 2 ^ count % 2 ^ 64 - 1) ≡ word % 2 ^ count
masked word count low = ap (λ m. bit_and word (m - 1)) (one_shl count 64 low) ∙ and_mask word count

pub returns-clause-count : goal.returns-clause-count
returns-clause-count c = ap count_ones (masked c.args.word c.args.count c.requires)

pub returns-clause-few : goal.returns-clause-few
returns-clause-few c =
    subst (λ (m : ℕ). count_ones m ≤ c.args.count) (sym (masked c.args.word c.args.count c.requires))
    (ones-le c.args.count (c.args.word % 2 ^ c.args.count) (mod_below c.args.word (2 ^ c.args.count) (pow_pos c.args.count)))
