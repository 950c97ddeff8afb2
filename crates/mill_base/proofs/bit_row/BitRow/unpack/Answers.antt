use Rattle.std.proofs.Common.{◌≡◌, ◌<◌, ◌/◌, ◌%◌, ◌-◌, ◌==◌, ℕ, false, length, get_or, sym, subst, ◌∙◌}
use Rattle.std.specs.Int.{bit_at}
use Rattle.mill_base.specs.Bits.{bits_of}
use Rattle.mill_base.proofs.lemmas.Rows.{length_is, length-bits_of, get_or-bits_of, row_within}
use Rattle.mill_base.proofs.lemmas.Packs.{unpacked_is}
use Rattle.mill_base.proofs.bit_row.BitRow.unpack.Goals as goal

long : (c : goal.After-unpack) → length (bits_of c.unpack.new.words.items c.self.inside.len) ≡ length c.args.self.now
long c = length-bits_of c.unpack.new.words.items c.self.inside.len ∙ length_is c.self.inside.words.items c.self.inside.len c.args.self.now c.self.view_is

bits : (c : goal.After-unpack) (k : ℕ) → k < length c.args.self.now → get_or (bits_of c.unpack.new.words.items c.self.inside.len) k false ≡ (bit_at (get_or c.args.bytes.now (k / 8) 0) (7 - k % 8) == 1)
bits c k h =
    let below = row_within c.self.inside.words.items c.self.inside.len k c.args.self.now c.self.view_is h in
    get_or-bits_of c.unpack.new.words.items c.self.inside.len k false below ∙ c.unpack.ensures.bits k below

pub returns-clause-len : goal.returns-clause-len
returns-clause-len c = long c

pub returns-clause-bits : goal.returns-clause-bits
returns-clause-bits c k h = bits c k h

pub returns-clause-inverse : goal.returns-clause-inverse
returns-clause-inverse c row same are =
    unpacked_is c.args.bytes.now (bits_of c.unpack.new.words.items c.self.inside.len) row (same ∙ sym (long c)) (λ k h. bits c k (subst (λ n. k < n) (long c) h)) are
