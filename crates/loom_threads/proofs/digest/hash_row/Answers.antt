use Rattle.std.proofs.Common.{◌≡◌, ◌++◌, length, refl, subst, sym, ap, ◌∙◌, arith, List, ℕ}
use Rattle.sha2.specs.Hashers.{Holds256}
use Rattle.mill_base.specs.Bits.{packed}
use Rattle.mill_base.proofs.lemmas.Packs.{length-packed}
use Rattle.loom_threads.proofs.Buffers.{line_read}
use Rattle.loom_threads.proofs.digest.hash_row.Goals as goal

pub returns-clause-room : goal.returns-clause-room
returns-clause-room c =
    let long = length-packed c.args.row.now in
    ap length (line_read c.args.bytes.now.len c.args.bytes.now.items c.pack.new.out _ (packed c.args.row.now) refl c.pack.ensures (omega (arith, long, c.args.bytes.now.ok.0, c.requires)))
    ∙ long ∙ sym c.requires

pub returns-clause-hashed : goal.returns-clause-hashed
returns-clause-hashed c message holds =
    let long = length-packed c.args.row.now in
    let read : c.as_slice.result.now ≡ packed c.args.row.now =
    line_read c.args.bytes.now.len c.args.bytes.now.items c.pack.new.out c.as_slice.result.now (packed c.args.row.now) c.as_slice.ensures.value c.pack.ensures
    (omega (arith, long, c.args.bytes.now.ok.0, c.requires)) in
    subst (λ (bytes : List ℕ). Holds256 c.update.new.self (message ++ bytes)) read (c.update.ensures message holds)
