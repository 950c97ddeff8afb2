use Rattle.std.proofs.Common.{◌≡◌, length, min, rules, arith}
use Rattle.block_journal.proofs.Opening.{front_read, kept_of}
use Rattle.block_journal.proofs.open.read_front.Goals as goal

pub returns-clause-bytes : goal.returns-clause-bytes
returns-clause-bytes g c =
    let long : length c.deref_mut.result.now ≡ min c.args.len 2097152 = omega (arith, c.in_ok-bytes.ensures.len, c.deref_mut.ensures.len, c.min.ensures) in
    let size : length c.read.new.out ≡ c.in_ok-bytes.bytes.len = search rules in
    front_read (g.D.Disk.told c.args.disk.now) c.deref_mut.result.now c.read.new.out c.truncate.new.self.items c.args.len c.in_ok-count.count c.requires long c.in_ok-count.ensures.bytes
    (kept_of c.in_ok-count.count c.in_ok-bytes.bytes.len c.truncate.new.self.items c.read.new.out _ c.truncate.ensures.items size)
