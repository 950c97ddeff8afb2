use Rattle.std.proofs.Common.{◌≡◌, [], ◌∷◌, ◌++◌, rules}
use Rattle.block_journal.specs.Journals.{header}
use Rattle.block_journal.proofs.Opening.{header_put}
use Rattle.block_journal.proofs.open.write_header.Goals as goal

pub returns-clause-put : goal.returns-clause-put
returns-clause-put g c =
    let is : c.deref.result.now ≡ header c.args.digest.now ++ 0 ∷ [] = search rules in
    header_put (g.D.Disk.told c.args.disk.now) (g.D.Disk.told c.write_at.new.self) (g.D.Disk.told c.sync.new.self) c.deref.result.now c.args.digest.now c.requires c.in_ok-write_at.ensures.told c.in_ok-sync.ensures.told is
