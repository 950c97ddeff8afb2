use Rattle.block_journal.proofs.Opening.{header_kept}
use Rattle.block_journal.proofs.journal.begin.Goals as goal

pub returns-clause-stands : goal.returns-clause-stands
returns-clause-stands g c rule =
    header_kept rule (g.D.Disk.told c.write_header.new.disk) c.in_ok-journal.journal c.args.digest.now c.requires.digest c.in_ok-write_header.ensures.put c.in_ok-journal.ensures.digest
    c.in_ok-journal.ensures.marks.0 c.in_ok-journal.ensures.marks.1
