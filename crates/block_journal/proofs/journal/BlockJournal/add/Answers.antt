use Rattle.std.proofs.Common.{◌≡◌, ◌+◌, ◌*◌, [], ◌∷◌, ◌++◌, List, length, sym, subst, rules}
use Rattle.std.specs.Prelude.{IfSome}
use Rattle.block_journal.specs.declared.mark.Mark.{Mark}
use Rattle.journal_disk.specs.Disks.{LeavesOnly, AtRest, seen}
use Rattle.journal_disk.specs.Told.{BothTold}
use Rattle.block_journal.specs.Journals.{JournalView, IsGood, StandsTo, body_of}
use Rattle.block_journal.specs.Keeps.{IsKept, WithOrWithout, KeepsAll}
use Rattle.block_journal.proofs.Keeping.{add_crash, add_stands, add_keeps}
use Rattle.block_journal.proofs.journal.BlockJournal.add.Goals as goal

pub returns-in_default-put_block-clause-crash : goal.returns-in_default-put_block-clause-crash
returns-in_default-put_block-clause-crash g c rule unfailed kept good =
    let t = g.D.Disk.told c.args.disk.now in
    let u = g.D.Disk.told c.put_block.new.disk in
    let k = c.self.inside in
    let keep : JournalView = record { digest = k.digest.items; marks = k.marks.items; place = k.place; spare = k.spare; adds = k.adds; failed = k.failed } in
    let is : c.deref.result.now ≡ body_of c.args.block.now ++ 0 ∷ [] = search rules in
    subst (λ (v : JournalView). BothTold t u (λ old new. LeavesOnly old new (WithOrWithout rule v.digest v.marks c.args.block.now))) c.self.view_is
    (add_crash rule t u keep c.args.block.now c.deref.result.now is (subst (λ (v : JournalView). IsGood rule v.marks c.args.block.now) (sym c.self.view_is) good)
    (subst (λ (v : JournalView). IsKept rule t v) (sym c.self.view_is) kept) c.put_block.ensures.crash)

pub returns-clause-crash : goal.returns-clause-crash
returns-clause-crash g c rule unfailed kept good =
    let t = g.D.Disk.told c.args.disk.now in
    let u = g.D.Disk.told c.put_block.new.disk in
    let k = c.self.inside in
    let keep : JournalView = record { digest = k.digest.items; marks = k.marks.items; place = k.place; spare = k.spare; adds = k.adds; failed = k.failed } in
    let is : c.deref.result.now ≡ body_of c.args.block.now ++ 0 ∷ [] = search rules in
    subst (λ (v : JournalView). BothTold t u (λ old new. LeavesOnly old new (WithOrWithout rule v.digest v.marks c.args.block.now))) c.self.view_is
    (add_crash rule t u keep c.args.block.now c.deref.result.now is (subst (λ (v : JournalView). IsGood rule v.marks c.args.block.now) (sym c.self.view_is) good)
    (subst (λ (v : JournalView). IsKept rule t v) (sym c.self.view_is) kept) c.put_block.ensures.crash)

pub returns-clause-acknowledged : goal.returns-clause-acknowledged
returns-clause-acknowledged g c rule kept good =
    let t = g.D.Disk.told c.args.disk.now in
    let u = g.D.Disk.told c.put_block.new.disk in
    let k = c.self.inside in
    let keep : JournalView = record { digest = k.digest.items; marks = k.marks.items; place = k.place; spare = k.spare; adds = k.adds; failed = k.failed } in
    let is : c.deref.result.now ≡ body_of c.args.block.now ++ 0 ∷ [] = search rules in
    subst (λ (v : JournalView). KeepsAll rule u v.digest (v.marks ++ c.args.block.now)) c.self.view_is
    (add_keeps rule t u keep c.args.block.now c.deref.result.now is (subst (λ (v : JournalView). IsGood rule v.marks c.args.block.now) (sym c.self.view_is) good)
    (subst (λ (v : JournalView). IsKept rule t v) (sym c.self.view_is) kept) c.in-Ok.ensures.put)

pub returns-clause-stands : goal.returns-clause-stands
returns-clause-stands g c rule kept good =
    let t = g.D.Disk.told c.args.disk.now in
    let u = g.D.Disk.told c.put_block.new.disk in
    let k = c.self.inside in
    let keep : JournalView = record { digest = k.digest.items; marks = k.marks.items; place = k.place; spare = k.spare; adds = k.adds; failed = k.failed } in
    let is : c.deref.result.now ≡ body_of c.args.block.now ++ 0 ∷ [] = search rules in
    subst (λ (ms : List Mark). IfSome u (λ log. AtRest log × StandsTo rule k.digest.items (seen log) ms (k.place + (5 + 12 * length c.args.block.now)))) (sym c.append.ensures.marks)
    (add_stands rule t u keep c.args.block.now c.deref.result.now is (subst (λ (v : JournalView). IsGood rule v.marks c.args.block.now) (sym c.self.view_is) good)
    (subst (λ (v : JournalView). IsKept rule t v) (sym c.self.view_is) kept) c.in-Ok.ensures.put)
