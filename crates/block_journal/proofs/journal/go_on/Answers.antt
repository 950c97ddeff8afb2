use Rattle.std.proofs.Common.{◌≡◌, ℕ, List, take, subst, rules}
use Rattle.std.specs.Prelude.{IfSome}
use Rattle.journal_disk.specs.Disks.{seen}
use Rattle.block_journal.proofs.Opening.{opened_stands, opened_refused}
use Rattle.block_journal.proofs.journal.go_on.Goals as goal

pub returns-clause-stands : goal.returns-clause-stands
returns-clause-stands g c =
    let same : c.in_ok-bytes.bytes.items ≡ c.deref.result.now = search rules in
    let read = subst (λ (l : List ℕ). IfSome (g.D.Disk.told c.args.disk.now) (λ log. l ≡ take 2097152 (seen log))) same c.in_ok-bytes.ensures.bytes in
    opened_stands (g.R.Rule.allows c.args.rule.now) (g.R.Rule.most c.args.rule.now) c.requires.within c.requires.few (g.D.Disk.told c.args.disk.now) (g.D.Disk.told c.read_front.new.disk)
    c.args.digest.now c.deref.result.now c.requires.digest c.in_ok-bytes.ensures.told read c.requires.rest c.of_bytes.result c.of_bytes.ensures.stands c.of_bytes.ensures.digest

pub returns-clause-refused : goal.returns-clause-refused
returns-clause-refused g c =
    let same : c.in_ok-bytes.bytes.items ≡ c.deref.result.now = search rules in
    let read = subst (λ (l : List ℕ). IfSome (g.D.Disk.told c.args.disk.now) (λ log. l ≡ take 2097152 (seen log))) same c.in_ok-bytes.ensures.bytes in
    opened_refused (g.R.Rule.allows c.args.rule.now) (g.R.Rule.most c.args.rule.now) c.requires.within c.requires.few (g.D.Disk.told c.args.disk.now) (g.D.Disk.told c.read_front.new.disk)
    c.args.digest.now c.deref.result.now c.requires.digest c.in_ok-bytes.ensures.told read c.of_bytes.result c.of_bytes.ensures.refused c.args.len c.requires.len c.requires.some
