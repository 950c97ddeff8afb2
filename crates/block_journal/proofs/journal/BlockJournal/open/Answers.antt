use Rattle.std.proofs.Common.{◌≡◌, ◌∙◌, Option, length, sym, subst, arith}
use Rattle.std.specs.Prelude.{IfSome}
use Rattle.journal_disk.specs.Disks.{Log, seen}
use Rattle.block_journal.proofs.Opening.{only_synced, rested, no_bytes, never_empty, refused_before, none_seen, begun_empty, begun_taken, begun_kept, outside}
use Rattle.block_journal.proofs.journal.BlockJournal.open.Goals as goal

pub begin-requires-clause-empty : goal.begin-requires-clause-empty
begin-requires-clause-empty g c =
    none_seen (g.D.Disk.told c.len.new.self) c.in_ok-len.len (subst (λ (w : Option Log). IfSome w (λ log. c.in_ok-len.len ≡ length (seen log))) (sym c.in_ok-len.ensures.told) c.in_ok-len.ensures.length)
    (omega (arith, c.if-len-eq0.true))

pub returns-then-len-eq0-clause-stands : goal.returns-then-len-eq0-clause-stands
returns-then-len-eq0-clause-stands g c = begun_kept (g.R.Rule.allows c.args.rule.now) (g.D.Disk.told c.begin.new.disk) c.begin.result c.begin.ensures.stands

pub returns-then-len-eq0-clause-taken : goal.returns-then-len-eq0-clause-taken
returns-then-len-eq0-clause-taken g c = begun_taken (g.R.Rule.taken c.args.rule.now) c.begin.result c.requires.fresh c.begin.ensures.marks

pub returns-then-len-eq0-clause-empty : goal.returns-then-len-eq0-clause-empty
returns-then-len-eq0-clause-empty g c = begun_empty (g.D.Disk.told c.args.disk.now) c.begin.result c.begin.ensures.marks

pub returns-then-len-eq0-clause-refused : goal.returns-then-len-eq0-clause-refused
returns-then-len-eq0-clause-refused g c = outside (g.R.Rule.allows c.args.rule.now) c.args.digest.now (g.D.Disk.told c.args.disk.now) c.begin.result c.begin.ensures.refused

pub returns-then-len-eq0-clause-told : goal.returns-then-len-eq0-clause-told
returns-then-len-eq0-clause-told g c =
    no_bytes (g.D.Disk.told c.args.disk.now) (g.D.Disk.told c.len.new.self) (c.in_ok-len.ensures.told ∙ c.in_ok-sync.ensures.told) (g.D.Disk.told c.begin.new.disk) c.in_ok-len.len
    (subst (λ (w : Option Log). IfSome w (λ log. c.in_ok-len.len ≡ length (seen log))) (sym c.in_ok-len.ensures.told) c.in_ok-len.ensures.length) (omega (arith, c.if-len-eq0.true)) c.begin.ensures.told

pub go_on-requires-clause-len : goal.go_on-requires-clause-len
go_on-requires-clause-len g c = subst (λ (w : Option Log). IfSome w (λ log. c.in_ok-len.len ≡ length (seen log))) (sym c.in_ok-len.ensures.told) c.in_ok-len.ensures.length

pub go_on-requires-clause-rest : goal.go_on-requires-clause-rest
go_on-requires-clause-rest g c = rested (g.D.Disk.told c.args.disk.now) (g.D.Disk.told c.sync.new.self) c.in_ok-sync.ensures.told (g.D.Disk.told c.len.new.self) c.in_ok-len.ensures.told

pub returns-clause-empty : goal.returns-clause-empty
returns-clause-empty g c =
    never_empty (g.D.Disk.told c.args.disk.now) (g.D.Disk.told c.sync.new.self) c.in_ok-sync.ensures.told c.in_ok-len.len c.in_ok-len.ensures.length (omega (arith, c.if-len-eq0.false)) c.go_on.result

pub returns-clause-refused : goal.returns-clause-refused
returns-clause-refused g c =
    refused_before (g.D.Disk.told c.args.disk.now) (g.D.Disk.told c.len.new.self) (c.in_ok-len.ensures.told ∙ c.in_ok-sync.ensures.told) (g.R.Rule.allows c.args.rule.now) c.args.digest.now c.go_on.result c.go_on.ensures.refused

pub returns-clause-told : goal.returns-clause-told
returns-clause-told g c =
    only_synced (g.D.Disk.told c.args.disk.now) (g.D.Disk.told c.len.new.self) (c.in_ok-len.ensures.told ∙ c.in_ok-sync.ensures.told) (g.D.Disk.told c.go_on.new.disk) c.go_on.ensures.told
