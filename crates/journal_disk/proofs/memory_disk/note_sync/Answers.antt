use Rattle.std.proofs.Common.{sym, ◌∙◌, ap, List}
use Rattle.journal_disk.specs.declared.call.Call.{Call}
use Rattle.journal_disk.specs.declared.call.Call.TheVariants.{Sync}
use Rattle.journal_disk.specs.Disks.{State, Log, seen}
use Rattle.journal_disk.proofs.lemmas.Logs.{state-more}
use Rattle.journal_disk.proofs.memory_disk.note_sync.Goals as goal

pub returns-clause-held : goal.returns-clause-held
returns-clause-held c =
    let log : Log = record { start = c.args.start.now; calls = c.args.calls.now.items } in
    c.requires.held ∙ sym (ap (λ (s : State). s.seen) (state-more log Sync)) ∙ sym (ap (λ (cs : List Call). seen (record { start = c.args.start.now; calls = cs })) c.in_ok-push.ensures.items)
