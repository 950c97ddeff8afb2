use Rattle.std.proofs.Common.{◌≡◌, sym, ◌∙◌, ap, List, [], ◌∷◌, ◌++◌, ℕ, take, rules}
use Rattle.journal_disk.specs.declared.call.Written.{Written}
use Rattle.journal_disk.specs.declared.call.Call.{Call}
use Rattle.journal_disk.specs.declared.call.Call.TheVariants.{Write}
use Rattle.journal_disk.specs.Disks.{State, Log, seen, put_over}
use Rattle.journal_disk.proofs.lemmas.Logs.{state-more}
use Rattle.journal_disk.proofs.memory_disk.store.Goals as goal

pub returns-clause-held : goal.returns-clause-held
returns-clause-held c =
    let log : Log = record { start = c.args.start.now; calls = c.args.calls.now.items } in
    let w : Written = record { at = c.args.at; bytes = c.args.asked.now; put = c.args.put } in
    let same : c.deref.result.now ≡ c.args.bytes.now.items = search rules in
    let calls : c.push.new.self.items ≡ c.args.calls.now.items ++ Write w ∷ [] = search rules in
    c.in_ok-next.ensures ∙ ap (λ (xs : List ℕ). put_over xs c.args.at (take c.args.put c.args.asked.now)) (same ∙ c.requires.held)
    ∙ sym (ap (λ (s : State). s.seen) (state-more log (Write w))) ∙ sym (ap (λ (cs : List Call). seen (record { start = c.args.start.now; calls = cs })) calls)
