-- What the last sync of a block leaves, whatever it answers.
use Rattle.std.proofs.Common.{◌≡◌, ℕ, List, Option, Result, Ok, Err}
use Rattle.std.specs.Prelude.{OnOk}
use Rattle.journal_disk.specs.Disks.{Log, LeavesOnly, AtRest, seen}
use Rattle.journal_disk.specs.Told.{BothTold, after_sync}
use Rattle.journal_disk.specs.Gates.{Opened, ShutOrOpened}
use Rattle.journal_disk.proofs.lemmas.Tells.{chain, told_same, told_sync}
use Rattle.journal_disk.proofs.Steps.{Gated, Done, synced_gate, same_gate}

pub after_all : {T E : Type 0} (place : ℕ) (body : List ℕ) (t u v : Option Log) (result : Result T E) → BothTold t u (Gated place body) → v ≡ after_sync u result → BothTold t v (λ old new. LeavesOnly old new (ShutOrOpened (seen old) place body))
after_all place body t u v (Ok done) gated is = chain t u v gated (told_sync u v is) (λ a b d was new. let end : Done place body a d = synced_gate place body a b d was new in end.leaves)
after_all place body t u v (Err e) gated is = chain t u v gated (told_same u v is) (λ a b d was new. same_gate place body a b d was new)

pub at_end : {T E : Type 0} (place : ℕ) (body : List ℕ) (t u v : Option Log) (result : Result T E) → BothTold t u (Gated place body) → v ≡ after_sync u result → OnOk result (BothTold t v (λ old new. AtRest new × Opened (seen old) place body (seen new)))
at_end place body t u v (Ok done) gated is = chain t u v gated (told_sync u v is) (λ a b d was new. let end : Done place body a d = synced_gate place body a b d was new in (end.rest, end.sees))
at_end place body t u v (Err e) gated is = tt
