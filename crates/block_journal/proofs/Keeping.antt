-- What an add leaves of a disk that may tell its log.
use Rattle.std.proofs.Common.{◌≡◌, ℕ, ◌+◌, ◌*◌, List, [], ◌∷◌, ◌++◌, length, Option, sym, subst}
use Rattle.std.specs.Prelude.{IfSome}
use Rattle.block_journal.specs.declared.mark.Mark.{Mark}
use Rattle.journal_disk.specs.Disks.{Log, LeavesOnly, AtRest, seen}
use Rattle.journal_disk.specs.Told.{BothTold}
use Rattle.journal_disk.specs.Gates.{ShutAt, Opened, ShutOrOpened}
use Rattle.block_journal.specs.Journals.{Rule, JournalView, IsGood, StandsTo, body_of}
use Rattle.block_journal.specs.Keeps.{IsKept, WithOrWithout, KeepsAll}
use Rattle.journal_disk.proofs.lemmas.Logs.{leaves_more}
use Rattle.journal_disk.proofs.lemmas.Tells.{since, now_told, if_told}
use Rattle.block_journal.proofs.Blocks.{shut_behind, with_or_without, stands_more, at_rest_only}

-- a disk that stands for a journal is ready for a block
pub ready : (rule : Rule) (t : Option Log) (keep : JournalView) → IsKept rule t keep → IfSome t (λ log. AtRest log × ShutAt (seen log) keep.place)
ready rule t keep kept = if_told t kept (λ a k. (k.0, shut_behind rule keep.digest (seen a) keep.marks keep.place k.1))

module _ (rule : Rule) (t u : Option Log) (keep : JournalView) (block : List Mark) (body : List ℕ) (is : body ≡ body_of block ++ 0 ∷ []) (good : IsGood rule keep.marks block) (kept : IsKept rule t keep) where
  pub add_crash : BothTold t u (λ old new. LeavesOnly old new (ShutOrOpened (seen old) keep.place body)) → BothTold t u (λ old new. LeavesOnly old new (WithOrWithout rule keep.digest keep.marks block))
  add_crash told = since t u {F = λ log. AtRest log × StandsTo rule keep.digest (seen log) keep.marks keep.place} {P = λ old new. LeavesOnly old new (ShutOrOpened (seen old) keep.place body)} kept told (λ a b k leaves.
      leaves_more a b (ShutOrOpened (seen a) keep.place body) (WithOrWithout rule keep.digest keep.marks block) leaves (λ c out. with_or_without rule keep.digest (seen a) keep.marks keep.place k.1 block body c is good out))

  pub add_stands : BothTold t u (λ old new. AtRest new × Opened (seen old) keep.place body (seen new)) → IfSome u (λ log. AtRest log × StandsTo rule keep.digest (seen log) (keep.marks ++ block) (keep.place + (5 + 12 * length block)))
  add_stands told =
      let next : BothTold t u (λ old new. AtRest new × StandsTo rule keep.digest (seen new) (keep.marks ++ block) (keep.place + (5 + 12 * length block))) =
      since t u {F = λ log. AtRest log × StandsTo rule keep.digest (seen log) keep.marks keep.place} {P = λ old new. AtRest new × Opened (seen old) keep.place body (seen new)} kept told (λ a b k put.
      (put.0, stands_more rule keep.digest (seen a) keep.marks keep.place k.1 block body (seen b) is good put.1)) in
      now_told t u next (λ a b k. k)

  pub add_keeps : BothTold t u (λ old new. AtRest new × Opened (seen old) keep.place body (seen new)) → KeepsAll rule u keep.digest (keep.marks ++ block)
  add_keeps told = if_told u {F = λ log. AtRest log × StandsTo rule keep.digest (seen log) (keep.marks ++ block) (keep.place + (5 + 12 * length block))} (add_stands told) (λ log k c left.
      (keep.place + (5 + 12 * length block), subst (λ (l : List ℕ). StandsTo rule keep.digest l (keep.marks ++ block) (keep.place + (5 + 12 * length block))) (sym (at_rest_only log k.0 c left)) k.1))
