use Rattle.open_desk.specs.Histories.{entry_at, is_of, receipt_at}
use Rattle.open_desk.proofs.Picked.{Compared}
use Rattle.open_desk.proofs.comparing.first_of_caller.Given as goal

abbrev pub invariant-loop-place : goal.invariant-loop-place
invariant-loop-place l = Compared (λ place. is_of l.caller (entry_at l.entries place)) (receipt_at l.acts l.entries) l.receipts l.place l.k
