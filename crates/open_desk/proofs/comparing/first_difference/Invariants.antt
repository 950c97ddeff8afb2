use Rattle.open_desk.specs.Differences.{AllAgree}
use Rattle.open_desk.proofs.comparing.first_difference.Given as goal

abbrev pub invariant-loop-caller : goal.invariant-loop-caller
invariant-loop-caller l = AllAgree l.caller l.acts l.entries l.lists
