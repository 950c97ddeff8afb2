-- One move of a checker.
use Rattle.std.specs.Prelude.{◌≡◌, ℕ, ◌<◌, false, List, length}
use Rattle.session_file.specs.declared.session.Session.{Session}
use Rattle.audit_model.specs.Audits.{Begins}
use Rattle.audit_model.specs.States.{ActsDone, Can, Move, WovenBelow, go, line, more_lines, stated_repeats, woven_of}
use Rattle.audit_report.specs.Checkers.{Keeps, coming_of, state_of}
use Rattle.audit_report.specs.declared.checker.Checker.{Checker}

-- the checker went on by a move whose first line begins with the piece
pub record Goes (session : Session) (old : Checker) (piece : List ℕ) (new : Checker) : Type 0 where
  pub move : Move
  pub can : Can session (state_of old) move
  pub first : Begins piece (line session (state_of old) move)
  pub state : state_of new ≡ go session (state_of old) move
  pub coming : coming_of new ≡ more_lines move
  pub keeps : Keeps session new

-- all acts of the shift are done, the looms below have woven, and this loom has not
pub record IsTurn (session : Session) (checker : Checker) (loom : ℕ) : Type 0 where
  pub going : checker.ended ≡ false
  pub acts : ActsDone session (state_of checker)
  pub below : WovenBelow session (state_of checker) loom
  pub there : loom < session.looms
  pub left : length (woven_of (state_of checker) loom) < stated_repeats session (state_of checker) loom
