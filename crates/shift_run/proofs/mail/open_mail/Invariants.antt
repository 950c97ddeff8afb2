use Rattle.std.proofs.Common.{◌≡◌, ◌≤◌, length}
use Rattle.crossbeam_channel.specs.Claims.{IsSeatAt}
use Rattle.crossbeam_channel.specs.Ends.{sends_on, receives_on}
use Rattle.shift_run.proofs.mail.open_mail.Given as goal

abbrev pub invariant-painters : goal.invariant-painters
invariant-painters l = IsSeatAt (sends_on l.to) l.pass × (receives_on l.from ≡ sends_on l.to) × (length l.ends.items ≤ l.painter)
