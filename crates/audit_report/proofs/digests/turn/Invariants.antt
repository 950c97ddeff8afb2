use Rattle.std.proofs.Common.{◌≡◌, ◌<◌, ◌≤◌, ℕ, [], not, map, length, get_or}
use Rattle.audit_report.proofs.digests.turn.Given as goal

abbrev pub invariant-loop-pick : goal.invariant-loop-pick
invariant-loop-pick l = record {
  ends : l.cloth.ends ≡ l.initial.cloth.ends;
  many : length l.cloth.rows ≡ length l.initial.cloth.rows;
  done : (i : ℕ) → i < l.pick → get_or l.cloth.rows i [] ≡ map not (get_or l.initial.cloth.rows i []);
  rest : (i : ℕ) → l.pick ≤ i → get_or l.cloth.rows i [] ≡ get_or l.initial.cloth.rows i [];
}
