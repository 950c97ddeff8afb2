-- A bound line, place by place.
use Rattle.std.proofs.Common.{◌≡◌, ◌<◌, ℕ, Bool, false, List, length, get_or, refl, sym, ap}
use Rattle.mill_base.proofs.lemmas.Lines.{length-line_by, get_or-line_by, line_is}
use Rattle.binder_marks.specs.Bound.{bound_at, bound_cell, bound_line}

pub length-bound_line : (raw long raise sink : List Bool) → length (bound_line raw long raise sink) ≡ length raw
unfolding bound_line
length-bound_line raw long raise sink = length-line_by (length raw) (bound_at raw long raise sink)

pub get_or-bound_line : (raw long raise sink : List Bool) (k : ℕ) (d : Bool) → k < length raw → get_or (bound_line raw long raise sink) k d ≡ bound_at raw long raise sink k
unfolding bound_line
get_or-bound_line raw long raise sink k d h = get_or-line_by (length raw) (bound_at raw long raise sink) k d h

pub unbound : (raw long raise sink : List Bool) → ((k : ℕ) → k < length raw → get_or long k false ≡ false) → bound_line raw long raise sink ≡ raw
unfolding bound_line
unbound raw long raise sink none = sym (
    line_is false raw (length raw) (bound_at raw long raise sink) refl
    (λ k h. sym (ap (λ b. bound_cell (get_or raw k false) b (get_or raise k false) (get_or sink k false)) (none k h)))
    )
