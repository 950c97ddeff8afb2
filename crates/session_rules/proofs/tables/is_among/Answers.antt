use Rattle.std.proofs.Common.{◌≡◌, ℕ, ◌||◌, List, [], ◌∷◌, map, Bor, refl, ap, ◌∙◌}
use Rattle.std.specs.List.{list_any}
use Rattle.std.specs.Prelude.{bytes_eq}
use Rattle.session_rules.proofs.tables.is_among.Goals as goal

among : (key : List ℕ) (keys : List (Bor (List ℕ))) → list_any (λ (k : Bor (List ℕ)). bytes_eq k.now key) keys ≡ list_any (λ k. bytes_eq k key) (map (λ known. known.now) keys)
among key [] = refl
among key (k ∷ keys) = ap (λ b. bytes_eq k.now key || b) (among key keys)

pub returns : goal.returns
returns c = c.contains.ensures.value ∙ among c.args.key.now c.args.keys.now
