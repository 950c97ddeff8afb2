-- Pieces of a list that a sink takes one after another.
use Rattle.std.proofs.Common.{◌≡◌, ℕ, ◌+◌, ◌<◌, List, [], ◌∷◌, ◌++◌, Bor, Option, length, map, take, drop, get_or, add-one, refl, sym, ap, subst, ◌∙◌, append-nil}
use Rattle.std.proofs.Math.Seq.{drop-cons}
use Rattle.std.proofs.lemmas.List.{map-append, take-append-drop, take_more}
use Rattle.std.proofs.lemmas.List.Folds.{concat-append}
use Rattle.std.specs.List.{concat}
use Rattle.mill_io.specs.Takes.{TookAll, TookPart}
use Rattle.mill_io.proofs.lemmas.Joined.{part_of_more, took_both_all, took_both_part}

module _ (pieces : List (Bor (List ℕ))) (i : ℕ) (before middle now : Option (List ℕ)) (d : Bor (List ℕ)) (below : i < length pieces)
    (first : TookAll before middle (concat (map (λ (piece : Bor (List ℕ)). piece.now) (take i pieces)))) where
  more : concat (map (λ (piece : Bor (List ℕ)). piece.now) (take (i + 1) pieces)) ≡ concat (map (λ (piece : Bor (List ℕ)). piece.now) (take i pieces)) ++ (get_or pieces i d).now
  more =
      ap (λ (ps : List (Bor (List ℕ))). concat (map (λ (piece : Bor (List ℕ)). piece.now) ps)) (take_more pieces i d below)
      ∙ ap concat (map-append (λ (piece : Bor (List ℕ)). piece.now) (take i pieces) (get_or pieces i d ∷ []))
      ∙ concat-append (map (λ (piece : Bor (List ℕ)). piece.now) (take i pieces)) ((get_or pieces i d).now ∷ [])
      ∙ ap (λ l. concat (map (λ (piece : Bor (List ℕ)). piece.now) (take i pieces)) ++ l) (append-nil (get_or pieces i d).now)

  whole : concat (map (λ (piece : Bor (List ℕ)). piece.now) pieces) ≡ concat (map (λ (piece : Bor (List ℕ)). piece.now) (take (i + 1) pieces)) ++ concat (map (λ (piece : Bor (List ℕ)). piece.now) (drop (i + 1) pieces))
  whole =
      ap (λ (ps : List (Bor (List ℕ))). concat (map (λ (piece : Bor (List ℕ)). piece.now) ps)) (sym (take-append-drop (i + 1) pieces))
      ∙ ap concat (map-append (λ (piece : Bor (List ℕ)). piece.now) (take (i + 1) pieces) (drop (i + 1) pieces))
      ∙ concat-append (map (λ (piece : Bor (List ℕ)). piece.now) (take (i + 1) pieces)) (map (λ (piece : Bor (List ℕ)). piece.now) (drop (i + 1) pieces))

  -- one more piece was put
  pub next_piece : TookAll middle now (get_or pieces i d).now → TookAll before now (concat (map (λ (piece : Bor (List ℕ)). piece.now) (take (i + 1) pieces)))
  next_piece then = subst (TookAll before now) (sym more) (took_both_all before middle now _ (get_or pieces i d).now first then)

  -- a prefix of the next piece was put
  pub all_pieces : TookPart middle now (get_or pieces i d).now → TookPart before now (concat (map (λ (piece : Bor (List ℕ)). piece.now) pieces))
  all_pieces then =
      subst (TookPart before now) (sym (whole ∙ ap (λ l. l ++ concat (map (λ (piece : Bor (List ℕ)). piece.now) (drop (i + 1) pieces))) more))
      (part_of_more before now _ _ (took_both_part before middle now _ (get_or pieces i d).now first then))
