-- What a piece adds.
use Rattle.std.proofs.Common.{◌≡◌, ℕ, ◌+◌, ◌-◌, ◌<◌, ◌≤◌, List, [], ◌++◌, length, length-append, length-drop, append_assoc, take, drop, min, ltb, cond, Some, None, sym, ap, refl, ◌∙◌, arith}
use Rattle.std.proofs.lemmas.List.{take-append-drop, length-take-le}
use Rattle.card_image.specs.Sets.{CardDesign}
use Rattle.card_image.specs.Places.{chain_length}
use Rattle.card_image.specs.Faults.{end_fault, chain_fault, head_fault, card_fault, excess_fault}
use Rattle.card_image.specs.Fed.{DecoderValue, WasFed}
use Rattle.card_image.specs.declared.fault.ChainFault.{ChainFault}
use Rattle.card_image.specs.declared.fault.ChainFault.TheVariants.{Excess, Truncated}
use Rattle.std.specs.Option.{option_or}
use Rattle.card_image.specs.Firsts.{first_of}
use Rattle.card_image.proofs.Firsts.{or_next, or_some}
use Rattle.std.proofs.lemmas.Bool.{lt-ltb}
use Rattle.card_image.proofs.Told.{once_no}
use Rattle.card_image.proofs.Cards.{fault_stays, too_long, told_cards}

piece_parts : (old piece : List ℕ) (n : ℕ) → (old ++ take n piece) ++ drop n piece ≡ old ++ piece
piece_parts old piece n = append_assoc old (take n piece) (drop n piece) ∙ ap (λ xs. old ++ xs) (take-append-drop n piece)

-- a fault of what was taken of the piece is that of the whole piece
pub fault_of_piece : (d : CardDesign) (old piece bytes : List ℕ) (n : ℕ) (f : ChainFault) → bytes ≡ old ++ take n piece → chain_fault d bytes ≡ Some f → Some f ≡ chain_fault d (old ++ piece)
fault_of_piece d old piece bytes n f are is =
    sym (ap (chain_fault d) (sym (piece_parts old piece n)) ∙ fault_stays d (old ++ take n piece) (drop n piece) f (ap (chain_fault d) (sym are) ∙ is))

-- a piece that goes on behind the whole length
pub excess_of_piece : (d : CardDesign) (old piece bytes : List ℕ) (n whole : ℕ) → bytes ≡ old ++ take n piece → chain_fault d bytes ≡ None → n ≡ min (length piece) (whole - length old)
    → n < length piece → whole ≡ chain_length d → length old ≤ chain_length d → Some (Excess whole) ≡ chain_fault d (old ++ piece)
excess_of_piece d old piece bytes n whole are none taken more is short =
    let parts = length-append old (take n piece) in
    let front = length-take-le n piece (omega (arith, more)) in
    let rest = length-drop n piece in
    ap (λ (k : ℕ). Some (Excess k)) is
    ∙ sym (ap (chain_fault d) (sym (piece_parts old piece n))
    ∙ too_long d (old ++ take n piece) (drop n piece) (ap (chain_fault d) (sym are) ∙ none) (omega (arith, parts, front, taken, more, is, short)) (omega (arith, rest, more)))

-- a fault that was told stays, and the decoder with it
pub kept_fault : (v : DecoderValue) (f : ChainFault) (fed piece : List ℕ) → v.fault ≡ Some f → WasFed v fed → chain_fault v.design (fed ++ piece) ≡ Some f
kept_fault v f fed piece is was = fault_stays v.design fed piece f (sym was.fault ∙ is)

pub still_fed : (v : DecoderValue) (f : ChainFault) (fed piece : List ℕ) → v.fault ≡ Some f → WasFed v fed → WasFed v (fed ++ piece)
still_fed v f fed piece is was = record {
  fault = is ∙ sym (kept_fault v f fed piece is was);
  bytes = λ none. let e : None ≡ Some f = sym none ∙ is in absurd (cc);
}

pub fed_more : (v w : DecoderValue) (fed piece : List ℕ) → v.fault ≡ None → w.design ≡ v.design → w.fault ≡ chain_fault v.design (v.bytes ++ piece)
    → (w.fault ≡ None → w.bytes ≡ v.bytes ++ piece) → WasFed v fed → WasFed w (fed ++ piece)
fed_more v w fed piece none same fault bytes was =
    let e : v.bytes ≡ fed = was.bytes none in record {
      fault = fault ∙ ap (λ xs. chain_fault v.design (xs ++ piece)) e ∙ ap (λ d. chain_fault d (fed ++ piece)) (sym same);
      bytes = λ clean. bytes clean ∙ ap (λ xs. xs ++ piece) e;
    }

no_head : (hooks picks : ℕ) → head_fault hooks picks [] ≡ None
unfolding head_fault
no_head hooks picks = refl

pub no_bytes : (d : CardDesign) → chain_fault d [] ≡ None
unfolding chain_fault
no_bytes d =
    or_next (head_fault d.hooks d.picks []) (option_or (first_of (card_fault d.hooks d.columns []) d.picks) (excess_fault d [])) (no_head d.hooks d.picks)
    ∙ or_next (first_of (card_fault d.hooks d.columns []) d.picks) (excess_fault d []) ((told_cards d.hooks d.columns d.picks).early [] (omega arith))
    ∙ once_no [] (chain_length d + 1) (Some (Excess (chain_length d))) (omega arith)

-- a decoder that has a fault ends with it
pub ended_fault : (v : DecoderValue) (f : ChainFault) (fed : List ℕ) → v.fault ≡ Some f → WasFed v fed → end_fault v.design fed ≡ Some f
unfolding end_fault
ended_fault v f fed is was =
    or_some (chain_fault v.design fed) (cond (ltb (length fed) (chain_length v.design)) (Some (Truncated (chain_length v.design) (length fed))) None) f (sym was.fault ∙ is)

pub ended_short : (v : DecoderValue) (fed : List ℕ) (whole found : ℕ) → v.fault ≡ None → WasFed v fed → whole ≡ chain_length v.design → found ≡ length v.bytes → found < whole
    → end_fault v.design fed ≡ Some (Truncated whole found)
unfolding end_fault
ended_short v fed whole found none was long have short =
    let same : found ≡ length fed = have ∙ ap length (was.bytes none) in
    or_next (chain_fault v.design fed) (cond (ltb (length fed) (chain_length v.design)) (Some (Truncated (chain_length v.design) (length fed))) None) (sym was.fault ∙ none)
    ∙ ap (λ b. cond b (Some (Truncated (chain_length v.design) (length fed))) None) (lt-ltb (length fed) (chain_length v.design) (omega (arith, same, long, short)))
    ∙ ap (λ (n : ℕ). Some (Truncated n (length fed))) (sym long) ∙ ap (λ (n : ℕ). Some (Truncated whole n)) (sym same)
