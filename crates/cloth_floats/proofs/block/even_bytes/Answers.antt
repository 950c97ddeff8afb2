use Rattle.std.proofs.Common.{◌≡◌, ◌≢◌, ◌-◌, ◌*◌, length, get_or, drop, ap, ◌∙◌, ⊎_elim, arith}
use Rattle.std.proofs.lemmas.Bool.{cases_eq}
use Rattle.std.proofs.lemmas.List.{get_or-take, get_or-drop}
use Rattle.cloth_floats.proofs.Evens.{byte_told, set_left, set_right}
use Rattle.cloth_floats.proofs.block.even_bytes.Goals as goal

pub loop-index-preserved : goal.loop-index-preserved
loop-index-preserved c q b within low even =
    let words = c.args.words.now in
    let inner = length words - 1 in
    ⊎_elim
    (λ (here : q ≡ c.loop-index.index).
    set_right c.loop-index.found c.eights-found.result (8 * b)
    (byte_told words q b _ _ c.same_as_next.result c.eights-found.result low
    (rw here (get_or-take inner words c.loop-index.index 0 (omega arith)))
    (rw here (get_or-take inner (drop 1 words) c.loop-index.index 0 (omega arith) ∙ get_or-drop 1 words c.loop-index.index 0 ∙ ap (λ p. get_or words p 0) (omega arith)))
    c.same_as_next.ensures.inner c.same_as_next.ensures.last c.eights-found.ensures even))
    (λ (before : q ≢ c.loop-index.index).
    set_left c.loop-index.found c.eights-found.result (8 * b) (c.loop-index.invariant q b (omega arith) low even))
    (cases_eq q c.loop-index.index)

pub returns : goal.returns
returns c q b within low even = c.loop-index.invariant q b (omega arith) low even
