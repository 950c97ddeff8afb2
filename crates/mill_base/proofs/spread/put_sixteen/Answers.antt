use Rattle.std.proofs.Common.{◌≡◌, ◌+◌, ◌*◌, ◌%◌, ◌<◌, ◌≤◌, ◌==◌, cond, get_or, ap, ◌∙◌, ⊎_elim, arith}
use lib.Lanes.{put_chunk}
use Rattle.std.specs.Int.{bit_at}
use Rattle.std.proofs.lemmas.Bool.{cases_lt}
use Rattle.std.proofs.lemmas.Simd.{get_or-put_chunk_at, get_or-put_chunk_below, get_or-put_chunk_above}
use Rattle.mill_base.proofs.lemmas.WordBits.{bit_at_shr}
use Rattle.mill_base.proofs.spread.put_sixteen.Goals as goal

pub returns-clause-here : goal.returns-clause-here
returns-clause-here c k here =
    let at = 16 * c.args.group in
    let lanes = c.sixteen.result in
    let long = c.sixteen.ensures.len in
    let place : k ≡ at + k % 16 = omega arith in
    let bit : k % 16 + 16 * (c.args.group % 4) ≡ k % 64 = omega arith in
    ap (λ n. get_or (put_chunk at c.args.out.now lanes) n 0) place
    ∙ get_or-put_chunk_at at c.args.out.now lanes (k % 16) 0 (omega arith) (omega (arith, c.requires))
    ∙ c.sixteen.ensures.bytes (k % 16) (omega arith)
    ∙ ap (λ b. cond (b == 1) c.args.on c.args.off) (bit_at_shr c.args.word (16 * (c.args.group % 4)) (k % 16) ∙ ap (bit_at c.args.word) bit)

pub returns-clause-others : goal.returns-clause-others
returns-clause-others c k apart =
    let at = 16 * c.args.group in
    let long = c.sixteen.ensures.len in
    ⊎_elim
    (λ (below : k < at). get_or-put_chunk_below at c.args.out.now c.sixteen.result k 0 below)
    (λ (from : at ≤ k). get_or-put_chunk_above at c.args.out.now c.sixteen.result k 0 (omega arith))
    (cases_lt k at)
