use Rattle.std.proofs.Common.{◌≡◌, ◌+◌, length, ap, replicate, ◌∙◌, arith}
use Rattle.mill_base.proofs.lemmas.Lines.{length-line_by}
use Rattle.cloth_floats.proofs.Blocks.{long_in_block, long_if_all, none_behind}
use Rattle.cloth_floats.proofs.block.mark_long.Goals as goal

pub returns-then-limit-len-clause-line : goal.returns-then-limit-len-clause-line
returns-then-limit-len-clause-line c =
    let nexts = c.mark_same_next.new.self in
    let long : length nexts ≡ length c.args.line.now = ap length c.mark_same_next.ensures ∙ length-line_by (length c.args.line.now) _ in
    long_if_all c.args.line.now nexts c.filled.result c.args.limit c.all.result (omega (arith, c.len.ensures.some, c.len.ensures.len)) (omega (arith, c.len.ensures.len))
    c.mark_same_next.ensures c.all.ensures (c.filled.ensures ∙ ap (λ n. replicate n c.all.result) (c.len-then-limit-len.ensures.len ∙ long))

pub all_ahead-requires-clause-within : goal.all_ahead-requires-clause-within
all_ahead-requires-clause-within c = omega (arith, c.len.ensures.len)

pub any_behind-requires-clause-within : goal.any_behind-requires-clause-within
any_behind-requires-clause-within c =
    let windows : length c.all_ahead.new.found ≡ length c.mark_same_next.new.self = ap length c.all_ahead.ensures.line ∙ length-line_by (length c.mark_same_next.new.self) _ in
    omega (arith, c.len.ensures.len)

pub returns-then-not-all_ahead-clause-line : goal.returns-then-not-all_ahead-clause-line
returns-then-not-all_ahead-clause-line c =
    let long : length c.mark_same_next.new.self ≡ length c.args.line.now = ap length c.mark_same_next.ensures ∙ length-line_by (length c.args.line.now) _ in
    long_in_block c.args.line.now c.mark_same_next.new.self c.all_ahead.new.found c.all_ahead.new.found c.args.limit (omega (arith, c.len.ensures.len)) c.mark_same_next.ensures
    c.all_ahead.ensures.line (none_behind c.all_ahead.new.found (c.args.limit + 1) (c.all_ahead.ensures.none c.if-not-all_ahead.true))

pub returns-clause-line : goal.returns-clause-line
returns-clause-line c =
    let long : length c.mark_same_next.new.self ≡ length c.args.line.now = ap length c.mark_same_next.ensures ∙ length-line_by (length c.args.line.now) _ in
    long_in_block c.args.line.now c.mark_same_next.new.self c.all_ahead.new.found c.any_behind.new.found c.args.limit (omega (arith, c.len.ensures.len)) c.mark_same_next.ensures
    c.all_ahead.ensures.line c.any_behind.ensures
