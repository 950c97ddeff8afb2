use Rattle.std.proofs.Common.{List, map, String, Global, ap, ◌∙◌}
use Rattle.session_rules.specs.Paths.{path_of}
use Rattle.session_rules.proofs.Others.{no_other-keys, others, others_go_on, others_stop}
use Rattle.session_rules.proofs.tables.no_other_keys.Goals as goal

pub loop-key-init : goal.loop-key-init
loop-key-init c =
    ap (λ (found : List (String Global)). others (map (λ known. known.now) c.args.keys.now) (path_of c.args.path.now) found)
    (c.into_iter-key-iterator.ensures.into_iter_gives ∙ c.keys-key-items.ensures.rest)
    ∙ no_other-keys (map (λ known. known.now) c.args.keys.now) (path_of c.args.path.now) c.args.table.now.entries

pub returns-then-not-is_among : goal.returns-then-not-is_among
unfolding path_of
returns-then-not-is_among c =
    others_stop (map (λ known. known.now) c.args.keys.now) (path_of c.args.path.now) c.loop-key.key-iterator c.next.new.self c.in-Some.key.now c.as_str-key.result.now c.is_among.result _
    c.in-Some.ensures.steps c.as_str-key.ensures.value c.is_among.ensures c.loop-key.invariant c.refusal.result c.if-not-is_among.true c.refusal.ensures

pub loop-key-preserved : goal.loop-key-preserved
loop-key-preserved c =
    others_go_on (map (λ known. known.now) c.args.keys.now) (path_of c.args.path.now) c.loop-key.key-iterator c.next.new.self c.in-Some.key.now c.as_str-key.result.now c.is_among.result _
    c.in-Some.ensures.steps c.as_str-key.ensures.value c.is_among.ensures c.loop-key.invariant c.if-not-is_among.false
