use Rattle.std.proofs.Common.{rules, ◌≡◌, List, ◌++◌, map, take, false, sym, ap, ◌∙◌}
use Rattle.cloth_floats.specs.declared.Run.{Run}
use Rattle.cloth_floats.specs.Floats.{is_over}
use Rattle.float_list.specs.declared.list.TheConstants.{MAX_LISTED}
use Rattle.float_list.specs.declared.long_float.LongFloat.{LongFloat}
use Rattle.float_list.proofs.Kept.{kept_all, one_fails}
use Rattle.float_list.proofs.lines.add_run.Goals as goal

pub returns-then-not-is_over-clause-listed : goal.returns-then-not-is_over-clause-listed
returns-then-not-is_over-clause-listed c =
    let on : Run → LongFloat = λ (run : Run). record { kind = c.args.limits.kind; line = c.args.line; run = run } in
    let fails : is_over c.args.limits.lifted c.args.limits.unlifted c.args.run ≡ false = search (rules, c.is_over.ensures, c.if-not-is_over.true) in
    kept_all MAX_LISTED c.args.listed.now.items c.requires.room
    ∙ ap (λ (runs : List Run). take MAX_LISTED (c.args.listed.now.items ++ map on runs))
    (sym (one_fails (is_over c.args.limits.lifted c.args.limits.unlifted) c.args.run fails))
