use Rattle.std.proofs.Common.{◌≡◌, ℕ, List, IsUtf8, refl, sym, ap, subst, ◌∙◌}
use Rattle.std.specs.Str.Iter.{chars_rest}
use Rattle.std.proofs.lemmas.Str.{IsUtf8-past_char}
use Rattle.std.proofs.lemmas.Result.{err_from_is_err_and}
use Rattle.mill_io.specs.Takes.{Took}
use Rattle.mill_io.proofs.lemmas.Shown.{told_in_part, told_none, told_step, told_whole}
use Rattle.mill_io.proofs.names.put_name.Goals as goal

pub loop-c-init : goal.loop-c-init
loop-c-init g c =
    let whole : chars_rest c.into_iter-c-iterator.result ≡ c.args.name.now = ap chars_rest c.into_iter-c-iterator.ensures.into_iter_gives ∙ c.chars-c-items.ensures.rest in
    record {
      utf8 = subst IsUtf8 (sym whole) c.utf8.name;
      faults = refl;
      told = told_none (g.K.Sink.taken c.args.out.now) c.new-block.result.items (chars_rest c.into_iter-c-iterator.result) c.args.name.now c.new-block.ensures whole;
    }

pub loop-c-preserved : goal.loop-c-preserved
loop-c-preserved g c =
    let held = c.loop-c.invariant in
    let parts = c.in-Some.ensures.steps.0 in
    record {
      utf8 = IsUtf8-past_char _ _ c.in-Some.c held.utf8 parts;
      faults = c.in_ok-put_char.ensures.faults ∙ held.faults;
      told = told_step (g.K.Sink.taken c.args.out.now) (g.K.Sink.taken c.loop-c.out) (g.K.Sink.taken c.put_char.new.out) c.loop-c.block.items c.put_char.new.block.items
          _ _ c.args.name.now c.in-Some.c held.utf8 parts held.told c.in_ok-put_char.ensures.ok;
    }

pub returns-in_err-put_char-clause-taken : goal.returns-in_err-put_char-clause-taken
returns-in_err-put_char-clause-taken g c = let p = err_from_is_err_and c.from_residual.result c.from_residual.ensures.1 in rw (p.1)
    (told_in_part (g.K.Sink.taken c.args.out.now) (g.K.Sink.taken c.loop-c.out) (g.K.Sink.taken c.put_char.new.out) c.loop-c.block.items _ c.args.name.now
    c.loop-c.invariant.told c.in_err-put_char.ensures.err)

pub returns-clause-taken : goal.returns-clause-taken
returns-clause-taken g c =
    told_whole (g.K.Sink.taken c.args.out.now) (g.K.Sink.taken c.loop-c.out) (g.K.Sink.taken c.put_pieces.new.out) c.loop-c.block.items _ c.args.name.now c.put_pieces.result
    c.in-None.ensures.steps.0.0 c.loop-c.invariant.told
    (subst (λ (l : List ℕ). Took (g.K.Sink.taken c.loop-c.out) (g.K.Sink.taken c.put_pieces.new.out) l c.put_pieces.result) c.as_slice.ensures.value c.put_pieces.ensures.taken)
