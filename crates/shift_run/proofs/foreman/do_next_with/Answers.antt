use Rattle.std.proofs.Common.{◌≡◌, refl, sym, subst, Bool, true, false, ℕ, arith}
use Rattle.std.specs.Prelude.{slice_index}
use Rattle.shift_run.specs.inner.Foreman.{IsPrepared, act_at}
use Rattle.shift_run.proofs.Counting.{count_at}
use Rattle.shift_run.proofs.Doing.{DidNext}
use Rattle.shift_run.proofs.Working.{breaks_more, goes_more, has_room}
use Rattle.shift_run.proofs.foreman.do_next_with.Goals as goal

not_false : (b : Bool) → (b ≡ false → false ≡ true) → b ≡ true
not_false true h = refl
not_false false h = h refl

pub act-requires-2-clause-spare : goal.act-requires-2-clause-spare
act-requires-2-clause-spare g c = has_room c.args.task.now.session.now c.args.task.now.shift c.args.painter c.args.desk.now c.args.done.now.items c.requires.works c.requires.left

pub returns-in_default-clause-breaks : goal.returns-in_default-clause-breaks
returns-in_default-clause-breaks g c =
    let session = c.args.task.now.session.now in
    let n = c.index-before.result.now in
    let done = c.args.done.now.items in
    let p = c.args.painter in
    let is : n ≡ slice_index done p = count_at done p n (omega (arith, c.requires.works.painters, c.requires.painter)) c.index-before.ensures in
    let prepared : IsPrepared session (act_at session c.args.task.now.shift p n) c.args.prepared.now =
    subst (λ (m : ℕ). IsPrepared session (act_at session c.args.task.now.shift p m) c.args.prepared.now) (sym is) c.requires.prepared in
    breaks_more session c.args.task.now.shift p n c.args.prepared.now c.args.desk.now c.act-2.new.self done c.requires.works c.requires.painter is (omega (arith, is, c.requires.left))
    prepared (not_false _ c.in_default.ensures.sure) c.in_default.ensures.desk c.in_default.ensures.left

pub returns-clause-works : goal.returns-clause-works
returns-clause-works g c =
    let session = c.args.task.now.session.now in
    let n = c.index-before.result.now in
    let done = c.args.done.now.items in
    let p = c.args.painter in
    let is : n ≡ slice_index done p = count_at done p n (omega (arith, c.requires.works.painters, c.requires.painter)) c.index-before.ensures in
    let prepared : IsPrepared session (act_at session c.args.task.now.shift p n) c.args.prepared.now =
    subst (λ (m : ℕ). IsPrepared session (act_at session c.args.task.now.shift p m) c.args.prepared.now) (sym is) c.requires.prepared in
    let a = c.in-Ok.ensures in
    let did : DidNext session c.args.task.now.shift p n c.args.prepared.now c.in-Ok.reply c.args.desk.now c.act-2.new.self = record {
      prepared = prepared;
      design = c.requires.works.design;
      entries = a.entries;
      kept = a.kept.0;
      goes = a.at;
    } in
    goes_more session c.args.task.now.shift p n c.args.prepared.now c.in-Ok.reply c.args.desk.now c.act-2.new.self done c.requires.works c.requires.painter is (omega (arith, is, c.requires.left))
    did a.reply a.newest a.spare a.list a.ready
