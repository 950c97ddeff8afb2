use Rattle.std.proofs.Common.{◌≡◌, ◌+◌, ◌<◌, ◌≤◌, ◌⊎◌, inl, inr, ℕ, length, sym, subst, ◌∙◌, add-one, arith}
use Rattle.std.specs.Prelude.{slice_index}
use Rattle.std.proofs.lemmas.Bool.{cases_lt}
use Rattle.shift_model.specs.Plans.{acts_of_painter, plan_of}
use Rattle.shift_run.specs.inner.Slots.{AddsSlots, left_slots, slots_past}
use Rattle.shift_run.proofs.Plain.{adds_then}
use Rattle.shift_run.proofs.Working.{breaks_then, goes_then}
use Rattle.shift_run.proofs.foreman.do_missing.Goals as goal

pub returns-in_default-clause-breaks : goal.returns-in_default-clause-breaks
returns-in_default-clause-breaks g c =
    breaks_then c.args.task.now.session.now c.args.task.now.shift c.args.desk.now c.painters.desk c.do_rest.new.desk c.args.done.now.items c.painters.done.items
    c.painters.invariant.goes c.in_default.ensures.breaks

pub painters-preserved : goal.painters-preserved
painters-preserved g c =
    let session = c.args.task.now.session.now in
    let k = c.args.task.now.shift in
    let plan = plan_of session k in
    let p = c.painters.painter in
    let first = c.args.done.now.items in
    let before = c.painters.done.items in
    let after = c.do_rest.new.done.items in
    let i = c.painters.invariant in
    let did = c.in-Ok.ensures in
    let a = c.args.desk.now.core.entries in
    let b = c.painters.desk.core.entries in
    let d = c.do_rest.new.desk.core.entries in
    let count = length (acts_of_painter plan p) in
    let same : slice_index before p ≡ slice_index first p = i.others p (omega arith) in
    let one : AddsSlots (slots_past k p (slice_index first p) count) b d = subst (λ (m : ℕ). AddsSlots (slots_past k p m count) b d) same did.slots in
    record {
      goes = goes_then session k c.args.desk.now c.painters.desk c.do_rest.new.desk first before after i.goes did.works;
      whole = λ q h. whole q h (cases_lt q p);
      others = λ q h. did.others q (λ (e : q ≡ p). omega arith) ∙ i.others q (omega arith);
      slots = subst (λ (n : ℕ). AddsSlots (left_slots k plan first n) a d) (sym (add-one p))
          (adds_then (left_slots k plan first p) (slots_past k p (slice_index first p) count) a b d i.slots one);
    } where
      whole : (q : ℕ) → q < c.painters.painter + 1 → (q < c.painters.painter) ⊎ (c.painters.painter ≤ q)
          → length (acts_of_painter (plan_of c.args.task.now.session.now c.args.task.now.shift) q) ≤ slice_index c.do_rest.new.done.items q
      whole q h (inl low) = omega (arith, c.painters.invariant.whole q low, c.in-Ok.ensures.works.more q)
      whole q h (inr high) =
          subst (λ (r : ℕ). length (acts_of_painter (plan_of c.args.task.now.session.now c.args.task.now.shift) r) ≤ slice_index c.do_rest.new.done.items r)
          (let e : c.painters.painter ≡ q = omega arith in e) c.in-Ok.ensures.whole
