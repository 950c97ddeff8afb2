use Rattle.std.proofs.Common.{◌+◌, ℕ, List, [], ◌∷◌, refl, sym, ap, subst, ◌∙◌, arith}
use Rattle.std.specs.Prelude.{slice_index}
use Rattle.std.proofs.lemmas.List.{get_or-set_same, get_or-set_other}
use Rattle.shift_run.specs.inner.Slots.{AddsSlots, Slot, slots_past}
use Rattle.shift_run.proofs.Plain.{adds_none, adds_then, past_more, past_none}
use Rattle.shift_run.proofs.Counting.{count_at}
use Rattle.shift_run.proofs.Working.{breaks_now, breaks_then, goes_none, goes_then}
use Rattle.shift_run.proofs.foreman.do_rest.Goals as goal

pub rest-init : goal.rest-init
rest-init g c =
    let n = c.index-from.result.now in
    let es = c.args.desk.now.core.entries in
    record {
      goes = goes_none c.args.task.now.session.now c.args.task.now.shift c.args.desk.now c.args.done.now.items c.requires.works;
      place = sym (count_at c.args.done.now.items c.args.painter n (omega (arith, c.requires.works.painters, c.requires.painter)) c.index-from.ensures);
      others = λ other h. refl;
      slots = subst (λ (s : List Slot). AddsSlots s es es) (sym (past_none c.args.task.now.shift c.args.painter n)) (adds_none es);
    }

pub returns-in_default-clause-breaks : goal.returns-in_default-clause-breaks
returns-in_default-clause-breaks g c =
    breaks_then c.args.task.now.session.now c.args.task.now.shift c.args.desk.now c.rest.desk c.rest.desk c.args.done.now.items c.rest.done.items
    c.rest.invariant.goes (breaks_now c.args.task.now.session.now c.args.task.now.shift c.rest.desk c.rest.done.items c.rest.invariant.goes.can)

pub returns-in_default-do_next-clause-breaks : goal.returns-in_default-do_next-clause-breaks
returns-in_default-do_next-clause-breaks g c =
    breaks_then c.args.task.now.session.now c.args.task.now.shift c.args.desk.now c.rest.desk c.do_next.new.desk c.args.done.now.items c.rest.done.items
    c.rest.invariant.goes c.in_default-do_next.ensures.breaks

pub rest-preserved : goal.rest-preserved
rest-preserved g c =
    let k = c.args.task.now.shift in
    let p = c.args.painter in
    let n = c.index-from.result.now in
    let done = c.rest.done.items in
    let place = c.rest.place in
    let i = c.rest.invariant in
    let did = c.in-Ok-do_next.ensures in
    let slot : ℕ → List Slot = λ number. record { shift = k; painter = p; number = number } ∷ [] in
    let a = c.args.desk.now.core.entries in
    let b = c.rest.desk.core.entries in
    let d = c.do_next.new.desk.core.entries in
    let one : AddsSlots (slot (place + 1)) b d = subst (λ (m : ℕ). AddsSlots (slot (m + 1)) b d) i.place did.slot in
    record {
      goes = goes_then c.args.task.now.session.now k c.args.desk.now c.rest.desk c.do_next.new.desk c.args.done.now.items done c.do_next.new.done.items i.goes did.works;
      place = ap (λ (l : List ℕ). slice_index l p) did.done ∙ get_or-set_same done p (slice_index done p + 1) 0 (omega (arith, i.goes.can.painters, c.requires.painter)) ∙ ap (λ m. m + 1) i.place;
      others = λ other h. ap (λ (l : List ℕ). slice_index l other) did.done ∙ get_or-set_other done p other (slice_index done p + 1) 0 h ∙ i.others other h;
      slots = subst (λ (s : List Slot). AddsSlots s a d) (sym (past_more k p n place (omega (arith, c.rest.auto.place))))
          (adds_then (slots_past k p n place) (slot (place + 1)) a b d i.slots one);
    }
