use Rattle.std.proofs.Common.{◌≡◌, ◌∙◌, ◌+◌, ◌-◌, ◌<◌, List, [], ◌∷◌, length, length-append, length-take, refl, ap, sym, subst, arith}
use Rattle.std.specs.Prelude.{All, is_some}
use Rattle.std.specs.Arc.{arc_value}
use Rattle.std.specs.Vec.{vec_len}
use Rattle.std.proofs.lemmas.List.Elements.{All-append, All-take}
use Rattle.mill_base.proofs.lemmas.Lines.{length-line_by}
use Rattle.draft_model.specs.Cloths.{ClothCells}
use Rattle.card_image.specs.Sets.{CardDesign, CardsValue}
use Rattle.version_journal.specs.declared.run_log.Repeat.{Repeat}
use Rattle.loom_threads.specs.Lifts.{cloth_from}
use Rattle.loom_threads.specs.Woven.{repeat_of}
use Rattle.loom_threads.specs.inner.Lifters.{LifterValue}
use Rattle.loom_threads.specs.inner.Weavers.{HasRows, HasSize, IsOfCloth, KeepsLast, WeaverValue}
use Rattle.loom_threads.specs.inner.WeaverFields.{IsWeaver, ends_of, kept_cards}
use Rattle.loom_threads.proofs.Repeats.{all_one, keeps_new, ready_less, room_where_shown, rows_fit}
use Rattle.loom_threads.proofs.weaver.Weaver.weave.Goals as goal

pub weave_cloth-repeat-requires-clause-other : goal.weave_cloth-repeat-requires-clause-other
weave_cloth-repeat-requires-clause-other c last is =
    let w = c.self.inside in
    let spare : 0 < w.spare = subst (λ (v : WeaverValue). 0 < v.spare) (sym c.self.view_is) c.requires.spare in
    let shown : is_some c.pop-room.result ≡ w.shown =
    room_where_shown w.shown w.spare (length w.ready.items) (is_some c.pop-room.result) spare c.self.invariant.ready
    (λ some. let h = c.pop-room.ensures.variant.0 some in omega (arith, w.ready.ok.0)) (λ one. c.pop-room.ensures.variant.1 (omega (arith, w.ready.ok.0))) in
    subst (λ shown. IsOfCloth shown (cloth_from w.lifter.machine w.lifter.face c.deref-set.result.now) last.now) (sym shown)
    (c.last_of_equal-last.ensures last is w.lifter.machine w.lifter.face w.shown
    (subst (λ (rs : List Repeat). KeepsLast w.lifter.machine w.lifter.face w.shown (kept_cards w) rs) (sym c.deref.ensures.value) c.self.invariant.last))

pub invariant_of-self : goal.invariant_of-self
invariant_of-self c =
    let w = c.self.inside in
    let spare : 0 < w.spare = subst (λ (v : WeaverValue). 0 < v.spare) (sym c.self.view_is) c.requires.spare in
    let shown : is_some c.pop-room.result ≡ w.shown =
    room_where_shown w.shown w.spare (length w.ready.items) (is_some c.pop-room.result) spare c.self.invariant.ready
    (λ some. let h = c.pop-room.ensures.variant.0 some in omega (arith, w.ready.ok.0)) (λ one. c.pop-room.ensures.variant.1 (omega (arith, w.ready.ok.0))) in
    let cards = c.deref-set.result.now in
    let cloth : ClothCells = cloth_from w.lifter.machine w.lifter.face cards in
    let repeat = c.weave_cloth-repeat.result in
    let of : IsOfCloth w.shown cloth repeat =
    subst (IsOfCloth w.shown cloth) (sym (c.weave_cloth-repeat.ensures.repeat ∙ ap (λ shown. repeat_of c.args.shift c.args.version shown cloth) shown)) (record { digest = refl; rows = refl }) in
    let picks : cards.design.picks ≡ w.picks =
    ap (λ (d : CardDesign). d.picks) (ap (λ (s : CardsValue). s.design) c.deref-set.ensures ∙ c.requires.cards) ∙ sym (ap (λ (v : WeaverValue). v.picks) c.self.view_is)
    in
    let size : HasSize (ends_of w) w.picks cloth = record { wide = refl; high = length-line_by cards.design.picks _ ∙ picks } in
    let one : length c.push_reserved.new.self.items ≡ length w.repeats.items + 1 = ap length c.push_reserved.ensures.items ∙ length-append w.repeats.items (repeat ∷ []) in
    let less : length c.pop-room.new.self.items ≡ length w.ready.items - 1 =
    omega (arith, ap length c.pop-room.ensures.rest, length-take (vec_len w.ready - 1) w.ready.items, w.ready.ok.0)
    in
    let after : IsWeaver (record {
      lifter = w.lifter;
      picks = w.picks;
      shown = w.shown;
      repeats = c.push_reserved.new.self;
      spare = w.spare - 1;
      ready = c.pop-room.new.self;
      kept = c.another_owner.result;
    }) =
    record {
      few = omega (arith, one, spare, c.self.invariant.few);
      room = omega (arith, one, spare, c.self.invariant.room, c.push_reserved.ensures.capacity);
      ready = ready_less w.shown w.spare (length w.ready.items) (length c.pop-room.new.self.items) c.self.invariant.ready less;
      ready_room = λ e. omega (arith, one, spare, c.self.invariant.ready_room e, c.pop-room.ensures.capacity);
      sizes = subst (All (HasSize (ends_of w) w.picks)) (sym c.pop-room.ensures.rest) (All-take (HasSize (ends_of w) w.picks) _ w.ready.items c.self.invariant.sizes);
      rows = subst (All (HasRows (ends_of w) w.picks w.shown)) (sym c.push_reserved.ensures.items)
          (All-append (HasRows (ends_of w) w.picks w.shown) w.repeats.items (repeat ∷ []) c.self.invariant.rows
          (all_one (HasRows (ends_of w) w.picks w.shown) repeat (rows_fit (ends_of w) w.picks w.shown cloth repeat of size)));
      last = subst (λ (rs : List Repeat). KeepsLast w.lifter.machine w.lifter.face w.shown (kept_cards (record w { kept = c.another_owner.result })) rs) (sym c.push_reserved.ensures.items)
          (keeps_new (λ owner. arc_value owner) w.lifter.machine w.lifter.face w.shown c.another_owner.result cards w.repeats.items repeat
          (λ owner e. c.another_owner.ensures owner e ∙ sym c.deref-set.ensures) of);
    }
    in
    subst (λ (l : LifterValue). IsWeaver (record {
      lifter = l;
      picks = w.picks;
      shown = w.shown;
      repeats = c.push_reserved.new.self;
      spare = w.spare - 1;
      ready = c.pop-room.new.self;
      kept = c.another_owner.result;
    })) (sym c.weave_cloth-repeat.ensures.lifter) after
