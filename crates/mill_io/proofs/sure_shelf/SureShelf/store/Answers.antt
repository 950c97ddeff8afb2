use Rattle.std.proofs.Common.{ap, arith, inl, inr, length, rules}
use Rattle.mill_io.specs.Sure.{SureFiles}
use Rattle.mill_io.proofs.Placing.{all_used, content_missing, content_there, placed_behind, placed_over, room_nowhere, room_there}
use Rattle.mill_io.proofs.sure_shelf.SureShelf.store.Goals.{then-self-len-via-then-self-len, then-self-len-via-else-self-len+then-name-gt-NAME_ROOM}
use Rattle.mill_io.proofs.sure_shelf.SureShelf.store.Goals as goal

pub returns-in-Some-clause-ok : goal.returns-in-Some-clause-ok
returns-in-Some-clause-ok c =
    placed_over c.self.inside.places.items c.deref.result.now c.self.inside.used c.args.name.now c.args.content.now c.args.self.now.files
    (ap (λ (s : SureFiles). s.files) c.self.view_is) c.deref.ensures.value c.in-Some.at c.index_mut.result.now c.set_content.new.self
    c.in-Some.ensures c.index_mut.ensures.value c.set_content.ensures

pub returns-in-Some-clause-fits : goal.returns-in-Some-clause-fits
returns-in-Some-clause-fits c =
    room_there c.args.self.now c.args.name.now c.args.content.now (search rules)
    (content_there c.self.inside.places.items c.deref.result.now c.self.inside.used c.args.name.now c.args.content.now c.args.self.now.files
    (ap (λ (s : SureFiles). s.files) c.self.view_is) c.deref.ensures.value c.in-Some.at c.index_mut.result.now c.in-Some.ensures)

pub returns-then-self-len-clause-fits : goal.returns-then-self-len-clause-fits
returns-then-self-len-clause-fits c =
    room_nowhere c.args.self.now c.args.name.now c.args.content.now
    (content_missing c.self.inside.places.items c.deref.result.now c.self.inside.used c.args.name.now c.args.content.now c.args.self.now.files
    (ap (λ (s : SureFiles). s.files) c.self.view_is) c.deref.ensures.value c.in_default.ensures)
    (elim c.then-self-len.branch [
      | then-self-len-via-then-self-len w ↦ inl (omega (
        arith,
        ap (λ (s : SureFiles). s.places) c.self.view_is,
        all_used c.self.inside.places.items c.deref.result.now c.self.inside.used c.args.name.now c.args.content.now c.args.self.now.files
            (ap (λ (s : SureFiles). s.files) c.self.view_is) c.deref.ensures.value (omega (arith, w.if-self-len.true, c.len.ensures, c.deref.ensures.len, ap length c.deref.ensures.value)),
      ))
      | then-self-len-via-else-self-len+then-name-gt-NAME_ROOM w ↦ inr (search rules)
    ])

pub returns-clause-ok : goal.returns-clause-ok
returns-clause-ok c =
    placed_behind c.self.inside.places.items c.deref.result.now c.self.inside.used c.args.name.now c.args.content.now c.args.self.now.files
    (ap (λ (s : SureFiles). s.files) c.self.view_is) c.deref.ensures.value c.fill.new.self c.index_mut-2.result.now.room
    c.in_default.ensures (search rules) c.fill.ensures
