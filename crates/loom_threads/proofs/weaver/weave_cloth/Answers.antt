use Rattle.std.proofs.Common.{length, refl}
use Rattle.mill_base.proofs.lemmas.Lines.{length-line_by}
use Rattle.loom_threads.specs.Lifts.{cloth_from}
use Rattle.loom_threads.proofs.Repeats.{room_fits}
use Rattle.loom_threads.proofs.weaver.weave_cloth.Goals as goal

pub copied-requires-clause-size : goal.copied-requires-clause-size
copied-requires-clause-size c =
    let lifter = c.args.lifter.now in
    let cards = c.args.cards.now in
    room_fits (length lifter.machine.tie.ends) cards.design.picks c.args.room (cloth_from lifter.machine lifter.face cards) c.in-Some.other.now c.requires.room
    (record { wide = refl; high = length-line_by cards.design.picks _ })
    (c.requires.other c.in-Some.other c.in-Some.is)

pub lift-requires-clause-ends : goal.lift-requires-clause-ends
lift-requires-clause-ends c = (c.requires.room c.in-Some-room.cloth c.in-Some-room.is).wide
