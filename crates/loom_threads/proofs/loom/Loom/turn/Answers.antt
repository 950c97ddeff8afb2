use Rattle.std.proofs.Common.{◌∙◌, ap, sym, arith}
use Rattle.card_image.specs.Sets.{design_by}
use Rattle.shed_publish.specs.Versions.{version_of}
use Rattle.loom_threads.specs.Looms.{LoomValue, list_of}
use Rattle.loom_threads.proofs.Turns.{cards_fit, newest_one, wove_one}
use Rattle.loom_threads.proofs.lemmas.Parts.{wove_none}
use Rattle.loom_threads.proofs.loom.Loom.turn.Goals as goal

pub returns-in_default-clause-wove : goal.returns-in_default-clause-wove
returns-in_default-clause-wove g c =
    let e = c.in_default.ensures in
    wove_none c.args.shift c.args.self.now c.begin.new.self e.same e.later e.knows e.none.1 e.no_fewer.1

pub weave_repeat-requires-clause-cards : goal.weave_repeat-requires-clause-cards
weave_repeat-requires-clause-cards g c =
    let e = c.in-Some.ensures in
    let t = c.requires.told in
    cards_fit c.args.self.now (list_of c.begin.new.self) (version_of c.in-Some.newest) t (e.told t.told t.knows) e.some.1 e.some.0
    ∙ sym (ap (λ (l : LoomValue). design_by l.machine.casting l.picks) e.same)

pub returns-clause-wove : goal.returns-clause-wove
returns-clause-wove g c =
    let e = c.in-Some.ensures in
    wove_one c.args.shift c.args.self.now c.begin.new.self c.weave_repeat.new.self (version_of c.in-Some.newest) e.same c.weave_repeat.ensures c.requires.spare e.later e.knows e.told e.some.1 e.some.0
    e.read.0 e.read.1

pub returns-clause-newest : goal.returns-clause-newest
returns-clause-newest g c _ =
    let e = c.in-Some.ensures in
    newest_one c.args.shift c.begin.new.self c.weave_repeat.new.self (version_of c.in-Some.newest) c.weave_repeat.ensures e.some.1 e.some.0
