use Rattle.std.proofs.Common.{false, get_or, refl, ap, subst, ◌∙◌, arith}
use Rattle.std.proofs.lemmas.Bool.{both_ways}
use Rattle.studio_core.specs.Cores.{CoreValue}
use Rattle.studio_core.specs.Takes.{IsBindTaken, IsCheckTaken}
use Rattle.studio_core.proofs.Taken.{bind_taken, check_taken}
use Rattle.studio_core.proofs.Walked.{next_marked}
use Rattle.studio_core.proofs.tile_core.Core.take.Goals as goal

pub returns-in-Some-clause-taken : goal.returns-in-Some-clause-taken
returns-in-Some-clause-taken g c =
    subst (λ (core : CoreValue). IsBindTaken core c.args.from c.in_ok-job.job) c.self.view_is
    (bind_taken _ c.args.from c.in-Some.tile c.in_ok-job.job c.in-Some.ensures.some c.in_ok-job.ensures.parts c.in_ok-job.ensures.tile c.in_ok-job.ensures.lines)

pub returns-in-Some-clause-free : goal.returns-in-Some-clause-free
returns-in-Some-clause-free g c = λ none.
    let tile = c.in-Some.tile in
    let marked = next_marked c.self.inside.bind c.args.from tile c.in-Some.ensures.some in
    absurd (both_ways (get_or c.self.inside.bind tile false) (ap (λ (core : CoreValue). get_or core.bind tile false) c.self.view_is ∙ none tile (omega arith)) marked.1)

pub returns-clause-taken : goal.returns-clause-taken
returns-clause-taken g c =
    subst (λ (core : CoreValue). IsCheckTaken core c.args.from c.in_ok-job-2.job) c.self.view_is
    (check_taken _ c.args.from c.in-Some-next.tile c.in_ok-job-2.job (c.in_default.ensures.none.0 refl) c.in-Some-next.ensures.some c.in_ok-job-2.ensures.parts c.in_ok-job-2.ensures.tile c.in_ok-job-2.ensures.lines)
