use Rattle.session_file.proofs.Trials.{colours_there, numbers_fit, paper_fits, session_is, values_fit}
use Rattle.session_file.proofs.session.Session.trial.Goals as goal

pub make_session-requires-clause-values : goal.make_session-requires-clause-values
make_session-requires-clause-values c =
    let d = c.in_ok-draft in
    values_fit c.args.n d.draft d.ensures.draft d.ensures.cast d.ensures.tie

pub make_session-requires-clause-numbers : goal.make_session-requires-clause-numbers
make_session-requires-clause-numbers c =
    let d = c.in_ok-draft in
    numbers_fit c.args.n d.draft d.ensures.draft d.ensures.tie

pub make_session-requires-clause-sized : goal.make_session-requires-clause-sized
make_session-requires-clause-sized c =
    let d = c.in_ok-draft in
    paper_fits c.args.n d.draft d.ensures.draft c.in_ok-opening.opening c.in_ok-opening.ensures.paper

pub make_session-requires-clause-colours : goal.make_session-requires-clause-colours
make_session-requires-clause-colours c =
    let d = c.in_ok-draft in
    colours_there c.args.n d.draft d.ensures.draft c.in_ok-opening.opening c.in_ok-opening.ensures.colours

pub returns-clause-trial : goal.returns-clause-trial
returns-clause-trial c =
    let d = c.in_ok-draft in
    session_is c.args.n d.draft d.ensures.draft c.in_ok-opening.opening c.in_ok-session.session c.in_ok-opening.ensures.paper c.in_ok-session.ensures.session
