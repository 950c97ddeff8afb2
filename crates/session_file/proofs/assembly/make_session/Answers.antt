use Rattle.session_file.proofs.Fitting.{fits_session}
use Rattle.session_file.proofs.assembly.make_session.Goals as goal

pub returns-clause-fits : goal.returns-clause-fits
returns-clause-fits c =
    fits_session c.args.draft c.args.opening c.in_ok-session.session c.in_ok-session.ensures c.requires.values c.requires.numbers c.requires.sized c.requires.colours
