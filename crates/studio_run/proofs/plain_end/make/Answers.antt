use Rattle.studio_run.proofs.Ends.{fails_from}
use Rattle.mill_io.specs.Programs.{texts}
use Rattle.studio_run.proofs.plain_end.make.Goals as goal

pub returns-clause-fails : goal.returns-clause-fails
returns-clause-fails g c = fails_from c.make_about.result c.args.command (texts c.args.words.now) (g.H.Shelf.files c.args.shelf.now)
    (g.H.Shelf.files c.session_of.new.shelf) (g.H.Shelf.read_faults c.args.shelf.now) (g.H.Shelf.read_faults c.session_of.new.shelf)
    (g.H.Shelf.read_faults c.make_about.new.shelf) (g.H.Shelf.failed_name c.make_about.new.shelf)
    c.in_ok-session.ensures.files c.in_ok-session.ensures.reads c.make_about.ensures.fails
