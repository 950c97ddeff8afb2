use Rattle.shift_run.proofs.Ready.{stands_ready}
use Rattle.shift_run.proofs.desk.know_ready.Goals as goal

pub returns : goal.returns
returns c =
    stands_ready c.acts_of_the_design_paint_colours_of_its_book.ensures.acts c.versions_are_papers_of_the_design.ensures.versions
    c.args.session.now c.args.desk.now c.requires.fits c.requires.stands
