use Rattle.std.proofs.Common.{sym, subst, None, IfOk}
use Rattle.studio_run.proofs.Ends.{made_result}
use Rattle.mill_io.specs.Programs.{texts}
use Rattle.studio_run.specs.Answers.{IsMade}
use Rattle.studio_run.specs.Outputs.{IsAbout}
use Rattle.studio_run.specs.declared.command.Command.{Command}
use Rattle.studio_run.specs.declared.command.Command.TheVariants.{Check}
use Rattle.studio_run.proofs.plain_end.make_about.Goals as goal

pub returns-in-Check-clause-made : goal.returns-in-Check-clause-made
returns-in-Check-clause-made g c =
    subst (λ (command : Command). IfOk c.check.result (λ bytes. IsMade command (texts c.args.words.now) (g.H.Shelf.files c.args.shelf.now) None bytes.items)) (sym c.in-Check.is)
    (made_result c.check.result Check _ _ c.args.session.now
    (subst (λ (command : Command). IsAbout command (texts c.args.words.now) (g.H.Shelf.files c.args.shelf.now) c.args.session.now) c.in-Check.is c.requires.about)
    c.check.ensures.made)
