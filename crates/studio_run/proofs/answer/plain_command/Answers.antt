use Rattle.mill_io.specs.Programs.{texts}
use Rattle.studio_run.specs.Answers.{outside, shelf_state, sink_state}
use Rattle.std.proofs.Common.{None}
use Rattle.studio_run.proofs.answer.plain_command.Goals as goal

pub returns-clause-complete : goal.returns-clause-complete
returns-clause-complete g c = λ held tells reads writes faults. c.words_and_files_decide.ensures (texts c.args.words.now)
    (outside (shelf_state (g.H.Shelf.files c.args.shelf.now) (g.H.Shelf.read_faults c.args.shelf.now) (g.H.Shelf.write_faults c.args.shelf.now) (g.H.Shelf.failed_name c.args.shelf.now))
    (shelf_state (g.H.Shelf.files c.end_of_plain_words-cause.new.shelf) (g.H.Shelf.read_faults c.end_of_plain_words-cause.new.shelf) (g.H.Shelf.write_faults c.end_of_plain_words-cause.new.shelf) (g.H.Shelf.failed_name c.end_of_plain_words-cause.new.shelf))
    (sink_state (g.K.Sink.taken c.args.out.now) (g.K.Sink.faults c.args.out.now))
    (sink_state (g.K.Sink.taken c.end_of_plain_words-cause.new.out) (g.K.Sink.faults c.end_of_plain_words-cause.new.out)))
    None c.end_of_plain_words-cause.result held tells reads writes faults c.end_of_plain_words-cause.ensures.caused
