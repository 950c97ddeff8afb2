use Rattle.std.proofs.Common.{◌++◌, codes, ap, sym, ◌∙◌}
use Rattle.mill_io.specs.Names.{shown_name}
use Rattle.report_text.specs.Causes.{line}
use Rattle.report_text.specs.inner.Tellings.{words_of}
use Rattle.report_text.proofs.Puts.{took_wanted}
use Rattle.report_text.proofs.Tellings.{line_told}
use Rattle.report_text.proofs.fault_line.put_line.Goals as goal

pub returns-in_default-clause-taken : goal.returns-in_default-clause-taken
returns-in_default-clause-taken g c =
    took_wanted (g.E.Sink.taken c.args.err.now) (g.E.Sink.taken c.put_telling.new.err) (codes "studio: " ++ words_of shown_name c.telling.result ++ codes "\n") (line c.args.cause.now) c.put_telling.result
    (line_told c.args.cause.now c.in_default.not-Done ∙ ap (λ words. codes "studio: " ++ words ++ codes "\n") (sym c.telling.ensures.told)) c.put_telling.ensures.taken
