use Rattle.std.proofs.Common.{[], ◌∷◌, ◌++◌, codes, ap, sym, ◌∙◌}
use Rattle.std.specs.List.{concat}
use Rattle.mill_base.specs.Phrases.{phrase_text}
use Rattle.mill_io.specs.Names.{shown_name}
use Rattle.report_text.specs.inner.Tellings.{words_of}
use Rattle.report_text.proofs.Puts.{took_wanted}
use Rattle.report_text.proofs.Tellings.{line_parts}
use Rattle.report_text.proofs.fault_line.put_telling.Goals as goal

pub returns-clause-taken : goal.returns-clause-taken
returns-clause-taken g c =
    let telling = c.args.telling.now in
    let name = shown_name telling.name.now in
    let text = phrase_text telling.phrase in
    took_wanted (g.E.Sink.taken c.args.err.now) (g.E.Sink.taken c.put_told.new.out)
    (concat (c.as_slice.result.now ∷ c.as_bytes.result.now ∷ []) ++ name ++ c.as_bytes-2.result.now ++ text ++ codes "\n")
    (codes "studio: " ++ words_of shown_name telling ++ codes "\n") c.put_told.result
    (sym (line_parts (codes "studio: ") telling.before.now name telling.between.now text (codes "\n"))
    ∙ ap (λ l. concat (l ∷ telling.before.now ∷ []) ++ name ++ telling.between.now ++ text ++ codes "\n") (sym c.as_slice.ensures)
    ∙ ap (λ l. concat (c.as_slice.result.now ∷ l ∷ []) ++ name ++ telling.between.now ++ text ++ codes "\n") (sym c.as_bytes.ensures.value)
    ∙ ap (λ l. concat (c.as_slice.result.now ∷ c.as_bytes.result.now ∷ []) ++ name ++ l ++ text ++ codes "\n") (sym c.as_bytes-2.ensures.value))
    c.put_told.ensures.taken
