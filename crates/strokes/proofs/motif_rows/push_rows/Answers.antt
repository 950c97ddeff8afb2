use Rattle.std.proofs.Common.{◌≡◌, ◌+◌, ◌++◌, length, drop, map, ap, sym, inl, inr, ◌∙◌, ◌≢◌, ⊎_elim, arith}
use Rattle.std.proofs.lemmas.Bool.{cases_eq}
use Rattle.std.specs.String.{string_bytes}
use Rattle.std.specs.Prelude.{slice_get, Some}
use Rattle.std.proofs.lemmas.List.{length-append, length-map}
use Rattle.std.proofs.lemmas.Result.{err_from_is_err_and}
use Rattle.mill_base.specs.Words.{number_of, words_of}
use Rattle.strokes.specs.Motifs.{first_width, row_cells, words_faults, width_of}
use Rattle.strokes.specs.declared.fault.MotifFault.TheVariants.{Ragged}
use Rattle.strokes.proofs.MotifFaults.{no_width, texts_at, front_width, fault_of_row, fault_of_word, ragged_row, row_passes, cells_more, product_more}
use Rattle.strokes.proofs.motif_rows.push_rows.Goals as goal
use Rattle.strokes.proofs.motif_rows.push_rows.Goals.{then-row-eq0, else-row-eq0, then-found-eq0-via-then-found-eq0, then-found-eq0-via-else-found-eq0+then-found-width}

pub returns-in_err-found-clause-fault : goal.returns-in_err-found-clause-fault
returns-in_err-found-clause-fault c =
    let texts = map string_bytes c.args.rows.now in
    let text = string_bytes c.index-rows-row.result in
    let p = err_from_is_err_and c.from_residual.result c.from_residual.ensures.1 in
    let words : c.of.result ≡ words_of text = c.of.ensures ∙ ap words_of c.as_str.ensures.value in
    rw (p.1, p.2) (λ ne.
    fault_of_row c.args.colours (first_width texts) c.loop-row.row texts (drop (c.loop-row.row + 1) texts) text _
    (texts_at string_bytes c.args.rows.now c.loop-row.row c.index-rows-row.result c.loop-row-test.true c.index-rows-row.is) c.loop-row.invariant.3
    (fault_of_word c.args.colours (first_width texts) c.loop-row.row text _
    (ap (λ ws. slice_get (words_faults c.args.colours c.loop-row.row 0 ws) 0) (sym words) ∙ c.in_err-found.ensures.fault ne)))

pub returns-then-found-eq0-clause-fault : goal.returns-then-found-eq0-clause-fault
returns-then-found-eq0-clause-fault c ne =
    let texts = map string_bytes c.args.rows.now in
    let text = string_bytes c.index-rows-row.result in
    let at = texts_at string_bytes c.args.rows.now c.loop-row.row c.index-rows-row.result c.loop-row-test.true c.index-rows-row.is in
    let words : c.of.result ≡ words_of text = c.of.ensures ∙ ap words_of c.as_str.ensures.value in
    let found : c.in_ok-found.found ≡ width_of text = c.in_ok-found.ensures.count ∙ ap length words in
    let width : c.if-row-eq0.width ≡ first_width texts = elim c.if-row-eq0.branch [
      | then-row-eq0 w ↦ w.width-is ∙ found ∙ sym (front_width texts (drop (c.loop-row.row + 1) texts) c.loop-row.row text w.if-row-eq0.true at)
      | else-row-eq0 w ↦ w.width-is ∙ c.loop-row.invariant.0 (omega (arith, w.if-row-eq0.false))
    ] in
    fault_of_row c.args.colours (first_width texts) c.loop-row.row texts (drop (c.loop-row.row + 1) texts) text _ at c.loop-row.invariant.3
    (ragged_row c.args.colours (first_width texts) c.loop-row.row c.in_ok-found.found text
    (ap (words_faults c.args.colours c.loop-row.row 0) (sym words) ∙ c.in_ok-found.ensures.sound) found
    (elim c.then-found-eq0.branch [
      | then-found-eq0-via-then-found-eq0 w ↦ inl w.if-found-eq0.true
      | then-found-eq0-via-else-found-eq0+then-found-width w ↦ inr (λ same. w.if-found-width.true (same ∙ sym width))
    ])) ∙ ap (λ place. Some (Ragged place)) (sym c.told.ensures)

pub loop-row-preserved : goal.loop-row-preserved
loop-row-preserved c =
    let texts = map string_bytes c.args.rows.now in
    let text = string_bytes c.index-rows-row.result in
    let rest = drop (c.loop-row.row + 1) texts in
    let at = texts_at string_bytes c.args.rows.now c.loop-row.row c.index-rows-row.result c.loop-row-test.true c.index-rows-row.is in
    let words : c.of.result ≡ words_of text = c.of.ensures ∙ ap words_of c.as_str.ensures.value in
    let found : c.in_ok-found.found ≡ width_of text = c.in_ok-found.ensures.count ∙ ap length words in
    let width : c.if-row-eq0.width ≡ first_width texts = elim c.if-row-eq0.branch [
      | then-row-eq0 w ↦ w.width-is ∙ found ∙ sym (front_width texts rest c.loop-row.row text w.if-row-eq0.true at)
      | else-row-eq0 w ↦ w.width-is ∙ c.loop-row.invariant.0 (omega (arith, w.if-row-eq0.false))
    ] in
    let even : c.in_ok-found.found ≡ first_width texts = c.if-found-width.false ∙ width in
    let cells : c.push_words.new.cells.items ≡ c.loop-row.cells.items ++ row_cells text = c.in_ok-found.ensures.cells ∙ ap (λ ws. c.loop-row.cells.items ++ map number_of ws) words in (
      λ _. width,
      ap length cells ∙ length-append c.loop-row.cells.items (row_cells text)
          ∙ product_more c.loop-row.row (first_width texts) (length c.loop-row.cells.items) (length (row_cells text)) c.loop-row.invariant.1
          (length-map (words_of text) number_of ∙ sym found ∙ even),
      cells_more c.loop-row.row texts rest text c.loop-row.cells.items c.push_words.new.cells.items at c.loop-row.invariant.2 cells,
      row_passes c.args.colours (first_width texts) c.loop-row.row c.in_ok-found.found texts rest text at c.loop-row.invariant.3
          (ap (words_faults c.args.colours c.loop-row.row 0) (sym words) ∙ c.in_ok-found.ensures.sound) found c.if-found-eq0.false even,
      λ none. absurd (omega (arith, none)),
    )

pub returns-clause-width : goal.returns-clause-width
returns-clause-width c =
    ⊎_elim (λ (none : c.loop-row.row ≡ 0).
    c.loop-row.invariant.4 none ∙ sym (no_width (map string_bytes c.args.rows.now) (omega (arith, length-map c.args.rows.now string_bytes, c.loop-row-test.false, none))))
    (λ (some : c.loop-row.row ≢ 0). c.loop-row.invariant.0 (omega (arith, some))) (cases_eq c.loop-row.row 0)
