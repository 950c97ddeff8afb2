use Rattle.std.proofs.Common.{Ok, true, false, length, map, refl, sym, ap, ◌∙◌}
use Rattle.std.specs.List.{list_all}
use Rattle.weave_book.specs.Spelling.{cells_of, has_length, is_row}
use Rattle.weave_book.specs.declared.weaves.Weave.TheVariants.{Rows}
use Rattle.weave_book.proofs.Words.{rows_told}
use Rattle.weave_book.proofs.spelling.rows.Goals as goal

pub returns-then-are_too_wide : goal.returns-then-are_too_wide
returns-then-are_too_wide c =
    rows_told c.args.words.now c.in-Some.first.now c.next.new.self true (list_all (has_length (length c.in-Some.first.now)) c.args.words.now) (sym c.copy.ensures ∙ c.in-Some.ensures.word)
    (ap (list_all is_row) (sym c.copy-2.ensures) ∙ sym c.are_rows.ensures ∙ c.if-not-are_rows.false) (sym c.are_too_wide.ensures ∙ c.if-are_too_wide.true) refl

pub returns-then-not-have_length : goal.returns-then-not-have_length
returns-then-not-have_length c =
    rows_told c.args.words.now c.in-Some.first.now c.next.new.self false false (sym c.copy.ensures ∙ c.in-Some.ensures.word)
    (ap (list_all is_row) (sym c.copy-2.ensures) ∙ sym c.are_rows.ensures ∙ c.if-not-are_rows.false) (sym c.are_too_wide.ensures ∙ c.if-are_too_wide.false)
    (ap (list_all (has_length (length c.in-Some.first.now))) (sym c.copy-3.ensures) ∙ sym c.have_length.ensures ∙ c.if-not-have_length.true)

pub returns : goal.returns
returns c =
    ap (λ rows. Ok (Rows rows)) (c.of.ensures ∙ ap (map cells_of) c.copy-4.ensures)
    ∙ rows_told c.args.words.now c.in-Some.first.now c.next.new.self false true (sym c.copy.ensures ∙ c.in-Some.ensures.word)
    (ap (list_all is_row) (sym c.copy-2.ensures) ∙ sym c.are_rows.ensures ∙ c.if-not-are_rows.false) (sym c.are_too_wide.ensures ∙ c.if-are_too_wide.false)
    (ap (list_all (has_length (length c.in-Some.first.now))) (sym c.copy-3.ensures) ∙ sym c.have_length.ensures ∙ c.if-not-have_length.false)
