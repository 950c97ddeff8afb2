use Rattle.std.proofs.Common.{◌∙◌, ap, ◌++◌, arith}
use Rattle.std.proofs.lemmas.Bool.{eq-eqb, ne_eqb}
use Rattle.std.proofs.lemmas.List.{length-take-le}
use Rattle.tiff_palette.proofs.Drawn.{row_of_bytes, row_of_nibbles}
use Rattle.tiff_palette.proofs.pixels.push_row.Goals as goal

pub returns-then-layout-eq8 : goal.returns-then-layout-eq8
returns-then-layout-eq8 c =
    let l = c.args.layout.now in
    c.in_ok-extend_from_slice.ensures.items
    ∙ ap (λ xs. c.args.pixels.now.items ++ xs) (row_of_bytes l c.args.bytes.now c.args.place c.row_bytes.result (eq-eqb l.bits 8 c.if-layout-eq8.true) c.row_bytes.ensures c.requires.there)

pub returns : goal.returns
returns c =
    let l = c.args.layout.now in
    let wide = c.requires.wide in
    let room = c.requires.room in
    c.in_ok-extend_from_slice-2.ensures.items
    ∙ ap (λ xs. c.args.pixels.now.items ++ xs)
    (row_of_nibbles l c.args.bytes.now c.unpack.new.out c.args.place c.row_bytes.result _ (ne_eqb l.bits 8 c.if-layout-eq8.false) c.row_bytes.ensures c.unpack.auto.out
    (length-take-le l.width c.args.room.now (omega (arith, wide, room))) c.unpack.ensures)
