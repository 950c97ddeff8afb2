use Rattle.std.proofs.Common.{◌≡◌, ◌≢◌, ◌+◌, ℕ, Bool, List, false, get_or, sym, ap, subst, ◌∙◌, ⊎_elim, arith}
use Rattle.std.proofs.lemmas.Bool.{cases_eq}
use Rattle.mill_base.specs.Grids.{grid_cell}
use Rattle.mill_base.specs.Lines.{line_by}
use Rattle.mill_base.proofs.lemmas.Lines.{line_is}
use Rattle.cloth_floats.specs.Windows.{is_long}
use Rattle.tile_rebuild.specs.inner.Cells.{raw_up}
use Rattle.tile_rebuild.proofs.rebuild.mark_colours.Goals as goal

pub loop-a-preserved : goal.loop-a-preserved
loop-a-preserved c =
    let design = c.args.design.now in
    let part = c.args.part in
    let items = c.args.lines.now.columns.items in
    let row = c.read_column.new.out in
    let rows = c.loop-a.invariant.rows in
    record {
      rows = record { raw = rows.raw; up = c.read_column.ensures.len; raise = rows.raise; sink = rows.sink; bound = rows.bound; span = rows.span };
      room = c.mark_column.ensures.room;
      turned = λ a b ha hb. ⊎_elim
          (λ (here : a ≡ c.loop-a.a).
          subst (λ (n : ℕ). grid_cell c.mark_column.new.room.turned b n ≡ is_long (line_by design.size.picks (raw_up design part items n)) design.warp_face design.warp_back (part.pick + b)) (sym here)
          (c.mark_column.ensures.here b hb
          ∙ ap (λ (xs : List Bool). is_long xs design.warp_face design.warp_back (part.pick + b))
          (line_is false row design.size.picks (raw_up design part items c.loop-a.a) c.read_column.ensures.len c.read_column.ensures.cells)))
          (λ (before : a ≢ c.loop-a.a).
          ap (λ (xs : List Bool). get_or xs b false) (c.mark_column.ensures.others a before) ∙ c.loop-a.invariant.turned a b (omega arith) hb)
          (cases_eq a c.loop-a.a);
    }
