use Rattle.std.proofs.Common.{map, inl, inr, arith}
use Rattle.std.proofs.lemmas.List.{length-map}
use Rattle.std.specs.String.{string_bytes}
use Rattle.std.proofs.lemmas.Result.{err_from_is_err_and}
use Rattle.strokes.proofs.MotifFaults.{fault_of_rows, fault_of_size, no_fault}
use Rattle.strokes.proofs.motif_rows.motif_of_rows.Goals as goal
use Rattle.strokes.proofs.motif_rows.motif_of_rows.Goals.{then-width-size-via-then-width-size, then-width-size-via-else-width-size+then-rows-size}

pub returns-in_err-width-clause-fault : goal.returns-in_err-width-clause-fault
returns-in_err-width-clause-fault c =
    let p = err_from_is_err_and c.from_residual.result c.from_residual.ensures.1 in
    rw (p.1, p.2) (λ ne. fault_of_rows (map string_bytes c.args.rows.now) c.args.colours c.args.size _ (c.in_err-width.ensures.fault ne))

pub returns-then-width-size-clause-fault : goal.returns-then-width-size-clause-fault
returns-then-width-size-clause-fault c ne =
    fault_of_size (map string_bytes c.args.rows.now) c.args.colours c.in_ok-width.width c.args.size c.in_ok-width.ensures.sound c.in_ok-width.ensures.width (elim c.then-width-size.branch [
      | then-width-size-via-then-width-size w ↦ inl w.if-width-size.true
      | then-width-size-via-else-width-size+then-rows-size w ↦ inr (omega (arith, length-map c.args.rows.now string_bytes, w.if-rows-size.true))
    ])

pub returns-clause-sound : goal.returns-clause-sound
returns-clause-sound c = no_fault (map string_bytes c.args.rows.now) c.args.colours c.in_ok-width.width c.args.size c.in_ok-width.ensures.sound c.in_ok-width.ensures.width c.if-width-size.false (omega (arith, length-map c.args.rows.now string_bytes, c.if-rows-size.false))
