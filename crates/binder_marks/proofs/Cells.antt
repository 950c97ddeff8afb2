-- The rule of a bound cell on the words of rows.
use Rattle.std.proofs.Common.{◌≡◌, ℕ, List, Bool}
use Rattle.mill_base.specs.Bits.{bit_of, HoldsRow}
use Rattle.mill_base.proofs.lemmas.Rows.{bit_is_cell}
use Rattle.binder_marks.specs.Bound.{bound_cell, bound_at}

pub cell_of_words : (raw_words long_words raise_words sink_words : List ℕ) (raw long raise sink : List Bool)
    → HoldsRow raw_words raw → HoldsRow long_words long → HoldsRow raise_words raise → HoldsRow sink_words sink
    → (k : ℕ) → bound_cell (bit_of raw_words k) (bit_of long_words k) (bit_of raise_words k) (bit_of sink_words k) ≡ bound_at raw long raise sink k
cell_of_words raw_words long_words raise_words sink_words raw long raise sink of_raw of_long of_raise of_sink k =
    let raw_is = bit_is_cell raw_words raw of_raw k in
    let long_is = bit_is_cell long_words long of_long k in
    let raise_is = bit_is_cell raise_words raise of_raise k in
    let sink_is = bit_is_cell sink_words sink of_sink k in
    cc
