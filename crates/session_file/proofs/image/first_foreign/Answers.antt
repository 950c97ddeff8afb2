use Rattle.std.proofs.Common.{◌≡◌, ◌<◌, nat_le, ℕ, Bool, List, length, sym, rules, tests}
use Rattle.std.specs.Prelude.{Option, Some, None, IfSome}
use Rattle.std.specs.List.{position}
use Rattle.std.proofs.lemmas.Iterator.{YieldsList-from_slice}
use Rattle.std.proofs.lemmas.Iterator.Search.{position_from_yields_List}
use Rattle.std.proofs.lemmas.List.Quantifiers.{position-Some}
use Rattle.session_file.proofs.image.first_foreign.Goals as goal

below : (p : ℕ → Bool) (row : List ℕ) (r : Option ℕ) → r ≡ position p row → IfSome r (λ column. column < length row)
below p row None is = tt
below p row (Some column) is = (position-Some p row column 0 (sym is)).0

pub returns : goal.returns
returns c =
    let test : ℕ → Bool = λ colour. nat_le c.args.colours colour in
    let is : c.position.result ≡ position test c.args.row.now =
    position_from_yields_List test _ _ c.position.result c.position.ensures.ran (YieldsList-from_slice c.args.row.now cc) (λ x b q k. search (rules, tests)) in
    record { place = is; there = below test c.args.row.now c.position.result is }
