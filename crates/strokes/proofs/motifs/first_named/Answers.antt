use Rattle.std.proofs.Common.{◌≡◌, ◌<◌, ℕ, Bool, List, [], length, sym, rules, tests}
use Rattle.std.specs.Prelude.{Option, Some, None, IfSome}
use Rattle.std.specs.List.{position}
use Rattle.std.specs.Str.{bytes_eq}
use Rattle.std.proofs.lemmas.Iterator.{YieldsList-from_slice}
use Rattle.std.proofs.lemmas.Iterator.Search.{position_from_yields_List}
use Rattle.std.proofs.lemmas.List.Quantifiers.{position-Some}
use Rattle.strokes.specs.Motifs.{motif_number}
use Rattle.strokes.specs.Cells.{no_motif}
use Rattle.strokes.specs.declared.motifs.NamedMotif.{NamedMotif}
use Rattle.strokes.proofs.motifs.first_named.Goals as goal

below : (p : NamedMotif → Bool) (motifs : List NamedMotif) (r : Option ℕ) → r ≡ position p motifs → IfSome r (λ number. number < length motifs)
below p motifs None is = tt
below p motifs (Some number) is = (position-Some p motifs number (record { name = []; motif = no_motif }) (sym is)).0

pub returns : goal.returns
unfolding motif_number
returns c =
    let test : NamedMotif → Bool = λ motif. bytes_eq motif.name c.args.name.now in
    let is : c.position.result ≡ position test c.args.motifs.now =
    position_from_yields_List test _ _ c.position.result c.position.ensures.ran (YieldsList-from_slice c.args.motifs.now cc) (λ x b q k. search (rules, tests)) in
    record { number = is; there = below test c.args.motifs.now c.position.result is }
