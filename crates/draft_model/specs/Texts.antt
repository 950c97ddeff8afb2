-- The text of a float.
use Rattle.std.specs.Prelude.{ℕ, Bool, true, false, codes, decimal, List, [], ◌∷◌}
use Rattle.std.specs.List.{concat}
use Rattle.draft_model.specs.declared.float_run.FloatRun.{FloatRun}
use Rattle.draft_model.specs.declared.float_run.FloatKind.{FloatKind}
use Rattle.draft_model.specs.declared.float_run.FloatKind.TheVariants.{Weft, Warp}

abbrev pub kind_word : FloatKind → List ℕ
kind_word Weft = codes "weft "
kind_word Warp = codes "warp "

abbrev pub end_word : Bool → List ℕ
end_word true = codes " endless"
end_word false = codes ""

-- `weft` or `warp`, the line, `start`, the start, `length`, the length, and `endless` where it is endless
abbrev pub float_text : FloatRun → List ℕ
float_text run =
    concat (kind_word run.kind ∷ decimal run.line ∷ codes " start " ∷ decimal run.start ∷ codes " length " ∷ decimal run.length ∷ end_word run.endless ∷ [])
