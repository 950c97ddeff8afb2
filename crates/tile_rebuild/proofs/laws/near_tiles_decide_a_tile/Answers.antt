use Rattle.std.proofs.Common.{◌<◌, sym, subst}
use Rattle.draft_model.specs.declared.design.Design.{Design}
use Rattle.draft_model.specs.Designs.{Fits}
use Rattle.tile_rebuild.specs.Tiles.{grid_of}
use Rattle.tile_rebuild.proofs.lemmas.Designs.{grid_there}
use Rattle.tile_rebuild.proofs.lemmas.Locality.{NearLaws, bound_alike, flag_alike, long_alike}
use Rattle.tile_rebuild.proofs.laws.near_tiles_decide_a_tile.Goals as goal

near_laws : goal.After-near_cells_are_of_near_tiles → (design : Design) → Fits design → NearLaws design
near_laws c design fits = record {
  itself = λ t. c.nearness_goes_both_ways.ensures.itself (grid_of design) t;
  ends = λ e f p he hf hp close. c.near_cells_are_of_near_tiles.ensures.ends (grid_of design) e f p (grid_there design fits) he hf hp close;
  picks = λ column p q hc hp hq close. c.near_cells_are_of_near_tiles.ensures.picks (grid_of design) column p q hc hp hq close;
}

pub returns-clause-bound : goal.returns-clause-bound
returns-clause-bound c = λ design tile one other tie fits is is_too agree.
    bound_alike design tile one other fits (λ paper column pick of hc hp. c.two_lines_decide_a_cell.ensures.bound design paper column pick tie fits of hc hp)
    (c.cells_within_the_limits_decide.ensures.bound design) (near_laws c design fits) is is_too agree

pub returns-clause-long : goal.returns-clause-long
returns-clause-long c = λ design tile one other tie fits is is_too agree.
    long_alike design tile one other fits
    (λ bits column pick hc hr hp. c.two_lines_decide_a_cell.ensures.long design bits column pick tie (subst (λ n. column < n) (sym fits.tie) hc) hr hp)
    (c.cells_within_the_limits_decide.ensures.long design) (near_laws c design fits) is is_too agree

pub returns-clause-flag : goal.returns-clause-flag
returns-clause-flag c = λ design tile one other tie fits is is_too agree.
    flag_alike design tile one other
    (long_alike design tile one other fits
    (λ bits column pick hc hr hp. c.two_lines_decide_a_cell.ensures.long design bits column pick tie (subst (λ n. column < n) (sym fits.tie) hc) hr hp)
    (c.cells_within_the_limits_decide.ensures.long design) (near_laws c design fits) is is_too agree)
