-- What is right in one design is right in every design with the same parts.
use Rattle.std.proofs.Common.{◌≡◌, ◌+◌, ◌*◌, ◌<◌, ◌≤◌, ℕ, Bool, List, length, refl, sym, ap, subst, ◌∙◌, arith}
use Rattle.std.proofs.Math.Nat.{mul-le-mul_right}
use Rattle.mill_base.specs.Grids.{GridCells}
use Rattle.casting_out.specs.Castings.{CastingValue}
use Rattle.point_paper.specs.Papers.{PaperCells, BitCells, bit_cell}
use Rattle.draft_model.specs.declared.design.Design.{Design}
use Rattle.draft_model.specs.Designs.{IsPaperOf}
use Rattle.draft_model.specs.Drawdowns.{bound, column_long}
use Rattle.draft_model.specs.Floats.{long}
use Rattle.tile_rebuild.specs.declared.part.Part.{Part}
use Rattle.tile_rebuild.specs.declared.parts.Parts.{Parts}
use Rattle.tile_rebuild.specs.Tiles.{IsInside, has_long, parts_of}
use Rattle.tile_rebuild.specs.Lines.{AreColoursOf, HaveColourRoom, item_of}
use Rattle.tile_rebuild.specs.Rebuilds.{AreBound, HaveWeaves, IsFlag}

-- the design of parts and a casting
abbrev pub design_of : Parts → CastingValue → Design
design_of parts casting = record {
  size = parts.size;
  book = parts.book;
  tie = parts.tie;
  casting = casting;
  raise = parts.raise;
  sink = parts.sink;
  weft_face = parts.weft_face;
  weft_back = parts.weft_back;
  warp_face = parts.warp_face;
  warp_back = parts.warp_back;
  tile = parts.tile;
}

-- the casting decides no bound cell and no long one
same_bound : (design : Design) (casting : CastingValue) (paper : PaperCells) → bound design paper ≡ bound (design_of (parts_of design) casting) paper
unfolding bound column_long long
same_bound design casting paper = refl

same_long : (design : Design) (casting : CastingValue) (bits : BitCells) (tile : ℕ) → has_long design bits tile ≡ has_long (design_of (parts_of design) casting) bits tile
unfolding has_long column_long long
same_long design casting bits tile = refl

pub bound_of_parts : (design other : Design) (tile : ℕ) (along up : List ℕ) (cells : GridCells) → parts_of other ≡ parts_of design → AreBound design tile along up cells → AreBound other tile along up cells
bound_of_parts design other tile along up cells e right =
    subst (λ (p : Parts). AreBound (design_of p other.casting) tile along up cells) (sym e)
    (λ paper is lines c p hc hp here.
    right paper (record { columns = is.columns; picks = is.picks; colours = is.colours }) lines c p hc hp here ∙ ap (λ b. bit_cell b c p) (same_bound design other.casting paper))

pub flag_of_parts : (design other : Design) (tile : ℕ) (along up : GridCells) (flag : Bool) → parts_of other ≡ parts_of design → IsFlag design tile along up flag → IsFlag other tile along up flag
flag_of_parts design other tile along up flag e right =
    subst (λ (p : Parts). IsFlag (design_of p other.casting) tile along up flag) (sym e)
    (λ bits is lines. right bits (record { columns = is.columns; picks = is.picks }) lines ∙ same_long design other.casting bits tile)

-- the lines of a part of no more than a side's columns and picks have room where those of a side have
pub room_for : (columns picks side : ℕ) (part : Part) (along up : List ℕ) → part.width ≤ side → part.height ≤ side → length along ≡ side * columns → length up ≡ side * picks → HaveColourRoom columns picks part along up
room_for columns picks side part along up wide high rows lines = record {
  for_picks = omega (arith, rows, mul-le-mul_right {m = part.height} {n = side} columns high);
  for_columns = omega (arith, lines, mul-le-mul_right {m = part.width} {n = side} picks wide);
}

-- and have no more cells
pub few_cells : (columns picks side : ℕ) (part : Part) → part.width ≤ side → part.height ≤ side → part.height * columns + part.width * picks ≤ side * (columns + picks)
few_cells columns picks side part wide high =
    let rows = mul-le-mul_right {m = part.height} {n = side} columns high in
    let lines = mul-le-mul_right {m = part.width} {n = side} picks wide in
    let whole : side * (columns + picks) ≡ side * columns + side * picks = grind arith in
    omega (arith, rows, lines, whole)

-- the colours of a paper's lines have weaves
pub weaves_of_paper : (design : Design) (paper : PaperCells) (part : Part) (along up : List ℕ) → IsPaperOf design paper → IsInside design.size.columns design.size.picks part → AreColoursOf part paper along up
    → HaveWeaves (parts_of design) part along up
weaves_of_paper design paper part along up is inside lines = record {
  along_picks = λ b x hb hx.
      let low : x < paper.columns = subst (λ n. x < n) (sym is.columns) hx in
      let high : part.pick + b < paper.picks = omega (arith, is.picks, inside.high, hb) in
      subst (λ n. n < length design.book) (sym (ap (λ n. item_of n along b x) (sym is.columns) ∙ lines.along_picks b x hb low)) (is.colours x (part.pick + b) low high);
  up_columns = λ a y ha hy.
      let low : part.column + a < paper.columns = omega (arith, is.columns, inside.wide, ha) in
      let high : y < paper.picks = subst (λ n. y < n) (sym is.picks) hy in
      subst (λ n. n < length design.book) (sym (ap (λ n. item_of n up a y) (sym is.picks) ∙ lines.up_columns a y ha high)) (is.colours (part.column + a) y low high);
}
