use Rattle.std.proofs.Common.{◌≡◌, ◌∙◌, sym, ap, ℕ, ◌+◌, ◌*◌, ◌/◌, ◌%◌, arith}
use Rattle.tiff_palette.specs.declared.tags.TheConstants.{STRIP_OFFSETS}
use Rattle.tiff_palette.specs.Fields.{value_of}
use Rattle.tiff_palette.specs.Pixels.{row_place}
use Rattle.tiff_palette.proofs.Places.{strip_there, row_held, value_is}
use Rattle.tiff_palette.specs.Layouts.{strips_of}
use Rattle.tiff_palette.proofs.pixels.row_start.Goals as goal

pub get-first-requires : goal.get-first-requires
unfolding strips_of
get-first-requires c =
    let s = c.args.strips.now in
    let e = strip_there s.layout.height s.layout.rows_per_strip c.args.y s.some c.requires in
    let counted = s.counted in
    omega (arith, e, counted)

place_is : (c : goal.After-row_bytes) → c.get-first.result + c.args.y % c.args.strips.now.layout.rows_per_strip * c.row_bytes.result
    ≡ row_place c.args.strips.now.layout c.args.strips.now.offsets.bytes.now c.args.y
unfolding row_place
place_is c =
    let s = c.args.strips.now in
    ap (λ (m : ℕ). m + c.args.y % s.layout.rows_per_strip * c.row_bytes.result) (c.get-first.ensures ∙ sym (value_is s.offsets.bytes.now STRIP_OFFSETS (c.args.y / s.layout.rows_per_strip) s.offsets.entry s.told))
    ∙ ap (λ (m : ℕ). value_of STRIP_OFFSETS (c.args.y / s.layout.rows_per_strip) s.offsets.bytes.now + c.args.y % s.layout.rows_per_strip * m) c.row_bytes.ensures

pub returns-clause-place : goal.returns-clause-place
returns-clause-place c = place_is c

pub returns-clause-there : goal.returns-clause-there
returns-clause-there c =
    let s = c.args.strips.now in
    let held = row_held s.offsets.bytes.now s.layout c.args.y s.laid s.held s.some c.requires in
    let place = place_is c in
    omega (arith, held, place)
