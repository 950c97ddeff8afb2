use Rattle.std.proofs.Common.{sym, subst, List, ℕ}
use Rattle.tiff_palette.proofs.Found.{image_found, image_with, writable_found}
use Rattle.tiff_palette.specs.Images.{Image}
use Rattle.tiff_palette.specs.Written.{IsWritable}
use Rattle.tiff_palette.proofs.reading.read.Goals as goal

pub returns-clause-image : goal.returns-clause-image
returns-clause-image c =
    let s = c.in_ok-palette.palette.strips in
    let known = c.in_ok-palette.ensures in
    let map = c.in_ok-colour_map.ensures in
    subst (λ (pixels : List ℕ). Image c.args.bytes.now (image_with s.layout.width s.layout.height pixels c.of-2.result)) (sym c.of.ensures)
    (subst (λ (colours : List ℕ). Image c.args.bytes.now (image_with s.layout.width s.layout.height c.in_ok-pixels.pixels.items colours)) (sym c.of-2.ensures)
    (image_found c.args.bytes.now s.offsets.bytes.now c.in_ok-pixels.pixels.items c.in_ok-colour_map.colour_map.items s.layout known.1 s.laid known.0 c.in_ok-pixels.ensures map.length map.colours))

pub returns-clause-writable : goal.returns-clause-writable
returns-clause-writable c =
    let s = c.in_ok-palette.palette.strips in
    subst (λ (pixels : List ℕ). IsWritable (image_with s.layout.width s.layout.height pixels c.of-2.result)) (sym c.of.ensures)
    (subst (λ (colours : List ℕ). IsWritable (image_with s.layout.width s.layout.height c.in_ok-pixels.pixels.items colours)) (sym c.of-2.ensures)
    (writable_found s.offsets.bytes.now c.in_ok-pixels.pixels.items c.in_ok-colour_map.colour_map.items s.layout s.wide s.tall c.in_ok-pixels.ensures c.in_ok-colour_map.ensures.length))
