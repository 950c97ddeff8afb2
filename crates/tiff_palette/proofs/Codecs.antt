-- The laws of files that were written.
use Rattle.std.proofs.Common.{◌≡◌, ◌≤◌, ◌<◌, ◌^◌, ◌∙◌, sym, ap, subst, refl, ℕ, ◌*◌, ◌+◌, ◌/◌, List, [], ◌∷◌, ◌++◌, append_assoc, length, slice_get, Some, All, arith}
use Rattle.std.specs.List.{flat_map}
use Rattle.byteorder.specs.Endian.{little_bytes}
use Rattle.std.proofs.Math.Nat.{div-le_self, mul_comm}
use Rattle.mill_base.specs.declared.limits.TheConstants.{MAX_COLUMNS}
use Rattle.tiff_palette.specs.declared.fault.TiffFault.{TiffFault}
use Rattle.tiff_palette.specs.declared.fault.TiffFault.TheVariants.{TooLarge}
use Rattle.tiff_palette.specs.declared.image.PaletteImage.{PaletteImage}
use Rattle.tiff_palette.specs.declared.layout.Layout.{Layout}
use Rattle.tiff_palette.specs.Images.{Image}
use Rattle.tiff_palette.specs.Layouts.{strips_of}
use Rattle.tiff_palette.specs.Rules.{all_faults, content_rules, image_fault, short_strips}
use Rattle.tiff_palette.specs.Written.{IsWritable, written_layout, tiff_of, lists_of, head_of, pixels_place}
use Rattle.tiff_palette.specs.inner.Drawings.{HasRows}
use Rattle.tiff_palette.proofs.Codec.{IsDrawn, behind, whole, offsets, counts, whole_length, layout_in, strips_right}
use Rattle.tiff_palette.proofs.Coded.{lists}
use Rattle.tiff_palette.proofs.Found.{image_found, one_image}
use Rattle.tiff_palette.proofs.Heads.{head_headed, head_kind, head_sized, head_too_wide, head_mapped, head_rowed}
use Rattle.tiff_palette.proofs.Returning.{offsets_right, counts_right, pixels_right, colours_right}

none_of_all : (a b c d e f g h : List TiffFault) → a ≡ [] → b ≡ [] → c ≡ [] → d ≡ [] → e ≡ [] → f ≡ [] → g ≡ [] → h ≡ []
    → a ++ (b ++ (c ++ (d ++ (e ++ (f ++ (g ++ (h ++ []))))))) ≡ []
none_of_all a b c d e f g h p q r s t u v w = rw (p, q, r, s, t, u, v, w) refl

-- the file keeps every rule
whole_sound : (l : Layout) (colours pixels : List ℕ) → IsDrawn l colours pixels → l.width ≤ MAX_COLUMNS → all_faults (whole l colours pixels) ≡ []
unfolding all_faults content_rules
whole_sound l colours pixels d narrow =
    let n = strips_of l in
    let rest = behind l colours pixels in
    let c = d.cut in
    let long = whole_length l colours pixels d in
    let few = c.rows.1 in
    let far : 1710 ≤ pixels_place n = grind arith in
    none_of_all _ _ _ _ _ _ _ _ (head_headed l n rest) (head_kind l n rest) (head_sized l n rest c.width.0 narrow c.height.0 c.height.1) (head_mapped l n rest (omega (arith, long, far)))
    (head_rowed l n rest c.rows.0 (omega (arith, few))) (offsets_right l colours pixels d) (counts_right l colours pixels d)
    (ap (λ (m : Layout). short_strips (whole l colours pixels) (strips_of m)) (layout_in l rest c) ∙ strips_right l colours pixels d)

-- the parts of the file of an image
tiff_is : (image : PaletteImage) → tiff_of image ≡ whole (written_layout image) image.colour_map image.pixels
unfolding tiff_of lists_of
tiff_is image =
    let l = written_layout image in
    let head = head_of l (strips_of l) in
    let colours = flat_map (little_bytes 2) image.colour_map in
    append_assoc (head ++ colours) (lists (strips_of l) (offsets l) (counts l)) image.pixels ∙ append_assoc head colours (lists (strips_of l) (offsets l) (counts l) ++ image.pixels)

is_drawn : (image : PaletteImage) → IsWritable image → IsDrawn (written_layout image) image.colour_map image.pixels
is_drawn image i =
    let least : 8192 / image.width ≤ 8192 = div-le_self 8192 image.width in
    record {
      cut = record { width = i.width; height = i.height; cells = i.cells; bits = refl; rows = (omega arith, omega (arith, least)) };
      mapped = i.mapped;
      drawn = i.drawn;
    }

pub codec : (image : PaletteImage) → IsWritable image → All (λ n. n < 2 ^ 16) image.colour_map → image.width ≤ MAX_COLUMNS → Image (tiff_of image) image
codec image i colours narrow =
    let l = written_layout image in
    let d = is_drawn image i in
    let bytes = whole l image.colour_map image.pixels in
    let rows : HasRows l bytes l.height image.pixels =
    record { long = i.drawn ∙ mul_comm l.width l.height; each = λ x y within below. pixels_right l image.colour_map image.pixels x y d below } in
    subst (λ (file : List ℕ). Image file image) (sym (tiff_is image))
    (image_found bytes bytes image.pixels image.colour_map l refl (sym (layout_in l (behind l image.colour_map image.pixels) d.cut)) (whole_sound l image.colour_map image.pixels d narrow) rows i.mapped
    (λ part k first below. colours_right l image.colour_map image.pixels part k d colours first below))

pub codec_alone : (image other : PaletteImage) → IsWritable image → All (λ n. n < 2 ^ 16) image.colour_map → image.width ≤ MAX_COLUMNS → Image (tiff_of image) other → other ≡ image
codec_alone image other i colours narrow read = one_image (tiff_of image) other image read (codec image i colours narrow)

first_of : (a b c d : List TiffFault) (f : TiffFault) → a ≡ [] → b ≡ [] → c ≡ f ∷ [] → slice_get (a ++ (b ++ (c ++ d))) 0 ≡ Some f
first_of a b c d f p q r = rw (p, q, r) refl

pub too_wide : (image : PaletteImage) → IsWritable image → MAX_COLUMNS < image.width → image_fault (tiff_of image) ≡ Some TooLarge
unfolding all_faults
too_wide image i wide =
    let l = written_layout image in
    let n = strips_of l in
    let rest = behind l image.colour_map image.pixels in
    let w = i.width.1 in
    let h = i.height.1 in
    ap image_fault (tiff_is image)
    ∙ first_of _ _ _ _ TooLarge (head_headed l n rest) (head_kind l n rest) (head_too_wide l n rest wide (omega (arith, w)) i.height.0 (omega (arith, h)))

pub written_length : (image : PaletteImage) → IsWritable image → length (tiff_of image) ≡ pixels_place (strips_of (written_layout image)) + image.width * image.height
written_length image i = ap length (tiff_is image) ∙ whole_length (written_layout image) image.colour_map image.pixels (is_drawn image i)
