use Rattle.std.proofs.Common.{◌≡◌, ◌<◌, ◌^◌, subst, sym, ℕ, List, All, arith}
use Rattle.tiff_palette.specs.Images.{Image}
use Rattle.tiff_palette.specs.Written.{tiff_of}
use Rattle.tiff_palette.proofs.Codecs.{codec, codec_alone}
use Rattle.tiff_palette.proofs.writing.write.Goals as goal

file_is : (c : goal.In_ok-extend_from_slice) → c.extend_from_slice.new.self.items ≡ tiff_of c.args.image.now
unfolding tiff_of
file_is c = grind arith

numbers_fit : (c : goal.In_ok-extend_from_slice) → All (λ n. n < 2 ^ 16) c.args.image.now.colour_map
numbers_fit c = subst (λ (colours : List ℕ). All (λ n. n < 2 ^ 16) colours) c.as_slice-colours.ensures c.in_ok-push_colours.ensures.short

pub returns-clause-same : goal.returns-clause-same
returns-clause-same c narrow = subst (λ (bytes : List ℕ). Image bytes c.args.image.now) (sym (file_is c)) (codec c.args.image.now c.requires (numbers_fit c) narrow)

pub returns-clause-alone : goal.returns-clause-alone
returns-clause-alone c narrow other read =
    codec_alone c.args.image.now other c.requires (numbers_fit c) narrow (subst (λ (bytes : List ℕ). Image bytes other) (file_is c) read)
