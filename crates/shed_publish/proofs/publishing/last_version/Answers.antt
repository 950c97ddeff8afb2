use Rattle.std.proofs.Common.{◌≡◌, ◌-◌, length, map, slice_get, Some, sym, ap, subst, ◌∙◌, arith}
use Rattle.std.proofs.lemmas.List.{length-map}
use Rattle.std.proofs.lemmas.Option.{slice_get-map}
use Rattle.std.specs.Option.{option_map}
use Rattle.shed_publish.specs.Versions.{version_of}
use Rattle.shed_publish.proofs.lemmas.Published.{numbered}
use Rattle.shed_publish.proofs.publishing.last_version.Goals as goal

pub returns : goal.returns
returns c =
    let xs = c.args.board.now.entries.items in
    let last = c.in-Some.last.now in
    let at : slice_get xs (length xs - 1) ≡ Some last = sym (subst (λ ys. Some last ≡ slice_get ys (length ys - 1)) c.deref.ensures.value c.in-Some.ensures.value) in
    let version = numbered (map version_of xs) (length xs - 1) (version_of last) c.requires.published (slice_get-map version_of xs (length xs - 1) ∙ ap (option_map version_of) at) in
    let same = length-map xs version_of in
    omega (arith, version, same, c.requires.some)
