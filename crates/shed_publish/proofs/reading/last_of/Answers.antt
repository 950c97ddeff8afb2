use Rattle.shed_publish.specs.Versions.{version_of}
use Rattle.std.proofs.Common.{◌≡◌, ◌<◌, ◌-◌, length, get_or, sym, ap, subst}
use Rattle.shed_publish.proofs.Boards.{last_mapped}
use Rattle.shed_publish.proofs.reading.last_of.Goals as goal

pub returns-in-Ok : goal.returns-in-Ok
returns-in-Ok c =
    let some = c.in_ok-last.ensures.item.3.0 in
    let last = c.in_ok-last.ensures.item.3.1 c.in_ok-last.last.now in
    let same = ap (λ v. record { version = c.in_ok-last.last.now.version; cards = v }) (sym c.in-Ok.ensures) in
    last_mapped version_of c.args.board.now.entries.items c.in_ok-last.last.now _
    (subst (λ xs. 0 < length xs) c.deref.ensures.value some)
    (subst (λ xs. c.in_ok-last.last.now ≡ get_or xs (length xs - 1) c.in_ok-last.last.now) c.deref.ensures.value last)
    same
