use Rattle.std.proofs.Common.{inr, ◌≡◌, ◌-◌, length, map, take, drop, min, sym, ap, subst, ◌∙◌}
use Rattle.shed_publish.specs.Versions.{version_of}
use Rattle.shed_publish.proofs.Boards.{parts_same, same_parts}
use Rattle.shed_publish.proofs.reading.same_from.Goals as goal

pub returns-clause-entries : goal.returns-clause-entries
returns-clause-entries c same =
    let one = c.args.one.now.entries.items in
    let other = c.args.other.now.entries.items in
    let from = c.min-from.result in
    let len : c.len-len.result ≡ length one = c.len-len.ensures ∙ c.args.one.now.entries.ok.0 in
    let lens : length one ≡ length other = sym len ∙ c.if-len.false ∙ c.len.ensures ∙ c.args.other.now.entries.ok.0 in
    same_parts version_of one other from c.args.known lens (c.min-from.ensures ∙ ap (λ n. min n c.args.known) len)
    (subst (λ xs. map version_of (take (length xs - from) (drop from xs)) ≡ map version_of (take (length other - from) (drop from other))) c.deref.ensures.value
    (subst (λ ys. map version_of (take (length c.deref.result.now - from) (drop from c.deref.result.now)) ≡ map version_of (take (length ys - from) (drop from ys))) c.deref-2.ensures.value (c.same_entries.ensures.same same)))

pub returns-clause-differ : goal.returns-clause-differ
returns-clause-differ c unlike =
    let one = c.args.one.now.entries.items in
    let other = c.args.other.now.entries.items in
    let from = c.min-from.result in
    let len : c.len-len.result ≡ length one = c.len-len.ensures ∙ c.args.one.now.entries.ok.0 in
    let lens : length one ≡ length other = sym len ∙ c.if-len.false ∙ c.len.ensures ∙ c.args.other.now.entries.ok.0 in
    inr (λ same. c.same_entries.ensures.differ unlike
    (subst (λ xs. map version_of (take (length xs - from) (drop from xs)) ≡ map version_of (take (length c.deref-2.result.now - from) (drop from c.deref-2.result.now))) (sym c.deref.ensures.value)
    (subst (λ ys. map version_of (take (length one - from) (drop from one)) ≡ map version_of (take (length ys - from) (drop from ys))) (sym c.deref-2.ensures.value)
    (parts_same version_of one other from c.args.known lens (c.min-from.ensures ∙ ap (λ n. min n c.args.known) len) same))))
