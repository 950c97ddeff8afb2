-- Lists that begin with others.
use Rattle.std.proofs.Common.{inl, inr, ◌≡◌, ◌≤◌, ℕ, zero, suc, length, drop, slice_get, Some, arith, List, [], ◌∷◌, ◌++◌, refl, sym, ap, subst, ◌∙◌, append_assoc, append-nil}
use Rattle.std.proofs.Math.Seq.{drop-append_seam}
use Rattle.std.proofs.lemmas.List.{length-append}
use Rattle.std.proofs.lemmas.Option.{none-some}
use Rattle.shed_publish.specs.declared.newest.Version.{Version}
use Rattle.shed_publish.specs.Ends.{EndValue, Knows}
use Rattle.shed_publish.specs.Versions.{IsPrefix, BeginsWithAll}

pub prefix_trans : (a b c : List Version) → IsPrefix a b → IsPrefix b c → IsPrefix a c
prefix_trans a b c p q = (p.0 ++ q.0, q.1 ∙ ap (λ l. l ++ q.0) p.1 ∙ append_assoc a p.0 q.0)

pub prefix_refl : (a : List Version) → IsPrefix a a
prefix_refl a = ([], sym (append-nil a))

pub prefix_nil : (a : List Version) → IsPrefix [] a
prefix_nil a = (a, refl)

pub all_trans : (ls : List (List Version)) (b c : List Version) → BeginsWithAll b ls → IsPrefix b c → BeginsWithAll c ls
all_trans [] b c h q = tt
all_trans (l ∷ ls) b c h q = (prefix_trans l b c h.0 q, all_trans ls b c h.1 q)

-- what an end knows, its next reading begins with
pub knows_after : (told : List Version) (e : EndValue) (list : List Version) → Knows told e → IsPrefix e.list list → BeginsWithAll list e.learnt → IsPrefix told list
knows_after told e list (inl p) later all = prefix_trans told e.list list p later
knows_after told e list (inr q) later all = (subst (λ (l : List (List Version)). BeginsWithAll list l) q.1 all).0

-- what an end knows is a matter of its lists alone
pub knows_same : (told : List Version) (e f : EndValue) → e.list ≡ f.list → e.learnt ≡ f.learnt → Knows told e → Knows told f
knows_same told e f list learnt (inl p) = inl (subst (λ l. IsPrefix told l) list p)
knows_same told e f list learnt (inr q) = inr (sym list ∙ q.0, sym learnt ∙ q.1)

kept_front : (shorter rest : List Version) (k : ℕ) (v : Version) → slice_get shorter k ≡ Some v → slice_get (shorter ++ rest) k ≡ Some v
kept_front [] rest k v at = absurd (none-some v at)
kept_front (u ∷ us) rest zero v at = at
kept_front (u ∷ us) rest (suc k) v at = kept_front us rest k v at

-- a longer list has the entries of what it begins with
pub kept_entry : (shorter longer : List Version) (k : ℕ) (v : Version) → IsPrefix shorter longer → slice_get shorter k ≡ Some v → slice_get longer k ≡ Some v
kept_entry shorter longer k v p at = subst (λ (l : List Version). slice_get l k ≡ Some v) (sym p.1) (kept_front shorter p.0 k v at)

pub prefix_length : (shorter longer : List Version) → IsPrefix shorter longer → length shorter ≤ length longer
prefix_length shorter longer p =
    let len = length-append shorter p.0 in
    subst (λ (l : List Version). length shorter ≤ length l) (sym p.1) (omega (arith, len))

-- two lists that begin with one list and are the same behind it are one list
pub same_past_known : (known one other : List Version) → IsPrefix known one → IsPrefix known other → drop (length known) one ≡ drop (length known) other → one ≡ other
same_past_known known one other p q same =
    p.1 ∙ ap (λ r. known ++ r)
    (sym (drop-append_seam known p.0) ∙ ap (drop (length known)) (sym p.1) ∙ same ∙ ap (drop (length known)) q.1 ∙ drop-append_seam known q.0)
    ∙ sym q.1
