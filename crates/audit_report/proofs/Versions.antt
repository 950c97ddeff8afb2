-- The papers of versions, found by doing the acts of entries again.
use Rattle.std.proofs.Common.{◌≡◌, ◌+◌, ◌<◌, ◌≤◌, ℕ, true, List, [], ◌∷◌, ◌++◌, length, length-append, get_or, map, take, drop, refl, sym, ap, subst, ◌∙◌, add-one, arith}
use Rattle.std.proofs.Math.Seq.{get_or-append_seam, take-suc}
use Rattle.std.proofs.lemmas.List.{get_or-map, get_or-take, length-map, length-take-le, map-append, take-append-drop}
use Rattle.std.specs.Prelude.{Some, slice_get}
use Rattle.point_paper.specs.Papers.{PaperCells}
use Rattle.draft_model.specs.Designs.{IsPaperOf}
use Rattle.version_journal.specs.Journals.{History, gone_on, history, replies, step, versions}
use Rattle.version_journal.specs.declared.entry.Entry.{Entry}
use Rattle.version_journal.specs.declared.entry.Reply.{Reply}
use Rattle.version_journal.specs.declared.entry.Reply.TheVariants.{Painted, Accepted, Refused}
use Rattle.version_journal.proofs.Histories.{joined, length-replies, replies_stay}
use Rattle.session_file.specs.declared.session.Session.{Session}
use Rattle.shift_model.specs.Logs.{named_act}
use Rattle.shift_model.proofs.lemmas.Lists.{kept}
use Rattle.audit_model.specs.States.{named_acts, reply_to}
use Rattle.audit_model.proofs.Adding.{versions_grow}
use Rattle.audit_model.proofs.Keeping.{reply_adds}
use Rattle.audit_report.specs.Papers.{made_by, paper_by, versions_by}
use Rattle.audit_report.proofs.Histories.{Does, one_more, step_by}

abbrev history_at : Session → List Entry → ℕ → History
history_at session entries k = history session.design session.opening (named_acts session (take k entries))

abbrev AreReplied : Session → List Entry → Type 0
AreReplied session entries = map (λ (e : Entry). e.reply) entries ≡ replies session.design session.opening (named_acts session entries)

-- the acts of the first entries are done, and made no version of the number yet
pub record IsUpTo (session : Session) (entries : List Entry) (k version : ℕ) (paper : PaperCells) : Type 0 where
  pub some : 0 < version
  pub present : paper ≡ (history_at session entries k).paper
  pub of_design : IsPaperOf session.design paper
  pub below : length (history_at session entries k).versions ≤ version

-- one entry more
at_next : (session : Session) (entries : List Entry) (k : ℕ) (d : Entry) → k < length entries
    → history_at session entries (k + 1) ≡ step session.design (history_at session entries k) (named_act session (get_or entries k d))
at_next session entries k d h =
    ap (λ es. history session.design session.opening (named_acts session es)) (ap (λ n. take n entries) (add-one k) ∙ take-suc entries k d h)
    ∙ one_more session (take k entries) (get_or entries k d)

all_from : (session : Session) (entries : List Entry) (k : ℕ)
    → history session.design session.opening (named_acts session entries) ≡ gone_on session.design (history_at session entries k) (named_acts session (drop k entries))
all_from session entries k =
    ap (λ es. history session.design session.opening (named_acts session es)) (sym (take-append-drop k entries))
    ∙ ap (history session.design session.opening) (map-append (named_act session) (take k entries) (drop k entries))
    ∙ joined session.design session.opening (named_acts session (take k entries)) (named_acts session (drop k entries))

reply_at : (session : Session) (entries : List Entry) (k : ℕ) (d : Entry) → k < length entries → AreReplied session entries
    → (get_or entries k d).reply ≡ reply_to session.design (history_at session entries k) (named_act session (get_or entries k d))
reply_at session entries k d h replied =
    let now = history_at session entries k in
    let next = history_at session entries (k + 1) in
    let r = reply_to session.design now (named_act session (get_or entries k d)) in
    let many : length now.replies ≡ k = length-replies session.design session.opening (named_acts session (take k entries)) ∙ length-map (take k entries) (named_act session) ∙ length-take-le k entries (omega (arith, h)) in
    let are : next.replies ≡ now.replies ++ r ∷ [] = ap (λ (x : History). x.replies) (at_next session entries k d h) ∙ reply_adds session.design now (named_act session (get_or entries k d)) in
    let more : k < length next.replies = omega (arith, ap length are, length-append now.replies (r ∷ []), many) in
    let front : take (length next.replies) (replies session.design session.opening (named_acts session entries)) ≡ next.replies =
    ap (λ (x : History). take (length next.replies) x.replies) (all_from session entries (k + 1)) ∙ replies_stay session.design next (named_acts session (drop (k + 1) entries)) in
    sym (get_or-map (λ (e : Entry). e.reply) entries k d Painted h)
    ∙ ap (λ l. get_or l k Painted) replied
    ∙ sym (get_or-take (length next.replies) (replies session.design session.opening (named_acts session entries)) k Painted more)
    ∙ ap (λ l. get_or l k Painted) (front ∙ are)
    ∙ ap (λ n. get_or (now.replies ++ r ∷ []) n Painted) (sym many)
    ∙ get_or-append_seam now.replies r [] Painted

does_at : (session : Session) (entries : List Entry) (k : ℕ) (d : Entry) → k < length entries → AreReplied session entries
    → Does (history_at session entries k) (named_act session (get_or entries k d)) (get_or entries k d).reply (history_at session entries (k + 1))
does_at session entries k d h replied =
    let e = get_or entries k d in
    subst (λ (x : History). Does (history_at session entries k) (named_act session e) e.reply x) (sym (at_next session entries k d h))
    (step_by session.design (history_at session entries k) (named_act session e) e.reply (reply_at session entries k d h replied))

pub none_yet : (session : Session) (version : ℕ) (paper : PaperCells) (entries : List Entry) → 0 < version → paper ≡ session.opening → IsPaperOf session.design session.opening → IsUpTo session entries 0 version paper
none_yet session version paper [] some is fits = record { some = some; present = is; of_design = subst (λ (p : PaperCells). IsPaperOf session.design p) (sym is) fits; below = some }
none_yet session version paper (e ∷ entries) some is fits = record { some = some; present = is; of_design = subst (λ (p : PaperCells). IsPaperOf session.design p) (sym is) fits; below = some }

pub not_yet : (session : Session) (entries : List Entry) (k version : ℕ) (d : Entry) (paper now : PaperCells) → k < length entries → AreReplied session entries
    → IsUpTo session entries k version paper → now ≡ paper_by (get_or entries k d).reply (named_act session (get_or entries k d)) paper → IsPaperOf session.design now
    → (made_by (get_or entries k d).reply ≡ version → ⊥) → IsUpTo session entries (k + 1) version now
not_yet session entries k version d paper now h replied was done fits other =
    let e = get_or entries k d in
    let does = does_at session entries k d h replied in
    record {
      some = was.some;
      present = done ∙ ap (paper_by e.reply (named_act session e)) was.present ∙ sym does.paper;
      of_design = fits;
      below = by e.reply does.versions does.number other;
    } where
      by : (r : Reply) → (history_at session entries (k + 1)).versions ≡ versions_by r (history_at session entries k).versions (history_at session entries k).paper
          → (Rattle.version_journal.specs.Entries.is_accepted r ≡ true → made_by r ≡ length (history_at session entries k).versions) → (made_by r ≡ version → ⊥)
          → length (history_at session entries (k + 1)).versions ≤ version
      by Painted are number not = omega (arith, ap length are, was.below)
      by (Refused float) are number not = omega (arith, ap length are, was.below)
      by (Accepted n) are number not =
          less (made_of (number refl)) (was.below) where
            made_of : n ≡ length (history_at session entries k).versions → (length (history_at session entries k).versions ≡ version → ⊥)
            made_of is e = not (is ∙ e)

            below_by : (a b : ℕ) → (a ≡ b → ⊥) → a ≤ b → a < b
            below_by a b differ low = omega (arith, differ, low)

            less : (length (history_at session entries k).versions ≡ version → ⊥) → length (history_at session entries k).versions ≤ version → length (history_at session entries (k + 1)).versions ≤ version
            less differ low = omega (arith, ap length are, length-append (history_at session entries k).versions ((history_at session entries k).paper ∷ []), below_by (length (history_at session entries k).versions) version differ low)

pub here : (session : Session) (entries : List Entry) (k version : ℕ) (d : Entry) (paper now : PaperCells) → k < length entries → AreReplied session entries
    → IsUpTo session entries k version paper → now ≡ paper_by (get_or entries k d).reply (named_act session (get_or entries k d)) paper
    → made_by (get_or entries k d).reply ≡ version → slice_get (versions session.design session.opening (named_acts session entries)) version ≡ Some now
here session entries k version d paper now h replied was done is = by (get_or entries k d).reply (does_at session entries k d h replied) done is where
  by : (r : Reply) → Does (history_at session entries k) (named_act session (get_or entries k d)) r (history_at session entries (k + 1)) → now ≡ paper_by r (named_act session (get_or entries k d)) paper → made_by r ≡ version
      → slice_get (versions session.design session.opening (named_acts session entries)) version ≡ Some now
  by Painted does done is = absurd (omega (arith, was.some, is))
  by (Refused float) does done is = absurd (omega (arith, was.some, is))
  by (Accepted n) does done is =
      let now_at = history_at session entries k in
      let number : length now_at.versions ≡ version = sym (does.number refl) ∙ is in
      let grown = versions_grow session.design session.opening (named_acts session (take (k + 1) entries)) (named_acts session (drop (k + 1) entries)) in
      let rest = grown.0 in
      let split : versions session.design session.opening (named_acts session entries) ≡ (history_at session entries (k + 1)).versions ++ rest =
      ap (λ es. versions session.design session.opening (named_acts session es)) (sym (take-append-drop (k + 1) entries))
      ∙ ap (versions session.design session.opening) (map-append (named_act session) (take (k + 1) entries) (drop (k + 1) entries)) ∙ grown.1 in
      let last : slice_get (history_at session entries (k + 1)).versions version ≡ Some now_at.paper =
      ap (λ l. slice_get l version) does.versions ∙ ap (slice_get (now_at.versions ++ now_at.paper ∷ [])) (sym number) ∙ at_seam now_at.versions now_at.paper in
      ap (λ l. slice_get l version) split ∙ kept (history_at session entries (k + 1)).versions rest version now_at.paper last ∙ ap Some (sym (done ∙ was.present)) where
        at_seam : (xs : List PaperCells) (x : PaperCells) → slice_get (xs ++ x ∷ []) (length xs) ≡ Some x
        at_seam [] x = refl
        at_seam (y ∷ xs) x = at_seam xs x

pub first_version : (session : Session) (entries : List Entry) (version : ℕ) (paper : PaperCells) → version ≡ 0 → paper ≡ session.opening
    → slice_get (versions session.design session.opening (named_acts session entries)) version ≡ Some paper
first_version session entries version paper none is =
    let grown = versions_grow session.design session.opening [] (named_acts session entries) in
    ap (slice_get (versions session.design session.opening (named_acts session entries))) none ∙ ap (λ l. slice_get l 0) grown.1 ∙ ap Some (sym is)
