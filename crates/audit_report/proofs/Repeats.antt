-- Which repeats may come next, by the numbers that are kept.
use Rattle.std.proofs.Common.{◌≡◌, ◌⊎◌, inl, inr, ◌+◌, ◌<◌, ◌≤◌, ℕ, zero, suc, List, [], ◌∷◌, length, refl, sym, ap, subst, ◌∙◌, arith}
use Rattle.std.proofs.lemmas.Bool.{cases_lt}
use Rattle.std.specs.Prelude.{IfNone, Option, Some, None, slice_get, slice_index, if◌then◌else◌}
use Rattle.mill_base.specs.declared.face.Face.{Face}
use Rattle.point_paper.specs.Papers.{PaperCells}
use Rattle.draft_model.specs.declared.design.Design.{Design}
use Rattle.loom_threads.specs.Woven.{digest_of, lifted}
use Rattle.version_journal.specs.declared.run_log.Repeat.{Repeat}
use Rattle.session_file.specs.declared.session.Session.{Session}
use Rattle.report_text.specs.Reports.{loom_line}
use Rattle.audit_model.specs.Audits.{Begins}
use Rattle.audit_model.specs.States.{CanWeave, Part, face_of, repeats_of, versions_of}
use Rattle.audit_model.proofs.Keeping.{versions_counted}
use Rattle.audit_report.specs.Checkers.{AreOfVersions, KeepsFor, digest_at, digest_in, state_of}
use Rattle.audit_report.specs.Moves.{IsTurn}
use Rattle.audit_report.specs.Texts.{loom_line_by}
use Rattle.audit_report.proofs.Keeping.{not_some}
use Rattle.audit_report.specs.declared.checker.Checker.{Checker}
use Rattle.audit_report.specs.declared.digests.Digests.{Digests}

pub there_is : {X : Type 0} (xs : List X) (k : ℕ) → k < length xs → (x : X) × (slice_get xs k ≡ Some x)
there_is [] k h = absurd (omega (arith, h))
there_is (x ∷ xs) zero h = (x, refl)
there_is (x ∷ xs) (suc k) h = there_is xs k (omega (arith, h))

-- the digest of a version that there is
digest_is : (design : Design) (versions : List PaperCells) (digests : List Digests) (version : ℕ) (paper : PaperCells) (face : Face) → AreOfVersions design versions digests
    → slice_get versions version ≡ Some paper → version < length digests → digest_at digests version face ≡ digest_of (lifted design face paper)
digest_is design versions digests version paper face are at low =
    let d = there_is digests version low in
    ap (λ (o : Option Digests). digest_in o face) d.1 ∙ (are.each version paper d.0 at d.1).each face

pub can_weave : (session : Session) (checker : Checker) (loom version : ℕ) (woven : Repeat) → KeepsFor session (state_of checker) checker.done.items checker.least.items checker.paper checker.digests.items
    → Part session (state_of checker) → IsTurn session checker loom → slice_index checker.least.items loom ≤ version → version < length checker.digests.items
    → woven.shift ≡ checker.shift → woven.version ≡ version → woven.digest ≡ digest_at checker.digests.items version (face_of session loom)
    → ((paper : PaperCells) → slice_get (versions_of session (state_of checker)) version ≡ Some paper → woven.rows ≡ (if session.show_rows then Some (lifted session.design (face_of session loom) paper) else None))
    → CanWeave session (state_of checker) loom woven
can_weave session checker loom version woven k p turn low high shift is digest rows =
    let s = state_of checker in
    let p0 = there_is (versions_of session s) version (omega (arith, high, k.of_versions.count)) in
    let paper = p0.0 in
    let at = p0.1 in
    let up = (k.lowest loom turn.there).up woven.version (omega (arith, low, is)) in
    record {
      going = turn.going;
      acts = turn.acts;
      below = turn.below;
      there = turn.there;
      left = turn.left;
      shift = shift;
      no_older = up.0;
      no_newer = omega (arith, is, high, k.of_versions.count, versions_counted session s p);
      rises = up.1;
      is = record {
        paper = paper;
        version = ap (slice_get (versions_of session s)) is ∙ at;
        digest = digest ∙ digest_is session.design (versions_of session s) checker.digests.items version paper (face_of session loom) k.of_versions at high;
        rows = rows paper at;
      };
    }

-- what may be woven is of a version that is searched
pub is_searched : (session : Session) (checker : Checker) (loom number : ℕ) (r : Repeat) → KeepsFor session (state_of checker) checker.done.items checker.least.items checker.paper checker.digests.items
    → Part session (state_of checker) → CanWeave session (state_of checker) loom r
    → (slice_index checker.least.items loom ≤ r.version) × (r.version < length checker.digests.items)
    × (loom_line (face_of session loom) loom number r ≡ loom_line_by (face_of session loom) loom number r.version (digest_at checker.digests.items r.version (face_of session loom)))
is_searched session checker loom number r k p can =
    let s = state_of checker in
    let face = face_of session loom in
    let high : r.version < length checker.digests.items = omega (arith, can.no_newer, k.of_versions.count, versions_counted session s p) in (
      (k.lowest loom can.there).down r.version can.no_older can.rises,
      high,
      ap (λ (d : List ℕ). loom_line_by face loom number r.version d)
          (can.is.digest ∙ sym (digest_is session.design (versions_of session s) checker.digests.items r.version can.is.paper face k.of_versions can.is.version high)),
    )

-- no version that is searched may come next, so none may
pub none_woven : (session : Session) (checker : Checker) (loom number low : ℕ) (face : Face) (digests : List Digests) (piece : List ℕ)
    → KeepsFor session (state_of checker) checker.done.items checker.least.items checker.paper checker.digests.items → Part session (state_of checker)
    → face ≡ face_of session loom → low ≡ slice_index checker.least.items loom → number ≡ length (repeats_of (state_of checker) loom) → digests ≡ checker.digests.items
    → ((v : ℕ) → low ≤ v → v < length digests → Begins piece (loom_line_by face loom number v (digest_at digests v face)) → ⊥)
    → (r : Repeat) → CanWeave session (state_of checker) loom r → Begins piece (loom_line (face_of session loom) loom (length (repeats_of (state_of checker) loom)) r) → ⊥
none_woven session checker loom number low face digests piece k p a b c d none r can begins =
    let at = is_searched session checker loom (length (repeats_of (state_of checker) loom)) r k p can in
    none r.version (omega (arith, b, at.0)) (omega (arith, ap length d, at.1))
    (subst (λ (l : List ℕ). Begins piece l) (at.2 ∙ ap (λ f. loom_line_by f loom (length (repeats_of (state_of checker) loom)) r.version (digest_at checker.digests.items r.version f)) (sym a)
    ∙ ap (λ n. loom_line_by face loom n r.version (digest_at checker.digests.items r.version face)) (sym c)
    ∙ ap (λ (ds : List Digests). loom_line_by face loom number r.version (digest_at ds r.version face)) (sym d)) begins)

-- the line of the version that was found
pub line_is : (session : Session) (checker : Checker) (loom number version : ℕ) (face : Face) (digests : List Digests) (piece : List ℕ) (r : Repeat)
    → face ≡ face_of session loom → number ≡ length (repeats_of (state_of checker) loom) → digests ≡ checker.digests.items
    → Begins piece (loom_line_by face loom number version (digest_at digests version face))
    → r.version ≡ version → r.digest ≡ digest_at checker.digests.items version (face_of session loom)
    → Begins piece (loom_line (face_of session loom) loom (length (repeats_of (state_of checker) loom)) r)
line_is session checker loom number version face digests piece r a c d begins v e =
    subst (λ (l : List ℕ). Begins piece l)
    (ap (λ (ds : List Digests). loom_line_by face loom number version (digest_at ds version face)) d
    ∙ ap (λ n. loom_line_by face loom n version (digest_at checker.digests.items version face)) c
    ∙ ap (λ f. loom_line_by f loom (length (repeats_of (state_of checker) loom)) version (digest_at checker.digests.items version f)) a
    ∙ ap (λ n. loom_line_by (face_of session loom) loom (length (repeats_of (state_of checker) loom)) n (digest_at checker.digests.items version (face_of session loom))) (sym v)
    ∙ ap (λ (l : List ℕ). loom_line_by (face_of session loom) loom (length (repeats_of (state_of checker) loom)) r.version l) (sym e)) begins

-- what a clause says where nothing was found
pub when_none : {P : Type 0} (found : Option ℕ) → IfNone found P → found ≡ None → P
when_none None h e = h
when_none (Some n) h e = absurd (not_some n (sym e))

-- none of the numbers from low on, up to one more
pub no_more : (P : ℕ → Type 0) (low n : ℕ) → ((v : ℕ) → low ≤ v → v < n → P v → ⊥) → (P n → ⊥) → (v : ℕ) → low ≤ v → v < n + 1 → P v → ⊥
no_more P low n none not v a l p = by (cases_lt v n) where
  by : (v < n) ⊎ (n ≤ v) → ⊥
  by (inl less) = none v a less p
  by (inr high) = not (subst P (let e : v ≡ n = omega (arith, high, l) in e) p)
