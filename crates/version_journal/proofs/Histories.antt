-- What every list of acts keeps, by induction on it.
use Rattle.std.proofs.Common.{◌≡◌, ℕ, suc, ◌+◌, Bool, true, false, cond, List, [], ◌∷◌, ◌++◌, Option, Some, None, length, take, sym, ap, ◌∙◌, append_assoc, length-append, arith}
use Rattle.std.specs.Prelude.{All, count_by}
use Rattle.std.proofs.Math.Seq.{take-append_seam}
use Rattle.std.proofs.lemmas.List.{append-nil}
use Rattle.std.proofs.lemmas.List.Sums.{sum_by-append, fold-append}
use Rattle.point_paper.specs.Papers.{PaperCells}
use Rattle.draft_model.specs.declared.design.Design.{Design}
use Rattle.draft_model.specs.declared.float_run.FloatRun.{FloatRun}
use Rattle.version_journal.specs.Entries.{is_accepted}
use Rattle.version_journal.specs.Journals.{ActWithMotif, History, begun, committed, float_kept, gone_on, history, is_commit, painted, replies, reply_to_commit, step, versions, versions_after}
use Rattle.version_journal.specs.declared.entry.Reply.{Reply}
use Rattle.version_journal.specs.declared.entry.Reply.TheVariants.{Painted, Accepted, Refused}

-- what a paint and a commit keep, each act keeps
pub kept_by_step : (P : History → Type 0) (design : Design) (h : History) (act : ActWithMotif) → P (painted h act) → P (committed design h) → P (step design h act)
kept_by_step P design h act paint commit = either (is_commit act.act) where
  either : (b : Bool) → P (cond b (committed design h) (painted h act))
  either true = commit
  either false = paint

-- what each act with a property keeps, a list of such acts keeps
pub kept_by_all : (P : History → Type 0) (Q : ActWithMotif → Type 0) (design : Design) → ((h : History) (act : ActWithMotif) → Q act → P h → P (step design h act))
    → (h : History) (acts : List ActWithMotif) → All Q acts → P h → P (gone_on design h acts)
kept_by_all P Q design keeps h [] each p = p
kept_by_all P Q design keeps h (act ∷ acts) each p =
    kept_by_all P Q design keeps (step design h act) acts (λ k d below. each (suc k) d (omega arith)) (keeps h act (each 0 act (omega arith)) p)

-- what a paint and a commit keep, every list of acts keeps
pub kept : (P : History → Type 0) (design : Design) → ((h : History) (act : ActWithMotif) → P h → P (painted h act)) → ((h : History) → P h → P (committed design h))
    → (h : History) (acts : List ActWithMotif) → P h → P (gone_on design h acts)
kept P design paint commit h acts p =
    kept_by_all P (λ act. Unit {0}) design (λ h act one p. kept_by_step P design h act (paint h act p) (commit h p)) h acts (λ k d below. tt) p

-- a list is the front of another
IsFront : {A : Type 0} → List A → List A → Type 0
IsFront {A} xs ys = (rest : List A) × (ys ≡ xs ++ rest)

front_itself : {A : Type 0} (xs : List A) → IsFront xs xs
unfolding IsFront
front_itself xs = ([], sym (append-nil xs))

front_more : {A : Type 0} (xs ys : List A) (y : A) → IsFront xs ys → IsFront xs (ys ++ y ∷ [])
unfolding IsFront
front_more xs ys y f = (f.0 ++ y ∷ [], ap (λ l. l ++ y ∷ []) f.1 ∙ append_assoc xs f.0 (y ∷ []))

taken_front : {A : Type 0} (xs ys : List A) → IsFront xs ys → take (length xs) ys ≡ xs
unfolding IsFront
taken_front xs ys f = ap (take (length xs)) f.1 ∙ take-append_seam xs f.0

-- what was replied stays, and each version stays
pub replies_stay : (design : Design) (h : History) (acts : List ActWithMotif) → take (length h.replies) (gone_on design h acts).replies ≡ h.replies
replies_stay design h acts = taken_front h.replies (gone_on design h acts).replies
    (kept (λ g. IsFront h.replies g.replies) design (λ g act. front_more h.replies g.replies Painted)
    (λ g. front_more h.replies g.replies (reply_to_commit (length g.versions) (float_kept design g.paper))) h acts (front_itself h.replies))

pub versions_stay : (design : Design) (h : History) (acts : List ActWithMotif) → take (length h.versions) (gone_on design h acts).versions ≡ h.versions
versions_stay design h acts = taken_front h.versions (gone_on design h acts).versions
    (kept (λ g. IsFront h.versions g.versions) design (λ g act f. f) (λ g f. either g f (float_kept design g.paper)) h acts (front_itself h.versions)) where
      either : (g : History) → IsFront h.versions g.versions → (float : Option FloatRun) → IsFront h.versions (versions_after g.versions g.paper float)
      either g f None = front_more h.versions g.versions g.paper f
      either g f (Some float) = f

-- each act has one reply
pub length-gone_on : (design : Design) (h : History) (acts : List ActWithMotif) → length (gone_on design h acts).replies ≡ length h.replies + length acts
length-gone_on design h [] = omega arith
length-gone_on design h (act ∷ acts) = omega (
  arith,
  length-gone_on design (step design h act) acts,
  kept_by_step (λ g. length g.replies ≡ length h.replies + 1) design h act
      (length-append h.replies (Painted ∷ [])) (length-append h.replies (reply_to_commit (length h.versions) (float_kept design h.paper) ∷ [])),
)

pub length-replies : (design : Design) (opening : PaperCells) (acts : List ActWithMotif) → length (replies design opening acts) ≡ length acts
length-replies design opening acts = length-gone_on design (begun opening) acts ∙ (let e : 0 + length acts ≡ length acts = omega arith in e)

-- one version more than accepted commits
count_more : (replies : List Reply) (reply : Reply) → count_by is_accepted (replies ++ reply ∷ []) ≡ count_by is_accepted replies + cond {A = ℕ} (is_accepted reply) 1 0
count_more replies reply = sum_by-append (λ r. cond (is_accepted r) 1 0) replies (reply ∷ []) ∙ (let e : count_by is_accepted replies + (0 + cond {A = ℕ} (is_accepted reply) 1 0) ≡ count_by is_accepted replies + cond {A = ℕ} (is_accepted reply) 1 0 = omega arith in e)

Counts : History → Type 0
Counts h = length h.versions ≡ count_by is_accepted h.replies + 1

pub versions_count : (design : Design) (opening : PaperCells) (acts : List ActWithMotif) → length (versions design opening acts) ≡ count_by is_accepted (replies design opening acts) + 1
unfolding Counts
versions_count design opening acts = kept Counts design
    (λ h act c. omega (arith, count_more h.replies Painted, c)) (λ h c. either h c (float_kept design h.paper)) (begun opening) acts (omega arith) where
      either : (h : History) → Counts h → (float : Option FloatRun)
          → length (versions_after h.versions h.paper float) ≡ count_by is_accepted (h.replies ++ reply_to_commit (length h.versions) float ∷ []) + 1
      either h c None = omega (arith, count_more h.replies (Accepted (length h.versions)), length-append h.versions (h.paper ∷ []), c)
      either h c (Some float) = omega (arith, count_more h.replies (Refused float), c)

pub joined : (design : Design) (opening : PaperCells) (one other : List ActWithMotif) → history design opening (one ++ other) ≡ gone_on design (history design opening one) other
joined design opening one other = fold-append (step design) (begun opening) one other
