-- One act more at a desk.
use Rattle.std.proofs.Common.{◌≡◌, ◌+◌, ◌-◌, ℕ, Bool, true, false, cond, List, [], ◌∷◌, ◌++◌, length, get_or, map, refl, sym, ap, subst, ◌∙◌, arith, None, Some, Option}
use Rattle.std.specs.List.{fold}
use Rattle.std.proofs.lemmas.List.{map-append}
use Rattle.std.proofs.lemmas.List.Sums.{fold_push}
use Rattle.draft_model.specs.declared.design.Design.{Design}
use Rattle.draft_model.specs.declared.float_run.FloatRun.{FloatRun}
use Rattle.strokes.specs.Spans.{PreparedAct}
use Rattle.strokes.specs.Places.{motif_of_act}
use Rattle.strokes.specs.declared.act.Act.TheVariants.{Commit}
use Rattle.version_journal.specs.Journals.{ActWithMotif, History, begun, committed, float_kept, is_commit, painted, reply_to_commit, step, versions_after, with_motif}
use Rattle.version_journal.specs.declared.entry.Entry.{Entry}
use Rattle.version_journal.specs.declared.entry.Reply.{Reply}
use Rattle.version_journal.specs.declared.entry.Reply.TheVariants.{Painted}
use Rattle.session_file.specs.declared.session.Session.{Session}
use Rattle.shed_publish.specs.declared.newest.Version.{Version}
use Rattle.card_image.specs.Sets.{cards_of}
use Rattle.studio_core.specs.Cores.{CoreValue, entry_by}
use Rattle.studio_core.specs.Histories.{IsAt}
use Rattle.shift_model.specs.Logs.{named_act}
use Rattle.shift_model.specs.Plans.{acts_of_painter, plan_of}
use Rattle.shift_run.specs.DeskActs.{GoesTo, MakesNewest, act_of, list_after, reply_of}
use Rattle.shift_run.specs.Desks.{Holds, history_of, numbered}
use Rattle.shift_run.specs.inner.Foreman.{IsPrepared, act_at}
use Rattle.shift_run.specs.declared.desk.Desk.{Desk}
use Rattle.shift_run.proofs.Versions.{numbered_snoc}

-- one act more in the history
history_more : (session : Session) (entries : List Entry) (e : Entry)
    → history_of session (entries ++ e ∷ []) ≡ step session.design (history_of session entries) (named_act session e)
history_more session entries e =
    ap (fold (step session.design) (begun session.opening)) (map-append (named_act session) entries (e ∷ []))
    ∙ fold_push (step session.design) (begun session.opening) (map (named_act session) entries) (named_act session e)

-- the published list goes with the versions of the history
shown_by : (design : Design) (h : History) (before after : CoreValue) (b : Bool) (f : Option FloatRun) (act : ActWithMotif) (reply : Reply) (list : List Version)
    → reply ≡ cond b (reply_to_commit (before.version + 1) f) Painted → length h.versions ≡ before.version + 1 → before.design ≡ design → before.paper ≡ h.paper
    → MakesNewest reply before after → list ≡ numbered design 0 h.versions
    → list_after reply after list ≡ numbered design 0 (cond b (versions_after h.versions h.paper f) h.versions)
shown_by design h before after true None act reply list is last of_design painted newest shown =
    let answered = subst (λ (r : Reply). MakesNewest r before after) is newest in
    let number : after.version ≡ 0 + length h.versions = omega (arith, answered.0, last) in
    ap (λ r. list_after r after list) is
    ∙ ap (λ l. l ++ record { version = after.version; cards = after.cards } ∷ []) shown
    ∙ ap (λ n. numbered design 0 h.versions ++ record { version = n; cards = after.cards } ∷ []) number
    ∙ ap (λ c. numbered design 0 h.versions ++ record { version = 0 + length h.versions; cards = c } ∷ [])
    (answered.1 ∙ ap (λ d. cards_of d before.paper) of_design ∙ ap (cards_of design) painted)
    ∙ sym (numbered_snoc design 0 h.versions h.paper)
shown_by design h before after true (Some float) act reply list is last of_design painted newest shown = ap (λ r. list_after r after list) is ∙ shown
shown_by design h before after false f act reply list is last of_design painted newest shown = ap (λ r. list_after r after list) is ∙ shown

pub versions_by : (design : Design) (h : History) (act : ActWithMotif) (b : Bool) → is_commit act.act ≡ b
    → (step design h act).versions ≡ cond b (versions_after h.versions h.paper (float_kept design h.paper)) h.versions
versions_by design h act b is = ap (λ t. (cond t (committed design h) (painted h act)).versions) is ∙ both b where
  both : (b : Bool) → (cond b (committed design h) (painted h act)).versions ≡ cond b (versions_after h.versions h.paper (float_kept design h.paper)) h.versions
  both true = refl
  both false = refl

pub shown_after : (design : Design) (h : History) (before after : CoreValue) (act : PreparedAct) (reply : Reply) (list : List Version) → reply ≡ reply_of before act
    → before.design ≡ design → IsAt h before → MakesNewest reply before after → list ≡ numbered design 0 h.versions
    → list_after reply after list ≡ numbered design 0 (step design h (act_of act)).versions
shown_after design h before after act reply list is of_design at newest shown =
    let b = is_commit act.act in
    let float : float_kept before.design before.paper ≡ float_kept design h.paper = ap (λ d. float_kept d before.paper) of_design ∙ ap (float_kept design) at.painted in
    shown_by design h before after b (float_kept design h.paper) (act_of act) reply list
    (is ∙ ap (λ f. cond b (reply_to_commit (before.version + 1) f) Painted) float) at.last of_design at.painted newest shown
    ∙ ap (numbered design 0) (sym (versions_by design h (act_of act) b refl))

-- an act was done: a painter's next one, by its prepared form
pub record DidNext (session : Session) (k p n : ℕ) (act : PreparedAct) (reply : Reply) (d e : Desk) : Type 0 where
  pub prepared : IsPrepared session (act_at session k p n) act
  pub design : d.core.design ≡ session.design
  pub entries : e.core.entries ≡ d.core.entries ++ entry_by k p (n + 1) reply ∷ []
  pub kept : e.core.design ≡ d.core.design
  pub goes : GoesTo d.core e.core (act_of act) reply

-- the history after it
pub next_is : (session : Session) (k p n : ℕ) (act : PreparedAct) (reply : Reply) (d e : Desk) → DidNext session k p n act reply d e
    → history_of session e.core.entries ≡ step session.design (history_of session d.core.entries) (act_of act)
next_is session k p n act reply d e did =
    let one = entry_by k p (n + 1) reply in
    let named : named_act session one ≡ act_of act =
    ap (λ m. with_motif session.motifs (get_or (acts_of_painter (plan_of session k) p) m Commit)) (let e : n + 1 - 1 ≡ n = omega arith in e)
    ∙ ap (λ a. record { act = a; motif = motif_of_act session.motifs (act_at session k p n) }) (sym did.prepared.of_act)
    ∙ ap (λ m. record { act = act.act; motif = m }) (sym did.prepared.motif) in
    ap (history_of session) did.entries ∙ history_more session d.core.entries one ∙ ap (step session.design (history_of session d.core.entries)) named

pub holds_more : (session : Session) (k p n : ℕ) (act : PreparedAct) (reply : Reply) (d e : Desk) → DidNext session k p n act reply d e → Holds session d → Holds session e
holds_more session k p n act reply d e did holds =
    let h = history_of session d.core.entries in
    let next = next_is session k p n act reply d e did in
    let goes = subst (λ (x : Design). IsAt (step x h (act_of act)) e.core × ((step x h (act_of act)).replies ≡ h.replies ++ reply ∷ [])) did.design (did.goes h holds.at) in
    record {
      design = did.kept ∙ did.design;
      at = subst (λ (x : History). IsAt x e.core) (sym next) goes.0;
      replied = ap (map (λ (x : Entry). x.reply)) did.entries ∙ map-append (λ (x : Entry). x.reply) d.core.entries (entry_by k p (n + 1) reply ∷ []) ∙ ap (λ l. l ++ reply ∷ []) holds.replied
          ∙ sym goes.1 ∙ sym (ap (λ (x : History). x.replies) next);
    }
