-- What an act does, told by its reply.
use Rattle.std.proofs.Common.{◌≡◌, Bool, true, false, cond, List, [], ◌∷◌, ◌++◌, length, refl, sym, ap, subst, ◌∙◌, append_assoc}
use Rattle.std.proofs.lemmas.List.{map-append}
use Rattle.std.specs.Prelude.{Option, Some, None}
use Rattle.draft_model.specs.declared.design.Design.{Design}
use Rattle.draft_model.specs.declared.float_run.FloatRun.{FloatRun}
use Rattle.version_journal.specs.Entries.{is_accepted}
use Rattle.version_journal.specs.Journals.{ActWithMotif, History, committed, float_kept, history, is_commit, painted, reply_to_commit, step, versions_after}
use Rattle.version_journal.specs.declared.entry.Entry.{Entry}
use Rattle.version_journal.specs.declared.entry.Reply.{Reply}
use Rattle.version_journal.specs.declared.entry.Reply.TheVariants.{Painted}
use Rattle.session_file.specs.declared.session.Session.{Session}
use Rattle.shift_model.specs.Logs.{named_act}
use Rattle.audit_model.specs.States.{State, commit_reply, entries_of, go, history_of, named_acts, reply_to}
use Rattle.audit_model.specs.States.Move.{Do}
use Rattle.audit_model.proofs.Keeping.{not_both}
use Rattle.version_journal.proofs.Histories.{joined}
use Rattle.audit_report.specs.Papers.{made_by, paper_by, versions_by}

-- the history after an act with this reply
pub record Does (h : History) (act : ActWithMotif) (reply : Reply) (after : History) : Type 0 where
  pub paper : after.paper ≡ paper_by reply act h.paper
  pub versions : after.versions ≡ versions_by reply h.versions h.paper
  pub number : is_accepted reply ≡ true → made_by reply ≡ length h.versions

pub step_by : (design : Design) (h : History) (act : ActWithMotif) (reply : Reply) → reply ≡ reply_to design h act → Does h act reply (step design h act)
step_by design h act reply is = subst (λ (r : Reply). Does h act r (step design h act)) (sym is) (by (is_commit act.act)) where
  by_float : (f : Option FloatRun) → Does h act (reply_to_commit (length h.versions) f) (record { paper = h.paper; replies = h.replies ++ reply_to_commit (length h.versions) f ∷ []; versions = versions_after h.versions h.paper f })
  by_float None = record { paper = refl; versions = refl; number = λ e. refl }
  by_float (Some f) = record { paper = refl; versions = refl; number = λ e. absurd (not_both false refl e) }

  by : (b : Bool) → Does h act (cond b (commit_reply design h) Painted) (cond b (committed design h) (painted h act))
  by false = record { paper = refl; versions = refl; number = λ e. absurd (not_both false refl e) }
  by true = by_float (float_kept design h.paper)

-- one more act
pub one_more : (session : Session) (es : List Entry) (e : Entry)
    → history session.design session.opening (named_acts session (es ++ e ∷ [])) ≡ step session.design (history session.design session.opening (named_acts session es)) (named_act session e)
one_more session es e = ap (history session.design session.opening) (map-append (named_act session) es (e ∷ [])) ∙ joined session.design session.opening (named_acts session es) (named_act session e ∷ [])

pub done_more : (session : Session) (s : State) (e : Entry) → history_of session (go session s (Do e)) ≡ step session.design (history_of session s) (named_act session e)
done_more session s e = ap (λ es. history session.design session.opening (named_acts session es)) (sym (append_assoc s.before.entries s.new (e ∷ []))) ∙ one_more session (entries_of s) e
