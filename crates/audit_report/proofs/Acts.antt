-- Which acts may come next, by the numbers that are kept.
use Rattle.std.proofs.Common.{◌≡◌, ◌+◌, ◌-◌, ◌<◌, ◌≤◌, ℕ, false, List, ◌++◌, length, length-append, get_or, codes, refl, sym, ap, subst, ◌∙◌, append_assoc, arith}
use Rattle.std.proofs.lemmas.Grind.{get_or_default_zero}
use Rattle.std.specs.Prelude.{Option, slice_index}
use Rattle.draft_model.specs.declared.design.Design.{Design}
use Rattle.draft_model.specs.declared.float_run.FloatRun.{FloatRun}
use Rattle.strokes.specs.declared.act.Act.{Act}
use Rattle.strokes.specs.declared.act.Act.TheVariants.{Commit}
use Rattle.version_journal.specs.Journals.{History, float_kept, reply_to_commit}
use Rattle.version_journal.specs.declared.entry.Entry.{Entry}
use Rattle.version_journal.specs.declared.entry.Reply.{Reply}
use Rattle.session_file.specs.Plans.{Fits}
use Rattle.session_file.specs.declared.session.Session.{Session}
use Rattle.shift_model.specs.Plans.{acts_of_painter, plan_of}
use Rattle.report_text.specs.Reports.{act_line, reply_text}
use Rattle.audit_model.specs.Audits.{Begins}
use Rattle.audit_model.specs.States.{CanDo, Part, State, commit_reply, done_of, entries_of, history_of, painters_of, reply_for, stated_acts, versions_of}
use Rattle.audit_model.proofs.Following.{act_is, act_of, the_entry}
use Rattle.audit_model.proofs.Keeping.{last_counted}
use Rattle.std.proofs.lemmas.List.Sums.{count_by-le-length}
use Rattle.version_journal.specs.Entries.{is_accepted}
use Rattle.audit_report.specs.Texts.{act_head}
use Rattle.audit_report.proofs.Counts.{few_done, few_entries}

-- the next act of a painter, with the reply that it gets
pub can_do : (session : Session) (s : State) (painter number : ℕ) (act : Act) (reply : Reply) → s.ended ≡ false → painter < painters_of session s → number ≡ done_of s painter
    → number < stated_acts session s painter → act ≡ get_or (acts_of_painter (plan_of session s.shift) painter) (number + 1 - 1) Commit
    → reply ≡ reply_for act (commit_reply session.design (history_of session s)) → CanDo session s (the_entry s.shift painter (number + 1) reply)
can_do session s painter number act reply going there count left is replied = record {
  going = going;
  shift = refl;
  painter = there;
  number = ap (λ n. n + 1) count;
  left = omega (arith, left, count);
  reply = replied ∙ ap (λ (a : Act). reply_for a (commit_reply session.design (history_of session s))) is;
}

-- a painter has one next act
pub one_act : (session : Session) (s : State) (e f : Entry) → CanDo session s e → CanDo session s f → e.painter ≡ f.painter → e ≡ f
one_act session s e f c d same = act_is session s e c ∙ ap (act_of session s) same ∙ sym (act_is session s f d)

pub not_this : (session : Session) (s : State) (piece : List ℕ) (act : ℕ) (e f : Entry) → CanDo session s f → (Begins piece (act_line act f) → ⊥) → e.painter ≡ f.painter → CanDo session s e → Begins piece (act_line act e) → ⊥
not_this session s piece act e f d not same c b = not (subst (λ (x : Entry). Begins piece (act_line act x)) (one_act session s e f c d same) b)

-- nor one whose line has another head
pub not_head : (session : Session) (s : State) (piece : List ℕ) (act painter number : ℕ) → ((rest : List ℕ) → Begins piece (act_head act painter number ++ rest) → ⊥) → number ≡ done_of s painter + 1
    → (e : Entry) → e.painter ≡ painter → CanDo session s e → Begins piece (act_line act e) → ⊥
not_head session s piece act painter number none is e same c b =
    none (reply_text e.reply ++ codes "\n")
    (subst (λ (l : List ℕ). Begins piece l) (append_assoc (act_head act e.painter e.number) (reply_text e.reply) (codes "\n")
    ∙ ap (λ p. act_head act p e.number ++ (reply_text e.reply ++ codes "\n")) same
    ∙ ap (λ n. act_head act painter n ++ (reply_text e.reply ++ codes "\n")) (c.number ∙ ap (λ p. done_of s p + 1) same ∙ sym is)) b)

pub no_acts_left : (session : Session) (s : State) (painter number : ℕ) → number ≡ done_of s painter → stated_acts session s painter ≤ number → (e : Entry) → e.painter ≡ painter → CanDo session s e → ⊥
no_acts_left session s painter number count none e same c = absurd (omega (arith, count, none, subst (λ p. done_of s p < stated_acts session s p) same c.left))

-- the reply to a commit
pub reply_is : (design : Design) (h : History) (found : Option FloatRun) (n : ℕ) → found ≡ float_kept design h.paper → n ≡ length h.versions → reply_to_commit n found ≡ commit_reply design h
reply_is design h found n is count = ap (λ m. reply_to_commit m found) count ∙ ap (reply_to_commit (length h.versions)) is

-- the numbers that are kept fit into 32 bits
pub record AreFew (session : Session) (s : State) : Type 0 where
  pub done : (painter : ℕ) → done_of s painter ≤ 65536
  pub versions : length (versions_of session s) ≤ 65537
  pub entries : length (entries_of s) ≤ 65536

pub are_few : (session : Session) (s : State) → Fits session → Part session s → AreFew session s
are_few session s fits p = record {
  done = λ painter. omega (arith, few_done s painter, few_entries session s p, fits.acts, length-append s.before.entries s.new);
  versions = omega (arith, last_counted session s p, count_by-le-length (λ (e : Entry). is_accepted e.reply) (entries_of s), few_entries session s p, fits.acts);
  entries = omega (arith, few_entries session s p, fits.acts);
}

-- what is read of a painter's count
pub count_at : (done : List ℕ) (p n : ℕ) → p < length done → n ≡ get_or done p n → n ≡ slice_index done p
count_at done p n there is = is ∙ get_or_default_zero done p n there
