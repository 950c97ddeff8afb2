-- One act more.
use Rattle.std.proofs.Common.{◌≡◌, ◌+◌, ◌-◌, ◌<◌, ◌≤◌, ℕ, Bool, true, false, List, [], ◌∷◌, ◌++◌, length, get_or, map, refl, sym, ap, subst, ◌∙◌, arith}
use Rattle.std.specs.List.{fold}
use Rattle.std.proofs.lemmas.List.{map-append, length-map, get_or-append-add}
use Rattle.std.proofs.lemmas.List.Sums.{fold_push}
use Rattle.block_journal.specs.declared.mark.Mark.{Mark}
use Rattle.draft_model.specs.declared.design.Design.{Design}
use Rattle.strokes.specs.Spans.{PreparedAct}
use Rattle.strokes.specs.declared.act.Act.{Act}
use Rattle.version_journal.specs.Journals.{ActWithMotif, History, begun, step, with_motif}
use Rattle.version_journal.specs.declared.entry.Entry.{Entry}
use Rattle.version_journal.specs.declared.entry.Reply.{Reply}
use Rattle.version_journal.specs.declared.entry.Reply.TheVariants.{Painted}
use Rattle.session_file.specs.declared.session.Session.{Session}
use Rattle.session_file.specs.Plans.{Fits, acts_in}
use Rattle.studio_core.specs.Cores.{CoreValue, entry_by}
use Rattle.studio_core.specs.Histories.{IsAt}
use Rattle.version_keep.specs.Blocks.{mark_of, marks_of, named, replies_to, reply_to}
use Rattle.version_keep.specs.Doings.{AreCounts, GoesTo, IsDoing, IsPrepared, act_of, history_of}

pub named_is : (session : Session) (act : Act) (prepared : PreparedAct) → IsPrepared session act prepared → act_of prepared ≡ with_motif session.motifs act
named_is session act prepared is =
    λ i. record { act = is.of_act i; motif = is.motif i }

pub marks-push : (entries : List Entry) (mark : Mark) (reply : Reply)
    → marks_of (entries ++ entry_by mark.shift mark.painter mark.number reply ∷ []) ≡ marks_of entries ++ mark ∷ []
marks-push entries mark reply = map-append mark_of entries (entry_by mark.shift mark.painter mark.number reply ∷ [])

-- one act more in the history
history_more : (session : Session) (marks : List Mark) (mark : Mark) → history_of session (marks ++ mark ∷ []) ≡ step session.design (history_of session marks) (named session mark)
history_more session marks mark =
    ap (fold (step session.design) (begun session.opening)) (map-append (named session) marks (mark ∷ []))
    ∙ fold_push (step session.design) (begun session.opening) (map (named session) marks) (named session mark)

module _ (session : Session) (before after : CoreValue) (counts : List ℕ) (mark : Mark) (reply : Reply) (doing : IsDoing session before counts)
    (entries : after.entries ≡ before.entries ++ entry_by mark.shift mark.painter mark.number reply ∷ []) (goes : GoesTo before after (named session mark) reply) where
  abbrev h : History
  h = history_of session (marks_of before.entries)

  went : IsAt (step session.design h (named session mark)) after × ((step session.design h (named session mark)).replies ≡ h.replies ++ reply ∷ [])
  went = subst (λ (d : Design). IsAt (step d h (named session mark)) after × ((step d h (named session mark)).replies ≡ h.replies ++ reply ∷ [])) doing.design (goes h doing.at)

  pub marks_are : marks_of after.entries ≡ marks_of before.entries ++ mark ∷ []
  marks_are = ap marks_of entries ∙ marks-push before.entries mark reply

  more : history_of session (marks_of before.entries ++ mark ∷ []) ≡ step session.design h (named session mark)
  more = history_more session (marks_of before.entries) mark

  pub at_more : IsAt (history_of session (marks_of after.entries)) after
  at_more = subst (λ (x : History). IsAt x after) (sym (ap (history_of session) marks_are ∙ more)) went.0

  pub replied_more : map (λ (e : Entry). e.reply) after.entries ≡ (history_of session (marks_of after.entries)).replies
  replied_more =
      ap (map (λ (e : Entry). e.reply)) entries ∙ map-append (λ (e : Entry). e.reply) before.entries (entry_by mark.shift mark.painter mark.number reply ∷ [])
      ∙ ap (λ (l : List Reply). l ++ reply ∷ []) doing.replied ∙ sym went.1 ∙ sym (ap (λ (x : History). x.replies) (ap (history_of session) marks_are ∙ more))

  many : length h.replies ≡ length (marks_of before.entries)
  many = sym (ap length doing.replied) ∙ length-map before.entries (λ (e : Entry). e.reply) ∙ sym (length-map before.entries mark_of)

  pub reply_is : reply ≡ reply_to session (marks_of before.entries) mark
  reply_is =
      sym (ap (λ (l : List Reply). get_or l (length (marks_of before.entries)) Painted) (ap (λ (x : History). x.replies) more ∙ went.1)
      ∙ ap (λ (n : ℕ). get_or (h.replies ++ reply ∷ []) n Painted) (let e : length (marks_of before.entries) ≡ length h.replies + 0 = omega (arith, many) in e)
      ∙ get_or-append-add h.replies (reply ∷ []) 0 Painted)

  pub doing_more : (counted : List ℕ) → after.design ≡ before.design → after.spare + 1 ≡ before.spare → AreCounts session (marks_of before.entries ++ mark ∷ []) counted → IsDoing session after counted
  doing_more counted design spare are = record {
    fits = doing.fits;
    design = design ∙ doing.design;
    at = at_more;
    replied = replied_more;
    room = omega (arith, doing.room, spare, ap length entries, length-push before.entries (entry_by mark.shift mark.painter mark.number reply));
    counted = subst (λ (l : List Mark). AreCounts session l counted) (sym marks_are) are;
  } where
    length-push : (l : List Entry) (e : Entry) → length (l ++ e ∷ []) ≡ length l + 1
    length-push [] e = omega arith
    length-push (x ∷ l) e = omega (arith, length-push l e)

-- nothing was done
pub doing_still : (session : Session) (before after : CoreValue) (counts : List ℕ) → IsDoing session before counts → after.entries ≡ before.entries → after.spare ≡ before.spare → after.design ≡ before.design
    → ((h : History) → IsAt h before → IsAt h after) → IsDoing session after counts
doing_still session before after counts doing entries spare design stays = record {
  fits = doing.fits;
  design = design ∙ doing.design;
  at = subst (λ (l : List Entry). IsAt (history_of session (marks_of l)) after) (sym entries) (stays (history_of session (marks_of before.entries)) doing.at);
  replied = subst (λ (l : List Entry). map (λ (e : Entry). e.reply) l ≡ (history_of session (marks_of l)).replies) (sym entries) doing.replied;
  room = omega (arith, doing.room, spare, ap length entries);
  counted = subst (λ (l : List Entry). AreCounts session (marks_of l) counts) (sym entries) doing.counted;
}

-- before the first act
pub doing_first : (session : Session) (core : CoreValue) (counts : List ℕ) → Fits session → core.entries ≡ [] → core.spare ≡ acts_in session.shifts → core.design ≡ session.design
    → IsAt (begun session.opening) core → AreCounts session [] counts → IsDoing session core counts
doing_first session core counts fits none spare design at are = record {
  fits = fits;
  design = design;
  at = subst (λ (l : List Entry). IsAt (history_of session (marks_of l)) core) (sym none) at;
  replied = subst (λ (l : List Entry). map (λ (e : Entry). e.reply) l ≡ (history_of session (marks_of l)).replies) (sym none) refl;
  room = omega (arith, spare, ap length none);
  counted = subst (λ (l : List Entry). AreCounts session (marks_of l) counts) (sym none) are;
}
