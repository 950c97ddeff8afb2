-- The beginning and the end of a run.
use Rattle.std.proofs.Common.{◌≡◌, ◌+◌, ◌-◌, ◌<◌, ◌≤◌, ℕ, zero, suc, Some, List, [], ◌∷◌, ◌++◌, length, length-append, get_or, map, drop, refl, sym, ap, subst, ◌∙◌, arith, ◌⊎◌, inl, inr}
use Rattle.std.proofs.lemmas.Bool.{cases_lt}
use Rattle.std.specs.Prelude.{All, slice_get}
use Rattle.std.proofs.lemmas.List.{get_or-append-add, get_or_append_left, length-map}
use Rattle.point_paper.specs.Papers.{PaperCells}
use Rattle.draft_model.specs.declared.design.Design.{Design}
use Rattle.card_image.specs.Sets.{CardsValue, cards_of, design_by}
use Rattle.version_journal.specs.Journals.{versions}
use Rattle.version_journal.specs.declared.entry.Entry.{Entry}
use Rattle.version_journal.specs.declared.run_log.Repeat.{Repeat}
use Rattle.session_file.specs.Plans.{acts_in}
use Rattle.session_file.specs.declared.session.Session.{Session}
use Rattle.shed_publish.specs.Ends.{DeskValue}
use Rattle.studio_core.specs.Cores.{CoreValue, IsCore}
use Rattle.loom_threads.specs.Looms.{IsLoomOf, LoomValue, repeats_of}
use Rattle.shift_run.specs.Desks.{Stands, new_core}
use Rattle.shift_model.specs.Logs.{IsJournal, IsLoomLog, Legal, LegalBefore, named_act}
use Rattle.shift_model.specs.Plans.{IsNewest}
use Rattle.shift_run.specs.Runs.{AreCardsOfNewest, AreNew, IsAtShift, IsLoomAt, log_of}
use Rattle.shift_run.specs.declared.desk.Desk.{Desk}
use Rattle.shift_run.proofs.Shifts.{no_loom, repeats_at}
use Rattle.shift_run.proofs.Short.{told_stands}

-- what holds of each item at its place, with one item more
at_push : {X : Type 0} (R : ℕ → X → Type 0) (xs : List X) (x : X) → ((j : ℕ) (d : X) → j < length xs → R j (get_or xs j d)) → R (length xs) x
    → (j : ℕ) (d : X) → j < length (xs ++ x ∷ []) → R j (get_or (xs ++ x ∷ []) j d)
at_push R xs x all one j d h = by (cases_lt j (length xs)) where
  by : (j < length xs) ⊎ (length xs ≤ j) → R j (get_or (xs ++ x ∷ []) j d)
  by (inl low) = subst (R j) (sym (get_or_append_left xs (x ∷ []) d j low)) (all j d low)
  by (inr high) =
      let same : j ≡ length xs = omega (arith, h, length-append xs (x ∷ [])) in
      subst (λ (n : ℕ). R n (get_or (xs ++ x ∷ []) n d)) (sym same)
      (subst (R (length xs)) (sym (ap (λ n. get_or (xs ++ x ∷ []) n d) (let e : length xs ≡ length xs + 0 = omega arith in e) ∙ get_or-append-add xs (x ∷ []) 0 d)) one)

-- one loom more
pub new_loom : (session : Session) (count : ℕ) (looms after : List LoomValue) (loom : LoomValue) → AreNew session count looms → IsLoomOf session count loom → loom.repeats ≡ []
    → loom.spare ≡ repeats_of session count → after ≡ looms ++ loom ∷ [] → AreNew session (count + 1) after
new_loom session count looms after loom new kind none spare are = subst (λ (l : List LoomValue). AreNew session (count + 1) l) (sym are) (record {
  many = omega (arith, length-append looms (loom ∷ []), new.many);
  each = at_push (IsLoomAt session 0) looms loom new.each
      (subst (λ (n : ℕ). IsLoomAt session 0 n loom) (sym new.many) (record { kind = kind; whole = omega (arith, ap length none, spare); room = omega (arith, spare) }));
  repeats = at_push (λ j l. l.repeats ≡ []) looms loom new.repeats none;
})

-- before the first shift
pub at_start : (session : Session) (desk : Desk) (looms : List LoomValue) → desk.core.entries ≡ [] → desk.core.spare ≡ acts_in session.shifts + 0 → Stands session desk
    → AreNew session session.looms looms → IsAtShift session 0 desk looms
at_start session desk looms none spare stands new = record {
  legal = record {
    journal = subst (λ (es : List Entry). IsJournal session es 0) (sym none) (record {
      shifts = record { order = λ i j d up h. absurd (omega arith); before = λ i d h. absurd (omega arith) };
      merges = λ shift h. absurd (omega arith);
      replied = refl;
    });
    looms = length-map looms (λ (l : LoomValue). l.repeats) ∙ new.many;
    repeats = λ j h.
        let here : j < length looms = omega (arith, h, new.many) in
        subst (λ (rs : List Repeat). IsLoomLog session desk.core.entries 0 j rs) (sym (repeats_at looms j no_loom here ∙ new.repeats j no_loom here)) (record {
          shifts = record { order = λ i j d up h. absurd (omega arith); before = λ i d h. absurd (omega arith) };
          counts = λ shift h. absurd (omega arith);
          versions_rise = λ i j d up h. absurd (omega arith);
          current = λ i d h. absurd (omega arith);
          woven = λ i d h. absurd (omega arith);
        });
  };
  stands = stands;
  room = omega (arith, spare);
  each = new.each;
}

-- the cards of the newest version
pub newest_cards : (session : Session) (desk : Desk) (entries : List Entry) → Stands session desk → entries ≡ desk.core.entries → IsCore desk.core
    → AreCardsOfNewest session entries desk.core.cards
newest_cards session desk entries stands are core =
    let h = stands.holds in
    let c = h.at.current in
    let papers : List PaperCells = versions session.design session.opening (map (named_act session) desk.core.entries) in
    subst (λ (es : List Entry). AreCardsOfNewest session es desk.core.cards) (sym are) (record {
      paper = c.0;
      newest = ap (slice_get papers) (let e : length papers - 1 ≡ desk.core.version = omega (arith, h.at.last) in e) ∙ c.1;
      cut = c.2 ∙ ap (λ (d : Design). cards_of d c.0) h.design;
      design = core.of_cards ∙ ap (λ (d : Design). design_by d.casting d.size.picks) h.design;
    })

-- a desk that stands, with the same core and the same list
pub stands_alike : (session : Session) (desk : Desk) (core : CoreValue) (end : DeskValue) → core ≡ desk.core → end.list ≡ desk.end.list → Stands session desk
    → Stands session (record { core = core; end = end })
stands_alike session desk core end same list s = subst (λ (c : CoreValue). Stands session (record { core = c; end = end })) (sym same) (told_stands session desk end list s)
