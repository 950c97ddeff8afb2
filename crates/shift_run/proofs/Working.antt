-- A shift that is under way.
use Rattle.std.proofs.Common.{◌≡◌, ◌≢◌, ◌+◌, ◌<◌, ◌≤◌, ◌⊎◌, inl, inr, ℕ, true, cond, List, [], ◌∷◌, ◌++◌, length, set, replicate, refl, sym, ap, subst, ◌∙◌, arith, append-nil, append_assoc, sum}
use Rattle.std.specs.Prelude.{slice_index}
use Rattle.std.specs.List.{range_with_len}
use Rattle.std.proofs.lemmas.List.{get_or-replicate, length-replicate, length-set}
use Rattle.std.proofs.lemmas.List.Elements.{All-push}
use Rattle.std.proofs.lemmas.List.Folds.{sum_by-replicate}
use Rattle.strokes.specs.Spans.{PreparedAct}
use Rattle.version_journal.specs.Journals.{ActWithMotif, History, committed, float_kept, is_commit, painted, versions_after}
use Rattle.version_journal.specs.declared.entry.Entry.{Entry}
use Rattle.version_journal.specs.declared.entry.Reply.{Reply}
use Rattle.version_journal.specs.declared.entry.Reply.TheVariants.{Accepted}
use Rattle.session_file.specs.Plans.{Fits}
use Rattle.session_file.specs.declared.session.Session.{Session}
use Rattle.shed_publish.specs.Ends.{DeskValue}
use Rattle.shed_publish.specs.declared.newest.Version.{Version}
use Rattle.card_image.specs.Sets.{cards_of}
use Rattle.studio_core.specs.Cores.{CoreValue, entry_by}
use Rattle.studio_core.specs.Histories.{IsAt}
use Rattle.shift_model.specs.Plans.{acts_of_painter, plan_of}
use Rattle.shift_run.specs.DeskActs.{Commits, GoesTo, IsLeft, IsUnanswered, IsUnshown, MakesNewest, act_of, list_after, reply_of}
use Rattle.shift_run.specs.Desks.{IsDesk, IsReady, Stands, history_of, numbered, versions_of}
use Rattle.shift_run.specs.inner.Adds.{AddsEntries}
use Rattle.shift_run.specs.inner.Foreman.{BreaksOff, Broke, CanWork, Directed, GoesOn, IsBroken, IsPrepared, Works, act_at, acts_of_shift}
use Rattle.shift_run.specs.declared.desk.Desk.{Desk}
use Rattle.shift_run.proofs.Versions.{numbered_snoc}
use Rattle.shift_run.proofs.Counting.{count_more, nothing_at, sum_below, sum_more, sum_whole, under_more}
use Rattle.shift_run.proofs.Doing.{DidNext, holds_more, next_is, shown_after, versions_by}

-- one act more of a shift that is under way
works_more : (session : Session) (k p n : ℕ) (act : PreparedAct) (reply : Reply) (before : List Entry) (d e : Desk) (done : List ℕ)
    → CanWork session k d done → p < length (plan_of session k).painters → n ≡ slice_index done p → DidNext session k p n act reply d e
    → reply ≡ reply_of d.core act → MakesNewest reply d.core e.core → e.end.list ≡ list_after reply e.core d.end.list
    → Works session k before d done → Works session k before e (set done p (n + 1))
works_more session k p n act reply before d e done can there is did replied newest listed w =
    let one = entry_by k p (n + 1) reply in
    record {
      new = w.new ++ one ∷ [];
      are = did.entries ∙ ap (λ l. l ++ one ∷ []) w.are ∙ append_assoc before w.new (one ∷ []);
      of_shift = All-push (λ (x : Entry). x.shift ≡ k) w.new one w.of_shift refl;
      stands = record {
        holds = holds_more session k p n act reply d e did w.stands.holds;
        shown = listed ∙ shown_after session.design (history_of session d.core.entries) d.core e.core act reply d.end.list replied did.design w.stands.holds.at newest w.stands.shown
            ∙ sym (ap (λ (x : History). numbered session.design 0 x.versions) (next_is session k p n act reply d e did));
      };
      under = under_more (plan_of session k) k p n reply w.new done can.painters there is w.under;
    }

within_more : (session : Session) (k p n : ℕ) (d : Desk) (done : List ℕ) → CanWork session k d done → p < length (plan_of session k).painters → n ≡ slice_index done p
    → n < length (acts_of_painter (plan_of session k) p) → (q : ℕ) → slice_index (set done p (n + 1)) q ≤ length (acts_of_painter (plan_of session k) q)
within_more session k p n d done can there is left q = by (count_more done p n (omega (arith, there, can.painters)) is q) where
  by : (slice_index (set done p (n + 1)) q ≡ n + 1) × (p ≡ q) ⊎ (slice_index (set done p (n + 1)) q ≡ slice_index done q) × (p ≢ q)
      → slice_index (set done p (n + 1)) q ≤ length (acts_of_painter (plan_of session k) q)
  by (inl same) = subst (λ (r : ℕ). slice_index (set done p (n + 1)) q ≤ length (acts_of_painter (plan_of session k) r)) same.1 (omega (arith, same.0, left))
  by (inr other) = omega (arith, other.0, can.within q)

-- a shift goes on
pub goes_more : (session : Session) (k p n : ℕ) (act : PreparedAct) (reply : Reply) (d e : Desk) (done : List ℕ)
    → CanWork session k d done → p < length (plan_of session k).painters → n ≡ slice_index done p → n < length (acts_of_painter (plan_of session k) p)
    → DidNext session k p n act reply d e → reply ≡ reply_of d.core act → MakesNewest reply d.core e.core → e.core.spare + 1 ≡ d.core.spare
    → e.end ≡ record d.end { list = list_after reply e.core d.end.list } → IsReady e
    → GoesOn session k d done e (set done p (n + 1))
goes_more session k p n act reply d e done can there is left did replied newest spare listed ready =
    let here : p < length done = omega (arith, there, can.painters) in
    record {
      works = λ before w. works_more session k p n act reply before d e done can there is did replied newest (ap (λ (x : DeskValue). x.list) listed) w;
      can = record {
        fits = can.fits;
        shift = can.shift;
        design = did.kept ∙ did.design;
        ready = ready;
        painters = length-set done p (n + 1) ∙ can.painters;
        within = within_more session k p n d done can there is left;
        room = omega (arith, can.room, spare, sum_more done p n here is);
      };
      more = λ q. more q (count_more done p n here is q);
      spare = omega (arith, spare, sum_more done p n here is);
      refused = ap (λ (x : DeskValue). x.refused) listed;
    } where
      more : (q : ℕ) → (slice_index (set done p (n + 1)) q ≡ n + 1) × (p ≡ q) ⊎ (slice_index (set done p (n + 1)) q ≡ slice_index done q) × (p ≢ q)
          → slice_index done q ≤ slice_index (set done p (n + 1)) q
      more q (inl same) = omega (arith, same.0, is, ap (slice_index done) same.1)
      more q (inr other) = omega (arith, other.0)

pub goes_none : (session : Session) (k : ℕ) (d : Desk) (done : List ℕ) → CanWork session k d done → GoesOn session k d done d done
goes_none session k d done can = record { works = λ before w. w; can = can; more = λ p. omega arith; spare = refl; refused = refl }

pub goes_then : (session : Session) (k : ℕ) (a b c : Desk) (x y z : List ℕ) → GoesOn session k a x b y → GoesOn session k b y c z → GoesOn session k a x c z
goes_then session k a b c x y z f g = record {
  works = λ before w. g.works before (f.works before w);
  can = g.can;
  more = λ p. omega (arith, f.more p, g.more p);
  spare = omega (arith, f.spare, g.spare);
  refused = g.refused ∙ f.refused;
}

-- memory is refused before an act is done
broken_of : (session : Session) (k : ℕ) (before : List Entry) (d : Desk) (done : List ℕ) → ((p : ℕ) → slice_index done p ≤ length (acts_of_painter (plan_of session k) p))
    → Works session k before d done → IsBroken session k before d
broken_of session k before d done within w = record {
  holds = w.stands.holds;
  nearly = record { last = []; few = omega arith; shown = sym w.stands.shown ∙ sym (append-nil d.end.list) };
  adds = record { new = w.new; are = w.are; of_shift = w.of_shift; done = done; within = within; under = w.under; replied = w.stands.holds.replied };
}

pub breaks_now : (session : Session) (k : ℕ) (d : Desk) (done : List ℕ) → CanWork session k d done → BreaksOff session k d done d
breaks_now session k d done can = record {
  works = λ before w. broken_of session k before d done can.within w;
  design = can.design;
  of_desk = can.ready.of_desk;
  refused = refl;
}

pub breaks_then : (session : Session) (k : ℕ) (a b c : Desk) (x y : List ℕ) → GoesOn session k a x b y → BreaksOff session k b y c → BreaksOff session k a x c
breaks_then session k a b c x y f g = record {
  works = λ before w. g.works before (f.works before w);
  design = g.design;
  of_desk = g.of_desk;
  refused = g.refused ∙ f.refused;
}

-- memory is refused in an act: before it is replied to
breaks_before : (session : Session) (k : ℕ) (d e : Desk) (done : List ℕ) → CanWork session k d done → IsDesk e → IsUnanswered d e → BreaksOff session k d done e
breaks_before session k d e done can of_desk u = record {
  works = λ before w. broken_of session k before e done can.within
      (subst (λ (x : DeskValue). Works session k before (record { core = e.core; end = x }) done) (sym u.end)
      (subst (λ (c : CoreValue). Works session k before (record { core = c; end = d.end }) done) (sym u.core) (record {
        new = w.new;
        are = w.are;
        of_shift = w.of_shift;
        stands = record {
          holds = record {
            design = w.stands.holds.design;
            at = record { painted = w.stands.holds.at.painted; last = w.stands.holds.at.last; current = w.stands.holds.at.current };
            replied = w.stands.holds.replied;
          };
          shown = w.stands.shown;
        };
        under = w.under;
      })));
  design = ap (λ (c : CoreValue). c.design) u.core ∙ can.design;
  of_desk = of_desk;
  refused = ap (λ (x : DeskValue). x.refused) u.end;
}

goes_commit : (before after : CoreValue) (act : ActWithMotif) (reply : Reply) → is_commit act.act ≡ true → Commits before after reply → GoesTo before after act reply
goes_commit before after act reply is commits h at =
    subst (λ (x : History). IsAt x after × (x.replies ≡ h.replies ++ reply ∷ [])) (sym (ap (λ b. cond b (committed before.design h) (painted h act)) is)) (commits h at)

-- or after it was accepted
breaks_after : (session : Session) (k p n : ℕ) (act : PreparedAct) (d e : Desk) (done : List ℕ)
    → CanWork session k d done → p < length (plan_of session k).painters → n ≡ slice_index done p → n < length (acts_of_painter (plan_of session k) p)
    → IsPrepared session (act_at session k p n) act → is_commit act.act ≡ true → IsDesk e → IsUnshown (entry_by k p (n + 1) (Accepted (d.core.version + 1))) d e
    → BreaksOff session k d done e
breaks_after session k p n act d e done can there is left prepared commit of_desk u = record {
  works = broken;
  design = ap (λ (c : CoreValue). c.design) u.core ∙ can.design;
  of_desk = of_desk;
  refused = ap (λ (x : DeskValue). x.refused) u.end;
} where
  reply : Reply
  reply = Accepted (d.core.version + 1)

  one : Entry
  one = entry_by k p (n + 1) reply

  h : History
  h = history_of session d.core.entries

  did : DidNext session k p n act reply d e
  did = record {
    prepared = prepared;
    design = can.design;
    entries = ap (λ (c : CoreValue). c.entries) u.core;
    kept = ap (λ (c : CoreValue). c.design) u.core;
    goes = goes_commit d.core e.core (act_of act) reply commit u.at;
  }

  newest : Version
  newest = record { version = 0 + length h.versions; cards = cards_of session.design h.paper }

  shown : Stands session d → versions_of session e ≡ e.end.list ++ newest ∷ []
  shown stands =
      ap (λ (x : History). numbered session.design 0 x.versions) (next_is session k p n act reply d e did)
      ∙ ap (numbered session.design 0) (versions_by session.design h (act_of act) true commit
      ∙ ap (versions_after h.versions h.paper) (sym (ap (λ x. float_kept x d.core.paper) can.design ∙ ap (float_kept session.design) stands.holds.at.painted) ∙ u.kept))
      ∙ numbered_snoc session.design 0 h.versions h.paper
      ∙ ap (λ l. l ++ newest ∷ []) (sym stands.shown ∙ sym (ap (λ (x : DeskValue). x.list) u.end))

  broken : (before : List Entry) → Works session k before d done → IsBroken session k before e
  broken before w =
      let holds = holds_more session k p n act reply d e did w.stands.holds in
      record {
        holds = holds;
        nearly = record { last = newest ∷ []; few = omega arith; shown = shown w.stands };
        adds = record {
          new = w.new ++ one ∷ [];
          are = did.entries ∙ ap (λ l. l ++ one ∷ []) w.are ∙ append_assoc before w.new (one ∷ []);
          of_shift = All-push (λ (x : Entry). x.shift ≡ k) w.new one w.of_shift refl;
          done = set done p (n + 1);
          within = within_more session k p n d done can there is left;
          under = under_more (plan_of session k) k p n reply w.new done can.painters there is w.under;
          replied = holds.replied;
        };
      }

pub breaks_more : (session : Session) (k p n : ℕ) (act : PreparedAct) (d e : Desk) (done : List ℕ)
    → CanWork session k d done → p < length (plan_of session k).painters → n ≡ slice_index done p → n < length (acts_of_painter (plan_of session k) p)
    → IsPrepared session (act_at session k p n) act → is_commit act.act ≡ true → IsDesk e → IsLeft (entry_by k p (n + 1) (Accepted (d.core.version + 1))) d e
    → BreaksOff session k d done e
breaks_more session k p n act d e done can there is left prepared commit of_desk (inl u) = breaks_before session k d e done can of_desk u
breaks_more session k p n act d e done can there is left prepared commit of_desk (inr u) = breaks_after session k p n act d e done can there is left prepared commit of_desk u

-- a painter that has an act left has room for it
pub has_room : (session : Session) (k p : ℕ) (d : Desk) (done : List ℕ) → CanWork session k d done
    → slice_index done p < length (acts_of_painter (plan_of session k) p) → 0 < d.core.spare
has_room session k p d done can left = omega (arith, can.room, sum_below done (plan_of session k).painters p can.painters can.within left)

-- nothing of the shift is done
abbrev nothing : Session → ℕ → List ℕ
nothing session k = replicate (length (plan_of session k).painters) 0

works_first : (session : Session) (k : ℕ) (d : Desk) → Stands session d → Works session k d.core.entries d (nothing session k)
works_first session k d stands = record {
  new = [];
  are = sym (append-nil d.core.entries);
  of_shift = λ i x h. absurd (omega arith);
  stands = stands;
  under = record {
    painters = λ i x h. absurd (omega arith);
    numbers = λ q below. sym (ap (range_with_len 1) (get_or-replicate (length (plan_of session k).painters) q 0 0 below));
  };
}

can_first : (session : Session) (k : ℕ) (d : Desk) → Fits session → k < length session.shifts → d.core.design ≡ session.design → IsReady d
    → acts_of_shift session k ≤ d.core.spare → CanWork session k d (nothing session k)
can_first session k d fits shift design ready room = record {
  fits = fits;
  shift = shift;
  design = design;
  ready = ready;
  painters = length-replicate {A = ℕ} (length (plan_of session k).painters) 0;
  within = λ p. omega (arith, nothing_at (length (plan_of session k).painters) p);
  room = omega (arith, room);
}

-- all of the shift is done
pub did_all : (session : Session) (k : ℕ) (d f : Desk) (first third : List ℕ) → first ≡ nothing session k → GoesOn session k d first f third
    → ((p : ℕ) → p < length (plan_of session k).painters → length (acts_of_painter (plan_of session k) p) ≤ slice_index third p) → Directed session k d f
did_all session k d f first third is goes whole = record {
  design = goes.can.design;
  ready = goes.can.ready;
  adds = λ stands. added stands (goes.works d.core.entries (subst (λ (l : List ℕ). Works session k d.core.entries d l) (sym is) (works_first session k d stands)));
  spare = omega (arith, goes.spare, sum_whole third (plan_of session k).painters goes.can.painters all, ap sum is, sum_by-replicate (λ (x : ℕ). x) (length (plan_of session k).painters) 0);
  refused = goes.refused;
} where
  all : (p : ℕ) → p < length (plan_of session k).painters → slice_index third p ≡ length (acts_of_painter (plan_of session k) p)
  all p below = omega (arith, whole p below, goes.can.within p)

  added : Stands session d → Works session k d.core.entries f third → Stands session f × AddsEntries session k d.core.entries f.core.entries
  added stands w = (
    w.stands,
    record {
      new = w.new;
      are = w.are;
      of_shift = w.of_shift;
      merge = record { painters = w.under.painters; numbers = λ p below. w.under.numbers p below ∙ ap (range_with_len 1) (all p below) };
      replied = w.stands.holds.replied;
    },
  )

-- memory was refused
pub did_some : (session : Session) (k : ℕ) (d f : Desk) (first : List ℕ) → first ≡ nothing session k → BreaksOff session k d first f → Broke session k d f
did_some session k d f first is breaks = record {
  design = breaks.design;
  of_desk = breaks.of_desk;
  adds = λ stands. breaks.works d.core.entries (subst (λ (l : List ℕ). Works session k d.core.entries d l) (sym is) (works_first session k d stands));
  refused = breaks.refused;
}

pub did_none : (session : Session) (k : ℕ) (d : Desk) → Fits session → k < length session.shifts → d.core.design ≡ session.design → IsReady d
    → acts_of_shift session k ≤ d.core.spare → Broke session k d d
did_none session k d fits shift design ready room =
    did_some session k d d (nothing session k) refl (breaks_now session k d (nothing session k) (can_first session k d fits shift design ready room))
