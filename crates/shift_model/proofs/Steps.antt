-- What every event keeps, and so every list of events.
use Rattle.std.proofs.Common.{◌≡◌, ◌⊎◌, inl, inr, ℕ, ◌+◌, ◌<◌, ◌≤◌, Bool, true, false, cond, List, [], ◌∷◌, ◌++◌, Option, Some, None, length, get_or, take, set, refl, sym, ap, subst, ◌∙◌, append-nil, append_assoc, length-append, arith}
use Rattle.std.specs.Prelude.{All, count_by, fold, slice_get}
use Rattle.std.specs.List.Sorted.{IsNonDecreasing}
use Rattle.std.proofs.Math.ListN.{length-set, length-map}
use Rattle.std.proofs.lemmas.Bool.{cases_eq}
use Rattle.std.proofs.lemmas.Bool.Decides.{nat_tests}
use Rattle.std.proofs.lemmas.List.{get_or-map, get_or-replicate, get_or-set_other, get_or-set_same, length-replicate}
use Rattle.std.proofs.lemmas.List.Elements.{All-push}
use Rattle.std.proofs.lemmas.List.Sums.{fold-append, sum_by_push}
use Rattle.mill_base.specs.declared.face.Face.{Face}
use Rattle.mill_base.specs.declared.face.Face.TheVariants.{Up}
use Rattle.point_paper.specs.Papers.{PaperCells}
use Rattle.draft_model.specs.declared.design.Design.{Design}
use Rattle.draft_model.specs.declared.float_run.FloatRun.{FloatRun}
use Rattle.version_journal.specs.Entries.{is_accepted}
use Rattle.version_journal.specs.Journals.{ActWithMotif, History, begun, committed, float_kept, history, is_commit, painted, reply_to_commit, step, versions_after}
use Rattle.version_journal.specs.declared.entry.Reply.{Reply}
use Rattle.version_journal.specs.declared.entry.Reply.TheVariants.{Painted, Accepted, Refused}
use Rattle.shift_model.specs.Steps.{Event, Do, Take, Give, Publish, Begin, Pick, Cut, LoomState, Weaving, World, accepted, accepted_at, acts_in, acts_of, after_events, beginning, idle, loom_at, may_begin, may_cut, may_publish, raised, stepped, with_cut, with_loom, with_pick, with_repeat}
use Rattle.shift_model.proofs.lemmas.Lists.{All_mono, kept}
use Rattle.shift_model.proofs.StepsLooms.{IsBegun, IsLoom, accepted_by, all_of, begins, grows, loom_later, nothing, picks, push_rises, read_default, stays}

-- what every world is that events lead to
pub record IsReached (design : Design) (opening : PaperCells) (faces : List Face) (world : World) : Type 0 where
  pub history : world.history ≡ history design opening world.acts
  pub replied : length world.history.replies ≡ length world.acts
  pub counted : length world.history.versions ≡ accepted world + 1
  pub published : world.published ≤ accepted world
  pub cuts : All (λ c. c ≤ length world.acts) world.cuts
  pub cuts_rise : IsNonDecreasing world.cuts
  pub many : length world.looms ≡ length faces
  pub looms : (loom : ℕ) → loom < length faces
      → IsLoom design (get_or faces loom Up) world.history.versions (accepted_at world) (length world.cuts) world.published (loom_at world loom)

-- an act adds a reply, and a version where it is accepted
record Adds (before after : History) : Type 0 where
  pub reply : Reply
  pub made : List PaperCells
  pub replies : after.replies ≡ before.replies ++ reply ∷ []
  pub versions : after.versions ≡ before.versions ++ made
  pub count : length made ≡ cond (is_accepted reply) 1 0

step_adds : (design : Design) (h : History) (act : ActWithMotif) → Adds h (step design h act)
step_adds design h act = by (is_commit act.act) where
  committing : (float : Option FloatRun) → Adds h (record {
    paper = h.paper;
    replies = h.replies ++ reply_to_commit (length h.versions) float ∷ [];
    versions = versions_after h.versions h.paper float;
  })
  committing None = record { reply = Accepted (length h.versions); made = h.paper ∷ []; replies = refl; versions = refl; count = refl }
  committing (Some float) = record { reply = Refused float; made = []; replies = refl; versions = sym (append-nil h.versions); count = refl }

  by : (commits : Bool) → Adds h (cond commits (committed design h) (painted h act))
  by true = committing (float_kept design h.paper)
  by false = record { reply = Painted; made = []; replies = refl; versions = sym (append-nil h.versions); count = refl }

act_reached : (design : Design) (opening : PaperCells) (faces : List Face) (w : World) (act : ActWithMotif) → IsReached design opening faces w
    → IsReached design opening faces (record w { acts = w.acts ++ act ∷ []; history = step design w.history act })
act_reached design opening faces w act r = record {
  history = ap (λ h. step design h act) r.history ∙ sym (fold-append (step design) (begun opening) w.acts (act ∷ []));
  replied = replied;
  counted = omega (arith, ap length a.versions, length-append w.history.versions a.made, a.count, r.counted, more);
  published = omega (arith, r.published, more);
  cuts = All_mono (λ c. c ≤ length w.acts) (λ c. c ≤ length (w.acts ++ act ∷ [])) w.cuts (λ c h. omega (arith, length-append w.acts (act ∷ []))) r.cuts;
  cuts_rise = r.cuts_rise;
  many = r.many;
  looms = λ loom h. loom_later design (get_or faces loom Up) w.history.versions after.versions (accepted_at w) (accepted_by after.replies w.cuts acts)
      (length w.cuts) (length w.cuts) w.published w.published (loom_at w loom).floor (loom_at w loom) there same grown (omega arith) (omega arith)
      (omega (arith, same (length w.cuts) (omega arith), (r.looms loom h).floor_low)) (r.looms loom h).floor_high (r.looms loom h);
} where
  after : History
  after = step design w.history act

  acts : ℕ
  acts = length (w.acts ++ act ∷ [])

  a : Adds w.history after
  a = step_adds design w.history act

  replied : length after.replies ≡ acts
  replied = omega (arith, ap length a.replies, length-append w.history.replies (a.reply ∷ []), length-append w.acts (act ∷ []), r.replied)

  more : count_by is_accepted after.replies ≡ count_by is_accepted w.history.replies + cond (is_accepted a.reply) 1 0
  more = ap (count_by is_accepted) a.replies ∙ sum_by_push (λ x. cond (is_accepted x) 1 0) w.history.replies a.reply

  there : (k : ℕ) (p : PaperCells) → slice_get w.history.versions k ≡ Some p → slice_get after.versions k ≡ Some p
  there k p is = ap (λ l. slice_get l k) a.versions ∙ kept w.history.versions a.made k p is

  same : (s : ℕ) → s ≤ length w.cuts → accepted_by after.replies w.cuts acts s ≡ accepted_at w s
  same s h = ap (λ x. accepted_by x w.cuts acts s) a.replies ∙ stays w.history.replies (a.reply ∷ []) w.cuts (length w.acts) acts s (sym r.replied) r.cuts h

  grown : (s : ℕ) → accepted_at w s ≤ accepted_by after.replies w.cuts acts s
  grown s = omega (
    arith,
    ap (λ x. accepted_by x w.cuts acts s) a.replies,
    grows w.history.replies (a.reply ∷ []) w.cuts (length w.acts) acts s (sym r.replied) (sym replied ∙ ap length a.replies) r.cuts,
  )

-- the next version is published
publish_is : (w : World) → may_publish w ≡ true → w.published < accepted w
publish_is w h = grind (arith, nat_tests)

publish_reached : (design : Design) (opening : PaperCells) (faces : List Face) (w : World) → IsReached design opening faces w → may_publish w ≡ true
    → IsReached design opening faces (record w { published = w.published + 1 })
publish_reached design opening faces w r may = record {
  history = r.history;
  replied = r.replied;
  counted = r.counted;
  published = omega (arith, publish_is w may);
  cuts = r.cuts;
  cuts_rise = r.cuts_rise;
  many = r.many;
  looms = λ loom h.
      let l = r.looms loom h in
      loom_later design (get_or faces loom Up) w.history.versions w.history.versions (accepted_at w) (accepted_at w) (length w.cuts) (length w.cuts) w.published (w.published + 1)
      (loom_at w loom).floor (loom_at w loom) (λ k p is. is) (λ s e. refl) (λ s. omega arith) (omega arith) (omega arith) l.floor_low (omega (arith, l.floor_high)) l;
}

-- one loom changes
loom_reached : (design : Design) (opening : PaperCells) (faces : List Face) (w : World) (loom : ℕ) (state : LoomState) → IsReached design opening faces w
    → (loom < length faces → IsLoom design (get_or faces loom Up) w.history.versions (accepted_at w) (length w.cuts) w.published state)
    → IsReached design opening faces (with_loom w loom state)
loom_reached design opening faces w loom state r is = record {
  history = r.history;
  replied = r.replied;
  counted = r.counted;
  published = r.published;
  cuts = r.cuts;
  cuts_rise = r.cuts_rise;
  many = length-set w.looms loom state ∙ r.many;
  looms = λ other h. by other h (cases_eq other loom);
} where
  by : (other : ℕ) → other < length faces → (other ≡ loom) ⊎ (other ≡ loom → ⊥)
      → IsLoom design (get_or faces other Up) w.history.versions (accepted_at w) (length w.cuts) w.published (get_or (set w.looms loom state) other idle)
  by other h (inl same) =
      let here : loom < length faces = omega (arith, same) in
      subst (λ (k : ℕ). IsLoom design (get_or faces k Up) w.history.versions (accepted_at w) (length w.cuts) w.published (get_or (set w.looms loom state) k idle)) (sym same)
      (subst (λ (l : LoomState). IsLoom design (get_or faces loom Up) w.history.versions (accepted_at w) (length w.cuts) w.published l)
      (sym (get_or-set_same w.looms loom state idle (omega (arith, here, r.many)))) (is here))
  by other h (inr differs) =
      subst (λ (l : LoomState). IsLoom design (get_or faces other Up) w.history.versions (accepted_at w) (length w.cuts) w.published l)
      (sym (get_or-set_other w.looms loom other state idle differs)) (r.looms other h)

-- all acts are before a shift that did not begin yet
all_accepted : (design : Design) (opening : PaperCells) (faces : List Face) (w : World) → IsReached design opening faces w → accepted_at w (length w.cuts + 1) ≡ accepted w
all_accepted design opening faces w r = all_of w.history.replies w.cuts (length w.acts) (length w.cuts + 1) (sym r.replied) (omega arith)

-- the shift ends
cut_is : (w : World) → w.published ≤ accepted w → may_cut w ≡ true → w.published ≡ accepted w
cut_is w low h = grind (arith, nat_tests)

cut_reached : (design : Design) (opening : PaperCells) (faces : List Face) (w : World) → IsReached design opening faces w → may_cut w ≡ true → IsReached design opening faces (with_cut w)
cut_reached design opening faces w r may = record {
  history = r.history;
  replied = r.replied;
  counted = r.counted;
  published = r.published;
  cuts = All-push (λ c. c ≤ length w.acts) w.cuts (length w.acts) r.cuts (omega arith);
  cuts_rise = push_rises w.cuts (length w.acts) (length w.acts) r.cuts_rise r.cuts (omega arith);
  many = length-map w.looms (raised w.published) ∙ r.many;
  looms = λ loom h.
      let l = r.looms loom h in
      subst (λ (s : LoomState). IsLoom design (get_or faces loom Up) w.history.versions (accepted_at after) (length after.cuts) w.published s)
      (sym (get_or-map (raised w.published) w.looms loom idle idle (omega (arith, h, r.many))))
      (loom_later design (get_or faces loom Up) w.history.versions w.history.versions (accepted_at w) (accepted_at after) (length w.cuts) (length after.cuts) w.published w.published
      (raised w.published (loom_at w loom)).floor (loom_at w loom) (λ k p is. is) (λ s e. same s) (λ s. omega (arith, same s)) (omega (arith, next)) (omega (arith, l.floor_high))
      (omega (arith, ap (accepted_at after) next, same (length w.cuts + 1), all_accepted design opening faces w r, cut_is w r.published may)) (omega (arith, l.floor_high)) l);
} where
  after : World
  after = with_cut w

  same : (s : ℕ) → accepted_at after s ≡ accepted_at w s
  same s = ap (λ k. count_by is_accepted (take k w.history.replies)) (read_default (0 ∷ w.cuts) s (length w.acts))

  next : length after.cuts ≡ length w.cuts + 1
  next = length-append w.cuts (length w.acts ∷ [])

-- every event
where_may : (P : World → Type 0) (may : Bool) (after w : World) → P w → (may ≡ true → P after) → P (cond may after w)
where_may P true after w before change = change refl
where_may P false after w before change = before

event_reached : (design : Design) (opening : PaperCells) (faces : List Face) (w : World) (event : Event) → IsReached design opening faces w
    → IsReached design opening faces (stepped design opening faces w event)
event_reached design opening faces w (Do act) r = act_reached design opening faces w act r
event_reached design opening faces w (Take tile) r =
    record { history = r.history; replied = r.replied; counted = r.counted; published = r.published; cuts = r.cuts; cuts_rise = r.cuts_rise; many = r.many; looms = r.looms }
event_reached design opening faces w (Give result) r = r
event_reached design opening faces w Publish r =
    where_may (IsReached design opening faces) (may_publish w) (record w { published = w.published + 1 }) w r (publish_reached design opening faces w r)
event_reached design opening faces w (Begin loom version) r =
    where_may (IsReached design opening faces) (may_begin w.published version (loom_at w loom)) (with_loom w loom (with_repeat (length w.cuts) version (loom_at w loom))) w r
    (λ may. loom_reached design opening faces w loom (with_repeat (length w.cuts) version (loom_at w loom)) r
    (λ h. begins design (get_or faces loom Up) w.history.versions (accepted_at w) (length w.cuts) w.published version (loom_at w loom)
    (omega (arith, r.published, r.counted)) (omega (arith, r.published, all_accepted design opening faces w r)) may (r.looms loom h)))
event_reached design opening faces w (Pick loom) r =
    loom_reached design opening faces w loom
    (with_pick design (get_or faces loom Up) (λ version. get_or w.history.versions version opening) (loom_at w loom) (loom_at w loom).unfinished) r
    (λ h. picks design (get_or faces loom Up) w.history.versions (accepted_at w) (length w.cuts) w.published (loom_at w loom).floor opening (loom_at w loom).ended (loom_at w loom).unfinished
    (r.looms loom h))
event_reached design opening faces w Cut r =
    where_may (IsReached design opening faces) (may_cut w) (with_cut w) w r (cut_reached design opening faces w r)

-- before the first event
start_reached : (design : Design) (opening : PaperCells) (faces : List Face) → IsReached design opening faces (beginning opening faces)
start_reached design opening faces = record {
  history = refl;
  replied = refl;
  counted = refl;
  published = omega arith;
  cuts = nothing (λ c. c ≤ 0);
  cuts_rise = λ i j d up h. absurd (omega arith);
  many = length-replicate (length faces) idle;
  looms = λ loom h.
      subst (λ (l : LoomState). IsLoom design (get_or faces loom Up) (opening ∷ []) (accepted_at (beginning opening faces)) 0 0 l) (sym (get_or-replicate (length faces) loom idle idle h))
      (record {
        floor_low = omega arith;
        floor_high = omega arith;
        versions_rise = λ i j d up h. absurd (omega arith);
        shifts_rise = λ i j d up h. absurd (omega arith);
        ended = nothing (IsBegun design (get_or faces loom Up) (opening ∷ []) (accepted_at (beginning opening faces)) 0 0);
        unfinished = tt;
        whole = nothing (λ (w : Weaving). length w.rows ≡ design.size.picks);
      });
}

-- every list of events
events_reached : (design : Design) (opening : PaperCells) (faces : List Face) (w : World) (events : List Event) → IsReached design opening faces w
    → IsReached design opening faces (fold (stepped design opening faces) w events)
events_reached design opening faces w [] r = r
events_reached design opening faces w (event ∷ events) r =
    events_reached design opening faces (stepped design opening faces w event) events (event_reached design opening faces w event r)

pub reached : (design : Design) (opening : PaperCells) (faces : List Face) (events : List Event) → IsReached design opening faces (after_events design opening faces events)
reached design opening faces events = events_reached design opening faces (beginning opening faces) events (start_reached design opening faces)

-- the acts that were done are those of the events
acts_step : (design : Design) (opening : PaperCells) (faces : List Face) (w : World) (event : Event) → (stepped design opening faces w event).acts ≡ w.acts ++ acts_in event
acts_step design opening faces w (Do act) = refl
acts_step design opening faces w (Take tile) = sym (append-nil w.acts)
acts_step design opening faces w (Give result) = sym (append-nil w.acts)
acts_step design opening faces w Publish =
    where_may (λ v. v.acts ≡ w.acts ++ []) (may_publish w) (record w { published = w.published + 1 }) w (sym (append-nil w.acts)) (λ may. sym (append-nil w.acts))
acts_step design opening faces w (Begin loom version) =
    where_may (λ v. v.acts ≡ w.acts ++ []) (may_begin w.published version (loom_at w loom)) (with_loom w loom (with_repeat (length w.cuts) version (loom_at w loom))) w
    (sym (append-nil w.acts)) (λ may. sym (append-nil w.acts))
acts_step design opening faces w (Pick loom) = sym (append-nil w.acts)
acts_step design opening faces w Cut = where_may (λ v. v.acts ≡ w.acts ++ []) (may_cut w) (with_cut w) w (sym (append-nil w.acts)) (λ may. sym (append-nil w.acts))

acts_after : (design : Design) (opening : PaperCells) (faces : List Face) (w : World) (events : List Event) → (fold (stepped design opening faces) w events).acts ≡ w.acts ++ acts_of events
acts_after design opening faces w [] = sym (append-nil w.acts)
acts_after design opening faces w (event ∷ events) =
    acts_after design opening faces (stepped design opening faces w event) events
    ∙ ap (λ l. l ++ acts_of events) (acts_step design opening faces w event) ∙ append_assoc w.acts (acts_in event) (acts_of events)

pub acts_are : (design : Design) (opening : PaperCells) (faces : List Face) (events : List Event) → (after_events design opening faces events).acts ≡ acts_of events
acts_are design opening faces events = acts_after design opening faces (beginning opening faces) events
