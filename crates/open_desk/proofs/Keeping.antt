-- What an act keeps of what holds whenever the lock is free.
use Rattle.std.proofs.Common.{◌≡◌, ◌≢◌, ◌+◌, ◌*◌, ◌<◌, ◌≤◌, ℕ, zero, suc, List, [], ◌∷◌, ◌++◌, Some, None, ◌^◌, replicate, length, map, take, get_or, set, get_or-set_same, get_or-set_other, length-append, refl, sym, ap, subst, ◌∙◌, arith, ⊎_elim}
use Rattle.std.specs.Prelude.{slice_get, slice_index, slice_set}
use Rattle.std.proofs.Math.Seq.{take-append_seam}
use Rattle.std.proofs.lemmas.Bool.{cases_eq, cases_lt}
use Rattle.std.proofs.lemmas.List.{get_or-replicate, length-replicate, length-set, map-append, take-append-le}
use Rattle.std.proofs.lemmas.Option.{slice_get_past, slice_get_within}
use Rattle.point_paper.specs.Papers.{PaperCells}
use Rattle.strokes.specs.Spans.{PreparedAct}
use Rattle.draft_model.specs.declared.design.Design.{Design}
use Rattle.version_journal.specs.declared.entry.Entry.{Entry}
use Rattle.version_journal.specs.declared.entry.Reply.{Reply}
use Rattle.version_journal.specs.Journals.{History, history, begun, replies, step}
use Rattle.version_journal.proofs.Histories.{joined}
use Rattle.studio_core.specs.Cores.{CoreValue, entry_by}
use Rattle.studio_core.specs.Histories.{IsAt}
use Rattle.open_desk.specs.Histories.{AreNumbered, IsHistory, IsNext, acted, all_acted, count_of}
use Rattle.open_desk.specs.Locks.{IsActed, IsDone, IsLocked, IsShaped, LockedValue}
use Rattle.open_desk.specs.declared.receipt.Receipt.{Receipt}
use Rattle.open_desk.specs.inner.Kept.{IsKept}
use Rattle.open_desk.proofs.Counting.{count_here, count_other, shared, sum_below, sum_less}
use Rattle.open_desk.proofs.Picked.{get_front, get_seam, some_same}

no_more : {A : Type 0} (x : A) → Some x ≡ None → ⊥
no_more x e = cc

-- each entry is its caller's next, and so is one more
numbered_more : (callers : ℕ) (entries : List Entry) (e : Entry) → AreNumbered callers entries → IsNext callers entries e → AreNumbered callers (entries ++ e ∷ [])
numbered_more callers entries e each next k entry is = ⊎_elim
    (λ (low : k < length entries).
    let before = each k entry (sym (get_front entries (e ∷ []) k low) ∙ is) in
    subst (λ (earlier : List Entry). IsNext callers earlier entry) (sym (take-append-le k entries (e ∷ []) (omega (arith, low)))) before)
    (λ (high : length entries ≤ k).
    let within = slice_get_within (entries ++ e ∷ []) k entry is in
    let long = length-append entries (e ∷ []) in
    let at : length entries ≡ k = omega (arith, high, within, long) in
    let same : e ≡ entry = some_same e entry (sym (get_seam entries e []) ∙ ap (slice_get (entries ++ e ∷ [])) at ∙ is) in
    let front : entries ≡ take k (entries ++ e ∷ []) = sym (take-append_seam entries (e ∷ [])) ∙ ap (λ n. take n (entries ++ e ∷ [])) at in
    subst (λ (x : Entry). IsNext callers (take k (entries ++ e ∷ [])) x) same (subst (λ (earlier : List Entry). IsNext callers earlier e) front next))
    (cases_lt k (length entries))

-- the history of one act more
pub history_more : (design : Design) (opening : PaperCells) (acts : List PreparedAct) (act : PreparedAct)
    → history design opening (all_acted (acts ++ act ∷ [])) ≡ step design (history design opening (all_acted acts)) (acted act)
history_more design opening acts act = ap (history design opening) (map-append acted acts (act ∷ [])) ∙ joined design opening (all_acted acts) (acted act ∷ [])

-- a history with one act more
one_more : (design : Design) (callers : ℕ) (opening : PaperCells) (acts : List PreparedAct) (act : PreparedAct) (entries : List Entry) (e : Entry) → IsHistory design callers opening acts entries
    → IsNext callers entries e
    → (step design (history design opening (all_acted acts)) (acted act)).replies ≡ replies design opening (all_acted acts) ++ e.reply ∷ []
    → IsHistory design callers opening (acts ++ act ∷ []) (entries ++ e ∷ [])
one_more design callers opening acts act entries e is next reply = record {
  as_many = omega (arith, is.as_many, length-append acts (act ∷ []), length-append entries (e ∷ []));
  replied =
      map-append (λ (x : Entry). x.reply) entries (e ∷ []) ∙ ap (λ l. l ++ e.reply ∷ []) is.replied ∙ sym reply
      ∙ ap (λ (h : History). h.replies) (sym (history_more design opening acts act));
  numbered = numbered_more callers entries e is.numbered next;
}

-- there is room for an act of a caller that has not done all of its acts
pub has_room : (callers most caller : ℕ) (value : LockedValue) → IsLocked callers most value → caller < callers → count_of caller value.core.entries < most → 0 < value.core.spare
has_room callers most caller value is low less =
    let each = λ (k : ℕ) (e : Entry) (there : slice_get value.core.entries k ≡ Some e). (is.is_history.numbered k e there).caller in
    omega (arith, shared callers value.core.entries each, sum_less (λ i. count_of i value.core.entries) most callers caller is.few low less, is.room)

-- an act was done
pub locked_more : (callers most caller : ℕ) (value : LockedValue) (act : PreparedAct) (reply : Reply) (core : CoreValue) → IsLocked callers most value → caller < callers
    → count_of caller value.core.entries < most → IsActed caller (count_of caller value.core.entries + 1) act reply value.core core
    → IsLocked callers most (record { core = core; opening = value.opening; acts = value.acts ++ act ∷ [] })
locked_more callers most caller value act reply core is low less done =
    let old = value.core in
    let e : Entry = entry_by 0 caller (count_of caller old.entries + 1) reply in
    let goes = done.at (history old.design value.opening (all_acted value.acts)) is.at in
    let more = one_more old.design callers value.opening value.acts act old.entries e is.is_history (record { shift = refl; caller = low; number = refl }) goes.1 in
    record {
      is_history = subst (λ (d : Design). IsHistory d callers value.opening (value.acts ++ act ∷ []) core.entries) (sym done.design)
          (subst (λ (l : List Entry). IsHistory old.design callers value.opening (value.acts ++ act ∷ []) l) (sym done.entries) more);
      at = subst (λ (d : Design). IsAt (history d value.opening (all_acted (value.acts ++ act ∷ []))) core) (sym done.design)
          (subst (λ (h : History). IsAt h core) (sym (history_more old.design value.opening value.acts act)) goes.0);
      few = λ i. ⊎_elim
          (λ (same : caller ≡ i).
          let here = ap (count_of i) done.entries ∙ count_here i old.entries e same in
          let low_i : count_of i old.entries < most = subst (λ n. count_of n old.entries < most) same less in
          omega (arith, here, low_i))
          (λ (apart : caller ≡ i → ⊥).
          let other = ap (count_of i) done.entries ∙ count_other i old.entries e apart in
          omega (arith, other, is.few i))
          (cases_eq caller i);
      room = omega (arith, ap length done.entries, length-append old.entries (e ∷ []), done.spare, is.room);
    }

pub kept_more : (callers most caller : ℕ) (value : LockedValue) (acts' : List PreparedAct) (counts counts' : List ℕ) (total total' room room' : ℕ) (act : PreparedAct) (reply : Reply) (core : CoreValue)
    → IsKept callers most value counts total room → caller < callers → slice_index counts caller < most → IsActed caller (slice_index counts caller + 1) act reply value.core core
    → acts' ≡ value.acts ++ act ∷ [] → counts' ≡ slice_set counts caller (slice_index counts caller + 1) → total' ≡ total + 1 → room' ≡ room
    → IsKept callers most (record { core = core; opening = value.opening; acts = acts' }) counts' total' room'
kept_more callers most caller value acts' counts counts' total total' room room' act reply core is low less done acts_are counted ledger same_room =
    let old = value.core in
    let n = slice_index counts caller in
    let e : Entry = entry_by 0 caller (n + 1) reply in
    let here = is.counted caller low in
    let done' = subst (λ k. IsActed caller (k + 1) act reply old core) here done in
    let more = locked_more callers most caller value act reply core is.is_locked low (subst (λ k. k < most) here less) done' in
    record {
      is_locked = subst (λ (l : List PreparedAct). IsLocked callers most (record { core = core; opening = value.opening; acts = l })) (sym acts_are) more;
      counters = ap length counted ∙ length-set counts caller (n + 1) ∙ is.counters;
      counted = λ i below. ap (λ l. slice_index l i) counted ∙ ⊎_elim
          (λ (same : caller ≡ i).
          let set_here : slice_index (slice_set counts caller (n + 1)) i ≡ n + 1 =
          subst (λ k. slice_index (slice_set counts caller (n + 1)) k ≡ n + 1) same (get_or-set_same counts caller (n + 1) 0 (omega (arith, is.counters, low))) in
          set_here ∙ ap (λ k. k + 1) (here ∙ ap (λ k. count_of k old.entries) same) ∙ sym (ap (count_of i) done.entries ∙ count_here i old.entries e same))
          (λ (apart : caller ≡ i → ⊥).
          get_or-set_other counts caller i (n + 1) 0 (λ same. apart (sym same)) ∙ is.counted i below ∙ sym (ap (count_of i) done.entries ∙ count_other i old.entries e apart))
          (cases_eq caller i);
      in_ledger = omega (arith, ledger, is.in_ledger, ap length done.entries, length-append old.entries (e ∷ []));
      bounded = is.bounded;
      countable = is.countable;
      acts_fit = omega (arith, is.acts_fit, ap length acts_are, length-append value.acts (act ∷ []), done.spare, same_room);
    }

-- a core that differs in its marks and cells alone
pub kept_settled : (callers most : ℕ) (value : LockedValue) (counts counts' : List ℕ) (total room : ℕ) (core : CoreValue) → IsKept callers most value counts total room → counts' ≡ counts
    → core.design ≡ value.core.design → core.entries ≡ value.core.entries → core.spare ≡ value.core.spare → ((h : History) → IsAt h value.core → IsAt h core)
    → IsKept callers most (record { core = core; opening = value.opening; acts = value.acts }) counts' total room
kept_settled callers most value counts counts' total room core is same_counts same_design same_entries same_spare stays =
    let old = value.core in
    record {
      is_locked = record {
        is_history = subst (λ (d : Design). IsHistory d callers value.opening value.acts core.entries) (sym same_design)
            (subst (λ (l : List Entry). IsHistory old.design callers value.opening value.acts l) (sym same_entries) is.is_locked.is_history);
        at = subst (λ (d : Design). IsAt (history d value.opening (all_acted value.acts)) core) (sym same_design)
            (stays (history old.design value.opening (all_acted value.acts)) is.is_locked.at);
        few = λ i. omega (arith, ap (count_of i) same_entries, is.is_locked.few i);
        room = omega (arith, ap length same_entries, same_spare, is.is_locked.room);
      };
      counters = ap length same_counts ∙ is.counters;
      counted = λ i below. ap (λ l. slice_index l i) same_counts ∙ is.counted i below ∙ sym (ap (count_of i) same_entries);
      in_ledger = is.in_ledger ∙ sym (ap length same_entries);
      bounded = is.bounded;
      countable = is.countable;
      acts_fit = omega (arith, is.acts_fit, same_spare);
    }

-- a caller that may do an act has fewer entries than it may have
pub may_do : (callers most caller mine : ℕ) (value : LockedValue) (counts seen : List ℕ) (total room : ℕ) → IsKept callers most value counts total room → caller < callers → seen ≡ counts
    → (mine ≢ most) × (mine ≡ slice_index seen caller) → (slice_index counts caller < most) × (mine ≡ slice_index counts caller)
may_do callers most caller mine value counts seen total room is low same may =
    let here = is.counted caller low in
    let few = is.is_locked.few caller in
    let mine_is : mine ≡ slice_index counts caller = may.1 ∙ ap (λ l. slice_index l caller) same in
    let apart = may.0 in
    let less : slice_index counts caller < most = omega (arith, here, few, mine_is, apart) in (less, mine_is)

pub shaped_same : (c p n : ℕ) (old new : CoreValue) → new.design ≡ old.design → IsShaped c p n old → IsShaped c p n new
shaped_same c p n old new same is = record {
  columns = ap (λ (d : Design). d.size.columns) same ∙ is.columns;
  picks = ap (λ (d : Design). d.size.picks) same ∙ is.picks;
  colours = ap (λ (d : Design). length d.book) same ∙ is.colours;
}

-- what an act did, as callers of a locked value see it
pub done_of : (callers most caller : ℕ) (value : LockedValue) (acts' : List PreparedAct) (counts : List ℕ) (total room : ℕ) (act : PreparedAct) (receipt : Receipt) (core : CoreValue) → IsKept callers most value counts total room
    → caller < callers → IsActed caller (slice_index counts caller + 1) act receipt.reply value.core core → acts' ≡ value.acts ++ act ∷ [] → receipt.place ≡ length value.core.entries → receipt.act ≡ act.act
    → IsDone caller act receipt value (record { core = core; opening = value.opening; acts = acts' })
done_of callers most caller value acts' counts total room act receipt core is low done acts_are place of_act =
    let old = value.core in
    let done' = subst (λ k. IsActed caller (k + 1) act receipt.reply old core) (is.counted caller low) done in
    let goes = done'.at (history old.design value.opening (all_acted value.acts)) is.is_locked.at in
    record {
      place = place;
      of_act = of_act;
      entry = done'.entries;
      acts = acts_are;
      opening = refl;
      design = done'.design;
      reply = ap (λ (l : List PreparedAct). replies old.design value.opening (all_acted l)) acts_are ∙ ap (λ (h : History). h.replies) (history_more old.design value.opening value.acts act) ∙ goes.1;
    }

-- a desk at its start
pub kept_first : (callers most : ℕ) (opening opening' : PaperCells) (acts : List PreparedAct) (counts : List ℕ) (total room : ℕ) (core : CoreValue) → core.entries ≡ [] → core.spare ≡ most * callers
    → IsAt (begun opening) core → opening' ≡ opening → acts ≡ [] → counts ≡ replicate callers 0 → total ≡ 0 → most < 2 ^ 32 → callers < 2 ^ 32 → most * callers ≤ room
    → IsKept callers most (record { core = core; opening = opening'; acts = acts }) counts total room
kept_first callers most opening opening' acts counts total room core no_entries all_spare at same_opening no_acts no_counts no_total bounded countable fits =
    record {
      is_locked = record {
        is_history = record {
          as_many = ap length no_acts ∙ sym (ap length no_entries);
          replied = ap (map (λ (x : Entry). x.reply)) no_entries ∙ ap (λ (l : List PreparedAct). replies core.design opening' (all_acted l)) (sym no_acts);
          numbered = λ k entry is. absurd (no_more entry (sym is ∙ ap (λ l. slice_get l k) no_entries ∙ slice_get_past [] k (omega arith)));
        };
        at = subst (λ (l : List PreparedAct). IsAt (history core.design opening' (all_acted l)) core) (sym no_acts) (subst (λ (o : PaperCells). IsAt (begun o) core) (sym same_opening) at);
        few = λ i. omega (arith, ap (count_of i) no_entries);
        room = omega (arith, ap length no_entries, all_spare);
      };
      counters = ap length no_counts ∙ length-replicate callers 0;
      counted = λ i below. ap (λ l. slice_index l i) no_counts ∙ get_or-replicate callers i 0 0 below ∙ sym (ap (count_of i) no_entries);
      in_ledger = no_total ∙ sym (ap length no_entries);
      bounded = bounded;
      countable = countable;
      acts_fit = omega (arith, ap length no_acts, all_spare, fits);
    }

pub shaped_is : (c p n : ℕ) (design : Design) (core : CoreValue) → core.design ≡ design → design.size.columns ≡ c → design.size.picks ≡ p → length design.book ≡ n → IsShaped c p n core
shaped_is c p n design core same columns picks colours = record {
  columns = ap (λ (d : Design). d.size.columns) same ∙ columns;
  picks = ap (λ (d : Design). d.size.picks) same ∙ picks;
  colours = ap (λ (d : Design). length d.book) same ∙ colours;
}
