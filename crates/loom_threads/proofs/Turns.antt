-- One reading and its repeat.
use Rattle.std.proofs.Common.{◌≡◌, ◌+◌, ◌-◌, ◌^◌, ◌≤◌, ℕ, List, [], ◌∷◌, ◌++◌, length, length-append, Option, Some, None, IfSome, inl, inr, refl, sym, ap, subst, ◌∙◌, arith}
use Rattle.std.specs.Prelude.{IsSomeAnd, OnSome, slice_get}
use Rattle.std.proofs.lemmas.Option.{same_Some}
use Rattle.mill_base.specs.Causes.{risen}
use Rattle.card_image.specs.Sets.{CardDesign, CardsValue, design_by}
use Rattle.version_journal.specs.declared.run_log.Repeat.{Repeat}
use Rattle.shed_publish.specs.declared.newest.Version.{Version}
use Rattle.shed_publish.specs.Ends.{EndValue, EndsWith, Knows as EndKnows}
use Rattle.shed_publish.specs.Versions.{IsPrefix, IsPublished}
use Rattle.shed_publish.proofs.lemmas.Published.{alike}
use Rattle.loom_threads.specs.Looms.{EndWithNewest, IsTold, Knows, LoomValue, Wove, list_of, missed_of, readings_of, repeat_from}
use Rattle.loom_threads.proofs.Repeats.{last_item}
use Rattle.loom_threads.proofs.lemmas.Joined.{kept}
use Rattle.loom_threads.proofs.lemmas.Parts.{are_one, last_is}

-- what an end of a loom knows after a reading
pub end_knows : (told : List Version) (loom : LoomValue) (old new : EndValue) → loom.end ≡ Some old → ((list : List Version) → EndKnows list old → EndKnows list new)
    → Knows told loom → EndKnows told new
end_knows told loom old new is more k = more told (subst (EndKnows told) (same_Some k.end old (sym k.is ∙ is)) k.knows)

-- an end that read since it learnt has seen all that it knows
pub knows_seen : (told : List Version) (end : EndValue) → end.learnt ≡ [] → EndKnows told end → IsPrefix told end.list
knows_seen told end none (inl p) = p
knows_seen told end none (inr q) = absurd (cc (q.1, none))

pub on_some : {X : Type 0} (P : X → Type 0) (Q : Type 0) (o : Option X) → ((x : X) → P x → Q) → IfSome o P → OnSome o Q
on_some P Q None more p = tt
on_some P Q (Some x) more p = more x p

-- a loom that was told a list still is, whatever it reads and weaves
pub still_told : (before after : LoomValue) → IsTold before → after.machine ≡ before.machine → after.picks ≡ before.picks
    → ((list : List Version) → Knows list before → Knows list after) → IsTold after
still_told before after t machine picks knows = record {
  told = t.told;
  knows = knows t.told t.knows;
  first = t.first;
  there = t.there;
  design = t.design ∙ ap (λ m. design_by m.casting before.picks) (sym machine) ∙ ap (λ n. design_by after.machine.casting n) (sym picks);
}

-- the cards that a told loom read are for its machine and picks
pub cards_fit : (before : LoomValue) (list : List Version) (v : Version) (t : IsTold before) → IsPrefix t.told list → IsPublished list → EndsWith list v
    → v.cards.design ≡ design_by before.machine.casting before.picks
cards_fit before list v t p published ends =
    let last = last_is list v published ends in
    let first : slice_get list 0 ≡ Some t.first = subst (λ (l : List Version). slice_get l 0 ≡ Some t.first) (sym p.1) (kept t.told p.0 0 t.first t.there) in
    alike list v.version 0 v t.first published last.1 first ∙ t.design

-- one reading gave a version, and its repeat was woven
pub wove_one : (shift : ℕ) (before read after : LoomValue) (v : Version) → read ≡ record before { end = read.end }
    → after ≡ record read { repeats = read.repeats ++ repeat_from read shift v.version v.cards ∷ []; spare = read.spare - 1 } → 1 ≤ before.spare
    → IsPrefix (list_of before) (list_of read) → ((told : List Version) → Knows told before → Knows told read)
    → ((told : List Version) → Knows told before → IsPrefix told (list_of read)) → IsPublished (list_of read) → EndsWith (list_of read) v
    → readings_of read ≡ risen (readings_of before) → missed_of read ≡ missed_of before → Wove shift before after
wove_one shift before read after v same added room later knows told published ends rose missed =
    let woven = repeat_from before shift v.version v.cards in
    let last = last_is (list_of read) v published ends in
    let all : after ≡ record before { end = read.end; repeats = before.repeats ++ woven ∷ []; spare = before.spare - 1 } =
    added ∙ ap (λ (l : LoomValue). record l { repeats = l.repeats ++ repeat_from l shift v.version v.cards ∷ []; spare = l.spare - 1 }) same in
    subst (Wove shift before) (sym all) (record {
      new = woven ∷ [];
      are = refl;
      same = refl;
      spare = omega (arith, room);
      later = later;
      knows = λ list h. let k = knows list h in record { end = k.end; is = k.is; knows = k.knows };
      woven = λ list h.
          let p = told list h in
          are_one before shift (length list - 1) (list_of read) woven refl (omega (arith, last.0, ap length p.1, length-append list p.0)) (record { cards = v.cards; entry = last.1; repeat = refl });
      readings = omega (arith, rose);
      no_more = omega (arith, rose);
      missed = omega (arith, missed);
    })

-- the repeat of a reading is of the last entry of the list that it saw
pub newest_one : (shift : ℕ) (read after : LoomValue) (v : Version) → after ≡ record read { repeats = read.repeats ++ repeat_from read shift v.version v.cards ∷ []; spare = read.spare - 1 }
    → IsPublished (list_of read) → EndsWith (list_of read) v → EndWithNewest after
newest_one shift read after v added published ends =
    let woven = repeat_from read shift v.version v.cards in
    let last = last_is (list_of read) v published ends in
    subst EndWithNewest (sym added)
    (subst (λ (o : Option Repeat). IsSomeAnd o (λ (r : Repeat). r.version + 1 ≡ length (list_of read))) (sym (last_item read.repeats woven)) last.0)
