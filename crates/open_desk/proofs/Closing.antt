-- Receipts that agree with their entries, and are as many, are those of all entries.
use Rattle.std.proofs.Common.{◌≡◌, ◌≢◌, ◌+◌, ◌<◌, ◌≤◌, ℕ, zero, suc, Bool, true, false, List, [], ◌∷◌, ◌++◌, Some, None, length, take, get_or, length-append, refl, sym, ap, subst, ◌∙◌, arith, ⊎_elim}
use Rattle.std.specs.Prelude.{Result, Ok, Err, IfOk, slice_get, sum_by, count_by}
use Rattle.std.proofs.Math.Seq.{take-length}
use Rattle.std.proofs.lemmas.Bool.{cases_lt}
use Rattle.std.proofs.lemmas.List.Sums.{count_by_more_no, count_by_more_yes}
use Rattle.std.proofs.lemmas.Option.{slice_get_past, slice_get-get_or, get_or_from_slice_get}
use Rattle.mill_base.specs.Lines.{line_by}
use Rattle.mill_base.proofs.lemmas.Lines.{line_is}
use Rattle.point_paper.specs.Papers.{PaperCells}
use Rattle.strokes.specs.Spans.{PreparedAct}
use Rattle.draft_model.specs.declared.design.Design.{Design}
use Rattle.version_journal.specs.declared.entry.Entry.{Entry}
use Rattle.version_journal.specs.declared.entry.Reply.TheVariants.{Painted}
use Rattle.studio_core.specs.Cores.{entry_by}
use Rattle.open_desk.specs.Differences.{AgreeBelow, AllAgree, list_of}
use Rattle.open_desk.specs.Histories.{IsHistory, OneHistory, count_of, entry_at, is_of, places_of, receipt_at, receipts_of}
use Rattle.open_desk.specs.declared.receipt.Receipt.{Receipt}
use Rattle.open_desk.proofs.Counting.{shared, sum_below, sum_list, sum_same}
use Rattle.open_desk.proofs.Picked.{picked, picked_no, picked_yes, some_same}

-- lists that have the same item in each place are one list
same_lists : {A : Type 0} (xs ys : List A) → length xs ≡ length ys → ((j : ℕ) → j < length xs → slice_get xs j ≡ slice_get ys j) → xs ≡ ys
same_lists [] [] long each = refl
same_lists [] (y ∷ ys) long each = absurd (omega (arith, long))
same_lists (x ∷ xs) [] long each = absurd (omega (arith, long))
same_lists (x ∷ xs) (y ∷ ys) long each =
    let head : x ≡ y = some_same x y (each 0 (omega arith)) in
    let rest : xs ≡ ys = same_lists xs ys (omega (arith, long)) (λ j h. each (suc j) (omega (arith, h))) in
    ap (λ a. a ∷ xs) head ∙ ap (λ l. y ∷ l) rest

no_more : {A : Type 0} (x : A) → Some x ≡ None → ⊥
no_more x e = cc

-- receipts that all agree are no more than the kept ones
agree_le : (receipts kept : List Receipt) → AgreeBelow (length receipts) receipts kept → length receipts ≤ length kept
agree_le receipts kept agree = ⊎_elim
    (λ (h : length kept < length receipts).
    let j = length kept in
    let d : Receipt = get_or receipts j (receipt_at [] [] 0) in
    absurd (no_more d (sym (slice_get-get_or receipts j (receipt_at [] [] 0) h) ∙ agree j h ∙ slice_get_past kept j (omega arith))))
    (λ (h : length receipts ≤ length kept). h)
    (cases_lt (length kept) (length receipts))

-- a caller has a receipt for each of its entries
counted_step : (acts : List PreparedAct) (entries : List Entry) (caller n : ℕ) (b : Bool) → n < length entries → is_of caller (entry_at entries n) ≡ b
    → length (picked (λ place. is_of caller (entry_at entries place)) (receipt_at acts entries) n) ≡ count_by (is_of caller) (take n entries)
    → length (picked (λ place. is_of caller (entry_at entries place)) (receipt_at acts entries) (suc n)) ≡ count_by (is_of caller) (take (n + 1) entries)
counted_step acts entries caller n true low is before =
    let p : ℕ → Bool = λ place. is_of caller (entry_at entries place) in
    let f = receipt_at acts entries in
    ap length (picked_yes p f n is) ∙ length-append (picked p f n) (f n ∷ []) ∙ ap (λ k. k + 1) before ∙ sym (count_by_more_yes (is_of caller) entries n (entry_by 0 0 0 Painted) low is)
counted_step acts entries caller n false low is before =
    ap length (picked_no (λ place. is_of caller (entry_at entries place)) (receipt_at acts entries) n is) ∙ before ∙ sym (count_by_more_no (is_of caller) entries n (entry_by 0 0 0 Painted) low is)

counted_to : (acts : List PreparedAct) (entries : List Entry) (caller n : ℕ) → n ≤ length entries
    → length (picked (λ place. is_of caller (entry_at entries place)) (receipt_at acts entries) n) ≡ count_by (is_of caller) (take n entries)
counted_to acts entries caller zero h = refl
counted_to acts entries caller (suc n) h =
    let e : n + 1 ≡ suc n = omega arith in
    counted_step acts entries caller n (is_of caller (entry_at entries n)) (omega (arith, h)) refl (counted_to acts entries caller n (omega (arith, h)))
    ∙ ap (λ k. count_by (is_of caller) (take k entries)) e

pub as_many_receipts : (acts : List PreparedAct) (entries : List Entry) (caller : ℕ) → length (receipts_of acts entries caller) ≡ count_of caller entries
unfolding places_of
as_many_receipts acts entries caller = counted_to acts entries caller (length entries) (omega arith) ∙ ap (count_by (is_of caller)) (take-length entries)

-- all receipts agree, and there are as many as entries
pub all_told : (design : Design) (callers : ℕ) (opening : PaperCells) (acts : List PreparedAct) (entries : List Entry) (lists : List (List Receipt)) → IsHistory design callers opening acts entries
    → length lists ≡ callers → AllAgree callers acts entries lists → sum_by length lists ≡ length entries → lists ≡ line_by callers (receipts_of acts entries)
all_told design callers opening acts entries lists is long agree sum =
    let total = sum_list [] length lists callers long in
    let all = shared callers entries (λ k e there. (is.numbered k e there).caller) in
    let each : (i : ℕ) → i < callers → length (list_of lists i) ≤ count_of i entries =
    λ i h. omega (arith, agree_le (list_of lists i) (receipts_of acts entries i) (agree i h), as_many_receipts acts entries i) in
    let same = sum_same (λ i. length (list_of lists i)) (λ i. count_of i entries) callers each (sym total ∙ sum ∙ sym all) in
    line_is [] lists callers (receipts_of acts entries) long
    (λ i h. same_lists (list_of lists i) (receipts_of acts entries i) (same i h ∙ sym (as_many_receipts acts entries i)) (agree i h))

pub one_history : (design : Design) (opening : PaperCells) (acts acts' : List PreparedAct) (entries entries' : List Entry) (lists lists' : List (List Receipt)) → acts' ≡ acts → entries' ≡ entries → lists' ≡ lists
    → IsHistory design (length lists) opening acts entries → AllAgree (length lists') acts' entries' lists' → sum_by length lists ≡ length entries → OneHistory design (length lists) opening acts entries lists
one_history design opening acts acts' entries entries' lists lists' same_acts same_entries same_lists is agree sum =
    let by_lists : AllAgree (length lists) acts' entries' lists = subst (λ (l : List (List Receipt)). AllAgree (length l) acts' entries' l) same_lists agree in
    let by_acts : AllAgree (length lists) acts entries' lists = subst (λ (a : List PreparedAct). AllAgree (length lists) a entries' lists) same_acts by_lists in
    let by_entries : AllAgree (length lists) acts entries lists = subst (λ (e : List Entry). AllAgree (length lists) acts e lists) same_entries by_acts in
    record { history = is; told = all_told design (length lists) opening acts entries lists is refl by_entries sum }

-- what an Ok is said to be, it is said to be in other words
pub if_ok : {A E : Type 0} (r : Result A E) (P Q : A → Type 0) → ((x : A) → P x → Q x) → IfOk r P → IfOk r Q
if_ok (Ok x) P Q f p = f x p
if_ok (Err e) P Q f p = p
