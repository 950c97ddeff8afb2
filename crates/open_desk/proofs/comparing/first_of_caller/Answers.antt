use Rattle.std.proofs.Common.{◌≡◌, ◌≢◌, ◌+◌, ◌<◌, ◌≤◌, ℕ, Bool, true, false, List, Some, length, get_or, sym, ap, subst, ◌∙◌, arith}
use Rattle.std.proofs.lemmas.Option.{slice_get-get_or}
use Rattle.strokes.specs.declared.act.Act.TheVariants.{Dot}
use Rattle.version_journal.specs.declared.entry.Reply.TheVariants.{Painted}
use Rattle.open_desk.specs.Differences.{AgreeBelow, DifferFirst}
use Rattle.open_desk.specs.Histories.{entry_at, is_of, places_of, receipt_at, receipts_of}
use Rattle.open_desk.specs.declared.receipt.Receipt.{Receipt}
use Rattle.open_desk.proofs.Picked.{Compared, agree_on, compared_no, compared_yes, differ_here, differ_past}
use Rattle.open_desk.proofs.comparing.first_of_caller.Goals as goal
use Rattle.open_desk.proofs.comparing.first_of_caller.Goals.{then-is_of_caller+else-k-receipts+else-not-is_same, else-is_of_caller}

-- what stands past the end of a list
abbrev past : Receipt
past = record { place = 0; act = Dot 0 0 0; reply = Painted }

pub returns-then-k-receipts-clause-none : goal.returns-then-k-receipts-clause-none
unfolding places_of
returns-then-k-receipts-clause-none c none =
    let p : ℕ → Bool = λ place. is_of c.args.caller (entry_at c.args.entries.now place) in
    let all = agree_on p (receipt_at c.args.acts.now c.args.entries.now) c.args.receipts.now c.loop-place.place (length c.args.entries.now) c.loop-place.k (let h = c.loop-place-test.true in omega arith)
    c.loop-place.invariant in
    λ j below. all j (omega (arith, c.if-k-receipts.true, below))

pub returns-then-not-is_same-clause-some : goal.returns-then-not-is_same-clause-some
unfolding places_of
returns-then-not-is_same-clause-some c =
    let p : ℕ → Bool = λ place. is_of c.args.caller (entry_at c.args.entries.now place) in
    let f = receipt_at c.args.acts.now c.args.entries.now in
    let here = slice_get-get_or c.args.receipts.now c.loop-place.k past (let within = c.loop-place.invariant.within in let other = c.if-k-receipts.false in omega arith) in
    let made = c.receipt_of-kept.ensures in
    subst (λ (r : Receipt). DifferFirst c.args.receipts.now (receipts_of c.args.acts.now c.args.entries.now c.args.caller) (get_or c.args.receipts.now c.loop-place.k past) (Some r)) (sym made)
    (differ_here p f c.args.receipts.now c.loop-place.place c.loop-place.k (length c.args.entries.now) (get_or c.args.receipts.now c.loop-place.k past) (sym c.is_of_caller.ensures ∙ c.if-is_of_caller.true) c.loop-place-test.true here
    (λ same. c.is_same.ensures.apart c.if-not-is_same.true (sym same ∙ sym made)) c.loop-place.invariant)

pub loop-place-preserved : goal.loop-place-preserved
loop-place-preserved c =
    let p : ℕ → Bool = λ place. is_of c.args.caller (entry_at c.args.entries.now place) in
    let f = receipt_at c.args.acts.now c.args.entries.now in
    elim c.if-is_of_caller.branch [
      | then-is_of_caller+else-k-receipts+else-not-is_same w ↦
          let low : c.loop-place.k < length c.args.receipts.now = (let within = c.loop-place.invariant.within in let other = w.if-k-receipts.false in omega arith) in
          let here = slice_get-get_or c.args.receipts.now c.loop-place.k past low in
          let same = w.is_same.ensures.same w.if-not-is_same.false ∙ w.receipt_of-kept.ensures in
          subst (λ n. Compared p f c.args.receipts.now (c.loop-place.place + 1) n) (sym w.k-is)
          (compared_yes p f c.args.receipts.now c.loop-place.place c.loop-place.k (sym c.is_of_caller.ensures ∙ w.if-is_of_caller.true) low (here ∙ ap (λ (r : Receipt). Some r) same) c.loop-place.invariant)
      | else-is_of_caller w ↦
          subst (λ n. Compared p f c.args.receipts.now (c.loop-place.place + 1) n) (sym w.k-is)
          (compared_no p f c.args.receipts.now c.loop-place.place c.loop-place.k (sym c.is_of_caller.ensures ∙ w.if-is_of_caller.false) c.loop-place.invariant)
    ]

pub returns-then-k-receipts-2-clause-none : goal.returns-then-k-receipts-2-clause-none
unfolding places_of
returns-then-k-receipts-2-clause-none c none =
    let p : ℕ → Bool = λ place. is_of c.args.caller (entry_at c.args.entries.now place) in
    let end = c.loop-place-test.false in
    let within = c.loop-place.auto.place-end in
    let at : c.loop-place.place ≡ length c.args.entries.now = omega (arith, end, within) in
    let all = agree_on p (receipt_at c.args.acts.now c.args.entries.now) c.args.receipts.now c.loop-place.place (length c.args.entries.now) c.loop-place.k (omega (arith, at)) c.loop-place.invariant in
    λ j below. all j (omega (arith, c.if-k-receipts-2.true, below))

pub returns-clause-some : goal.returns-clause-some
unfolding places_of
returns-clause-some c =
    let p : ℕ → Bool = λ place. is_of c.args.caller (entry_at c.args.entries.now place) in
    let f = receipt_at c.args.acts.now c.args.entries.now in
    let end = c.loop-place-test.false in
    let within = c.loop-place.auto.place-end in
    let at : c.loop-place.place ≡ length c.args.entries.now = omega (arith, end, within) in
    let here = slice_get-get_or c.args.receipts.now c.loop-place.k past (let within = c.loop-place.invariant.within in let other = c.if-k-receipts-2.false in omega arith) in
    differ_past p f c.args.receipts.now c.loop-place.k (length c.args.entries.now) (get_or c.args.receipts.now c.loop-place.k past) here
    (subst (λ n. Compared p f c.args.receipts.now n c.loop-place.k) at c.loop-place.invariant)
