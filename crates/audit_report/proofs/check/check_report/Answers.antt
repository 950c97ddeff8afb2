use Rattle.std.proofs.Common.{◌≡◌, ◌+◌, ◌++◌, ℕ, Bool, true, List, take, drop, refl, sym, ap, subst, ◌∙◌, arith}
use Rattle.std.proofs.Math.Seq.{take-add}
use Rattle.audit_model.specs.Reads.{Cut, Reaches}
use Rattle.audit_report.specs.Checkers.{Holds, coming_of, state_of}
use Rattle.audit_report.proofs.Checking.{IsFirst, answer_end, answer_here, answer_rest, answer_yes, cut_at, cut_on, drop_add, drop_all, piece_is}
use Rattle.audit_report.proofs.check.check_report.Goals as goal

pub read-requires-clause-part : goal.read-requires-clause-part
read-requires-clause-part c = c.loop-at.invariant.2.reached.part

pub read-requires-clause-keeps : goal.read-requires-clause-keeps
read-requires-clause-keeps c = c.loop-at.invariant.2.keeps

pub read-requires-clause-piece : goal.read-requires-clause-piece
read-requires-clause-piece c =
    let e = c.first_piece-size.ensures in
    piece_is c.split_at.result.1.now c.first_piece-size.result.0 c.first_piece-size.result.1 (record { some = e.some; within = e.within; line = e.line; rest = e.rest })

pub returns-then-not-passes : goal.returns-then-not-passes
returns-then-not-passes c =
    let e = c.first_piece-size.ensures in
    let i = c.loop-at.invariant in
    let read = c.split_at.result.0.now in
    let left = c.split_at.result.1.now in
    let bytes = c.args.bytes.now in
    let checker = c.loop-at.checker in
    let first : IsFirst left c.first_piece-size.result.0 c.first_piece-size.result.1 = record { some = e.some; within = e.within; line = e.line; rest = e.rest } in
    answer_here c.args.session.now bytes read left (state_of checker) (coming_of checker) c.loop-at.count c.first_piece-size.result.0 c.first_piece-size.result.1
    (cut_at bytes read left c.loop-at.at c.loop-at.count c.split_at.ensures.front c.split_at.ensures.back i.3) first
    (subst (λ (b : List ℕ). Reaches c.args.session.now b (state_of checker) (coming_of checker)) (sym c.split_at.ensures.front) i.2.reached) (c.in_ok-passes.ensures.no c.if-not-passes.true)

pub returns-then-not-is_line : goal.returns-then-not-is_line
returns-then-not-is_line c =
    let e = c.first_piece-size.ensures in
    let i = c.loop-at.invariant in
    let read = c.split_at.result.0.now in
    let left = c.split_at.result.1.now in
    let bytes = c.args.bytes.now in
    let checker = c.loop-at.checker in
    let first : IsFirst left c.first_piece-size.result.0 c.first_piece-size.result.1 = record { some = e.some; within = e.within; line = e.line; rest = e.rest } in
    answer_rest c.args.session.now bytes read left (state_of checker) (coming_of checker) c.loop-at.count c.first_piece-size.result.0
    (cut_at bytes read left c.loop-at.at c.loop-at.count c.split_at.ensures.front c.split_at.ensures.back i.3)
    (subst (λ (b : Bool). IsFirst left c.first_piece-size.result.0 b) c.if-not-is_line.true first)
    (subst (λ (b : List ℕ). Reaches c.args.session.now b (state_of checker) (coming_of checker)) (sym c.split_at.ensures.front) i.2.reached) (c.in_ok-passes.ensures.yes c.if-not-passes.false)

pub loop-at-preserved : goal.loop-at-preserved
loop-at-preserved c =
    let e = c.first_piece-size.ensures in
    let i = c.loop-at.invariant in
    let at = c.loop-at.at in
    let bytes = c.args.bytes.now in
    let size = c.first_piece-size.result.0 in
    let read = c.split_at.result.0.now in
    let left = c.split_at.result.1.now in
    let first : IsFirst left size c.first_piece-size.result.1 = record { some = e.some; within = e.within; line = e.line; rest = e.rest } in
    let line : IsFirst left size true = subst (λ (b : Bool). IsFirst left size b) c.if-not-is_line.false first in
    let rest : drop size left ≡ drop (at + size) bytes = ap (drop size) c.split_at.ensures.back ∙ drop_add at size bytes in
    let back : take at bytes ++ take size left ≡ take (at + size) bytes = ap (λ l. take at bytes ++ take size l) c.split_at.ensures.back ∙ sym (take-add at size bytes) in
    let more : read ++ take size left ≡ take (at + size) bytes = ap (λ l. l ++ take size left) c.split_at.ensures.front ∙ back in (
      omega (arith, e.within, c.split_at.ensures.back_len),
      omega (arith, i.1, e.some),
      subst (λ (b : List ℕ). Holds c.args.session.now c.read.new.self b) back (c.in_ok-passes.ensures.next c.if-not-passes.false (line.line refl) (take at bytes) i.2.reached),
      subst (λ (b : List ℕ). Cut bytes (c.loop-at.count + 1) b (drop (at + size) bytes)) more
          (subst (λ (b : List ℕ). Cut bytes (c.loop-at.count + 1) (read ++ take size left) b) rest
          (cut_on bytes read left c.loop-at.count size (cut_at bytes read left at c.loop-at.count c.split_at.ensures.front c.split_at.ensures.back i.3) line)),
    )

pub returns-then-not-is_over : goal.returns-then-not-is_over
returns-then-not-is_over c =
    let i = c.loop-at.invariant in
    let bytes = c.args.bytes.now in
    let at = c.loop-at.at in
    answer_end c.args.session.now bytes (take at bytes) (state_of c.loop-at.checker) (coming_of c.loop-at.checker) c.loop-at.count
    (subst (λ (b : List ℕ). Cut bytes c.loop-at.count (take at bytes) b) (drop_all bytes at (omega (arith, i.0, c.loop-at-test.false))) i.3) i.2.reached
    (c.is_over.ensures.no c.if-not-is_over.true)

pub returns : goal.returns
returns c =
    let i = c.loop-at.invariant in
    let bytes = c.args.bytes.now in
    let at = c.loop-at.at in
    answer_yes c.args.session.now bytes (take at bytes) (state_of c.loop-at.checker) (coming_of c.loop-at.checker) c.loop-at.count _
    (subst (λ (b : List ℕ). Cut bytes c.loop-at.count (take at bytes) b) (drop_all bytes at (omega (arith, i.0, c.loop-at-test.false))) i.3) i.2.reached
    (c.is_over.ensures.yes c.if-not-is_over.false) c.in_ok-log.ensures

pub into_log-requires-clause-part : goal.into_log-requires-clause-part
into_log-requires-clause-part c = c.loop-at.invariant.2.reached.part

pub into_log-requires-clause-keeps : goal.into_log-requires-clause-keeps
into_log-requires-clause-keeps c = c.loop-at.invariant.2.keeps
