use Rattle.std.proofs.Common.{◌≡◌, ◌*◌, ◌++◌, ℕ, List, drop, length, ap, subst, arith}
use Rattle.block_journal.specs.Journals.{marks_bytes}
use Rattle.block_journal.proofs.Reading.{tail_is, short_block, no_count, great_count, cut_block, whole_block}
use Rattle.block_journal.proofs.decode.next_block.Goals as goal

pub returns-then-bytes-lt4 : goal.returns-then-bytes-lt4
returns-then-bytes-lt4 c = short_block c.args.bytes.now (omega (arith, c.if-bytes-lt4.true))

pub returns-then-count-eq0 : goal.returns-then-count-eq0
returns-then-count-eq0 c = no_count c.args.bytes.now c.number_at-count.result c.number_at-count.ensures.small c.number_at-count.ensures.bytes (omega (arith, c.if-count-eq0.true))

pub returns-then-count-gt-BLOCK_MARKS : goal.returns-then-count-gt-BLOCK_MARKS
returns-then-count-gt-BLOCK_MARKS c = great_count c.args.bytes.now c.number_at-count.result c.number_at-count.ensures.small c.number_at-count.ensures.bytes (omega (arith, c.if-count-gt-BLOCK_MARKS.true))

pub returns-then-rest-count : goal.returns-then-rest-count
returns-then-rest-count c = cut_block c.args.bytes.now c.number_at-count.result c.number_at-count.ensures.small c.number_at-count.ensures.bytes (omega (arith, c.if-rest-count.true, ap length (tail_is 4 c.args.bytes.now)))

pub returns : goal.returns
returns c =
    whole_block c.args.bytes.now c.number_at-count.result c.in_ok-marks_of.field-0.items (omega (arith, c.if-count-eq0.false)) (omega (arith, c.if-count-gt-BLOCK_MARKS.false)) c.number_at-count.ensures.bytes (omega (arith, c.if-rest-count.false, ap length (tail_is 4 c.args.bytes.now)))
    c.in_ok-marks_of.ensures.count c.in_ok-marks_of.ensures.fits
    (subst (λ (l : List ℕ). marks_bytes c.in_ok-marks_of.field-0.items ++ drop (12 * c.number_at-count.result) l ≡ l) (tail_is 4 c.args.bytes.now) c.in_ok-marks_of.ensures.bytes)
