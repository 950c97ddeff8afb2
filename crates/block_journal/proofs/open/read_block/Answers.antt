use Rattle.std.proofs.Common.{◌≡◌, ◌+◌, ◌-◌, ◌*◌, ◌++◌, ℕ, take, List, true, false, length, drop, subst, rules}
use Rattle.std.specs.Prelude.{MatchOption}
use Rattle.block_journal.specs.Opens.{IsBlock, NoBlock, ReadTo}
use Rattle.block_journal.proofs.Reading.{tail_is, broken_none, broken_rule, next_read}
use Rattle.block_journal.proofs.open.read_block.Goals as goal

pub returns-in_default-clause-refused : goal.returns-in_default-clause-refused
returns-in_default-clause-refused g c =
    let behind = take (length c.args.bytes.now - (c.args.place + 1)) (drop (c.args.place + 1) c.args.bytes.now) in
    let none = subst (λ o. MatchOption o (NoBlock behind) (λ b. IsBlock behind b.items)) c.in_default.is c.in_ok-block.ensures in
    broken_none (g.R.Rule.allows c.args.rule.now) c.args.digest.now c.args.bytes.now c.args.marks.now.items c.args.place c.args.count c.requires.read c.requires.starts (subst (λ (l : List ℕ). NoBlock l) (tail_is (c.args.place + 1) c.args.bytes.now) none)

pub returns-then-not-branch-clause-refused : goal.returns-then-not-branch-clause-refused
returns-then-not-branch-clause-refused g c =
    let behind = take (length c.args.bytes.now - (c.args.place + 1)) (drop (c.args.place + 1) c.args.bytes.now) in
    let block = c.in-Some.block.items in
    let found = subst (λ o. MatchOption o (NoBlock behind) (λ b. IsBlock behind b.items)) c.in-Some.is c.in_ok-block.ensures in
    let is = subst (λ (l : List ℕ). IsBlock l block) (tail_is (c.args.place + 1) c.args.bytes.now) found in
    let refused : g.R.Rule.allows c.args.rule.now c.args.marks.now.items block ≡ false = search rules in
    broken_rule (g.R.Rule.allows c.args.rule.now) c.args.digest.now c.args.bytes.now c.args.marks.now.items c.args.place c.args.count c.requires.read c.requires.starts block is refused

pub returns-clause-read : goal.returns-clause-read
returns-clause-read g c =
    let behind = take (length c.args.bytes.now - (c.args.place + 1)) (drop (c.args.place + 1) c.args.bytes.now) in
    let block = c.in-Some.block.items in
    let next = c.extend_from_slice.new.self.items in
    let found = subst (λ o. MatchOption o (NoBlock behind) (λ b. IsBlock behind b.items)) c.in-Some.is c.in_ok-block.ensures in
    let is = subst (λ (l : List ℕ). IsBlock l block) (tail_is (c.args.place + 1) c.args.bytes.now) found in
    let allowed : g.R.Rule.allows c.args.rule.now c.args.marks.now.items block ≡ true = search rules in
    let same : next ≡ c.args.marks.now.items ++ block = search rules in
    let len : length block ≡ c.len.result = search rules in
    subst (λ (n : ℕ). ReadTo (g.R.Rule.allows c.args.rule.now) c.args.digest.now c.args.bytes.now next (c.args.place + 5 + 12 * n) (c.args.count + 1)) len
    (next_read (g.R.Rule.allows c.args.rule.now) c.args.digest.now c.args.bytes.now c.args.marks.now.items c.args.place c.args.count c.requires.read c.requires.starts block next same is allowed)
