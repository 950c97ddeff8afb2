-- Why an act is not done, and why a desk is not closed.
use Rattle.std.specs.Prelude.{◌≡◌, ◌≢◌, ℕ, List}
use Rattle.strokes.specs.Spans.{PreparedAct}
use Rattle.open_desk.specs.Differences.{IsFirstDifference}
use Rattle.open_desk.specs.declared.receipt.Receipt.{Receipt}
use Rattle.open_desk.specs.declared.refusal.ActRefusal.{ActRefusal}
use Rattle.open_desk.specs.declared.refusal.ActRefusal.TheVariants.{Full, Differs, OutOfMemory}

-- Of a caller that may do `most` acts and has `mine` receipts, where the desk has `found` of its entries. A full pass is told first; then
-- that the two numbers differ; and memory may be refused where neither is so.
abbrev pub IsActRefusal : ℕ → ℕ → ℕ → ActRefusal → Type 0
IsActRefusal most mine found (Full kept) = (kept ≡ mine) × (kept ≡ most)
IsActRefusal most mine found (Differs told here) = (told ≡ mine) × (here ≡ found) × (mine ≢ most) × (mine ≢ found)
IsActRefusal most mine found OutOfMemory = (mine ≢ most) × (mine ≡ found)

-- the same, of a caller that does not know what the desk has
abbrev pub IsRefusalOf : ℕ → ℕ → ActRefusal → Type 0
IsRefusalOf most mine (Full kept) = (kept ≡ mine) × (kept ≡ most)
IsRefusalOf most mine (Differs told here) = (told ≡ mine) × (mine ≢ most) × (mine ≢ here)
IsRefusalOf most mine OutOfMemory = mine ≢ most
