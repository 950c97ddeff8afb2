-- What a caller keeps.
use Rattle.std.specs.Prelude.{◌≡◌, ℕ, ◌^◌, ◌<◌, ◌≤◌, List, [], length, map}
use Rattle.open_desk.specs.declared.receipt.Receipt.{Receipt}

-- the number of the caller, its receipts, and how many acts the ledger has counted for it
pub record PassValue : Type 0 where
  pub number : ℕ
  pub receipts : List Receipt
  pub share : ℕ

-- the pass of a caller that has done nothing
abbrev pub new_pass : ℕ → PassValue
new_pass number = record { number = number; receipts = []; share = 0 }

-- what holds of every pass: it is of one of the callers, the ledger counts its receipts, and there are no more than `most`, a number of 32
-- bits
pub record IsPass (callers most : ℕ) (pass : PassValue) : Type 0 where
  pub caller : pass.number < callers
  pub counted : pass.share ≡ length pass.receipts
  pub few : length pass.receipts ≤ most
  pub bounded : most < 2 ^ 32

-- the receipts of each of the passes
abbrev pub told : List PassValue → List (List Receipt)
told passes = map (λ pass. pass.receipts) passes
