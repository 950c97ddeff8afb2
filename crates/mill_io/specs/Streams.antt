-- What contracts see of a sink over a stream.
use Rattle.std.specs.Prelude.{ℕ, List}

-- the stream, and how many puts failed
pub record Streamed (W : Type 0) : Type 0 where
  pub stream : W
  pub faults : ℕ

-- a line that is gathered: its bytes so far, and how many puts failed
pub record LineSoFar : Type 0 where
  pub bytes : List ℕ
  pub faults : ℕ
