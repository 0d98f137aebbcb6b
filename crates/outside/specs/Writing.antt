-- Writing to a writer that may take fewer bytes than it is given. Source: this project's own, over std's words of what a writer
-- is known to hold.
use Rattle.std.specs.Prelude.{ℕ, ◌≤◌, List, length, take, Option, Result, MatchResult}
use Rattle.std.specs.Io.KnownBytes.{Appends}

-- What a sink over a writer shows: the writer, and how often a write has failed.
pub record WriterOf (P : Type 0) : Type 0 where
  pub output : P
  pub faults : ℕ

-- what the writer is known to hold grew by a front of the bytes
abbrev pub AppendsFront : Option (List ℕ) → Option (List ℕ) → List ℕ → Type 0
AppendsFront before after bytes = (n : ℕ) × (n ≤ length bytes) × Appends before after (take n bytes)

-- it grew by all the bytes, or by a front of them where the call failed
abbrev pub WritesWhole : {T E : Type 0} → Option (List ℕ) → Option (List ℕ) → Result T E → List ℕ → Type 0
WritesWhole before after result bytes = MatchResult result (λ _. Appends before after bytes) (λ _. AppendsFront before after bytes)
