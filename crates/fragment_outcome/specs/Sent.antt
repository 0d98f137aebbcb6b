-- Bytes on their way to a sink through a buffer (this project's own).
use Rattle.std.specs.Prelude.{◌≡◌, ◌≤◌, ℕ, List, [], ◌++◌, take, Option, Some, None, if◌then◌else◌}
use Rattle.outside.specs.Cause.{Rose}
use Rattle.outside.specs.Told.{Extended}
use Rattle.fragment_outcome.specs.declared.writer.Writer.{Writer}

-- the bytes that a writer still holds, or none once a write has failed
abbrev pub held_by : Writer → Option (List ℕ)
held_by writer = if writer.failed then None else Some (take writer.len writer.buffer)

-- Of what was held and these bytes a front was written, and the rest is left.
pub record Sent (held : List ℕ) (before : Option (List ℕ)) (left : List ℕ) (after : Option (List ℕ)) (bytes : List ℕ) : Type 0 where
  pub sent : List ℕ
  pub all : sent ++ left ≡ held ++ bytes
  pub told : Extended before after sent

-- A writer was given bytes: they went on; or a write failed, and the rest is lost; or one had failed before, and nothing is written
-- any more.
pub data Wrote : Option (List ℕ) → Option (List ℕ) → ℕ → Option (List ℕ) → Option (List ℕ) → ℕ → List ℕ → Type 0 where
  went : {held left bytes : List ℕ} {before after : Option (List ℕ)} {faults faults' : ℕ}
      → Sent held before left after bytes → faults ≤ faults' → Wrote (Some held) before faults (Some left) after faults' bytes
  broke : {held bytes : List ℕ} {before after : Option (List ℕ)} {faults faults' : ℕ} (left : List ℕ)
      → Sent held before left after bytes → faults ≤ faults' → Rose faults faults'
      → Wrote (Some held) before faults None after faults' bytes
  broken : {bytes : List ℕ} {before after : Option (List ℕ)} {faults faults' : ℕ}
      → Extended before after [] → faults ≤ faults' → Wrote None before faults None after faults' bytes
