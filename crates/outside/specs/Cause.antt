-- The cause of a fault: the count of faults of the object that a call was given, which is a number of 64 bits. Source:
-- this project's own.
use Rattle.std.specs.Prelude.{ℕ, ◌<◌, ◌≤◌, ◌⊎◌, Result, IsErr}

-- the last value of a count of faults, where it stands still
abbrev pub last_count : ℕ
last_count = 0xFFFF_FFFF_FFFF_FFFF

-- the count rose over a call: it is greater after it, or stands at its last value
abbrev pub Rose : ℕ → ℕ → Type 0
Rose before after = (before < after) ⊎ (last_count ≤ after)

-- Over a call the count didn't fall, and where the call failed, in the sense given, it rose.
pub record Cause (before after : ℕ) (Fails : Type 0) : Type 0 where
  pub later : before ≤ after
  pub failed : Fails → Rose before after

-- every error of this call has its cause
abbrev pub HasCause : {T E : Type 0} → ℕ → ℕ → Result T E → Type 0
HasCause before after result = Cause before after (IsErr result)
