-- A feed: numbered streams of bytes, each taken from its front.
use Rattle.std.specs.Prelude.{◌≡◌, ◌==◌, ℕ, ◌+◌, ◌<◌, ◌≤◌, Bool, true, false, List, [], ◌∷◌, ◌++◌, length, take, drop, Option, Some, None, Result, Ok, Err, if◌then◌else◌, IfSome}
use Rattle.std.specs.List.{AllByRecursion}
use Rattle.outside.specs.declared.failed.Failed.{Failed}

-- one take: its stream, how many bytes it gave, and whether it answered Ok
pub record Taken : Type 0 where
  pub stream : ℕ
  pub len : ℕ
  pub ok : Bool

-- a take that gave this many bytes
abbrev pub gave : ℕ → ℕ → Taken
gave stream len = record { stream = stream; len = len; ok = true }

-- the entry of a take that answered this
abbrev pub taken_by : ℕ → Result ℕ Failed → Taken
taken_by stream (Ok len) = gave stream len
taken_by stream (Err e) = record { stream = stream; len = 0; ok = false }

-- how many bytes a list of takes took of a stream
abbrev pub taken_of : ℕ → List Taken → ℕ
taken_of stream [] = 0
taken_of stream (t ∷ ts) = (if t.stream == stream then t.len else 0) + taken_of stream ts

-- all of these takes are of that stream
abbrev pub AllOf : ℕ → List Taken → Type 0
AllOf stream takes = AllByRecursion (λ t. t.stream ≡ stream) takes

-- A stream that was told is told again, and lost these bytes from its front.
abbrev pub Took : Option (List ℕ) → Option (List ℕ) → List ℕ → Type 0
Took None after bytes = Unit {0}
Took (Some whole) None bytes = ⊥
Took (Some whole) (Some rest) bytes = whole ≡ bytes ++ rest

-- the same, of the number of these bytes alone
abbrev pub Lost : ℕ → Option (List ℕ) → Option (List ℕ) → Type 0
Lost count None after = Unit {0}
Lost count (Some whole) None = ⊥
Lost count (Some whole) (Some rest) = (count ≤ length whole) × (rest ≡ drop count whole)

-- No byte for a room of at least one comes only at the end of the stream.
abbrev pub Ends : Option (List ℕ) → ℕ → ℕ → Type 0
Ends before room len = IfSome before (λ whole. 0 < room → len ≡ 0 → whole ≡ [])

-- these bytes are the first of those
abbrev pub IsFront : List ℕ → List ℕ → Type 0
IsFront front whole = front ≡ take (length front) whole
