-- Where the values of one run go: as many as there is room for are given, and the others are held.
--
-- Source: this project's own.
use Rattle.std.specs.Prelude.{◌≡◌, ℕ, ◌<◌, ◌≤◌, List, [], ◌++◌, take, Result, Ok, Err}

-- the values of a run that a call read, where it answered how many of them it gave
abbrev pub given_then_held : {V E : Type 0} → List V → List V → Result ℕ E → Result (List V) E
given_then_held out held (Ok count) = Ok (take count out ++ held)
given_then_held out held (Err e) = Err e

-- the values that a call gave, where it answered how many
abbrev pub given_of : {V E : Type 0} → List V → Result ℕ E → Result (List V) E
given_of out (Ok count) = Ok (take count out)
given_of out (Err e) = Err e

-- At least one value was given, none past the room, and none is held unless the room is full.
pub record GivesSome {V : Type 0} (room count : ℕ) (held : List V) : Type 0 where
  pub some : 0 < count
  pub within : count ≤ room
  pub all : count < room → held ≡ []

-- the same of a call that may fail
abbrev pub GivesSomeIfOk : {V E : Type 0} → ℕ → List V → Result ℕ E → Type 0
GivesSomeIfOk room held (Ok count) = GivesSome room count held
GivesSomeIfOk room held (Err e) = Unit {0}
