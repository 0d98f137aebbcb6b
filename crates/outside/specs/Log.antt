-- A list that is told as long as there is room for it. Source: this project's own.
use Rattle.std.specs.Prelude.{ℕ, ◌+◌, List, ◌++◌, length, cond, nat_le, Option, Some, None}

-- What a log shows: its items, if it still tells them, and for how many it has room.
pub record LogOf (A : Type 0) : Type 0 where
  pub items : Option (List A)
  pub room : ℕ

-- the items after some more: they are told where they were told and there is room
abbrev pub told_within : {A : Type 0} → ℕ → Option (List A) → List A → Option (List A)
told_within room None more = None
told_within room (Some items) more = cond (nat_le (length items + length more) room) (Some (items ++ more)) None
