-- Calls that are to fail, by their numbers. Source: this project's own.
use Rattle.std.specs.Prelude.{ℕ, ◌+◌, ◌==◌, min, Bool, cond, List}
use Rattle.std.specs.List.{list_any}
use Rattle.outside.specs.Cause.{last_count}

-- What a failing object shows: the numbers of the calls that are to fail, how many calls were made,
-- and how many of them failed.
pub record FailingOf : Type 0 where
  pub numbers : List ℕ
  pub calls : ℕ
  pub faults : ℕ

-- one more, or the last number
abbrev pub counted : ℕ → ℕ
counted n = min (n + 1) last_count

-- whether the next call is to fail: its number is among those
abbrev pub fails_next : FailingOf → Bool
fails_next f = list_any (λ n. n == counted f.calls) f.numbers

-- after the next call
abbrev pub after_next : FailingOf → FailingOf
after_next f = record {
  numbers = f.numbers;
  calls = counted f.calls;
  faults = cond (fails_next f) (counted f.faults) f.faults;
}
