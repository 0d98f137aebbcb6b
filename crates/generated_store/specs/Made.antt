-- A generated file that was made. Source: this project's own.
use Rattle.std.specs.Prelude.{ℕ, List}

-- its number, how many rows it has, and its bytes
pub record MadeOf : Type 0 where
  pub number : ℕ
  pub rows : ℕ
  pub bytes : List ℕ
