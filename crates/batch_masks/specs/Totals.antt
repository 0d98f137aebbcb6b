-- The total of the numbers of a column (this project's own).
use Rattle.std.specs.Prelude.{ℕ, ◌*◌, ◌^◌, ℤ, pos, neg_ℤ, ◌+ℤ◌, ◌≤ℤ◌, Bool, true, false, ◌||◌, List, [], ◌∷◌}
use Rattle.orc_values.specs.declared.value.Value.{Value}
use Rattle.orc_values.specs.declared.value.Value.TheVariants as value
use Rattle.batch_masks.specs.declared.total.Total.{Total}

-- the numbers among values, in order
abbrev pub numbers_in : List Value → List ℤ
numbers_in [] = []
numbers_in (value.Null ∷ values) = numbers_in values
numbers_in (value.Bool b ∷ values) = numbers_in values
numbers_in (value.Int n ∷ values) = n ∷ numbers_in values
numbers_in (value.Text text ∷ values) = numbers_in values

-- a sum with numbers more
abbrev pub plus_all : ℤ → List ℤ → ℤ
plus_all sum [] = sum
plus_all sum (n ∷ numbers) = plus_all (sum +ℤ n) numbers

-- whether there is a number
abbrev pub has_some : List ℤ → Bool
has_some [] = false
has_some (n ∷ numbers) = true

-- a total with numbers more
abbrev pub with_numbers : Total → List ℤ → Total
with_numbers total numbers = record { some = total.some || has_some numbers; sum = plus_all total.sum numbers }

-- the sum of at most so many numbers of 64 bits
pub record SumOfFew (count : ℕ) (sum : ℤ) : Type 0 where
  pub low : neg_ℤ (pos (2 ^ 63 * count)) ≤ℤ sum
  pub high : sum ≤ℤ pos (2 ^ 63 * count)
