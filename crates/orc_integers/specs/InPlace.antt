-- Numbers that stand in bytes, as varints one after the other.
--
-- Source: Apache ORC specification v1, "Base 128 Varint" and "Integer Run Length Encoding, version 1".
use Rattle.std.specs.Prelude.{◌≡◌, ℕ, Bool, List, ◌++◌, map, ℤ}
use Rattle.outside.specs.Varint.{IsVarint, AreVarints}
use Rattle.orc_integers.specs.Integers.{integer}

-- a front of these bytes spells the number, and the others are left
pub record NumberIn (bytes : List ℕ) (number : ℕ) (left : List ℕ) : Type 0 where
  pub front : List ℕ
  pub parts : bytes ≡ front ++ left
  pub is : IsVarint front number

-- a front of these bytes spells numbers that stand for these values, and the others are left
pub record IntegersIn (signed : Bool) (bytes : List ℕ) (values : List ℤ) (left : List ℕ) : Type 0 where
  pub front : List ℕ
  pub parts : bytes ≡ front ++ left
  pub numbers : List ℕ
  pub are : AreVarints front numbers
  pub values_are : values ≡ map (integer signed) numbers
