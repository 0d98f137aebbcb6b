-- The plans of tests, over a feed that tells nothing.
use Rattle.std.proofs.Common.{◌≡◌, ℕ, List, Option, Some, None, sym, ◌∙◌, arith}
use Rattle.orc_columns.specs.declared.plan.ColumnPlan.{ColumnPlan}
use Rattle.orc_columns.specs.Column.{Streams}
use Rattle.orc_columns.specs.Draws.{StreamsDiffer, Tells}
use Rattle.orc_columns.specs.FirstFault.{Sized}
use Rattle.orc_columns.specs.Optional.{rest_in}

some_is : (a b : ℕ) → Some a ≡ Some b → a ≡ b
some_is a b e = cc

number : (stream : Option ℕ) (n k : ℕ) → stream ≡ Some n → stream ≡ Some k → k ≡ n
number stream n k is at = some_is k n (sym at ∙ is)

pub numbers_differ : (plan : ColumnPlan) → ((stream : ℕ) → plan.present ≡ Some stream → stream ≡ 0) → plan.body ≡ Some 1 → plan.length ≡ Some 2 → plan.dictionary ≡ Some 3 → StreamsDiffer plan
numbers_differ plan p b l d = record {
  present_body = λ s x y. absurd (omega (arith, p s x, number plan.body 1 s b y));
  present_length = λ s x y. absurd (omega (arith, p s x, number plan.length 2 s l y));
  present_dictionary = λ s x y. absurd (omega (arith, p s x, number plan.dictionary 3 s d y));
  body_length = λ s x y. absurd (omega (arith, number plan.body 1 s b x, number plan.length 2 s l y));
  body_dictionary = λ s x y. absurd (omega (arith, number plan.body 1 s b x, number plan.dictionary 3 s d y));
  length_dictionary = λ s x y. absurd (omega (arith, number plan.length 2 s l x, number plan.dictionary 3 s d y));
}

not_told : {F : Type 0} (feed : F) (stream : Option ℕ) (bytes : List ℕ) → stream ≡ Some 1 → rest_in (λ _ _. None) feed stream ≡ Some bytes → ⊥
not_told feed None bytes is told = let no : None ≡ Some 1 = is in cc
not_told feed (Some stream) bytes is told = let no : None ≡ Some bytes = told in cc

pub untold_sized : {F : Type 0} (feed : F) (plan : ColumnPlan) (s : Streams) → plan.body ≡ Some 1 → Tells (λ _ _. None) feed plan s → Sized plan s
untold_sized feed plan s is tells = absurd (not_told feed plan.body s.body is tells.body)
