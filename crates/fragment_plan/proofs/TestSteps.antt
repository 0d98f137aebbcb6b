-- One test, and what follows it.
use Rattle.std.proofs.Common.{◌≡◌, ℕ, zero, suc, List, [], ◌∷◌, ◌++◌, true, false, Ok, refl, codes}
use Rattle.plan_words.specs.Reading.{option}
use Rattle.fragment_plan.specs.declared.test.Test.{Test}
use Rattle.fragment_plan.specs.Tests.{one_test, more_tests}

-- the last test
pub tests_end : (room : ℕ) (columns : List (List ℕ)) (done : List Test) (left : List ℕ) (one : Test) (named : List (List ℕ)) (behind rest : List ℕ)
    → (room ≡ 0 → ⊥) → one_test columns left ≡ Ok ((one, named), behind) → option (codes "and") behind ≡ Ok (false, rest)
    → more_tests room columns done left ≡ Ok ((done ++ one ∷ [], named), rest)
unfolding more_tests
tests_end zero columns done left one named behind rest some e f = absurd (some refl)
tests_end (suc room) columns done left one named behind rest some e f = rw e (rw f refl)

-- a test that another follows
pub tests_go_on : (room less : ℕ) (columns : List (List ℕ)) (done : List Test) (left : List ℕ) (one : Test) (named : List (List ℕ)) (behind rest : List ℕ)
    → room ≡ suc less → one_test columns left ≡ Ok ((one, named), behind) → option (codes "and") behind ≡ Ok (true, rest)
    → more_tests room columns done left ≡ more_tests less named (done ++ one ∷ []) rest
unfolding more_tests
tests_go_on room less columns done left one named behind rest is e f = rw is (rw e (rw f refl))
