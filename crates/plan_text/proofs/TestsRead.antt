-- Tests are read as they are written.
use Rattle.std.proofs.Common.{◌≡◌, ℕ, zero, suc, ◌<◌, ◌≤◌, List, [], ◌∷◌, ◌++◌, length, take, map, true, false, Some, Ok, refl, ap, ◌∙◌, arith, append_assoc, codes}
use Rattle.std.specs.Str.{bytes_eq}
use Rattle.orc_values.specs.declared.value.Value.{Value}
use Rattle.plan_words.specs.Reading.{option}
use Rattle.fragment_plan.specs.declared.test.Op.{Op}
use Rattle.fragment_plan.specs.declared.test.Op.TheVariants.{Equal, NotEqual, Less, LessOrEqual, Greater, GreaterOrEqual}
use Rattle.fragment_plan.specs.declared.test.Check.{Check}
use Rattle.fragment_plan.specs.declared.test.Check.TheVariants.{Compare, IsNull, IsNotNull}
use Rattle.fragment_plan.specs.declared.test.Test.{Test}
use Rattle.fragment_plan.specs.Tests.{op_of, may_compare, compared, null_check, check, one_test, more_tests, tests}
use Rattle.plan_text.specs.Written.{spaced, op_text, literal_text, check_text, test_text, more_text, tests_text}
use Rattle.plan_text.specs.Plain.{named, IsLiteral, IsCheck, AreChecks}
use Rattle.plan_text.proofs.WordsRead.{IsWord, Ends, word_spaced, option_is, option_other, keyword_is}
use Rattle.plan_text.proofs.LiteralsRead.{literal_is}
use Rattle.plan_text.proofs.PlacesRead.{Cols, Named, named_step, column_is}

-- what an operator's text is
record OpRead (op : Op) : Type 0 where
  is_word : IsWord (op_text op)
  no_is : bytes_eq (op_text op) (codes "is") ≡ false
  reads : op_of (op_text op) ≡ Some op

op_read : (op : Op) → OpRead op
op_read Equal = record { is_word = record { some = refl; solid = refl }; no_is = refl; reads = refl }
op_read NotEqual = record { is_word = record { some = refl; solid = refl }; no_is = refl; reads = refl }
op_read Less = record { is_word = record { some = refl; solid = refl }; no_is = refl; reads = refl }
op_read LessOrEqual = record { is_word = record { some = refl; solid = refl }; no_is = refl; reads = refl }
op_read Greater = record { is_word = record { some = refl; solid = refl }; no_is = refl; reads = refl }
op_read GreaterOrEqual = record { is_word = record { some = refl; solid = refl }; no_is = refl; reads = refl }

compared_is : (op : Op) (v : Value) (rest : List ℕ) → IsLiteral v → may_compare op v ≡ true → Ends rest
    → compared (Some op) (spaced (literal_text v) rest) ≡ Ok (Compare op v, rest)
compared_is op v rest is may e = rw (literal_is v rest is e) (rw may refl)

check_is : (c : Check) (rest : List ℕ) → IsCheck c → Ends rest → check (check_text c rest) ≡ Ok (c, rest)
unfolding check null_check
check_is (Compare op v) rest is e =
    let o = op_read op in
    rw (word_spaced (op_text op) (spaced (literal_text v) rest) o.is_word refl)
    (rw o.no_is (rw o.reads (compared_is op v rest is.0 is.1 e)))
check_is IsNull rest is e =
    rw (word_spaced (codes "is") (spaced (codes "null") rest) (record { some = refl; solid = refl }) refl)
    (rw (option_other (codes "not") (codes "null") rest (record { some = refl; solid = refl }) e refl)
    (rw (keyword_is (codes "null") rest (record { some = refl; solid = refl }) e refl) refl))
check_is IsNotNull rest is e =
    rw (word_spaced (codes "is") (spaced (codes "not") (spaced (codes "null") rest)) (record { some = refl; solid = refl }) refl)
    (rw (option_is (codes "not") (spaced (codes "null") rest) (record { some = refl; solid = refl }) refl refl)
    (rw (keyword_is (codes "null") rest (record { some = refl; solid = refl }) e refl) refl))

check-ends : (c : Check) (rest : List ℕ) → Ends (check_text c rest)
check-ends (Compare op v) rest = refl
check-ends IsNull rest = refl
check-ends IsNotNull rest = refl

test_is : (columns : List (List ℕ)) (n : ℕ) (one : Test) (places : List ℕ) (m : ℕ) (rest : List ℕ) → Cols columns → m ≤ length columns
    → (s : Named n one.column places m) → IsCheck one.check → Ends rest → one_test (take n columns) (test_text columns one rest) ≡ Ok ((one, take s.next columns), rest)
unfolding one_test
test_is columns n one places m rest cols le s is e =
    rw (column_is columns n one.column places m (check_text one.check rest) cols le s (check-ends one.check rest))
    (rw (check_is one.check rest is e) refl)

-- what may follow the tests of a line
pub record Follows (rest : List ℕ) : Type 0 where
  pub ends : Ends rest
  pub no_where : option (codes "where") rest ≡ Ok (false, rest)
  pub no_and : option (codes "and") rest ≡ Ok (false, rest)

abbrev pub columns_of : List Test → List ℕ
columns_of list = map (λ test. test.column) list

more_is : (room : ℕ) (columns : List (List ℕ)) (n : ℕ) (done : List Test) (one : Test) (others : List Test) (m : ℕ) (rest : List ℕ) → Cols columns → m ≤ length columns
    → length others < room → AreChecks (one ∷ others) → named n (columns_of (one ∷ others)) ≡ Some m → Follows rest
    → more_tests room (take n columns) done (test_text columns one (more_text columns others rest)) ≡ Ok ((done ++ one ∷ others, take m columns), rest)
unfolding more_tests
more_is zero columns n done one others m rest cols le few are e follows = absurd (omega (arith, few))
more_is (suc room) columns n done one [] m rest cols le few are e follows =
    let s = named_step n one.column [] m e in
    let same : s.next ≡ m = let z = s.later in cc in
    rw (test_is columns n one [] m rest cols le s are.0 follows.ends)
    (rw follows.no_and (ap (λ (k : ℕ). Ok ((done ++ one ∷ [], take k columns), rest)) same))
more_is (suc room) columns n done one (other ∷ others) m rest cols le few are e follows =
    let s = named_step n one.column (columns_of (other ∷ others)) m e in
    rw (test_is columns n one (columns_of (other ∷ others)) m (more_text columns (other ∷ others) rest) cols le s are.0 refl)
    (rw (option_is (codes "and") (test_text columns other (more_text columns others rest)) (record { some = refl; solid = refl }) refl refl)
    (more_is room columns s.next (done ++ one ∷ []) other others m rest cols le (omega (arith, few)) are.1 s.later follows
    ∙ ap (λ (list : List Test). Ok ((list, take m columns), rest)) (append_assoc done (one ∷ []) (other ∷ others))))

pub tests_is : (columns : List (List ℕ)) (n : ℕ) (list : List Test) (m : ℕ) (rest : List ℕ) → Cols columns → m ≤ length columns → length list ≤ 16 → AreChecks list
    → named n (columns_of list) ≡ Some m → Follows rest → tests (take n columns) (tests_text columns list rest) ≡ Ok ((list, take m columns), rest)
unfolding tests
tests_is columns n [] m rest cols le few are e follows =
    let same : n ≡ m = cc in
    rw follows.no_where (ap (λ (k : ℕ). Ok (([], take k columns), rest)) same)
tests_is columns n (one ∷ others) m rest cols le few are e follows =
    rw (option_is (codes "where") (test_text columns one (more_text columns others rest)) (record { some = refl; solid = refl }) refl refl)
    (more_is 16 columns n [] one others m rest cols le (omega (arith, few)) are e follows)

pub tests_end : (columns : List (List ℕ)) (list : List Test) (rest : List ℕ) → Ends rest → Ends (tests_text columns list rest)
tests_end columns [] rest e = e
tests_end columns (one ∷ others) rest e = refl
