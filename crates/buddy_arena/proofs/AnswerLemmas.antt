-- The answer of `find`: there is one, the function computes it, and it is a clear block.
use Rattle.std.proofs.Common.{◌≡◌, ℕ, zero, suc, ◌+◌, ◌*◌, ◌/◌, ◌%◌, ◌^◌, ◌<◌, ◌≤◌, ◌↔◌, inl, inr, Bool, true, false, not, cond, eqb, leb, Option, Some, None, refl, sym, ap, subst, arith}
use Rattle.std.specs.Option.{option_or}
use Rattle.std.proofs.lemmas.Nat.{pow_pos, le-div}
use Rattle.std.proofs.Math.Nat.{mul-le-mul_right, pow-suc}
use Rattle.std.proofs.lemmas.Bool.{cases_lt, cases_eq, eqb-true, eq-eqb, leb-true, le-leb, and_parts, and_from, not-true, not_from_false, false_from_ne_true, both_ways}
use Rattle.buddy_arena.specs.Block.{around}
use Rattle.buddy_arena.specs.Buddy.{IsClearBlock, IsFree, IsBest, IsBuddyAnswer, is_clear_block, is_free_block, lowest_free, buddy_among, buddy_answer}
use Rattle.buddy_arena.proofs.BitLemmas.{zero_from_clear, clear_from_zero}
use Rattle.buddy_arena.proofs.BlockLemmas.{around_times, around_around}
use Rattle.buddy_arena.proofs.FreeLemmas.{free_from_parent, parent_of_free, clear_smaller}

clear_from_test : (size bits p k : ℕ) → around p k ≡ p → is_clear_block size bits p k ≡ true → IsClearBlock size bits p k
unfolding is_clear_block
clear_from_test size bits p k own test =
    let parts = and_parts (leb (p + 2 ^ k) size) (eqb (bits / 2 ^ p % 2 ^ 2 ^ k) 0) test in
    record {
      block = record { aligned = own; inside = leb-true (p + 2 ^ k) size parts.0 };
      clear = clear_from_zero bits p k (eqb-true (bits / 2 ^ p % 2 ^ 2 ^ k) 0 parts.1);
    }

test_from_clear : (size bits p k : ℕ) → IsClearBlock size bits p k → is_clear_block size bits p k ≡ true
unfolding is_clear_block
test_from_clear size bits p k here =
    and_from (leb (p + 2 ^ k) size) (eqb (bits / 2 ^ p % 2 ^ 2 ^ k) 0)
    (le-leb (p + 2 ^ k) size here.block.inside) (eq-eqb (bits / 2 ^ p % 2 ^ 2 ^ k) 0 (zero_from_clear bits p k here.clear))

free_from_test : (size bits p k : ℕ) → around p k ≡ p → is_free_block size bits p k ≡ true → IsFree size bits p k
unfolding is_free_block
free_from_test size bits p k own test =
    let parts = and_parts (is_clear_block size bits p k) (not (is_clear_block size bits (around p (k + 1)) (k + 1))) test in
    free_from_parent size bits p k (clear_from_test size bits p k own parts.0)
    (λ big. both_ways (is_clear_block size bits (around p (k + 1)) (k + 1)) (not-true (is_clear_block size bits (around p (k + 1)) (k + 1)) parts.1) (test_from_clear size bits (around p (k + 1)) (k + 1) big))

test_from_free : (size bits p k : ℕ) → IsFree size bits p k → is_free_block size bits p k ≡ true
unfolding is_free_block
test_from_free size bits p k free =
    and_from (is_clear_block size bits p k) (not (is_clear_block size bits (around p (k + 1)) (k + 1)))
    (test_from_clear size bits p k free.here)
    (not_from_false (is_clear_block size bits (around p (k + 1)) (k + 1))
    (false_from_ne_true (is_clear_block size bits (around p (k + 1)) (k + 1))
    (λ test. parent_of_free size bits p k free (clear_from_test size bits (around p (k + 1)) (k + 1) (around_around p (k + 1)) test))))

-- the lowest free block of the order, or none among the first n
IsLowest : ℕ → ℕ → ℕ → ℕ → Option ℕ → Type 0
IsLowest size bits k n None = (q : ℕ) → q < n → IsFree size bits (q * 2 ^ k) k → ⊥
IsLowest size bits k n (Some p) = IsFree size bits p k × ((q : ℕ) → IsFree size bits q k → p ≤ q)

-- a free block begins at some multiple
index_of : (size bits p k : ℕ) → IsFree size bits p k → p ≡ p / 2 ^ k * 2 ^ k
index_of size bits p k free = sym free.here.block.aligned

lowest_here : (size bits k n : ℕ) → ((q : ℕ) → q < n → IsFree size bits (q * 2 ^ k) k → ⊥) → IsFree size bits (n * 2 ^ k) k → (q : ℕ) → IsFree size bits q k → n * 2 ^ k ≤ q
lowest_here size bits k n none here q free =
    let as_times = index_of size bits q k free in
    elim (cases_lt (q / 2 ^ k) n) [
      | inl before ↦ absurd (none (q / 2 ^ k) before (subst (λ (x : ℕ). IsFree size bits x k) as_times free))
      | inr from ↦ omega (arith, mul-le-mul_right (2 ^ k) from)
    ]

lowest_step : (size bits k n : ℕ) (x : Option ℕ) (b : Bool) → is_free_block size bits (n * 2 ^ k) k ≡ b → IsLowest size bits k n x → IsLowest size bits k (suc n) (option_or x (cond b (Some (n * 2 ^ k)) None))
unfolding IsLowest
lowest_step size bits k n (Some p) b e h = h
lowest_step size bits k n None true e h =
    let here = free_from_test size bits (n * 2 ^ k) k (around_times n k) e in
    (here, lowest_here size bits k n h here)
lowest_step size bits k n None false e h = λ q below free.
    elim (cases_eq q n) [
      | inl same ↦ both_ways (is_free_block size bits (n * 2 ^ k) k) e (test_from_free size bits (n * 2 ^ k) k (subst (λ (x : ℕ). IsFree size bits (x * 2 ^ k) k) same free))
      | inr other ↦ h q (omega arith) free
    ]

lowest_is : (size bits k n : ℕ) → IsLowest size bits k n (lowest_free size bits k n)
unfolding IsLowest lowest_free
lowest_is size bits k zero = λ q below free. omega arith
lowest_is size bits k (suc n) = lowest_step size bits k n (lowest_free size bits k n) (is_free_block size bits (n * 2 ^ k) k) refl (lowest_is size bits k n)

-- the answer among the orders from `order` on, or none among the first n of them
IsAmong : ℕ → ℕ → ℕ → ℕ → Option ℕ → Type 0
IsAmong size bits order n (Some p) = (own : ℕ) × IsBest size bits order p own
IsAmong size bits order n None = (p k : ℕ) → IsFree size bits p k → order ≤ k → order + n ≤ k

-- a block's index is below the number of blocks
index_below : (size bits p k : ℕ) → IsFree size bits p k → p / 2 ^ k < size / 2 ^ k
index_below size bits p k free =
    let as_times = index_of size bits p k free in
    let fits : (p / 2 ^ k + 1) * 2 ^ k ≤ size = omega (arith, free.here.block.inside) in
    omega (arith, le-div (p / 2 ^ k + 1) size (2 ^ k) (pow_pos k) fits)

none_of_order : (size bits k : ℕ) → IsLowest size bits k (size / 2 ^ k) None → (p : ℕ) → IsFree size bits p k → ⊥
unfolding IsLowest
none_of_order size bits k none p free =
    none (p / 2 ^ k) (index_below size bits p k free) (subst (λ (x : ℕ). IsFree size bits x k) (index_of size bits p k free) free)

above_order : (size bits order : ℕ) → ((p : ℕ) → IsFree size bits p order → ⊥) → (p k : ℕ) → IsFree size bits p k → order ≤ k → order + 1 ≤ k
above_order size bits order none p k free from =
    elim (cases_eq k order) [
      | inl same ↦ absurd (none p (subst (λ (x : ℕ). IsFree size bits p x) same free))
      | inr other ↦ omega arith
    ]

among_step : (size bits order n : ℕ) (x y : Option ℕ) → IsLowest size bits order (size / 2 ^ order) x → IsAmong size bits (order + 1) n y → IsAmong size bits order (suc n) (option_or x y)
unfolding IsLowest IsAmong
among_step size bits order n (Some p) y lowest rest =
    (order, record { free = lowest.0; serves = omega arith; smallest = λ q k free from. from; lowest = lowest.1 })
among_step size bits order n None (Some p) lowest rest =
    let up = above_order size bits order (none_of_order size bits order lowest) in
    let best = rest.1 in (
      rest.0,
      record {
        free = best.free;
        serves = omega (arith, best.serves);
        smallest = λ q k free from. best.smallest q k free (up q k free from);
        lowest = best.lowest;
      },
    )
among_step size bits order n None None lowest rest = λ p k free from.
    let up = above_order size bits order (none_of_order size bits order lowest) p k free from in
    omega (arith, rest p k free up)

among_is : (size bits order n : ℕ) → IsAmong size bits order n (buddy_among size bits order n)
unfolding IsAmong buddy_among
among_is size bits order zero = λ p k free from. omega arith
among_is size bits order (suc n) =
    among_step size bits order n (lowest_free size bits order (size / 2 ^ order)) (buddy_among size bits (order + 1) n)
    (lowest_is size bits order (size / 2 ^ order)) (among_is size bits (order + 1) n)

pow_above : (k : ℕ) → k < 2 ^ k
pow_above zero = omega arith
pow_above (suc k) = omega (arith, pow_above k, pow_twice k)
  where
    pow_twice : (k : ℕ) → 2 ^ suc k ≡ 2 ^ k * 2
    pow_twice k = pow-suc 2 k

answer_from_among : (size bits order : ℕ) (x : Option ℕ) → IsAmong size bits order size x → IsBuddyAnswer size bits order x
unfolding IsAmong
answer_from_among size bits order (Some p) h = h
answer_from_among size bits order None h = λ p k free from.
    omega (arith, h p k free from, pow_above k, free.here.block.inside)

-- the function gives the answer
pub buddy_answers : (size bits order : ℕ) → IsBuddyAnswer size bits order (buddy_answer size bits order)
unfolding buddy_answer
buddy_answers size bits order = answer_from_among size bits order (buddy_among size bits order size) (among_is size bits order size)

-- there is one answer at most
pub one_answer : (size bits order : ℕ) (a b : Option ℕ) → IsBuddyAnswer size bits order a → IsBuddyAnswer size bits order b → a ≡ b
one_answer size bits order (Some p) (Some q) x y = ap Some (one_place size bits order p q x.0 y.0 x.1 y.1)
  where
    one_place : (size bits order p q k j : ℕ) → IsBest size bits order p k → IsBest size bits order q j → p ≡ q
    one_place size bits order p q k j x y =
        let same : j ≡ k = omega (arith, x.smallest q j y.free y.serves, y.smallest p k x.free x.serves) in
        omega (arith, x.lowest q (subst (λ (i : ℕ). IsFree size bits q i) same y.free), y.lowest p (subst (λ (i : ℕ). IsFree size bits p i) (sym same) x.free))
one_answer size bits order (Some p) None x y = absurd (y p x.0 x.1.free x.1.serves)
one_answer size bits order None (Some q) x y = absurd (x q y.0 y.1.free y.1.serves)
one_answer size bits order None None x y = refl

-- the answer is a clear block of the order
pub answer_clear : (size bits order place : ℕ) → IsBuddyAnswer size bits order (Some place) → IsClearBlock size bits place order
answer_clear size bits order place best = clear_smaller size bits place order best.0 best.1.serves best.1.free.here

pub answer_is : (size bits order : ℕ) (answer : Option ℕ) → IsBuddyAnswer size bits order answer ↔ (answer ≡ buddy_answer size bits order)
answer_is size bits order answer = (
  λ is. one_answer size bits order answer (buddy_answer size bits order) is (buddy_answers size bits order),
  λ same. subst (λ (x : Option ℕ). IsBuddyAnswer size bits order x) (sym same) (buddy_answers size bits order),
)
