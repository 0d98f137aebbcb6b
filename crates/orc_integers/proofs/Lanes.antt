-- Eight numbers, lane by lane.
use Rattle.std.proofs.Common.{◌≡◌, ℕ, suc, ◌+◌, ◌-◌, ◌*◌, ◌/◌, ◌%◌, ◌^◌, ◌<◌, true, List, [], ◌∷◌, map, bit_and, bit_xor, w16, w32, w64, to_z, of_z, ℤ, pos, negsuc, FitsSigned, refl, sym, ap, ◌∙◌, arith, inl, inr}
use Rattle.std.specs.List.{AllByRecursion}
use Rattle.std.specs.Ordering.{int_eq}
use Rattle.std.proofs.lemmas.Bool.{agree_below, agree_below_at, cases_lt}
use Rattle.std.proofs.lemmas.Bool.Decides.{Decides-int_eq}
use Rattle.std.proofs.lemmas.Int.{to_z_pos, to_z-of_z, ints}
use Rattle.std.proofs.lemmas.Nat.{and_mask}
use lib.Bits.{xor_add_and, xor_zero_r}
use Rattle.orc_integers.specs.Eights.{ArePairs, numbers_of_pairs}
use Rattle.orc_integers.specs.Integers.{zigzag}

-- ---- numbers of one byte

-- what a lane of 16 bits is made of a number, widened
abbrev pub short_lane : ℕ → ℤ
short_lane n = to_z w64 (of_z w64 (to_z w16 (bit_xor (n / 2 ^ 1) ((0 + (2 ^ 16 - bit_and n 1)) % 2 ^ 16))))

-- two functions that compute to the same at each number of one byte
same_if_short : (f g : ℕ → ℤ) → agree_below (λ n. int_eq (f n) (g n)) (λ _. true) 128 ≡ true → (n : ℕ) → n < 128 → f n ≡ g n
same_if_short f g e n h = (Decides-int_eq (f n) (g n)).0 (agree_below_at (λ n. int_eq (f n) (g n)) (λ _. true) 128 n e h)

pub shorts_are : (i j k l m n o p : ℕ) → AllByRecursion (λ byte. byte < 128) (i ∷ j ∷ k ∷ l ∷ m ∷ n ∷ o ∷ p ∷ [])
    → map short_lane (i ∷ j ∷ k ∷ l ∷ m ∷ n ∷ o ∷ p ∷ []) ≡ map zigzag (i ∷ j ∷ k ∷ l ∷ m ∷ n ∷ o ∷ p ∷ [])
shorts_are i j k l m n o p h =
    let same = same_if_short short_lane zigzag refl in
    rw (same i h.0, same j h.1.0, same k h.1.1.0, same l h.1.1.1.0, same m h.1.1.1.1.0, same n h.1.1.1.1.1.0, same o h.1.1.1.1.1.1.0, same p h.1.1.1.1.1.1.1.0) refl

-- ---- numbers of two bytes

-- what a lane of 16 bits is made of two bytes
abbrev pub pair_lane : ℕ → ℕ → ℕ
pair_lane first second = (bit_and first 127 + (second * 2 ^ 7) % 2 ^ 16) % 2 ^ 16

pair_is : (first second : ℕ) → second < 128 → pair_lane first second ≡ first % 128 + 128 * second
pair_is first second short = omega (arith, and_mask first 7)

abbrev pub pair_lanes : List ℕ → List ℕ
pair_lanes [] = []
pair_lanes (first ∷ []) = []
pair_lanes (first ∷ second ∷ bytes) = pair_lane first second ∷ pair_lanes bytes

pub pairs_are : (bytes : List ℕ) → ArePairs bytes → pair_lanes bytes ≡ numbers_of_pairs bytes
pairs_are [] h = refl
pairs_are (first ∷ []) h = absurd h
pairs_are (first ∷ second ∷ bytes) h = rw (pair_is first second h.0.1, pairs_are bytes h.1) refl

pub pairs_below : (bytes : List ℕ) → ArePairs bytes → AllByRecursion (λ number. number < 2 ^ 14) (numbers_of_pairs bytes)
pairs_below [] h = tt
pairs_below (first ∷ []) h = absurd h
pairs_below (first ∷ second ∷ bytes) h = (omega (arith, h.0.1), pairs_below bytes h.1)

-- what a lane of 32 bits is made of a number, widened
abbrev pub wide_lane : ℕ → ℤ
wide_lane n = to_z w64 (of_z w64 (to_z w32 (bit_xor (n / 2 ^ 1) ((0 + (2 ^ 32 - bit_and n 1)) % 2 ^ 32))))

ones_without : (h : ℕ) → h < 2 ^ 31 → bit_xor h (2 ^ 32 - 1) ≡ 2 ^ 32 - suc h
ones_without h lt = omega (arith, xor_add_and h (2 ^ 32 - 1), and_mask h 32)

wide_even : (n : ℕ) → n < 2 ^ 31 → n % 2 ≡ 0 → wide_lane n ≡ zigzag n
wide_even n h e =
    let none : bit_and n 1 ≡ 0 = and_mask n 1 ∙ e in
    let half : bit_xor (n / 2 ^ 1) ((0 + (2 ^ 32 - bit_and n 1)) % 2 ^ 32) ≡ n / 2 = rw none (xor_zero_r (n / 2)) in
    let is : zigzag n ≡ pos (n / 2) = rw e refl in
    ap (λ (b : ℕ). to_z w64 (of_z w64 (to_z w32 b))) half
    ∙ ap (λ (z : ℤ). to_z w64 (of_z w64 z)) (to_z_pos w32 (n / 2) (omega arith))
    ∙ to_z_pos w64 (n / 2) (omega arith) ∙ sym is

wide_odd : (n : ℕ) → n < 2 ^ 31 → n % 2 ≡ 1 → wide_lane n ≡ zigzag n
wide_odd n h e =
    let one : bit_and n 1 ≡ 1 = and_mask n 1 ∙ e in
    let bits : bit_xor (n / 2 ^ 1) ((0 + (2 ^ 32 - bit_and n 1)) % 2 ^ 32) ≡ 2 ^ 32 - suc (n / 2) = rw one (ones_without (n / 2) (omega arith)) in
    let next : (n + 1) / 2 ≡ suc (n / 2) = omega arith in
    let is : zigzag n ≡ negsuc (n / 2) = rw (e, next) refl in
    let fits32 : FitsSigned w32 (negsuc (n / 2)) = search (arith, ints) in
    let fits64 : FitsSigned w64 (negsuc (n / 2)) = search (arith, ints) in
    ap (λ (b : ℕ). to_z w64 (of_z w64 (to_z w32 b))) bits
    ∙ ap (λ (z : ℤ). to_z w64 (of_z w64 z)) (to_z-of_z w32 (negsuc (n / 2)) fits32)
    ∙ to_z-of_z w64 (negsuc (n / 2)) fits64 ∙ sym is

wide_is : (n : ℕ) → n < 2 ^ 31 → wide_lane n ≡ zigzag n
wide_is n h = elim (cases_lt (n % 2) 1) [
  | inl low ↦ wide_even n h (omega arith)
  | inr high ↦ wide_odd n h (omega arith)
]

pub wides_are : (i j k l m n o p : ℕ) → AllByRecursion (λ number. number < 2 ^ 14) (i ∷ j ∷ k ∷ l ∷ m ∷ n ∷ o ∷ p ∷ [])
    → map wide_lane (i ∷ j ∷ k ∷ l ∷ m ∷ n ∷ o ∷ p ∷ []) ≡ map zigzag (i ∷ j ∷ k ∷ l ∷ m ∷ n ∷ o ∷ p ∷ [])
wides_are i j k l m n o p h =
    let same : (number : ℕ) → number < 2 ^ 14 → wide_lane number ≡ zigzag number = λ number lt. wide_is number (omega arith) in
    rw (same i h.0, same j h.1.0, same k h.1.1.0, same l h.1.1.1.0, same m h.1.1.1.1.0, same n h.1.1.1.1.1.0, same o h.1.1.1.1.1.1.0, same p h.1.1.1.1.1.1.1.0) refl
