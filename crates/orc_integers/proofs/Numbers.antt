-- Numbers that stand in bytes, one after the other.
use Rattle.std.proofs.Common.{◌≡◌, ℕ, ◌+◌, ◌*◌, ◌%◌, ◌^◌, ◌<◌, ◌≤◌, Bool, List, [], ◌∷◌, ◌++◌, length, map, Option, Some, None, Bor, Result, Ok, Err, ℤ, refl, sym, ap, ◌∙◌, arith, append_assoc, append-nil}
use Rattle.std.specs.Prelude.{IfSome}
use Rattle.std.proofs.lemmas.List.{map-append}
use Rattle.std.specs.List.{AllByRecursion}
use Rattle.outside.specs.declared.run_fault.RunFault.{RunFault}
use Rattle.outside.specs.Lending.{ReadsIn}
use Rattle.outside.specs.Reading.{go_on, value}
use Rattle.outside.specs.Varint.{IsVarint, AreVarints, none, one, open_varint, groups_within}
use Rattle.outside.specs.VarintLaws.{varint-only}
use Rattle.orc_integers.specs.Eights.{ArePairs, numbers_of_pairs}
use Rattle.orc_integers.specs.InPlace.{NumberIn, IntegersIn}
use Rattle.orc_integers.specs.Integers.{integer}

pub short-is : (byte : ℕ) → byte < 128 → IsVarint (byte ∷ []) byte
short-is byte h = record {
  front = [];
  last = byte;
  parts = refl;
  goes_on = tt;
  ends = h;
  short = omega arith;
  is = omega arith;
}

pub short-are : (bytes : List ℕ) → AllByRecursion (λ byte. byte < 128) bytes → AreVarints bytes bytes
short-are [] h = none
short-are (byte ∷ bytes) h = one (short-is byte h.0) (short-are bytes h.1)

-- one byte
pub number-short : (byte : ℕ) (left : List ℕ) → byte < 128 → NumberIn (byte ∷ left) byte left
number-short byte left h = record { front = byte ∷ []; parts = refl; is = short-is byte h }

-- two bytes
two-is : (first second : ℕ) → 128 ≤ first → second < 128 → IsVarint (first ∷ second ∷ []) (first % 128 + 128 * second)
two-is first second ge lt = record {
  front = first ∷ [];
  last = second;
  parts = refl;
  goes_on = (ge, tt);
  ends = lt;
  short = omega arith;
  is = omega arith;
}

pub number-two : (first second : ℕ) (left : List ℕ) → 128 ≤ first → second < 128
    → NumberIn (first ∷ second ∷ left) (first % 128 + 128 * second) left
number-two first second left ge lt = record { front = first ∷ second ∷ []; parts = refl; is = two-is first second ge lt }

pairs-are : (bytes : List ℕ) → ArePairs bytes → AreVarints bytes (numbers_of_pairs bytes)
pairs-are [] h = none
pairs-are (first ∷ []) h = absurd h
pairs-are (first ∷ second ∷ bytes) h = one (two-is first second h.0.0 h.0.1) (pairs-are bytes h.1)

first_open : (read : Result (ℕ × List ℕ) RunFault)
    → go_on read (λ groups. value (groups % 2 ^ 64)) ≡ go_on read (λ high. value ((0 + 2 ^ (7 * 0) * high) % 2 ^ 64))
first_open (Ok (groups, rest)) = let e : groups ≡ 0 + 2 ^ (7 * 0) * groups = grind arith in ap (λ (n : ℕ). value (n % 2 ^ 64) rest) e
first_open (Err fault) = refl

-- what is read as a number that has not begun is a number
pub number-found : {bytes left : List ℕ} (number : ℕ) → ReadsIn (open_varint 0 0) bytes number left → NumberIn bytes number left
number-found {left = left} number at =
    let run = varint-only (at.front ++ []) [] number (first_open (groups_within 10 (at.front ++ [])) ∙ at.reads []) in
    let same : at.front ≡ run.0 = sym (append-nil at.front) ∙ run.2 ∙ append-nil run.0 in
    record {
      front = run.0;
      parts = at.parts ∙ ap (λ (l : List ℕ). l ++ left) same;
      is = run.1;
    }

-- one byte more of a number that has begun
pub open-goes : (groups count groups' count' byte : ℕ) {number : ℕ} {bytes left : List ℕ}
    → ((more : List ℕ) → open_varint groups count (byte ∷ more) ≡ open_varint groups' count' more)
    → ReadsIn (open_varint groups' count') bytes number left → ReadsIn (open_varint groups count) (byte ∷ bytes) number left
open-goes groups count groups' count' byte goes at = record {
  front = byte ∷ at.front;
  parts = ap (λ (l : List ℕ). byte ∷ l) at.parts;
  reads = λ more. goes (at.front ++ more) ∙ at.reads more;
}

pub open-ends : (groups count byte : ℕ) {number : ℕ} (left : List ℕ) → ((more : List ℕ) → open_varint groups count (byte ∷ more) ≡ Ok (number, more))
    → ReadsIn (open_varint groups count) (byte ∷ left) number left
open-ends groups count byte left ends = record { front = byte ∷ []; parts = refl; reads = ends }

pub integers-none : (signed : Bool) (bytes : List ℕ) → IntegersIn signed bytes [] bytes
integers-none signed bytes = record { front = []; parts = refl; numbers = []; are = none; values_are = refl }

pub integers-empty : (signed : Bool) (bytes : List ℕ) (values : List ℤ) → length values ≡ 0 → IntegersIn signed bytes values bytes
integers-empty signed bytes [] e = integers-none signed bytes
integers-empty signed bytes (_ ∷ _) e = absurd (omega arith)

-- a number, and then others
pub integers-one : (signed : Bool) {bytes between left : List ℕ} {values : List ℤ} (number : ℕ) → NumberIn bytes number between
    → IntegersIn signed between values left → IntegersIn signed bytes (integer signed number ∷ values) left
integers-one signed {left = left} number first at = record {
  front = first.front ++ at.front;
  parts = first.parts ∙ ap (λ (l : List ℕ). first.front ++ l) at.parts ∙ sym (append_assoc first.front at.front left);
  numbers = number ∷ at.numbers;
  are = one first.is at.are;
  values_are = ap (λ (l : List ℤ). integer signed number ∷ l) at.values_are;
}

are-joined : {a b m n : List ℕ} → AreVarints a m → AreVarints b n → AreVarints (a ++ b) (m ++ n)
are-joined none second = second
are-joined (one first are) second = rw append_assoc (one first (are-joined are second))

-- numbers, and then others
pub integers-joined : (signed : Bool) {bytes between left : List ℕ} {values others : List ℤ} → IntegersIn signed bytes values between
    → IntegersIn signed between others left → IntegersIn signed bytes (values ++ others) left
integers-joined signed {left = left} first at = record {
  front = first.front ++ at.front;
  parts = first.parts ∙ ap (λ (l : List ℕ). first.front ++ l) at.parts ∙ sym (append_assoc first.front at.front left);
  numbers = first.numbers ++ at.numbers;
  are = are-joined first.are at.are;
  values_are = rw (first.values_are, at.values_are) (sym (map-append (integer signed) first.numbers at.numbers));
}

-- the same of an answer
pub integers-joined-if : (signed : Bool) (others : List ℤ) {bytes between : List ℕ} {values : List ℤ} → IntegersIn signed bytes values between
    → (answer : Option (Bor (List ℕ))) → IfSome answer (λ left. IntegersIn signed between others left.now)
    → IfSome answer (λ left. IntegersIn signed bytes (values ++ others) left.now)
integers-joined-if signed others first None at = tt
integers-joined-if signed others first (Some left) at = integers-joined signed first at

-- numbers of one byte each
pub integers-short : (signed : Bool) (bytes left : List ℕ) → AllByRecursion (λ byte. byte < 128) bytes
    → IntegersIn signed (bytes ++ left) (map (integer signed) bytes) left
integers-short signed bytes left h = record {
  front = bytes;
  parts = refl;
  numbers = bytes;
  are = short-are bytes h;
  values_are = refl;
}

-- numbers of two bytes each
pub integers-pairs : (signed : Bool) (bytes left : List ℕ) → ArePairs bytes
    → IntegersIn signed (bytes ++ left) (map (integer signed) (numbers_of_pairs bytes)) left
integers-pairs signed bytes left h = record {
  front = bytes;
  parts = refl;
  numbers = numbers_of_pairs bytes;
  are = pairs-are bytes h;
  values_are = refl;
}
