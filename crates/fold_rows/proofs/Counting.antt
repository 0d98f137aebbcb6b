-- How many of the rows in front of a row have a value.
use Rattle.std.proofs.Common.{◌≡◌, ◌<◌, ◌≤◌, ℕ, zero, suc, ◌+◌, ◌-◌, Bool, true, false, List, [], ◌∷◌, length, take, drop, map, replicate, slice_range, refl, sym, ◌∙◌, ap, arith, zero-add}
use Rattle.orc_values.specs.declared.value.Value.{Value}
use Rattle.orc_values.specs.Woven.{present_count}
use Rattle.orc_values.specs.WovenLaws.{present_count-le}
use Rattle.fold_rows.specs.Behind.{behind_each}

-- where all rows have a value, it is how many they are
pub all_in_front : (flags : List Bool) (row : ℕ) → present_count flags ≡ length flags → row ≤ length flags → present_count (take row flags) ≡ row
all_in_front flags zero all le = refl
all_in_front [] (suc row) all le = absurd (omega arith)
all_in_front (false ∷ flags) (suc row) all le = absurd (omega (arith, present_count-le flags))
all_in_front (true ∷ flags) (suc row) all le = omega (arith, all_in_front flags row (omega arith) (omega arith))

-- those in front of an earlier row, and those from it on
pub front_and_on : (flags : List Bool) (earlier row : ℕ) → earlier ≤ row
    → present_count (take row flags) ≡ present_count (take earlier flags) + present_count (slice_range flags earlier row)
front_and_on flags zero row le = let e : row - 0 ≡ row = omega arith in rw e (sym (zero-add (present_count (take row flags))))
front_and_on [] (suc earlier) zero le = absurd (omega arith)
front_and_on [] (suc earlier) (suc row) le = on_nothing (suc row - suc earlier)
  where
    on_nothing : (n : ℕ) → 0 ≡ 0 + present_count (take n (drop (suc earlier) []))
    on_nothing zero = refl
    on_nothing (suc n) = refl
front_and_on (p ∷ flags) (suc earlier) zero le = absurd (omega arith)
front_and_on (p ∷ flags) (suc earlier) (suc row) le =
    let e : suc row - suc earlier ≡ row - earlier = omega arith in
    let on : present_count (take (suc row - suc earlier) (drop earlier flags)) ≡ present_count (take (row - earlier) (drop earlier flags)) =
    ap (λ (n : ℕ). present_count (take n (drop earlier flags))) e in
    by p on (front_and_on flags earlier row (omega arith))
  where
    by : (p : Bool) → present_count (take (suc row - suc earlier) (drop earlier flags)) ≡ present_count (take (row - earlier) (drop earlier flags))
        → present_count (take row flags) ≡ present_count (take earlier flags) + present_count (take (row - earlier) (drop earlier flags))
        → present_count (p ∷ take row flags) ≡ present_count (p ∷ take earlier flags) + present_count (take (suc row - suc earlier) (drop earlier flags))
    by true on h = omega (arith, on, h)
    by false on h = omega (arith, on, h)

-- no row is in front of the first
pub none_in_front : (columns : List (List Value)) (places : List ℕ) → behind_each columns 0 places ≡ replicate (length places) 0
none_in_front columns [] = refl
none_in_front columns (place ∷ places) = ap (λ (l : List ℕ). 0 ∷ l) (none_in_front columns places)

-- the same without the first of the places
pub rest_behind : (columns : List (List Value)) (row : ℕ) (all : List ℕ) (place : ℕ) (places befores : List ℕ) (before : ℕ) (rest : List ℕ)
    → all ≡ place ∷ places → befores ≡ before ∷ rest → befores ≡ behind_each columns row all → rest ≡ behind_each columns row places
rest_behind columns row all place places befores before rest places_are befores_are is =
    ap (drop 1) (sym befores_are ∙ is ∙ ap (λ (l : List ℕ). behind_each columns row l) places_are)
