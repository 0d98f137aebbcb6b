-- The numbers of the rows that pass.
use Rattle.std.proofs.Common.{◌≡◌, ℕ, ◌+◌, ◌^◌, ◌<◌, ℤ, pos, ◌+ℤ◌, Bool, true, false, ◌||◌, List, [], ◌∷◌, ◌++◌, length, take, map, get_or, if◌then◌else◌, refl, sym, ◌∙◌, ap, arith}
use Rattle.std.specs.List.{list_any}
use Rattle.std.specs.Int.{w128}
use Rattle.std.specs.Prelude.{FitsSigned}
use Rattle.std.proofs.lemmas.Int.{ints}
use Rattle.orc_values.specs.declared.value.Value.{Value}
use Rattle.orc_values.specs.declared.value.Value.TheVariants as value
use Rattle.orc_values.specs.Woven.{present_count, woven}
use Rattle.orc_values.specs.Column.{value_by}
use Rattle.batch_masks.specs.declared.total.Total.{Total}
use Rattle.batch_masks.specs.Kept.{kept}
use Rattle.batch_masks.specs.KeptLaws.{kept_more}
use Rattle.batch_masks.specs.Totals.{numbers_in, plus_all, has_some, with_numbers, SumOfFew}

plus_all-append : (sum : ℤ) (xs ys : List ℤ) → plus_all sum (xs ++ ys) ≡ plus_all (plus_all sum xs) ys
plus_all-append sum [] ys = refl
plus_all-append sum (x ∷ xs) ys = plus_all-append (sum +ℤ x) xs ys

one_kept : (sum x : ℤ) (p : Bool) → plus_all sum (if p then x ∷ [] else []) ≡ sum +ℤ (if p then x else pos 0)
one_kept sum x true = refl
one_kept sum x false = omega (arith, ints)

-- the sum with one row more
pub sum_more : (start sum : ℤ) (flags : List Bool) (entries : List ℤ) (i : ℕ) → length flags ≡ length entries → i < length entries
    → sum ≡ plus_all start (kept (take i flags) (take i entries))
    → plus_all start (kept (take (i + 1) flags) (take (i + 1) entries)) ≡ sum +ℤ (if get_or flags i false then get_or entries i (pos 0) else pos 0)
sum_more start sum flags entries i len lt is =
    let p = get_or flags i false in
    let x = get_or entries i (pos 0) in
    ap (λ (xs : List ℤ). plus_all start xs) (kept_more flags entries i false (pos 0) len lt)
    ∙ plus_all-append start (kept (take i flags) (take i entries)) (if p then x ∷ [] else [])
    ∙ ap (λ (s : ℤ). plus_all s (if p then x ∷ [] else [])) (sym is)
    ∙ one_kept sum x p

-- in a column of numbers, those that aren't null
pub numbers-ints : (mask present : List Bool) (numbers : List ℤ) → length mask ≡ length present → length numbers ≡ present_count present
    → numbers_in (kept mask (map (value_by (λ n. value.Int n)) (woven present numbers))) ≡ kept (kept present mask) numbers
numbers-ints [] [] numbers len count = refl
numbers-ints [] (q ∷ present) numbers len count = absurd (omega arith)
numbers-ints (p ∷ mask) [] numbers len count = absurd (omega arith)
numbers-ints (true ∷ mask) (false ∷ present) numbers len count = numbers-ints mask present numbers (omega arith) (omega arith)
numbers-ints (false ∷ mask) (false ∷ present) numbers len count = numbers-ints mask present numbers (omega arith) (omega arith)
numbers-ints (p ∷ mask) (true ∷ present) [] len count = absurd (omega arith)
numbers-ints (true ∷ mask) (true ∷ present) (x ∷ numbers) len count = ap (λ (l : List ℤ). x ∷ l) (numbers-ints mask present numbers (omega arith) (omega arith))
numbers-ints (false ∷ mask) (true ∷ present) (x ∷ numbers) len count = numbers-ints mask present numbers (omega arith) (omega arith)

-- and none in another
pub numbers-none : {A : Type 0} (kind : A → Value) → ((x : A) (values : List Value) → numbers_in (kind x ∷ values) ≡ numbers_in values)
    → (mask present : List Bool) (values : List A) → numbers_in (kept mask (map (value_by kind) (woven present values))) ≡ []
numbers-none kind none [] present values = refl
numbers-none kind none (p ∷ mask) [] values = refl
numbers-none kind none (true ∷ mask) (false ∷ present) values = numbers-none kind none mask present values
numbers-none kind none (false ∷ mask) (false ∷ present) values = numbers-none kind none mask present values
numbers-none {A} kind none (true ∷ mask) (true ∷ present) [] = let empty : List A = [] in numbers-none kind none mask present empty
numbers-none {A} kind none (false ∷ mask) (true ∷ present) [] = let empty : List A = [] in numbers-none kind none mask present empty
numbers-none kind none (true ∷ mask) (true ∷ present) (x ∷ values) = none x (kept mask (map (value_by kind) (woven present values))) ∙ numbers-none kind none mask present values
numbers-none kind none (false ∷ mask) (true ∷ present) (x ∷ values) = numbers-none kind none mask present values

-- a flag is set where a number is kept
pub has_some-kept : (mask : List Bool) (entries : List ℤ) → length mask ≡ length entries → list_any (λ flag. flag) mask ≡ has_some (kept mask entries)
has_some-kept [] [] len = refl
has_some-kept [] (x ∷ entries) len = absurd (omega arith)
has_some-kept (p ∷ mask) [] len = absurd (omega arith)
has_some-kept (true ∷ mask) (x ∷ entries) len = refl
has_some-kept (false ∷ mask) (x ∷ entries) len = has_some-kept mask entries (omega arith)

or-false : (b : Bool) → (b || false) ≡ b
or-false true = refl
or-false false = refl

-- no number leaves a total as it is
pub with_none : (total : Total) (numbers : List ℤ) → numbers ≡ [] → total ≡ with_numbers total numbers
with_none total numbers none =
    ap (λ (b : Bool). record { some = b; sum = total.sum }) (sym (or-false total.some)) ∙ ap (with_numbers total) (sym none)

-- such a sum is a number of 128 bits
pub SumOfFew-fits : (count : ℕ) (sum : ℤ) → SumOfFew count sum → count < 2 ^ 63 → FitsSigned w128 sum
SumOfFew-fits count sum few lt = omega (arith, ints, few.low, few.high)
