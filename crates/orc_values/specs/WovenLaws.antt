-- What follows of flags and values that are joined, and of rows that all have a value.
use Rattle.std.specs.Prelude.{◌≡◌, ◌+◌, ◌<◌, ◌≤◌, ℕ, Bool, true, false, List, [], ◌∷◌, ◌++◌, length, map, take, get_or, Option, Some, None}
use Rattle.std.specs.Prelude.{if◌then◌else◌}
use Rattle.std.proofs.Common.{arith, refl, ap, ◌∙◌}
use Rattle.std.proofs.lemmas.List.{take_more}
use Rattle.orc_values.specs.Woven.{present_count, woven}

-- Two batches are the batch of the joined lists.
pub woven-append : {A : Type 0} (before after : List Bool) (front back : List A) → length front ≡ present_count before →
    woven (before ++ after) (front ++ back) ≡ woven before front ++ woven after back
woven-append [] after [] back h = refl
woven-append [] after (x ∷ front) back h = absurd (omega arith)
woven-append {A} (false ∷ before) after front back h = ap (λ (l : List (Option A)). None ∷ l)
    (woven-append before after front back (omega arith))
woven-append (true ∷ before) after [] back h = absurd (omega arith)
woven-append {A} (true ∷ before) after (x ∷ front) back h = ap (λ (l : List (Option A)). Some x ∷ l)
    (woven-append before after front back (omega arith))

pub present_count-append : (before after : List Bool) → present_count (before ++ after) ≡ present_count before + present_count after
present_count-append [] after = omega arith
present_count-append (true ∷ before) after = omega (arith, present_count-append before after)
present_count-append (false ∷ before) after = omega (arith, present_count-append before after)

pub present_count-le : (present : List Bool) → present_count present ≤ length present
present_count-le [] = omega arith
present_count-le (true ∷ present) = omega (arith, present_count-le present)
present_count-le (false ∷ present) = omega (arith, present_count-le present)

pub length-woven : {A : Type 0} (present : List Bool) (values : List A) → length (woven present values) ≡ length present
length-woven [] values = refl
length-woven (false ∷ present) values = omega (arith, length-woven present values)
length-woven {A} (true ∷ present) [] = let none : List A = [] in omega (arith, length-woven present none)
length-woven (true ∷ present) (x ∷ values) = omega (arith, length-woven present values)

-- where each row has a value, the dense list and the list of the rows are one
pub woven-all : {A : Type 0} (present : List Bool) (values : List A) → length present ≡ length values
    → present_count present ≡ length present → woven present values ≡ map (λ x. Some x) values
woven-all [] [] h all = refl
woven-all [] (x ∷ values) h all = absurd (omega arith)
woven-all (p ∷ present) [] h all = absurd (omega arith)
woven-all (false ∷ present) (x ∷ values) h all = absurd (omega (arith, present_count-le present))
woven-all {A} (true ∷ present) (x ∷ values) h all = ap (λ (l : List (Option A)). Some x ∷ l)
    (woven-all present values (omega arith) (omega arith))

-- how many flags are set, with one flag more
one : (b : Bool) → present_count (b ∷ []) ≡ (if b then 1 else 0)
one true = refl
one false = refl

pub count_more : (present : List Bool) (i : ℕ) → i < length present
    → present_count (take (i + 1) present) ≡ present_count (take i present) + (if get_or present i false then 1 else 0)
count_more present i h =
    ap present_count (take_more present i false h)
    ∙ present_count-append (take i present) (get_or present i false ∷ [])
    ∙ ap (λ (n : ℕ). present_count (take i present) + n) (one (get_or present i false))
