-- What follows of texts that are cut by their lengths or by their ends.
use Rattle.std.specs.Prelude.{◌≡◌, ℕ, zero, suc, ◌+◌, ◌-◌, ◌<◌, ◌≤◌, List, [], ◌∷◌, ◌++◌, length, take, drop, sum, get_or, slice_get, slice_range, Some}
use Rattle.std.proofs.Common.{arith, refl, sym, ap, ◌∙◌, length-drop}
use Rattle.std.proofs.lemmas.List.{drop-append-le, take-append-le}
use Rattle.std.proofs.lemmas.List.Sums.{sum_by-cons}
use Rattle.orc_values.specs.Texts.{texts_from, AreEnds, start_of, last_end, slices, running_ends}

pub sum-cons : (x : ℕ) (xs : List ℕ) → sum (x ∷ xs) ≡ x + sum xs
sum-cons x xs = sum_by-cons (λ (n : ℕ). n) x xs

-- texts by lengths are those of the ends that the lengths make
pub slices-ends : (at : ℕ) (lens bytes : List ℕ) → slices at lens bytes ≡ texts_from at (running_ends at lens) bytes
slices-ends at [] bytes = refl
slices-ends at (len ∷ lens) bytes = ap (λ (l : List (List ℕ)). slice_range bytes at (at + len) ∷ l) (slices-ends (at + len) lens bytes)

pub AreEnds-running_ends : (at : ℕ) (lens : List ℕ) (limit : ℕ) → at + sum lens ≤ limit → AreEnds at (running_ends at lens) limit
AreEnds-running_ends at [] limit h = omega arith
AreEnds-running_ends at (len ∷ lens) limit h = (omega arith, AreEnds-running_ends (at + len) lens limit (omega (arith, sum-cons len lens)))

pub length-slices : (at : ℕ) (lens bytes : List ℕ) → length (slices at lens bytes) ≡ length lens
length-slices at [] bytes = refl
length-slices at (len ∷ lens) bytes = omega (arith, length-slices (at + len) lens bytes)

pub length-texts_from : (from : ℕ) (ends bytes : List ℕ) → length (texts_from from ends bytes) ≡ length ends
length-texts_from from [] bytes = refl
length-texts_from from (end ∷ ends) bytes = omega (arith, length-texts_from end ends bytes)

pub slices-append : (at : ℕ) (lens more bytes : List ℕ)
    → slices at (lens ++ more) bytes ≡ slices at lens bytes ++ slices (at + sum lens) more bytes
slices-append at [] more bytes = let e : at + 0 ≡ at = omega arith in ap (λ (n : ℕ). slices n more bytes) (sym e)
slices-append at (len ∷ lens) more bytes =
    let e : at + len + sum lens ≡ at + sum (len ∷ lens) = omega (arith, sum-cons len lens) in
    ap (λ (l : List (List ℕ)). slice_range bytes at (at + len) ∷ l)
    (slices-append (at + len) lens more bytes
    ∙ ap (λ (n : ℕ). slices (at + len) lens bytes ++ slices n more bytes) e)

pub texts_from-append : (from : ℕ) (ends more bytes : List ℕ)
    → texts_from from (ends ++ more) bytes ≡ texts_from from ends bytes ++ texts_from (last_end from ends) more bytes
texts_from-append from [] more bytes = refl
texts_from-append from (end ∷ ends) more bytes = ap (λ (l : List (List ℕ)). slice_range bytes from end ∷ l)
    (texts_from-append end ends more bytes)

pub first_le-limit : (from : ℕ) (ends : List ℕ) (limit : ℕ) → AreEnds from ends limit → from ≤ limit
first_le-limit from [] limit are = are
first_le-limit from (end ∷ ends) limit are =
    let h : end ≤ limit = first_le-limit end ends limit are.1 in
    let k : from ≤ end = are.0 in
    omega arith

-- where a text begins and ends
pub start_of-suc : (from : ℕ) (ends : List ℕ) (index d : ℕ) → index < length ends → start_of from ends (suc index) ≡ get_or ends index d
start_of-suc from [] index d h = absurd (omega arith)
start_of-suc from (end ∷ ends) zero d h = refl
start_of-suc from (end ∷ ends) (suc index) d h = start_of-suc end ends index d (omega arith)

pub text_at : (from : ℕ) (ends bytes : List ℕ) (index d : ℕ) → index < length ends →
    slice_get (texts_from from ends bytes) index ≡ Some (slice_range bytes (start_of from ends index) (get_or ends index d))
text_at from [] bytes index d h = absurd (omega arith)
text_at from (end ∷ ends) bytes zero d h = refl
text_at from (end ∷ ends) bytes (suc index) d h = text_at end ends bytes index d (omega arith)

-- a text ends where it begins or behind that, and within the limit
pub text_within : (from : ℕ) (ends : List ℕ) (limit index d : ℕ) → AreEnds from ends limit → index < length ends →
    (start_of from ends index ≤ get_or ends index d) × (get_or ends index d ≤ limit)
text_within from [] limit index d are h = absurd (omega arith)
text_within from (end ∷ ends) limit zero d are h = (are.0, first_le-limit end ends limit are.1)
text_within from (end ∷ ends) limit (suc index) d are h = text_within end ends limit index d are.1 (omega arith)

-- bytes behind those that the lengths need don't count
slice_range-front : (front back : List ℕ) (from to : ℕ) → from ≤ to → to ≤ length front
    → slice_range (front ++ back) from to ≡ slice_range front from to
slice_range-front front back from to h k =
    ap (take (to - from)) (drop-append-le from front back (omega arith))
    ∙ take-append-le (to - from) (drop from front) back (omega (arith, length-drop from front))

pub slices-front : (at : ℕ) (lens front back : List ℕ) → at + sum lens ≤ length front
    → slices at lens (front ++ back) ≡ slices at lens front
slices-front at [] front back h = refl
slices-front at (len ∷ lens) front back h =
    ap (λ (l : List ℕ). l ∷ slices (at + len) lens (front ++ back))
    (slice_range-front front back at (at + len) (omega arith) (omega (arith, sum-cons len lens)))
    ∙ ap (λ (l : List (List ℕ)). slice_range front at (at + len) ∷ l)
    (slices-front (at + len) lens front back (omega (arith, sum-cons len lens)))

pub texts_from-front : (from : ℕ) (ends front back : List ℕ) → AreEnds from ends (length front)
    → texts_from from ends (front ++ back) ≡ texts_from from ends front
texts_from-front from [] front back are = refl
texts_from-front from (end ∷ ends) front back are =
    ap (λ (l : List ℕ). l ∷ texts_from end ends (front ++ back))
    (slice_range-front front back from end are.0 (first_le-limit end ends (length front) are.1))
    ∙ ap (λ (l : List (List ℕ)). slice_range front from end ∷ l) (texts_from-front end ends front back are.1)

-- nor do those in front of the place
drop-front : (front back : List ℕ) (n : ℕ) → drop (length front + n) (front ++ back) ≡ drop n back
drop-front [] back n = let e : 0 + n ≡ n = omega arith in ap (λ (k : ℕ). drop k back) e
drop-front (x ∷ front) back n = let e : suc (length front) + n ≡ suc (length front + n) = omega arith in rw e (drop-front front back n)

pub slices-behind : (at : ℕ) (lens front back : List ℕ) → slices (length front + at) lens (front ++ back) ≡ slices at lens back
slices-behind at [] front back = refl
slices-behind at (len ∷ lens) front back =
    let e : length front + at + len ≡ length front + (at + len) = omega arith in
    let d : length front + at + len - (length front + at) ≡ at + len - at = omega arith in
    ap (λ (n : ℕ). take n (drop (length front + at) (front ++ back)) ∷ slices (length front + at + len) lens (front ++ back)) d
    ∙ ap (λ (l : List ℕ). take (at + len - at) l ∷ slices (length front + at + len) lens (front ++ back)) (drop-front front back at)
    ∙ ap (λ (n : ℕ). slice_range back at (at + len) ∷ slices n lens (front ++ back)) e
    ∙ ap (λ (l : List (List ℕ)). slice_range back at (at + len) ∷ l) (slices-behind (at + len) lens front back)

-- Two batches of texts are the batch of the joined lists.
pub slices-joined : (lens more front back : List ℕ) → length front ≡ sum lens
    → slices 0 (lens ++ more) (front ++ back) ≡ slices 0 lens front ++ slices 0 more back
slices-joined lens more front back h =
    let e : 0 + sum lens ≡ length front + 0 = omega arith in
    slices-append 0 lens more (front ++ back)
    ∙ ap (λ (l : List (List ℕ)). l ++ slices (0 + sum lens) more (front ++ back)) (slices-front 0 lens front back (omega arith))
    ∙ ap (λ (n : ℕ). slices 0 lens front ++ slices n more (front ++ back)) e
    ∙ ap (λ (l : List (List ℕ)). slices 0 lens front ++ l) (slices-behind 0 more front back)
