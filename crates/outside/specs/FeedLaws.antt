-- What follows of lists of takes, for each feed that proves the laws of `Feed`.
use Rattle.std.specs.Prelude.{◌≡◌, ◌==◌, ℕ, ◌+◌, Bool, true, false, List, [], ◌∷◌, ◌++◌, length, drop, Option, Some, None, if◌then◌else◌}
use Rattle.std.proofs.Common.{arith, refl, ap, ◌∙◌, length-drop, drop-drop}
use Rattle.outside.specs.Feed.{Taken, Lost, gave, taken_of}

pub Lost-nothing : (stream : Option (List ℕ)) → Lost 0 stream stream
Lost-nothing None = tt
Lost-nothing (Some whole) = (omega arith, refl)

pub Lost-then : (m n : ℕ) (first between last : Option (List ℕ)) → Lost m first between → Lost n between last → Lost (m + n) first last
Lost-then m n None between last one two = tt
Lost-then m n (Some whole) None last one two = absurd one
Lost-then m n (Some whole) (Some part) None one two = absurd two
Lost-then m n (Some whole) (Some part) (Some rest) one two =
    let len : length part ≡ length (drop m whole) = ap length one.1 in
    (omega (arith, length-drop m whole, one.0, two.0), two.1 ∙ ap (drop n) one.1 ∙ grind (arith, drop-drop))

pub taken_of-append : (stream : ℕ) (xs ys : List Taken) → taken_of stream (xs ++ ys) ≡ taken_of stream xs + taken_of stream ys
taken_of-append stream [] ys = omega arith
taken_of-append stream (x ∷ xs) ys = omega (arith, taken_of-append stream xs ys)

taken_of-gave : (test : Bool) (m n rest : ℕ)
    → (if test then m else 0) + ((if test then n else 0) + rest) ≡ (if test then m + n else 0) + rest
taken_of-gave true m n rest = omega arith
taken_of-gave false m n rest = omega arith

pub taken_of-sum : (other stream m n : ℕ) (before after : List Taken)
    → taken_of other (before ++ gave stream m ∷ gave stream n ∷ after)
    ≡ taken_of other (before ++ gave stream (m + n) ∷ after)
taken_of-sum other stream m n [] after = taken_of-gave (stream == other) m n (taken_of other after)
taken_of-sum other stream m n (x ∷ before) after =
    ap (λ k. (if x.stream == other then x.len else 0) + k) (taken_of-sum other stream m n before after)
