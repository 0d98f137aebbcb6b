-- What is known of a writer, over several calls.
use Rattle.std.proofs.Common.{List, [], ◌++◌, ℕ, Option, Some, None, refl, sym, ap, ◌∙◌, append_assoc, append-nil}
use Rattle.std.specs.Io.KnownBytes.{Appends, Keeps}

pub Keeps-same : (known : Option (List ℕ)) → Keeps known known
Keeps-same None = tt
Keeps-same (Some xs) = refl

pub Keeps-then : (first between last : Option (List ℕ)) → Keeps first between → Keeps between last → Keeps first last
Keeps-then None between last one two = tt
Keeps-then (Some xs) None last one two = absurd one
Keeps-then (Some xs) (Some ys) None one two = absurd two
Keeps-then (Some xs) (Some ys) (Some zs) one two = two ∙ one

pub Appends-nothing : (known : Option (List ℕ)) → Appends known known []
Appends-nothing None = tt
Appends-nothing (Some xs) = sym (append-nil xs)

pub Keeps-appends : (first between last : Option (List ℕ)) (bytes : List ℕ) → Keeps first between → Appends between last bytes → Appends first last bytes
Keeps-appends None between last bytes one two = tt
Keeps-appends (Some xs) None last bytes one two = absurd one
Keeps-appends (Some xs) (Some ys) None bytes one two = absurd two
Keeps-appends (Some xs) (Some ys) (Some zs) bytes one two = two ∙ ap (λ (known : List ℕ). known ++ bytes) one

pub Appends-keeps : (first between last : Option (List ℕ)) (bytes : List ℕ) → Appends first between bytes → Keeps between last → Appends first last bytes
Appends-keeps None between last bytes one two = tt
Appends-keeps (Some xs) None last bytes one two = absurd one
Appends-keeps (Some xs) (Some ys) None bytes one two = absurd two
Appends-keeps (Some xs) (Some ys) (Some zs) bytes one two = two ∙ one

pub Appends-then : (first between last : Option (List ℕ)) (front back : List ℕ) → Appends first between front → Appends between last back → Appends first last (front ++ back)
Appends-then None between last front back one two = tt
Appends-then (Some xs) None last front back one two = absurd one
Appends-then (Some xs) (Some ys) None front back one two = absurd two
Appends-then (Some xs) (Some ys) (Some zs) front back one two = two ∙ ap (λ (known : List ℕ). known ++ back) one ∙ append_assoc xs front back
