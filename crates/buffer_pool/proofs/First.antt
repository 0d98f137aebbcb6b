-- The view of a new pool's seat, and of a seat that was parted from another.
use Rattle.std.proofs.Common.{◌≡◌, ℕ, zero, suc, ◌+◌, length, get_or, replicate, refl, inl, inr, arith}
use Rattle.std.specs.Prelude.{None}
use Rattle.std.proofs.lemmas.Bool.{cases_lt}
use Rattle.std.proofs.lemmas.List.{get_or_past, get_or-replicate, length-replicate}
use Rattle.pool_rule.specs.declared.geometry.Setup.{Setup}
use Rattle.pool_rule.specs.Layout.{headers_of, places_of}
use Rattle.pool_rule.specs.Rule.{first_view}
use Rattle.pool_rule.specs.Seats.{HasNothing, clear_mark, numbers_from}

pub replicated : {A : Type 0} (n k : ℕ) (a : A) → get_or (replicate n a) k a ≡ a
replicated {A = A} n k a =
    elim (cases_lt k n) [
      | inl within ↦ get_or-replicate n k a a within
      | inr past ↦ get_or_past (replicate n a) k a (omega (arith, length-replicate {A = A} n a, past))
    ]

numbers_count : (first count : ℕ) → length (numbers_from first count) ≡ count
numbers_count first zero = refl
numbers_count first (suc count) = omega (arith, numbers_count (first + 1) count)

pub first_numbers : (setup : Setup) → length (first_view setup).numbers ≡ setup.seats
first_numbers setup = numbers_count 0 setup.seats

pub first_nothing : (setup : Setup) → HasNothing (first_view setup)
first_nothing setup =
    record { marks = λ header. replicated (headers_of setup.geometry) header clear_mark; granted = λ place. replicated (places_of setup.geometry) place None }
