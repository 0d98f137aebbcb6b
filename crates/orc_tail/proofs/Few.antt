-- A message has no more fields than bytes.
use Rattle.std.proofs.Common.{ℕ, zero, suc, ◌≤◌, List, [], ◌∷◌, length, Result, Ok, Err, arith}
use Rattle.orc_proto.specs.declared.fault.WireFault.{WireFault}
use Rattle.orc_proto.specs.Reading.{fields_of, items_within, item_then}

item_then_few : {X : Type 0} (read : Result (X × List ℕ) WireFault) (others : List ℕ → List (Result X WireFault)) (n : ℕ) → ((left : List ℕ) → length (others left) ≤ n) → length (item_then read others) ≤ suc n
item_then_few (Ok x) others n few = omega (arith, few x.1)
item_then_few (Err e) others n few = omega arith

items_few : {X : Type 0} (steps : ℕ) (item_at : ℕ → List ℕ → Result (X × List ℕ) WireFault) (total : ℕ) (left : List ℕ) → length (items_within steps item_at total left) ≤ steps
unfolding items_within
items_few zero item_at total left = omega arith
items_few (suc steps) item_at total [] = omega arith
items_few (suc steps) item_at total (b ∷ left) = item_then_few _ _ steps (λ others. items_few steps item_at total others)

pub fields_few : (whole : List ℕ) → length (fields_of whole) ≤ length whole
fields_few whole = items_few _ _ _ _
