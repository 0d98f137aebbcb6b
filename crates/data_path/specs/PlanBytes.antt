-- Reading a plan's bytes.
use Rattle.std.specs.Prelude.{◌≡◌, ◌≤◌, ℕ, List, [], ◌++◌, length, take, drop, Option, Some, Result, Ok, Err}
use Rattle.fragment_plan.specs.declared.fragment.Fragment.{Fragment}
use Rattle.fragment_plan.specs.Plan.{plan_of}
use Rattle.data_path.specs.declared.plan_bytes.PlanBytesError.{PlanBytesError}
use Rattle.data_path.specs.declared.plan_bytes.PlanBytesError.TheVariants.{Fault, NoMemory}

-- the answer is that a read failed
abbrev pub IsFault : {T : Type 0} → Result T PlanBytesError → Type 0
IsFault (Ok value) = ⊥
IsFault (Err (Fault failed)) = Unit {0}
IsFault (Err NoMemory) = ⊥

-- Where what is left of the source was told, `bytes` are its first `most`, or all where there are fewer,
-- and the rest is left and told.
abbrev pub GaveFront : Option (List ℕ) → Option (List ℕ) → ℕ → List ℕ → Type 0
GaveFront before after most bytes =
    (told : List ℕ) → before ≡ Some told → (bytes ≡ take most told) × (after ≡ Some (drop most told))

-- Where what is left was told, its next n were put to the end of a list, and n is 0 only at its end.
abbrev pub GaveNext : Option (List ℕ) → Option (List ℕ) → ℕ → List ℕ → List ℕ → Type 0
GaveNext before after n old new =
    (told : List ℕ) → before ≡ Some told
    → (n ≤ length told) × (new ≡ old ++ take n told) × (after ≡ Some (drop n told)) × (n ≡ 0 → told ≡ [])

-- the most bytes that are read of a plan: one more than a plan has at most
abbrev pub most_read : ℕ
most_read = 1048577

-- What a call read of a plan's source: where what was left is told, the first bytes of it, which are read as all of it; and a plan that
-- is read was read to its end.
pub record TookPlan (left left' : Option (List ℕ)) (bytes : List ℕ) : Type 0 where
  pub front : GaveFront left left' most_read bytes
  pub same : (all : List ℕ) → left ≡ Some all → plan_of all ≡ plan_of bytes
  pub whole : (plan : List Fragment) (all : List ℕ) → plan_of bytes ≡ Ok plan → left ≡ Some all → (bytes ≡ all) × (left' ≡ Some [])
