-- A scan of the blocks of one order, from the lowest up: a block that isn't movable is passed over, one that is may be the cheapest.
use Rattle.std.proofs.Common.{◌≡◌, ℕ, ◌+◌, ◌*◌, ◌/◌, ◌^◌, ◌<◌, ◌≤◌, ◌⊎◌, inl, inr, Bool, true, false, cond, leb, Option, Some, None, refl, sym, ap, subst, arith}
use Rattle.std.specs.Prelude.{MatchOption}
use Rattle.std.proofs.Math.Nat.{mul-le-mul_right, div-mul-le_self}
use Rattle.std.proofs.lemmas.Nat.{pow_pos, le-div}
use Rattle.std.proofs.lemmas.Bool.{cases_lt, leb-true, leb-false}
use Rattle.buddy_arena.specs.Block.{around, IsBlock}
use Rattle.buddy_arena.specs.Window.{IsMovable, taken_in, IsWindow}
use Rattle.buddy_arena.specs.Candidates.{IsCheapestBelow, IsFoundBelow}
use Rattle.buddy_arena.specs.declared.windows.Candidate.{Candidate}
use Rattle.buddy_arena.proofs.BlockLemmas.{around_times}

-- the block of that index
pub block_at : (size index k : ℕ) → index < size / 2 ^ k → IsBlock size (index * 2 ^ k) k
block_at size index k h =
    let up : index + 1 ≤ size / 2 ^ k = omega arith in
    record { aligned = around_times index k; inside = omega (arith, mul-le-mul_right (2 ^ k) up, div-mul-le_self size (2 ^ k)) }

-- two blocks of one order that share a place are one
one_block : (p place k : ℕ) → around p k ≡ p → around place k ≡ place → p < place + 2 ^ k → place ≤ p → p ≡ place
one_block p place k own begins below from =
    elim (cases_lt (place / 2 ^ k) (p / 2 ^ k)) [
      | inl above ↦
          let up : place / 2 ^ k + 1 ≤ p / 2 ^ k = omega arith in
          absurd (omega (arith, mul-le-mul_right (2 ^ k) up))
      | inr within ↦ omega (arith, mul-le-mul_right (2 ^ k) within)
    ]

-- the scan has come to the block that begins at `place`, of whose places `taken` are taken
module _ (size bits movable k place taken : ℕ) (begins : around place k ≡ place) (count : taken ≡ taken_in bits place k) where
  -- a block that begins below its end is it or an earlier one
  here_or_before : (p : ℕ) → IsMovable size bits movable p k → p < place + 2 ^ k → (p ≡ place) ⊎ (p < place)
  here_or_before p candidate below =
      elim (cases_lt p place) [
        | inl earlier ↦ inr earlier
        | inr from ↦ inl (one_block p place k candidate.block.aligned begins below from)
      ]

  -- what was found stays where the block isn't cheaper
  still_found : (c : Candidate) → IsCheapestBelow size bits movable k place c → c.taken ≤ taken → IsCheapestBelow size bits movable k (place + 2 ^ k) c
  still_found c found more = record {
    candidate = found.candidate;
    taken = found.taken;
    below = omega (arith, found.below);
    fewest = λ p candidate below.
        elim (here_or_before p candidate below) [
          | inl same ↦ omega (arith, ap (λ (x : ℕ). taken_in bits x k) same)
          | inr earlier ↦ found.fewest p candidate earlier
        ];
    lowest = λ p candidate below tie.
        elim (here_or_before p candidate below) [
          | inl same ↦ omega (arith, found.below)
          | inr earlier ↦ found.lowest p candidate earlier tie
        ];
  }

  -- the block is found where it is cheaper
  cheaper_found : (c : Candidate) → IsMovable size bits movable place k → IsCheapestBelow size bits movable k place c → taken < c.taken →
      IsCheapestBelow size bits movable k (place + 2 ^ k) (record { place = place; taken = taken })
  cheaper_found c here found less = record {
    candidate = here;
    taken = count;
    below = omega (arith, pow_pos k);
    fewest = λ p candidate below.
        elim (here_or_before p candidate below) [
          | inl same ↦ omega (arith, ap (λ (x : ℕ). taken_in bits x k) same)
          | inr earlier ↦ omega (arith, found.fewest p candidate earlier)
        ];
    lowest = λ p candidate below tie.
        elim (here_or_before p candidate below) [
          | inl same ↦ omega arith
          | inr earlier ↦ absurd (omega (arith, found.fewest p candidate earlier))
        ];
  }

  -- and where it is the first
  first_found : IsMovable size bits movable place k → ((p : ℕ) → IsMovable size bits movable p k → place ≤ p) →
      IsCheapestBelow size bits movable k (place + 2 ^ k) (record { place = place; taken = taken })
  first_found here none = record {
    candidate = here;
    taken = count;
    below = omega (arith, pow_pos k);
    fewest = λ p candidate below.
        let same = one_block p place k candidate.block.aligned begins below (none p candidate) in
        omega (arith, ap (λ (x : ℕ). taken_in bits x k) same);
    lowest = λ p candidate below tie. none p candidate;
  }

  by_test : (b : Candidate) (t : Bool) → leb b.taken taken ≡ t → IsMovable size bits movable place k → IsCheapestBelow size bits movable k place b →
      IsCheapestBelow size bits movable k (place + 2 ^ k) (cond t b (record { place = place; taken = taken }))
  by_test b true test here found = still_found b found (leb-true b.taken taken test)
  by_test b false test here found = cheaper_found b here found (leb-false b.taken taken test)

  -- the better of a movable block and what was found below it
  pub found_here : (best : Option Candidate) (r : Candidate) → IsMovable size bits movable place k → IsFoundBelow size bits movable k place best →
      MatchOption best (r ≡ record { place = place; taken = taken }) (λ b. r ≡ cond (leb b.taken taken) b (record { place = place; taken = taken })) →
      IsFoundBelow size bits movable k (place + 2 ^ k) (Some r)
  found_here None r here found is =
      subst (λ (c : Candidate). IsCheapestBelow size bits movable k (place + 2 ^ k) c) (sym is) (first_found here found)
  found_here (Some b) r here found is =
      subst (λ (c : Candidate). IsCheapestBelow size bits movable k (place + 2 ^ k) c) (sym is) (by_test b (leb b.taken taken) refl here found)

-- the scan has come to a block that isn't movable
module _ (size bits movable k place : ℕ) (begins : around place k ≡ place) (fixed : IsMovable size bits movable place k → ⊥) where
  before : (p : ℕ) → IsMovable size bits movable p k → p < place + 2 ^ k → p < place
  before p candidate below =
      elim (cases_lt p place) [
        | inl earlier ↦ earlier
        | inr from ↦ absurd (fixed (subst (λ (x : ℕ). IsMovable size bits movable x k) (one_block p place k candidate.block.aligned begins below from) candidate))
      ]

  -- what was found below it is found below its end
  pub found_past : (best : Option Candidate) → IsFoundBelow size bits movable k place best → IsFoundBelow size bits movable k (place + 2 ^ k) best
  found_past None found = λ p candidate.
      elim (cases_lt p (place + 2 ^ k)) [
        | inl below ↦ absurd (omega (arith, before p candidate below, found p candidate))
        | inr above ↦ above
      ]
  found_past (Some c) found = record {
    candidate = found.candidate;
    taken = found.taken;
    below = omega (arith, found.below);
    fewest = λ p candidate below. found.fewest p candidate (before p candidate below);
    lowest = λ p candidate below tie. found.lowest p candidate (before p candidate below) tie;
  }

-- a block of the order begins below the end of the last one
begins_below : (size p k : ℕ) → IsBlock size p k → p < size / 2 ^ k * 2 ^ k
begins_below size p k block =
    let own = block.aligned in
    let fits : (p / 2 ^ k + 1) * 2 ^ k ≤ size = omega (arith, block.inside) in
    omega (arith, pow_pos k, mul-le-mul_right (2 ^ k) (le-div (p / 2 ^ k + 1) size (2 ^ k) (pow_pos k) fits))

-- what is found below the end of the last block is the window
pub window_of_none : (size bits movable k : ℕ) → IsFoundBelow size bits movable k (size / 2 ^ k * 2 ^ k) None → IsWindow size bits movable k None
window_of_none size bits movable k found = λ p candidate. omega (arith, found p candidate, begins_below size p k candidate.block)

pub window_of_some : (size bits movable k : ℕ) (c : Candidate) → IsFoundBelow size bits movable k (size / 2 ^ k * 2 ^ k) (Some c) → IsWindow size bits movable k (Some c.place)
window_of_some size bits movable k c found = record {
  candidate = found.candidate;
  fewest = λ p candidate. omega (arith, found.taken, found.fewest p candidate (begins_below size p k candidate.block));
  lowest = λ p candidate tie. found.lowest p candidate (begins_below size p k candidate.block) (omega (arith, found.taken));
}
