-- What a scan of the blocks of one order, from the lowest up, has found below a place.
use Rattle.std.specs.Prelude.{◌≡◌, ℕ, ◌<◌, ◌≤◌, Option, Some, None}
use Rattle.buddy_arena.specs.Window.{IsMovable, taken_in}
use Rattle.buddy_arena.specs.declared.windows.Candidate.{Candidate}

-- the candidate is the cheapest movable block below `end`, the lowest of several
pub record IsCheapestBelow (size bits movable order end : ℕ) (c : Candidate) : Type 0 where
  pub candidate : IsMovable size bits movable c.place order
  pub taken : c.taken ≡ taken_in bits c.place order
  pub below : c.place < end
  pub fewest : (p : ℕ) → IsMovable size bits movable p order → p < end → c.taken ≤ taken_in bits p order
  pub lowest : (p : ℕ) → IsMovable size bits movable p order → p < end → taken_in bits p order ≡ c.taken → c.place ≤ p

-- that candidate, or none where no movable block begins below `end`
abbrev pub IsFoundBelow : ℕ → ℕ → ℕ → ℕ → ℕ → Option Candidate → Type 0
IsFoundBelow size bits movable order end (Some c) = IsCheapestBelow size bits movable order end c
IsFoundBelow size bits movable order end None = (p : ℕ) → IsMovable size bits movable p order → end ≤ p
