-- Of several attempts, the last whose fragment can't finish (this project's own).
use Rattle.std.specs.Prelude.{◌<◌, ℕ, List, [], ◌∷◌, Option, Some, None, if◌then◌else◌}
use Rattle.fragment_plan.specs.declared.fragment.Fragment.{Fragment}
use Rattle.board_history.specs.declared.attempt.Attempt.{Attempt}
use Rattle.board_history.specs.declared.status.FragmentStatus.{FragmentStatus}
use Rattle.board_history.specs.Order.{is_finishable, place_of, is_before}

module _ (plan : List Fragment) (statuses : List FragmentStatus) where
  -- the later of two attempts, where there is a first one
  abbrev pub later : Option Attempt → Attempt → Attempt
  later None a = a
  later (Some b) a = if is_before (place_of plan statuses b.fragment) (place_of plan statuses a.fragment) then a else b

  -- with what an executor runs
  abbrev pub later_of : Option Attempt → Option Attempt → Option Attempt
  later_of last None = last
  later_of last (Some a) = if is_finishable plan statuses a.fragment then last else Some (later last a)

  -- with what executors run
  abbrev pub last_of : Option Attempt → List (Option Attempt) → Option Attempt
  last_of last [] = last
  last_of last (r ∷ rs) = last_of (later_of last r) rs

abbrev pub RunsWithin : ℕ → Option Attempt → Type 0
RunsWithin fragments None = Unit {0}
RunsWithin fragments (Some a) = a.fragment < fragments

-- the attempts are of so many fragments
abbrev pub Within : ℕ → List (Option Attempt) → Type 0
Within fragments [] = Unit {0}
Within fragments (r ∷ rs) = RunsWithin fragments r × Within fragments rs
