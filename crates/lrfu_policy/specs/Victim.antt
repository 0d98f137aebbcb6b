-- The next victim. Source: this project's own.
use Rattle.std.specs.Prelude.{◌≡◌, ℕ, zero, suc, Bool, ◌+◌, ◌<◌, ◌≤◌, true, false, List, Option, Some, None}
use Rattle.std.specs.Ordering.{is_gt}
use Rattle.lrfu_policy.specs.declared.entry.Entry.{Entry}
use Rattle.lrfu_policy.specs.declared.rank.Rank.{Rank}
use Rattle.lrfu_policy.specs.Rank.{rank_cmp, rank_at, is_above}

-- the rank of one of these headers, above the given one, and no other such rank is less
pub record IsLeastRank (P : ℕ → Type 0) (entries : List (Option Entry)) (after : Option Rank) (r : Rank) : Type 0 where
  pub among : P r.header
  pub entry : rank_at entries r.header ≡ Some r
  pub above : is_above after r ≡ true
  pub least : (h : ℕ) (q : Rank) → P h → rank_at entries h ≡ Some q → is_above after q ≡ true → is_gt (rank_cmp r q) ≡ false

-- the least rank of these headers above the given one, or none where there is none
abbrev pub IsLeast : (ℕ → Type 0) → List (Option Entry) → Option Rank → Option Rank → Type 0
IsLeast P entries after (Some r) = IsLeastRank P entries after r
IsLeast P entries after None = (h : ℕ) (q : Rank) → P h → rank_at entries h ≡ Some q → is_above after q ≡ true → ⊥

-- one of so many headers from the first on
abbrev pub Among : ℕ → ℕ → ℕ → Type 0
Among first count h = (first ≤ h) × (h < first + count)

-- how many of the first n headers have a rank above the given one
abbrev pub is_left : Option Rank → Option Rank → Bool
is_left after None = false
is_left after (Some r) = is_above after r

abbrev pub counted : Bool → ℕ
counted true = 1
counted false = 0

abbrev pub above_count : List (Option Entry) → Option Rank → ℕ → ℕ
above_count entries after zero = 0
above_count entries after (suc n) = above_count entries after n + counted (is_left after (rank_at entries n))
