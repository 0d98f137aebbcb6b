-- How often each key was counted, keys ascending (this project's own).
use Rattle.std.specs.Prelude.{◌≡◌, ◌<◌, ◌≤◌, ℕ, ◌+◌, ◌-◌, ◌^◌, min, List, [], ◌∷◌, if◌then◌else◌}
use Rattle.std.specs.Ordering.{match_ordering, is_eq}
use Rattle.std.specs.Map.{keys_of, values_of, lookup}
use Rattle.std.specs.Option.{unwrap_or}
use Rattle.std.specs.List.{AllByRecursion}
use Rattle.std.specs.List.Sorted.{IsStrictlySortedBy}
use Rattle.std.specs.declared.cmp.Ordering.{Ordering}

-- A count of 64 bits with another more: one that would pass its greatest number stays there.
abbrev pub plus : ℕ → ℕ → ℕ
plus a b = min (a + b) (2 ^ 64 - 1)

-- a number of 64 bits
abbrev pub Few : ℕ → Type 0
Few n = n ≤ 2 ^ 64 - 1

module _ {K : Type 0} (cmp : K → K → Ordering) where
  -- counts with a key so often more; a new key goes to its place in the order
  abbrev pub added : List (K × ℕ) → K → ℕ → List (K × ℕ)
  added [] k n = (k, n) ∷ []
  added (e ∷ es) k n = match_ordering (cmp k e.0) ((k, n) ∷ e ∷ es) ((e.0, plus e.1 n) ∷ es) (e ∷ added es k n)

  -- counts with each of these more, one after the other
  abbrev pub added_all : List (K × ℕ) → List (K × ℕ) → List (K × ℕ)
  added_all es [] = es
  added_all es (f ∷ more) = added_all (added es f.0 f.1) more

  -- how often a key was counted
  abbrev pub count_in : List (K × ℕ) → K → ℕ
  count_in es k = unwrap_or (lookup (λ x. is_eq (cmp k x)) es) 0

  -- how often a list of keys with their counts has a key, all in all
  abbrev pub total_at : List (K × ℕ) → K → ℕ
  total_at [] k = 0
  total_at (e ∷ es) k = (if is_eq (cmp k e.0) then e.1 else 0) + total_at es k

  -- The counts of a list of keys, each with a number: each key of it with the sum of its numbers, or the greatest number of 64 bits
  -- where the sum is above that; keys ascending, and none that isn't in the list.
  pub record AreCounts (list es : List (K × ℕ)) : Type 0 where
    pub ordered : IsStrictlySortedBy cmp (keys_of es)
    pub counts : (k : K) → count_in es k ≡ min (total_at list k) (2 ^ 64 - 1)
    pub some : AllByRecursion (λ n. 0 < n) (values_of list) → AllByRecursion (λ n. 0 < n) (values_of es)
