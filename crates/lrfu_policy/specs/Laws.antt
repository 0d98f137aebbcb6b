-- Laws of ranks, victims and entries, for those who walk from victim to victim.
use Rattle.std.specs.Prelude.{◌≡◌, ◌≢◌, ℕ, ◌+◌, ◌<◌, ◌≤◌, true, false, List, length, slice_set, Option, Some, None}
use Rattle.std.specs.Cmp.{IsTotalOrder}
use Rattle.std.specs.Ordering.{is_eq}
use Rattle.lrfu_policy.specs.declared.entry.Entry.{Entry}
use Rattle.lrfu_policy.specs.declared.rank.Rank.{Rank}
use Rattle.lrfu_policy.specs.Rank.{is_above, rank_at, rank_cmp}
use Rattle.lrfu_policy.specs.Victim.{Among, IsLeast, above_count}
use Rattle.lrfu_policy.specs.Policy.{synced}

-- any two ranks can be compared, and two that tie are of one header
abbrev pub RanksAreOrdered : Type 0
RanksAreOrdered = IsTotalOrder rank_cmp × ((a b : Rank) → is_eq (rank_cmp a b) ≡ true → a.header ≡ b.header)

-- of a range of headers there is one least rank above a given one, or none
abbrev pub VictimIsOne : Type 0
VictimIsOne =
    (first count : ℕ) (entries : List (Option Entry)) (after a b : Option Rank) →
    IsLeast (Among first count) entries after a → IsLeast (Among first count) entries after b → a ≡ b

-- Between a rank and the next victim after it there is none: whatever isn't above that victim, but for itself, wasn't above
-- the rank before. So a walk that begins without a rank and ends with `None` was given every rank.
abbrev pub NoneBetween : Type 0
NoneBetween =
    (first count : ℕ) (entries : List (Option Entry)) (after : Option Rank) (r : Rank)
    → IsLeast (Among first count) entries after (Some r) →
    (h : ℕ) (q : Rank) → Among first count h → h ≢ r.header → rank_at entries h ≡ Some q →
    is_above (Some r) q ≡ false → is_above after q ≡ false

-- each victim of a range leaves fewer ranks above it
abbrev pub VictimsRunOut : Type 0
VictimsRunOut =
    (first count n : ℕ) (entries : List (Option Entry)) (after : Option Rank) (r : Rank) → first + count ≤ n →
    IsLeast (Among first count) entries after (Some r) → above_count entries (Some r) n < above_count entries after n

-- an entry that is forgotten leaves no more ranks above
abbrev pub ForgettingAddsNone : Type 0
ForgettingAddsNone =
    (entries : List (Option Entry)) (after : Option Rank) (h : ℕ) → h < length entries →
    (n : ℕ) → above_count (slice_set entries h None) after n ≤ above_count entries after n

-- with a half-life of 2: three touches up to tick 5, and then one more at tick 9
abbrev pub WorkedEntries : Type 0
WorkedEntries =
    (key : ℕ) →
    (synced 2 key 3 5 None ≡ record { key = key; s = 12884901888; e = 2; last = 5 })
    × (synced 2 key 1 9 (Some (synced 2 key 3 5 None)) ≡ record { key = key; s = 7516192768; e = 4; last = 9 })
