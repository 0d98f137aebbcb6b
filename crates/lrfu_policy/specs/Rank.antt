-- The order in which headers are evicted. Source: after LRFU (Lee and others, 2001); the stepped form is this project's own.
use Rattle.std.specs.Prelude.{ℕ, ◌*◌, ◌^◌, Bool, true, if◌then◌else◌, List, Option, Some, None, slice_index_or}
use Rattle.std.specs.Ordering.{nat_cmp, ordering_then, is_gt, is_lt}
use Rattle.std.specs.declared.cmp.Ordering.{Ordering}
use Rattle.lrfu_policy.specs.declared.entry.Entry.{Entry}
use Rattle.lrfu_policy.specs.declared.rank.Rank.{Rank}

-- What a rank weighs, without a bound. A touch weighs 2^32 times 2 for each half-life that has ended, so an entry that isn't
-- touched stays as it is and loses half to the others with each.
abbrev pub weight : Rank → ℕ
weight r = r.s * 2 ^ r.e

-- by weight, then by the last touch, then by header
abbrev pub rank_cmp : Rank → Rank → Ordering
rank_cmp a b = ordering_then (nat_cmp (weight a) (weight b)) (ordering_then (nat_cmp a.last b.last) (nat_cmp a.header b.header))

-- the rank of a header's entry, or none where it has none
abbrev pub rank_with : ℕ → Option Entry → Option Rank
rank_with header None = None
rank_with header (Some e) = Some (record { s = e.s; e = e.e; last = e.last; header = header })

abbrev pub rank_at : List (Option Entry) → ℕ → Option Rank
rank_at entries header = rank_with header (slice_index_or entries header None)

-- the rank is above the given one, or none is given
abbrev pub is_above : Option Rank → Rank → Bool
is_above None r = true
is_above (Some a) r = is_lt (rank_cmp a r)

-- the lesser of two ranks, the first where neither is less
abbrev pub lesser_of : Option Rank → Option Rank → Option Rank
lesser_of None right = right
lesser_of (Some a) None = Some a
lesser_of (Some a) (Some b) = if is_gt (rank_cmp a b) then Some b else Some a

-- a rank, where it is above the given one
abbrev pub kept_above : Option Rank → Option Rank → Option Rank
kept_above after None = None
kept_above after (Some r) = if is_above after r then Some r else None
