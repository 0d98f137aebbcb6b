-- How the code keeps the least rank of many headers: a tournament. No contract that callers see speaks of it.
-- With n headers the nodes are 1 to 2n - 1. The children of node j below n are 2j and 2j + 1, and node n + h is header h's leaf.
use Rattle.std.specs.Prelude.{◌≡◌, ◌≢◌, ℕ, zero, suc, ◌+◌, ◌*◌, ◌-◌, ◌/◌, ◌<◌, nat_lt, if◌then◌else◌, List, Option, None, length}
use Rattle.std.specs.Prelude.{slice_index_or}
use Rattle.lrfu_policy.specs.declared.entry.Entry.{Entry}
use Rattle.lrfu_policy.specs.declared.rank.Rank.{Rank}
use Rattle.lrfu_policy.specs.Rank.{rank_at, lesser_of}

-- what stands at a node: its winner, or at a leaf the header's rank
abbrev pub node_in : List (Option Entry) → List (Option Rank) → ℕ → Option Rank
node_in entries winners node =
    if nat_lt node (length winners) then slice_index_or winners node None else rank_at entries (node - length winners)

-- each winner is the lesser of its two children's, but the one at that node, which may be wrong; with 0, which is no node, none may
abbrev pub AreWinnersBut : List (Option Entry) → List (Option Rank) → ℕ → Type 0
AreWinnersBut entries winners but =
    (j : ℕ) → 0 < j → j < length winners → j ≢ but →
    slice_index_or winners j None ≡ lesser_of (node_in entries winners (2 * j)) (node_in entries winners (2 * j + 1))

-- halved k times
abbrev pub halved : ℕ → ℕ → ℕ
halved x zero = x
halved x (suc k) = halved x k / 2

-- the header's leaf is under the node, or is the node
abbrev pub Under : ℕ → ℕ → ℕ → Type 0
Under n node h = (h < n) × ((k : ℕ) × (halved (h + n) k ≡ node))

-- a tournament over these entries; the bound keeps the numbers of nodes within a machine word
abbrev pub IsTournament : List (Option Entry) → List (Option Rank) → Type 0
IsTournament entries winners = (length winners ≡ length entries) × ((length entries < 4294967296) × AreWinnersBut entries winners 0)
