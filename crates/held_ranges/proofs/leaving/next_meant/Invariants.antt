use Rattle.std.proofs.Common.{◌≡◌, ◌-◌, ◌<◌, ◌≤◌, ℕ, false, length}
use Rattle.held_ranges.specs.Deeds.{key_at, means}
use Rattle.held_ranges.specs.Moments.{keys_of}
use Rattle.held_ranges.proofs.leaving.next_meant.Given as goal

abbrev pub invariant-loop-at : goal.invariant-loop-at
invariant-loop-at l =
    record {
      from : l.slot ≤ l.at;
      within : l.slot ≤ length l.slots.items → l.at ≤ length l.slots.items;
      passed : (i : ℕ) → l.slot ≤ i → i < l.at → means l.of (key_at (keys_of l.slots.items) i) ≡ false;
    }

abbrev pub decreases-loop-at : goal.decreases-loop-at
decreases-loop-at l = length l.slots.items - l.at
