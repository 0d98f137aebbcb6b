use Rattle.std.specs.Prelude.{◌≡◌, ◌+◌, ◌-◌, ◌*◌, ◌<◌, ◌≤◌, ℕ, length, slice_index}
use Rattle.buffer_pool.proofs.reading.put_part.Given as goal

abbrev pub invariant-loop-k : goal.invariant-loop-k
invariant-loop-k l = record {
  len : length l.into ≡ length l.initial.into;
  put : (i : ℕ) → i < length l.initial.into → 8 * l.number ≤ l.skip + i → l.skip + i < 8 * l.number + l.k → slice_index l.into i ≡ slice_index l.bytes (l.skip + i - 8 * l.number);
  left : (i : ℕ) → i < length l.initial.into → l.skip + i < 8 * l.number → slice_index l.into i ≡ slice_index l.initial.into i;
}
