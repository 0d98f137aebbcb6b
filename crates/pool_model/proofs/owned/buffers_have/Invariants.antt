use Rattle.std.proofs.Common.{◌≡◌, ◌<◌, ℕ, None, get_or}
use Rattle.pool_model.specs.Pool.{buffer_covers}
use Rattle.pool_model.proofs.owned.buffers_have.Given as goal

abbrev pub invariant-loop-buffer : goal.invariant-loop-buffer
invariant-loop-buffer l = (k : ℕ) → k < l.buffer-index → buffer_covers l.place k (get_or l.buffers k None) ≡ 0
