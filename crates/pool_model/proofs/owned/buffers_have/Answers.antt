use Rattle.std.proofs.Common.{refl, arith, below_more, None}
use Rattle.std.proofs.lemmas.Bool.{false≢true, both_ways}
use Rattle.pool_model.specs.Pool.{buffer_covers}
use Rattle.pool_model.proofs.Owners.{part_found, part_none}
use Rattle.pool_model.proofs.Totals.{total-zero}
use Rattle.pool_model.proofs.owned.buffers_have.Goals as goal

pub returns-then-buffer_has : goal.returns-then-buffer_has
returns-then-buffer_has c =
    let i = c.loop-buffer.buffer-index in
    let some = (c.buffer_has.ensures i).0 c.if-buffer_has.true in
    (λ _. part_found (buffer_covers c.args.place) c.args.buffers.now i _ (omega arith) c.buffer-item.is some, λ _. refl)

pub loop-buffer-preserved : goal.loop-buffer-preserved
loop-buffer-preserved c =
    let i = c.loop-buffer.buffer-index in
    below_more _ _ c.loop-buffer.invariant
    (part_none (buffer_covers c.args.place) c.args.buffers.now i _ None (omega arith) c.buffer-item.is
    (λ some. both_ways _ c.if-buffer_has.false ((c.buffer_has.ensures i).1 some)))

pub returns : goal.returns
returns c = (
  λ e. absurd (false≢true e),
  λ h.
      absurd
      (omega (arith, h, total-zero (buffer_covers c.args.place) c.args.buffers.now None (λ k l. c.loop-buffer.invariant k (omega arith)))),
)
