use Rattle.std.proofs.Common.{◌≡◌, ◌+◌, ◌-◌, ◌*◌, ◌<◌, ◌≤◌, ℕ, List, sym, ap, ◌∙◌, arith}
use Rattle.std.specs.Prelude.{slice_index}
use Rattle.std.specs.Int.{to_le_bytes, w64}
use Rattle.buffer_pool.proofs.reading.put_cell.Goals as goal

-- byte k of the cell stands at its place
placed : (into bytes : List ℕ) (skip number i : ℕ) → skip ≤ 8 * number → 8 * number ≤ skip + i → skip + i < 8 * number + 8 → ((k : ℕ) → k < 8 → slice_index into (8 * number - skip + k) ≡ slice_index bytes k) → slice_index into i ≡ slice_index bytes (skip + i - 8 * number)
placed into bytes skip number i first from to put =
    let here : 8 * number - skip + (skip + i - 8 * number) ≡ i = omega (arith, first, from) in
    sym (ap (slice_index into) here) ∙ put (skip + i - 8 * number) (omega (arith, from, to))

pub returns-then-first-skip-clause-put : goal.returns-then-first-skip-clause-put
returns-then-first-skip-clause-put c i inside from to = placed c.put_whole.new.into (to_le_bytes w64 c.args.value) c.args.skip c.args.number i c.if-skip-first.true from to c.put_whole.ensures.put
