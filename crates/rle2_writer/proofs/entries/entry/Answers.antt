use Rattle.std.proofs.Common.{◌≡◌, ◌+◌, ◌*◌, ◌%◌, ◌^◌, ◌<◌, ◌≤◌, ℕ, ap, arith}
use Rattle.std.proofs.Math.Nat.{mod-eq_of_lt, pow-le-pow_right}
use Rattle.rle2_writer.proofs.PackedBits.{below_more}
use Rattle.rle2_writer.proofs.entries.entry.Goals as goal

room : (p : ℕ) → p ≤ 56 → 2 ^ (8 + p) ≤ 2 ^ 64
room p h = let some : 0 < 2 = omega arith in let within : 8 + p ≤ 64 = omega (arith, h) in pow-le-pow_right some within

entry_fits : (gap p patch : ℕ) → gap < 256 → p ≤ 56 → patch < 2 ^ p → gap * 2 ^ p + patch < 2 ^ 64
entry_fits gap p patch g h k = omega (arith, below_more gap 8 p patch g k, room p h)

no_loss : (gap p patch : ℕ) → gap < 256 → p ≤ 56 → patch < 2 ^ p → gap * 2 ^ p % 2 ^ 64 ≡ gap * 2 ^ p
no_loss gap p patch g h k = let below : gap * 2 ^ p < 2 ^ 64 = omega (arith, entry_fits gap p patch g h k) in mod-eq_of_lt below

pub overflow_add-result : goal.overflow_add-result
overflow_add-result c =
    let r = c.requires in
    let same = no_loss c.args.gap c.args.patches c.args.patch r.gap r.patches r.patch in
    omega (arith, same, entry_fits c.args.gap c.args.patches c.args.patch r.gap r.patches r.patch)

pub returns : goal.returns
returns c =
    let r = c.requires in
    ap (λ (n : ℕ). n + c.args.patch) (no_loss c.args.gap c.args.patches c.args.patch r.gap r.patches r.patch)
