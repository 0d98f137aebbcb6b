use Rattle.std.proofs.Common.{◌≡◌, ◌%◌, ◌^◌, take, map}
use Rattle.rle2_writer.proofs.entries.write_low.Given as goal

abbrev pub invariant-loop-i : goal.invariant-loop-i
invariant-loop-i l = take l.i l.into ≡ map (λ number. number % 2 ^ l.width) (take l.i l.numbers)
