use Rattle.std.proofs.Common.{arith}
use Rattle.rle2_writer.proofs.AllPatches.{IfSome-then, next_none, next_low, next_high}
use Rattle.rle2_writer.proofs.entries.+write_entries.Goals as goal

pub returns-in_default-clause-entries : goal.returns-in_default-clause-entries
returns-in_default-clause-entries t c = next_none c.args.width c.args.patches c.args.gap c.args.numbers.now c.in_default.ensures.cases

pub returns-then-patch-eq0-clause-entries : goal.returns-then-patch-eq0-clause-entries
returns-then-patch-eq0-clause-entries t c =
    IfSome-then c.write_entries.result c.write_entries.ensures.entries (λ count more. next_low c.args.width c.args.patches c.args.gap c.in-Some.number.now count c.args.numbers.now c.in-Some.others.now c.write_entries.new.into c.in-Some.ensures.cases.0 c.if-patch-eq0.true more)

pub returns-in-Some-write_entries-clause-entries :
    goal.returns-in-Some-write_entries-clause-entries
returns-in-Some-write_entries-clause-entries t c =
    next_high c.args.width c.args.patches c.args.gap c.in-Some.number.now c.entry.result c.in-Some-write_entries.count c.args.numbers.now c.in-Some.others.now c.write_entries-2.new.into c.in-Some.ensures.cases.0 (omega (arith, c.if-patch-eq0.false)) (omega (arith, c.if-gap-gt255.false)) c.if-patch-patches-ne0.false c.entry.ensures c.in-Some-write_entries.ensures.entries
