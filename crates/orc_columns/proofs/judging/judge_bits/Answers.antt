use Rattle.orc_columns.proofs.Judged.{bits_judged, bits_broken}
use Rattle.orc_columns.proofs.NoRead.{of_run-judged}
use Rattle.orc_columns.proofs.judging.judge_bits.Goals as goal

pub returns-in-Ok-clause-draws : goal.returns-in-Ok-clause-draws
returns-in-Ok-clause-draws g c =
    let f = g.F.Feed in
    let law = g.met.F.Feed in
    bits_judged f.rest f.fed f.fault_count c.args.plan law.fed_lost law.fed_nothing law.fed_joined c.requires.differ c.args.feed.now c.skip_bits.new.feed c.skip_bits.new.bits.held c.args.plan.dictionary_size c.args.count (rw c.new-bits.ensures at c.in-Ok.ensures)

pub returns-in-Err-clause-draws : goal.returns-in-Err-clause-draws
returns-in-Err-clause-draws g c =
    let f = g.F.Feed in
    let law = g.met.F.Feed in
    rw c.of_run.ensures (bits_broken f.rest f.fed f.fault_count c.args.plan law.fed_lost law.fed_nothing law.fed_joined c.requires.differ c.args.feed.now c.skip_bits.new.feed c.skip_bits.new.bits.held c.args.plan.dictionary_size c.args.count c.in-Err.fault (rw c.new-bits.ensures at c.in-Err.ensures))

pub returns-in-Err-clause-judged : goal.returns-in-Err-clause-judged
returns-in-Err-clause-judged g c = rw c.of_run.ensures (of_run-judged _ c.in-Err.fault)
