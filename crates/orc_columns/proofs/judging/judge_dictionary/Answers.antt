use Rattle.std.proofs.Common.{◌<◌, ◌≤◌, arith}
use Rattle.std.proofs.lemmas.Result.{err_from_is_err_and}
use Rattle.orc_columns.proofs.Judged.{entries_broken, places_broken, out_of_dictionary, dictionary_judged}
use Rattle.orc_columns.proofs.NoRead.{of_run-judged}
use Rattle.orc_columns.proofs.judging.judge_dictionary.Goals as goal

pub returns-in_err-judge_lengths-clause-draws : goal.returns-in_err-judge_lengths-clause-draws
returns-in_err-judge_lengths-clause-draws g c =
    let f = g.F.Feed in
    let law = g.met.F.Feed in
    let p = err_from_is_err_and c.from_residual.result c.from_residual.ensures.1 in
    rw (p.1, p.2) (entries_broken f.rest f.fed f.fault_count c.args.plan law.fed_lost law.fed_nothing law.fed_joined c.requires.differ c.args.version c.args.feed.now c.judge_lengths.new.feed c.args.plan.dictionary_size c.args.count c.in_err-judge_lengths.field-0.0 c.in_err-judge_lengths.ensures.draws)

pub returns-in-Err-clause-draws : goal.returns-in-Err-clause-draws
returns-in-Err-clause-draws g c =
    let f = g.F.Feed in
    let law = g.met.F.Feed in
    rw c.of_run.ensures (places_broken f.rest f.fed f.fault_count c.args.plan law.fed_lost law.fed_nothing law.fed_joined c.requires.differ c.args.version c.args.feed.now c.judge_lengths.new.feed c.read_numbers.new.feed c.read_numbers.new.integers.held c.args.plan.dictionary_size c.args.count c.in_ok-judge_lengths.ensures.draws c.in-Err.fault (rw c.new-places.ensures at c.in-Err.ensures))

pub returns-then-summary-from-clause-draws : goal.returns-then-summary-from-clause-draws
returns-then-summary-from-clause-draws g c =
    let f = g.F.Feed in
    let law = g.met.F.Feed in
    let high : c.args.plan.dictionary_size < c.in-Ok.summary.bound = omega (arith, c.from.ensures, c.if-summary-from.true) in
    out_of_dictionary f.rest f.fed f.fault_count c.args.plan law.fed_lost law.fed_nothing law.fed_joined c.requires.differ c.args.version c.args.feed.now c.judge_lengths.new.feed c.read_numbers.new.feed c.read_numbers.new.integers.held c.args.plan.dictionary_size c.args.count c.in_ok-judge_lengths.ensures.draws c.in-Ok.summary (rw c.new-places.ensures at c.in-Ok.ensures) high

pub returns-clause-draws : goal.returns-clause-draws
returns-clause-draws g c =
    let f = g.F.Feed in
    let law = g.met.F.Feed in
    let low : c.in-Ok.summary.bound ≤ c.args.plan.dictionary_size = omega (arith, c.from.ensures, c.if-summary-from.false) in
    dictionary_judged f.rest f.fed f.fault_count c.args.plan law.fed_lost law.fed_nothing law.fed_joined c.requires.differ c.args.version c.args.feed.now c.judge_lengths.new.feed c.read_numbers.new.feed c.read_numbers.new.integers.held c.args.plan.dictionary_size c.args.count c.in_ok-judge_lengths.ensures.draws c.in-Ok.summary (rw c.new-places.ensures at c.in-Ok.ensures) low

pub returns-in-Err-clause-judged : goal.returns-in-Err-clause-judged
returns-in-Err-clause-judged g c = rw c.of_run.ensures (of_run-judged _ c.in-Err.fault)
