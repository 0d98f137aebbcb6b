use Rattle.orc_columns.proofs.Judged.{texts_judged}
use Rattle.orc_columns.proofs.judging.judge_texts.Goals as goal

pub returns-clause-draws : goal.returns-clause-draws
returns-clause-draws g c =
    let f = g.F.Feed in
    let law = g.met.F.Feed in
    texts_judged f.rest f.fed f.fault_count c.args.plan law.fed_lost law.fed_nothing law.fed_joined c.requires.differ c.args.version c.args.feed.now c.judge_lengths.new.feed c.args.plan.dictionary_size c.args.count c.judge_lengths.result c.judge_lengths.ensures.draws
