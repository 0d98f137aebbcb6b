use Rattle.orc_columns.proofs.Judged.{said_so}
use Rattle.orc_columns.proofs.judging.judge_values.Goals as goal

pub returns-in-Bits-clause-draws : goal.returns-in-Bits-clause-draws
returns-in-Bits-clause-draws g c =
    let f = g.F.Feed in
    let law = g.met.F.Feed in
    rw c.in-Bits.is (said_so f.rest f.fed f.fault_count c.args.plan law.fed_lost law.fed_nothing law.fed_joined c.requires.differ c.args.feed.now c.judge_bits.new.feed _ _ _ _ c.judge_bits.result (λ b a u tells goes sized. goes) (λ b f tells fails sized. fails) c.judge_bits.ensures.draws)

pub returns-in-Integers-clause-draws : goal.returns-in-Integers-clause-draws
returns-in-Integers-clause-draws g c =
    let f = g.F.Feed in
    let law = g.met.F.Feed in
    rw c.in-Integers.is (said_so f.rest f.fed f.fault_count c.args.plan law.fed_lost law.fed_nothing law.fed_joined c.requires.differ c.args.feed.now c.judge_integers.new.feed _ _ _ _ c.judge_integers.result (λ b a u tells goes sized. goes) (λ b f tells fails sized. fails) c.judge_integers.ensures.draws)

pub returns-in-Texts-clause-draws : goal.returns-in-Texts-clause-draws
returns-in-Texts-clause-draws g c =
    let f = g.F.Feed in
    let law = g.met.F.Feed in
    rw c.in-Texts.is (c.judge_texts.ensures.draws)

pub returns-in-Dictionary-clause-draws : goal.returns-in-Dictionary-clause-draws
returns-in-Dictionary-clause-draws g c =
    let f = g.F.Feed in
    let law = g.met.F.Feed in
    rw c.in-Dictionary.is (c.judge_dictionary.ensures.draws)
