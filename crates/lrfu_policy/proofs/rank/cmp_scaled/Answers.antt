use Rattle.std.proofs.Common.{ap, ◌∙◌, arith}
use Rattle.std.specs.Ordering.{ordering_reverse}
use Rattle.lrfu_policy.proofs.WeightLemmas.{cmp_lower, cmp_higher}
use Rattle.lrfu_policy.proofs.rank.cmp_scaled.Goals as goal

pub returns-then-p-q : goal.returns-then-p-q
returns-then-p-q c = c.cmp_shifted.ensures ∙ cmp_lower c.args.a c.args.p c.args.b c.args.q c.if-p-q.true

pub returns-else-p-q : goal.returns-else-p-q
returns-else-p-q c = c.reverse.ensures ∙ ap ordering_reverse c.cmp_shifted-else-p-q.ensures ∙ cmp_higher c.args.a c.args.p c.args.b c.args.q (omega (arith, c.if-p-q.false))
