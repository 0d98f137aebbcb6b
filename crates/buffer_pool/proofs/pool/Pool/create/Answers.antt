use Rattle.std.proofs.Common.{length, ap, ◌∙◌}
use Rattle.pool_rule.specs.declared.view.View.{View}
use Rattle.buffer_pool.proofs.First.{first_numbers}
use Rattle.buffer_pool.proofs.pool.Pool.create.Goals as goal

pub returns-in-Ok-clause-numbers : goal.returns-in-Ok-clause-numbers
returns-in-Ok-clause-numbers g c =
    ap (λ (v : View). length v.numbers) c.in-Ok.ensures.3 ∙ first_numbers (record { geometry = c.args.geometry; seats = c.args.seats })
