use Rattle.std.proofs.Common.{rules, ◌↔◌, IsTrue}
use Rattle.pool_model.specs.Block.{Within}
use Rattle.pool_model.proofs.Owners.{covers_counts}
use Rattle.pool_model.proofs.block.Block.has.Goals as goal

pub returns-clause-counted : goal.returns-clause-counted
returns-clause-counted c =
    let within : IsTrue c.spans.result ↔ Within c.args.self.now c.args.place = search rules in
    covers_counts c.args.self.now c.args.place c.spans.result within
