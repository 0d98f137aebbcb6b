use Rattle.std.proofs.Common.{rules, ◌↔◌, IsTrue}
use Rattle.pool_model.specs.declared.block.Block.{Block}
use Rattle.pool_model.specs.Block.{Within}
use Rattle.pool_model.proofs.Owners.{covers_counts}
use Rattle.pool_model.proofs.owned.grant_has.Goals as goal

pub returns-in-Some : goal.returns-in-Some
returns-in-Some c =
    let b : Block = record { place = c.args.at; order = c.in-Some.granted.order } in
    let within : IsTrue c.spans.result ↔ Within b c.args.place = search rules in
    rw c.in-Some.is (covers_counts b c.args.place c.spans.result within)
