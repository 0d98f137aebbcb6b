use Rattle.std.proofs.Common.{◌≡◌, ◌∙◌, sym, ap, arith}
use Rattle.pool_model.specs.declared.block.Block.{Block}
use Rattle.buffer_pool.specs.Pools.{block_of}
use Rattle.pool_tests.proofs.grants.grants_in_turn.Goals as goal

pub ungrant-requires-clause-token : goal.ungrant-requires-clause-token
ungrant-requires-clause-token c =
    let token = c.in-Ok.ensures.token in
    let place : (block_of c.in-Ok.first).place ≡ 0 = ap (λ (x : Block). x.place) c.in-Ok.ensures.block in
    record { block = token.block; granted = c.grants_again-again.ensures.others (block_of c.in-Ok.first).place (λ e. omega (arith, e, place)) ∙ token.granted }
