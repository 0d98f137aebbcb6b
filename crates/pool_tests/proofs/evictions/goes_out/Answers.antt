use Rattle.std.proofs.lemmas.Option.{none-some}
use Rattle.buffer_pool.specs.Callers.{grant_stays}
use Rattle.pool_tests.proofs.evictions.goes_out.Goals as goal

pub ungrant-requires-clause-token : goal.ungrant-requires-clause-token
ungrant-requires-clause-token c =
    let pool = c.args.pool.now in
    let first = c.evict_and_grant.new.seat in
    let second = c.look-state.new.seat in
    let again = c.in-Some.again in
    let after = grant_stays pool first second again _ _ _ _ c.look-state.ensures.made c.in-Some.ensures.token (none-some _) in
    grant_stays pool second c.look-bits.new.seat again _ _ _ _ c.look-bits.ensures.made after (none-some _)
