use Rattle.std.proofs.Common.{ℕ, ◌+◌, ◌%◌, ◌^◌, sym, subst, arith}
use Rattle.pool_rule.specs.declared.aim.Aim.TheVariants.{Release}
use Rattle.pool_rule.specs.Plays.{IsAllowed, told_by}
use Rattle.pool_rule.proofs.Eviction.{release_allowed}
use Rattle.pool_rule.proofs.TableSeats.{still_made}
use Rattle.pool_rule.proofs.words.Words.release.Goals as goal

pub add-requires-clause-allowed : goal.add-requires-clause-allowed
add-requires-clause-allowed g c =
    let shared = c.args.self.now.table.shared in
    let seat = c.args.seat.now in
    let b = c.requires.block in
    let sizes = c.args.self.now.sized in
    let P : ℕ → Type 0 = λ i. IsAllowed g.W.World.files shared.key seat.id seat.me.0 i (λ n. (n + c.release_step-step.result) % 2 ^ 64) (told_by g.W.World.files shared.key.geometry seat.id (Release c.args.header c.args.block)) in
    subst P (sym c.index-index.ensures.same)
    (release_allowed g.W.World.files shared.key c.args.self.now.few seat.id seat.me.0 c.requires.seat.live.numbers c.every_run_is_lawful.ensures sizes c.args.header c.requires.header c.args.block c.release_step-step.result c.requires.claim (omega (arith, b.order_fits)) (omega (arith, b.inside, sizes.arenas)) c.release_step-step.type_inv c.release_step-step.ensures)

pub returns-clause-seat : goal.returns-clause-seat
returns-clause-seat g c =
    let shared = c.args.self.now.table.shared in
    still_made shared.table_id g.W.World.files shared.key.geometry c.args.seat.now.id _ c.args.seat.now c.add.new.seat c.requires.seat c.add.ensures.seat c.add.ensures.told
