use Rattle.std.proofs.Common.{ℕ, ◌+◌, ◌%◌, ◌^◌, sym, subst}
use Rattle.pool_rule.specs.declared.aim.Aim.TheVariants.{Publish}
use Rattle.pool_rule.specs.Plays.{IsAllowed, told_by}
use Rattle.pool_rule.proofs.Allowed.{publish_allowed}
use Rattle.pool_rule.proofs.TableSeats.{still_made}
use Rattle.pool_rule.proofs.words.Words.publish.Goals as goal

pub add-requires-clause-allowed : goal.add-requires-clause-allowed
add-requires-clause-allowed g c =
    let shared = c.args.self.now.table.shared in
    let seat = c.args.seat.now in
    let P : ℕ → Type 0 = λ i. IsAllowed g.W.World.files shared.key seat.id seat.me.0 i (λ n. (n + 15) % 2 ^ 64) (told_by g.W.World.files shared.key.geometry seat.id (Publish c.args.header c.args.block c.args.key)) in
    subst P (sym c.index-index.ensures.same) (publish_allowed g.W.World.files shared.key c.args.self.now.few seat.id seat.me.0 c.requires.seat.live.numbers c.every_run_is_lawful.ensures c.args.self.now.sized c.args.header c.requires.header c.publish_adds_15.ensures c.args.block c.args.key c.requires.claim c.requires.no_bid)

pub returns-clause-seat : goal.returns-clause-seat
returns-clause-seat g c =
    let shared = c.args.self.now.table.shared in
    still_made shared.table_id g.W.World.files shared.key.geometry c.args.seat.now.id _ c.args.seat.now c.add.new.seat c.requires.seat c.add.ensures.seat c.add.ensures.told
