use Rattle.std.proofs.Common.{ℕ, sym, subst}
use Rattle.pool_rule.specs.declared.aim.Aim.TheVariants.{StoreKey}
use Rattle.pool_rule.specs.Plays.{IsAllowed, told_by}
use Rattle.pool_rule.proofs.Allowed.{name_allowed}
use Rattle.pool_rule.proofs.TableSeats.{still_made}
use Rattle.pool_rule.proofs.words.Words.store_key.Goals as goal

pub store-requires-clause-allowed : goal.store-requires-clause-allowed
store-requires-clause-allowed g c =
    let shared = c.args.self.now.table.shared in
    let seat = c.args.seat.now in
    let P : ℕ × ℕ → Type 0 = λ z. IsAllowed g.W.World.files shared.key seat.id seat.me.0 z.0 (λ _. z.1) (λ _. told_by g.W.World.files shared.key.geometry seat.id (StoreKey c.args.header c.args.block c.args.key) z.1) in
    subst P (λ k. (sym c.index-index.ensures.same k, sym c.pack_key-word.ensures k)) (name_allowed g.W.World.files shared.key c.args.self.now.few seat.id seat.me.0 c.requires.seat.live.numbers c.every_run_is_lawful.ensures c.args.self.now.sized c.args.header c.requires.header c.args.block c.args.key c.requires.claim c.requires.packs c.requires.fits c.requires.range)

pub returns-clause-seat : goal.returns-clause-seat
returns-clause-seat g c =
    let shared = c.args.self.now.table.shared in
    still_made shared.table_id g.W.World.files shared.key.geometry c.args.seat.now.id _ c.args.seat.now c.store.new.seat c.requires.seat c.store.ensures.seat c.store.ensures.told.1
