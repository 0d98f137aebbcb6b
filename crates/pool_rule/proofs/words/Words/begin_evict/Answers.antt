use Rattle.std.proofs.Common.{◌==◌, ℕ, ◌+◌, sym, subst, inl, inr}
use Rattle.std.proofs.lemmas.Bool.{cases_eq}
use prog.Atomic.{either}
use Rattle.pool_rule.specs.declared.aim.Aim.TheVariants.{BeginEvict}
use Rattle.pool_rule.specs.Plays.{IsAllowed, told_by}
use Rattle.pool_rule.proofs.Eviction.{evict_allowed}
use Rattle.pool_rule.proofs.TableSeats.{still_made}
use Rattle.pool_rule.proofs.words.Words.begin_evict.Goals as goal

pub exchange-requires-clause-allowed : goal.exchange-requires-clause-allowed
exchange-requires-clause-allowed g c =
    let shared = c.args.self.now.table.shared in
    let seat = c.args.seat.now in
    let P : ℕ → Type 0 = λ i. IsAllowed g.W.World.files shared.key seat.id seat.me.0 i (λ n. either (n == c.args.seen) (c.args.seen + 4) n) (told_by g.W.World.files shared.key.geometry seat.id (BeginEvict c.args.header c.args.seen)) in
    subst P (sym c.index-index.ensures.same) (evict_allowed g.W.World.files shared.key c.args.self.now.few seat.id seat.me.0 c.requires.seat.live.numbers c.every_run_is_lawful.ensures c.args.self.now.sized c.args.header c.requires.header c.evict_adds_4.ensures c.args.seen c.requires.idle)

pub returns-clause-seat : goal.returns-clause-seat
returns-clause-seat g c =
    let shared = c.args.self.now.table.shared in
    let told = c.exchange.ensures.told in
    elim (cases_eq c.exchange.result c.args.seen) [
      | inl hit ↦ still_made shared.table_id g.W.World.files shared.key.geometry c.args.seat.now.id _ c.args.seat.now c.exchange.new.seat c.requires.seat c.exchange.ensures.seat (told.0 hit)
      | inr miss ↦ still_made shared.table_id g.W.World.files shared.key.geometry c.args.seat.now.id _ c.args.seat.now c.exchange.new.seat c.requires.seat c.exchange.ensures.seat (told.1 miss)
    ]
