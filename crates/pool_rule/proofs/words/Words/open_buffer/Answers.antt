use Rattle.std.proofs.Common.{◌==◌, ℕ, sym, subst, inl, inr}
use Rattle.std.proofs.lemmas.Bool.{cases_eq}
use prog.Atomic.{either}
use Rattle.pool_rule.specs.declared.aim.Aim.TheVariants.{Open}
use Rattle.pool_rule.specs.Plays.{IsAllowed, told_by}
use Rattle.pool_rule.proofs.Allowed.{open_allowed}
use Rattle.pool_rule.proofs.TableSeats.{still_made}
use Rattle.pool_rule.proofs.words.Words.open_buffer.Goals as goal

pub exchange-requires-clause-allowed : goal.exchange-requires-clause-allowed
exchange-requires-clause-allowed g c =
    let shared = c.args.self.now.table.shared in
    let seat = c.args.seat.now in
    let P : ℕ × ℕ → Type 0 = λ z. IsAllowed g.W.World.files shared.key seat.id seat.me.0 z.0 (λ n. either (n == 8) z.1 n) (told_by g.W.World.files shared.key.geometry seat.id (Open c.args.header c.args.block)) in
    subst P (λ k. (sym c.index-index.ensures.same k, sym c.word_of_new-word.ensures k)) (open_allowed g.W.World.files shared.key c.args.self.now.few seat.id seat.me.0 c.requires.seat.live.numbers c.every_run_is_lawful.ensures c.args.self.now.sized c.args.header c.requires.header c.opened_word.ensures c.args.block c.requires.block c.requires.granted)

pub returns-clause-seat : goal.returns-clause-seat
returns-clause-seat g c =
    let shared = c.args.self.now.table.shared in
    let told = c.exchange.ensures.told in
    elim (cases_eq c.exchange.result 8) [
      | inl hit ↦ still_made shared.table_id g.W.World.files shared.key.geometry c.args.seat.now.id _ c.args.seat.now c.exchange.new.seat c.requires.seat c.exchange.ensures.seat (told.0 hit).1
      | inr miss ↦ still_made shared.table_id g.W.World.files shared.key.geometry c.args.seat.now.id _ c.args.seat.now c.exchange.new.seat c.requires.seat c.exchange.ensures.seat (told.1 miss)
    ]
