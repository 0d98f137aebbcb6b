use Rattle.std.proofs.Common.{ℕ, sym, subst}
use Rattle.pool_rule.specs.declared.aim.Aim.TheVariants.{Look}
use Rattle.pool_rule.specs.Plays.{IsAllowed, told_by}
use Rattle.pool_rule.proofs.Allowed.{look_allowed}
use Rattle.pool_rule.proofs.TableSeats.{still_made}
use Rattle.pool_rule.proofs.words.Words.look.Goals as goal

pub load-requires-clause-allowed : goal.load-requires-clause-allowed
load-requires-clause-allowed g c =
    let shared = c.args.self.now.table.shared in
    let seat = c.args.seat.now in
    let P : ℕ → Type 0 = λ i. IsAllowed g.W.World.files shared.key seat.id seat.me.0 i (λ n. n) (told_by g.W.World.files shared.key.geometry seat.id (Look c.args.word)) in
    subst P (sym c.index-index.ensures.same) (look_allowed g.W.World.files shared.key c.args.self.now.few seat.id seat.me.0 c.requires.seat.live.numbers c.args.word c.requires.word c.every_run_is_lawful.ensures c.args.self.now.sized)

pub returns-clause-seat : goal.returns-clause-seat
returns-clause-seat g c =
    let shared = c.args.self.now.table.shared in
    still_made shared.table_id g.W.World.files shared.key.geometry c.args.seat.now.id _ c.args.seat.now c.load.new.seat c.requires.seat c.load.ensures.seat c.load.ensures.told
