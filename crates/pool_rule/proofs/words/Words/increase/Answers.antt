use Rattle.std.proofs.Common.{ℕ, ◌+◌, ◌%◌, ◌^◌, sym, subst}
use Rattle.pool_rule.specs.declared.aim.Aim.TheVariants.{Increase}
use Rattle.pool_rule.specs.Plays.{IsAllowed, told_by}
use Rattle.pool_rule.proofs.Eviction.{increase_allowed}
use Rattle.pool_rule.proofs.TableSeats.{still_made}
use Rattle.pool_rule.proofs.Updates.{free_is_word}
use Rattle.pool_rule.proofs.words.Words.increase.Goals as goal

pub index-index-requires : goal.index-index-requires
index-index-requires g c = free_is_word c.args.self.now.table.shared.key.geometry c.args.word c.requires.free

pub add-requires-clause-allowed : goal.add-requires-clause-allowed
add-requires-clause-allowed g c =
    let shared = c.args.self.now.table.shared in
    let seat = c.args.seat.now in
    let P : ℕ → Type 0 = λ i. IsAllowed g.W.World.files shared.key seat.id seat.me.0 i (λ n. (n + 1) % 2 ^ 64) (told_by g.W.World.files shared.key.geometry seat.id (Increase c.args.word)) in
    subst P (sym c.index-index.ensures.same) (increase_allowed g.W.World.files shared.key c.args.self.now.few seat.id seat.me.0 c.requires.seat.live.numbers c.args.word c.requires.free)

pub returns-clause-seat : goal.returns-clause-seat
returns-clause-seat g c =
    let shared = c.args.self.now.table.shared in
    still_made shared.table_id g.W.World.files shared.key.geometry c.args.seat.now.id _ c.args.seat.now c.add.new.seat c.requires.seat c.add.ensures.seat c.add.ensures.told
