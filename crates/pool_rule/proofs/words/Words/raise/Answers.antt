use Rattle.std.proofs.Common.{ℕ, sym, subst}
use Rattle.std.specs.Prelude.{max}
use Rattle.pool_rule.specs.declared.aim.Aim.TheVariants.{Raise}
use Rattle.pool_rule.specs.Plays.{IsAllowed, told_by}
use Rattle.pool_rule.proofs.Eviction.{raise_allowed}
use Rattle.pool_rule.proofs.TableSeats.{still_made}
use Rattle.pool_rule.proofs.Updates.{free_is_word}
use Rattle.pool_rule.proofs.words.Words.raise.Goals as goal

pub index-index-requires : goal.index-index-requires
index-index-requires g c = free_is_word c.args.self.now.table.shared.key.geometry c.args.word c.requires.free

pub raise_to-requires-clause-allowed : goal.raise_to-requires-clause-allowed
raise_to-requires-clause-allowed g c =
    let shared = c.args.self.now.table.shared in
    let seat = c.args.seat.now in
    let P : ℕ → Type 0 = λ i. IsAllowed g.W.World.files shared.key seat.id seat.me.0 i (λ n. max n c.args.to) (told_by g.W.World.files shared.key.geometry seat.id (Raise c.args.word c.args.to)) in
    subst P (sym c.index-index.ensures.same) (raise_allowed g.W.World.files shared.key c.args.self.now.few seat.id seat.me.0 c.requires.seat.live.numbers c.args.word c.args.to c.requires.free)

pub returns-clause-seat : goal.returns-clause-seat
returns-clause-seat g c =
    let shared = c.args.self.now.table.shared in
    still_made shared.table_id g.W.World.files shared.key.geometry c.args.seat.now.id _ c.args.seat.now c.raise_to.new.seat c.requires.seat c.raise_to.ensures.seat c.raise_to.ensures.told
