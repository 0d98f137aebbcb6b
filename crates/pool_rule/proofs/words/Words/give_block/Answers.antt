use Rattle.std.proofs.Common.{ℕ, ◌/◌, ◌%◌, ◌^◌, ◌<◌, sym, subst, arith, bit_and}
use Rattle.std.specs.Int.{w64, bit_not}
use Rattle.buddy_arena.specs.Block.{IsMask}
use Rattle.pool_rule.specs.declared.aim.Aim.TheVariants.{Return}
use Rattle.pool_rule.specs.Layout.{places_of}
use Rattle.pool_rule.specs.Plays.{IsAllowed, told_by}
use Rattle.pool_rule.proofs.Allowed.{give_allowed}
use Rattle.pool_rule.proofs.Blocks.{place_below}
use Rattle.pool_rule.proofs.TableSeats.{still_made}
use Rattle.pool_rule.proofs.words.Words.give_block.Goals as goal

pub and-requires-clause-index : goal.and-requires-clause-index
and-requires-clause-index g c =
    let below = place_below (places_of c.args.self.now.table.shared.key.geometry) c.args.block c.requires.block.inside in
    omega (arith, c.args.self.now.all_words, below)

pub and-requires-clause-allowed : goal.and-requires-clause-allowed
and-requires-clause-allowed g c =
    let shared = c.args.self.now.table.shared in
    let seat = c.args.seat.now in
    let b = c.args.block in
    let bits : ℕ = c.mask-bits.result in
    let M : ℕ → Type 0 = λ m. IsMask m (b.place % 64) b.order in
    let F : ℕ → Type 0 = λ m. m < 2 ^ 64 in
    let P : ℕ → Type 0 = λ m. IsAllowed g.W.World.files shared.key seat.id seat.me.0 (b.place / 64) (λ n. bit_and n (bit_not w64 m)) (told_by g.W.World.files shared.key.geometry seat.id (Return c.args.block)) in
    let value = c.mask-bits.ensures.value in
    let fits : bits < 2 ^ 64 = omega arith in
    subst P (sym value) (give_allowed g.W.World.files shared.key c.args.self.now.few seat.id seat.me.0 c.requires.seat.live.numbers c.covers_in_arena.ensures b c.requires.block (subst M value c.mask-bits.ensures.mask) c.clearing_gives.ensures c.requires.granted (subst F value fits))

pub returns-clause-seat : goal.returns-clause-seat
returns-clause-seat g c =
    let shared = c.args.self.now.table.shared in
    still_made shared.table_id g.W.World.files shared.key.geometry c.args.seat.now.id _ c.args.seat.now c.and.new.seat c.requires.seat c.and.ensures.seat c.and.ensures.told
