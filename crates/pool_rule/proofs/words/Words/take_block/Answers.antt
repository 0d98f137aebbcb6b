use Rattle.std.proofs.Common.{◌==◌, ℕ, ◌/◌, ◌%◌, sym, subst, inl, inr, bit_or}
use Rattle.std.proofs.lemmas.Bool.{cases_eq}
use prog.Atomic.{either}
use Rattle.buddy_arena.specs.Block.{IsMask}
use Rattle.pool_rule.specs.declared.aim.Aim.TheVariants.{Take}
use Rattle.pool_rule.specs.Plays.{IsAllowed, told_by}
use Rattle.pool_rule.proofs.Allowed.{take_allowed}
use Rattle.pool_rule.proofs.TableSeats.{still_made}
use Rattle.pool_rule.proofs.words.Words.take_block.Goals as goal

pub exchange-saw-requires-clause-allowed : goal.exchange-saw-requires-clause-allowed
exchange-saw-requires-clause-allowed g c =
    let shared = c.args.self.now.table.shared in
    let seat = c.args.seat.now in
    let b = c.args.block in
    let M : ℕ → Type 0 = λ m. IsMask m (b.place % 64) b.order in
    let P : ℕ → Type 0 = λ m. IsAllowed g.W.World.files shared.key seat.id seat.me.0 (b.place / 64) (λ n. either (n == c.args.seen) (bit_or c.args.seen m) n) (told_by g.W.World.files shared.key.geometry seat.id (Take c.args.block c.args.seen)) in
    let value = c.mask-bits.ensures.value in
    subst P (sym value) (take_allowed g.W.World.files shared.key c.args.self.now.few seat.id seat.me.0 c.requires.seat.live.numbers c.covers_in_arena.ensures b c.requires.block (subst M value c.mask-bits.ensures.mask) c.setting_takes.ensures c.args.seen c.requires.clear)

pub returns-then-saw-seen-clause-seat : goal.returns-then-saw-seen-clause-seat
returns-then-saw-seen-clause-seat g c =
    let shared = c.args.self.now.table.shared in
    let told = c.exchange-saw.ensures.told in
    elim (cases_eq c.exchange-saw.result c.args.seen) [
      | inl hit ↦ still_made shared.table_id g.W.World.files shared.key.geometry c.args.seat.now.id _ c.args.seat.now c.exchange-saw.new.seat c.requires.seat c.exchange-saw.ensures.seat (told.0 hit)
      | inr miss ↦ still_made shared.table_id g.W.World.files shared.key.geometry c.args.seat.now.id _ c.args.seat.now c.exchange-saw.new.seat c.requires.seat c.exchange-saw.ensures.seat (told.1 miss)
    ]

pub returns-else-saw-seen-clause-seat : goal.returns-else-saw-seen-clause-seat
returns-else-saw-seen-clause-seat g c =
    let shared = c.args.self.now.table.shared in
    let told = c.exchange-saw.ensures.told in
    elim (cases_eq c.exchange-saw.result c.args.seen) [
      | inl hit ↦ still_made shared.table_id g.W.World.files shared.key.geometry c.args.seat.now.id _ c.args.seat.now c.exchange-saw.new.seat c.requires.seat c.exchange-saw.ensures.seat (told.0 hit)
      | inr miss ↦ still_made shared.table_id g.W.World.files shared.key.geometry c.args.seat.now.id _ c.args.seat.now c.exchange-saw.new.seat c.requires.seat c.exchange-saw.ensures.seat (told.1 miss)
    ]
