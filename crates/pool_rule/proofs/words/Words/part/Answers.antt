use Rattle.std.proofs.Common.{◌≡◌, ℕ, sym, ap, ◌∙◌, subst, arith}
use Rattle.atomic_table.specs.Table.{Splits}
use Rattle.pool_rule.specs.declared.view.View.{View}
use Rattle.pool_rule.specs.Rule.{IsKept}
use Rattle.pool_rule.specs.Seats.{parted, part_of}
use Rattle.pool_rule.specs.Words.{IsLive}
use Rattle.pool_rule.proofs.Allowed.{split_allowed}
use Rattle.pool_rule.proofs.TableSeats.{still, parted_live, part_live}
use Rattle.pool_rule.proofs.words.Words.part.Goals as goal

pub split_seat-requires : goal.split_seat-requires
split_seat-requires g c =
    let shared = c.args.self.now.table.shared in
    let seat = c.args.seat.now in
    let P : ℕ → Type 0 = λ k. Splits (IsKept g.W.World.files shared.key) seat.id seat.me.0 (parted k seat.me.0) (part_of k seat.me.0) in (
      c.requires.seat.table_is,
      omega (arith, c.args.self.now.all_words),
      subst P (sym c.requires.count) (split_allowed g.W.World.files shared.key seat.id seat.me c.requires.seat.live.numbers c.args.numbers c.requires.numbers.1 c.requires.numbers.0),
    )

pub returns-clause-seat : goal.returns-clause-seat
returns-clause-seat g c =
    let old = c.args.seat.now in
    still c.args.self.now.table.shared.table_id c.args.self.now.table.shared.key.geometry old c.split_seat.new.seat (parted c.args.numbers old.me.0) c.requires.seat c.split_seat.ensures.0 c.split_seat.ensures.1
    (c.split_seat.ensures.2 ∙ ap (λ (k : ℕ). (parted k old.me.0, old.me.1)) c.requires.count) (parted_live c.args.self.now.table.shared.key.geometry old.me.0 c.requires.seat.live c.args.numbers c.requires.numbers.1)

pub returns-clause-new : goal.returns-clause-new
returns-clause-new g c =
    let old = c.args.seat.now in
    let P : View → Type 0 = λ v. IsLive c.args.self.now.table.shared.key.geometry v in
    let is : c.split_seat.result.me.0 ≡ part_of c.args.numbers old.me.0 = ap (λ m. m.0) c.split_seat.ensures.4 ∙ ap (λ (k : ℕ). part_of k old.me.0) c.requires.count in
    record {
      table_is = c.split_seat.ensures.3 ∙ c.requires.seat.table_is;
      live = subst P (sym is) (part_live c.args.self.now.table.shared.key.geometry old.me.0 c.requires.seat.live c.args.numbers c.requires.numbers.0 c.requires.numbers.1);
      no_slot = ap (λ m. m.1) c.split_seat.ensures.4;
    }
