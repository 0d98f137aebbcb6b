use Rattle.std.proofs.Common.{arith}
use Rattle.pool_rule.specs.Seats.{joined}
use Rattle.pool_rule.proofs.Allowed.{join_allowed}
use Rattle.pool_rule.proofs.TableSeats.{still, joined_live}
use Rattle.pool_rule.proofs.words.Words.join.Goals as goal

pub join_seat-requires : goal.join_seat-requires
join_seat-requires g c =
    let shared = c.args.self.now.table.shared in
    let seat = c.args.seat.now in (
      c.requires.seat.table_is,
      c.requires.other.table_is,
      c.requires.other.no_slot,
      omega (arith, c.args.self.now.all_words),
      join_allowed g.W.World.files shared.key seat.id seat.me c.requires.seat.live.numbers c.args.other.id c.args.other.me.0 c.requires.nothing,
    )

pub returns-clause-seat : goal.returns-clause-seat
returns-clause-seat g c =
    let old = c.args.seat.now in
    still c.args.self.now.table.shared.table_id c.args.self.now.table.shared.key.geometry old c.join_seat.new.seat (joined old.me.0 c.args.other.me.0) c.requires.seat c.join_seat.ensures.0 c.join_seat.ensures.1
    c.join_seat.ensures.2 (joined_live c.args.self.now.table.shared.key.geometry old.me.0 c.requires.seat.live c.args.other.me.0)
