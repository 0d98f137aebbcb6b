use Rattle.std.proofs.Common.{◌==◌}
use mathlib.Core.Option.{none}
use prog.Atomic.{either}
use Rattle.atomic_table.specs.Table.{step}
use Rattle.pool_rule.proofs.Allowed.{allows}
use Rattle.pool_rule.proofs.words.Words.exchange.Goals as goal

pub compare_exchange-requires : goal.compare_exchange-requires
compare_exchange-requires g c =
    let shared = c.args.self.now.table.shared in
    let seat = c.args.seat.now in (
      c.requires.seat,
      c.requires.index,
      allows g.W.World.files shared.key shared.table_id.slots seat.id seat.me c.args.index (λ n. either (n == c.args.expected) c.args.word n) g.C.Telling.told (step shared.table_id.slots c.args.index c.args.expected c.args.word none) c.requires.allowed,
    )
