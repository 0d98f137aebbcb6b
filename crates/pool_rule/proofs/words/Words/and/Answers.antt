use Rattle.std.proofs.Common.{bit_and}
use mathlib.Core.Option.{none}
use Rattle.atomic_table.specs.Table.{step}
use Rattle.pool_rule.proofs.Allowed.{allows}
use Rattle.pool_rule.proofs.words.Words.and.Goals as goal

pub fetch_and-requires : goal.fetch_and-requires
fetch_and-requires g c =
    let shared = c.args.self.now.table.shared in
    let seat = c.args.seat.now in (
      c.requires.seat,
      c.requires.index,
      allows g.W.World.files shared.key shared.table_id.slots seat.id seat.me c.args.index (λ n. bit_and n c.args.mask) g.C.Telling.told (step shared.table_id.slots c.args.index c.args.mask 0 none) c.requires.allowed,
    )
