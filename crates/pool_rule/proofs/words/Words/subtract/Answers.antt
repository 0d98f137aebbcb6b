use Rattle.std.proofs.Common.{◌+◌, ◌-◌, ◌%◌, ◌^◌}
use mathlib.Core.Option.{none}
use Rattle.atomic_table.specs.Table.{step}
use Rattle.pool_rule.proofs.Allowed.{allows}
use Rattle.pool_rule.proofs.words.Words.subtract.Goals as goal

pub fetch_sub-requires : goal.fetch_sub-requires
fetch_sub-requires g c =
    let shared = c.args.self.now.table.shared in
    let seat = c.args.seat.now in (
      c.requires.seat,
      c.requires.index,
      allows g.W.World.files shared.key shared.table_id.slots seat.id seat.me c.args.index (λ n. (n + (2 ^ 64 - c.args.step)) % 2 ^ 64) g.C.Telling.told (step shared.table_id.slots c.args.index c.args.step 0 none) c.requires.allowed,
    )
