use Rattle.std.specs.Prelude.{max}
use mathlib.Core.Option.{none}
use Rattle.atomic_table.specs.Table.{step}
use Rattle.pool_rule.proofs.Allowed.{allows}
use Rattle.pool_rule.proofs.words.Words.raise_to.Goals as goal

pub fetch_max-requires : goal.fetch_max-requires
fetch_max-requires g c =
    let shared = c.args.self.now.table.shared in
    let seat = c.args.seat.now in (
      c.requires.seat,
      c.requires.index,
      allows g.W.World.files shared.key shared.table_id.slots seat.id seat.me c.args.index (λ n. max n c.args.word) g.C.Telling.told (step shared.table_id.slots c.args.index c.args.word 0 none) c.requires.allowed,
    )
