use Rattle.std.proofs.Common.{ℕ, sym, ap}
use Rattle.orc_tail.specs.declared.columns.TopColumn.{TopColumn}
use Rattle.orc_tail.proofs.Children.{kind_at}
use Rattle.orc_tail.proofs.top_columns.child.Goals as goal

pub returns : goal.returns
returns c =
    let of_kind : ℕ → TopColumn = λ kind. record { number = c.args.number; kind = kind; name = c.args.name } in
    ap of_kind (sym (kind_at c.args.types.now c.args.number c.index-types-number.result c.requires.is_type))
