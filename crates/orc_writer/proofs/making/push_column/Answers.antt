use Rattle.std.proofs.Common.{List, ◌∷◌, ◌++◌, [], ap, ◌∙◌}
use Rattle.table_columns.specs.declared.table_column.TableColumn.{TableColumn}
use Rattle.orc_writer.proofs.making.push_column.Goals as goal

pub returns : goal.returns
returns c =
    (c.table_column.result, c.push_reserved.ensures.items ∙ ap (λ (l : List TableColumn). l ++ c.table_column.result ∷ []) c.reserve.ensures.items, c.table_column.ensures)
