use Rattle.std.proofs.Common.{◌≡◌, ◌+◌, ◌++◌, map, length, drop}
use Rattle.footer_writer.specs.Views.{file_type_view}
use Rattle.tail_writer.specs.Columns.{types_from, numbers_from}
use Rattle.tail_writer.proofs.column_types.column_types.Given as goal

abbrev pub invariant-loop-column : goal.invariant-loop-column
invariant-loop-column l = record {
  numbered : l.numbers.items ++ numbers_from (length l.types.items + 1) (drop l.column-index l.columns) ≡ numbers_from 1 l.columns;
  named : map (λ name. name.now) l.names.items ++ map (λ c. c.name) (drop l.column-index l.columns) ≡ map (λ c. c.name) l.columns;
  typed : map file_type_view l.types.items ++ types_from (length l.types.items + 1) (drop l.column-index l.columns) ≡ types_from 1 l.columns;
}
