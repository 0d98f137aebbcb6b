use Rattle.std.proofs.Common.{◌≡◌, ◌++◌, map, take}
use Rattle.footer_writer.specs.Views.{file_type_view}
use Rattle.tail_writer.specs.Columns.{leaf}
use Rattle.tail_writer.proofs.column_types.push_leaves.Given as goal

abbrev pub invariant-loop-kind : goal.invariant-loop-kind
invariant-loop-kind l = map file_type_view l.types.items ≡ map file_type_view l.fn.types.items ++ map leaf (take l.kind-index l.kinds)
