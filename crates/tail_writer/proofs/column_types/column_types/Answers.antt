use Rattle.std.proofs.Common.{◌≡◌, ◌+◌, ◌∙◌, drop, length, map, arith}
use Rattle.footer_writer.specs.Views.{file_type_view}
use Rattle.tail_writer.proofs.Growing.{left_is, next_is, numbered_more, typed_more, named_more}
use Rattle.tail_writer.proofs.column_types.column_types.Goals as goal

pub loop-column-preserved : goal.loop-column-preserved
loop-column-preserved c =
    let columns = c.args.columns.now in
    let i = c.loop-column.column-index in
    let column = c.column-item.result in
    let types = c.loop-column.types.items in
    let rest = drop (i + 1) columns in
    let left = left_is columns i column c.column-item.is c.loop-column-test.true in
    let counted : c.len.result ≡ length types = c.len.ensures ∙ c.loop-column.types.ok.0 in
    let here : c.len.result + 1 ≡ length types + 1 = omega (arith, counted) in
    let next = next_is types c.in_ok-types.types.items column c.in_ok-types.ensures in
    record {
      numbered = numbered_more c.loop-column.numbers.items c.push.new.self.items (c.len.result + 1) (length types + 1) (length c.in_ok-types.types.items + 1) column (drop i columns) rest columns
          left c.in_ok-push.ensures.items here next c.loop-column.invariant.numbered;
      named = named_more c.loop-column.names.items c.push-in-loop-column.new.self.items c.as_slice.result column (drop i columns) rest columns
          left c.in_ok-push-2.ensures.items c.as_slice.ensures c.loop-column.invariant.named;
      typed = typed_more (map file_type_view types) (map file_type_view c.in_ok-types.types.items) (length types + 1) (length c.in_ok-types.types.items + 1) column (drop i columns) rest columns
          left c.in_ok-types.ensures next c.loop-column.invariant.typed;
    }
