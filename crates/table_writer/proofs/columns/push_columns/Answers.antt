use Rattle.table_writer.proofs.Standing.{stand_more}
use Rattle.table_writer.proofs.columns.push_columns.Goals as goal

pub loop-i-preserved : goal.loop-i-preserved
loop-i-preserved c =
    stand_more c.args.columns.now c.loop-i.i c.args.rows c.index-columns-i.result (record { parts = c.loop-i.parts.items; encodings = c.loop-i.encodings.items })
    (record { parts = c.push_column.new.parts.items; encodings = c.push_column.new.encodings.items })
    c.streams_are_added.ensures.column c.requires.columns c.loop-i-test.true c.index-columns-i.is c.loop-i.invariant c.in_ok-push_column.ensures
