use Rattle.std.proofs.Common.{◌<◌, sym, subst}
use Rattle.table_columns.specs.Shapes.{RowFits}
use Rattle.orc_writer.specs.Writing.{Writing, shapes}
use Rattle.orc_writer.proofs.Stepping.{row_is, row_pushes}
use Rattle.orc_writer.proofs.writer.Writer.add_row.Goals as goal

pub invariant_of-self-2 : goal.invariant_of-self-2
invariant_of-self-2 c =
    let w : Writing = record {
      bytes = c.self.inside.bytes.items;
      stripes = c.self.inside.stripes.items;
      columns = c.self.inside.columns.items;
      waiting = c.self.inside.waiting;
      stripe_rows = c.self.inside.stripe_rows;
      pushed = c.self.inside.pushed;
    } in
    row_is w c.push_values.new.columns.items c.args.row.now (subst (λ (s : Writing). RowFits (shapes s) c.args.row.now) (sym c.self.view_is) c.requires.row)
    (subst (λ (s : Writing). s.waiting < s.stripe_rows) (sym c.self.view_is) c.requires.room) c.in_ok-push_values.ensures.ok c.self.invariant

pub returns-clause-ok : goal.returns-clause-ok
returns-clause-ok c =
    let w : Writing = record {
      bytes = c.self.inside.bytes.items;
      stripes = c.self.inside.stripes.items;
      columns = c.self.inside.columns.items;
      waiting = c.self.inside.waiting;
      stripe_rows = c.self.inside.stripe_rows;
      pushed = c.self.inside.pushed;
    } in
    rw (← c.self.view_is)
    (row_pushes w c.push_values.new.columns.items c.args.row.now (subst (λ (s : Writing). RowFits (shapes s) c.args.row.now) (sym c.self.view_is) c.requires.row) c.in_ok-push_values.ensures.ok)
