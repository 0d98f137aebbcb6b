use Rattle.std.proofs.Common.{◌≡◌, [], refl, sym, subst}
use Rattle.std.proofs.lemmas.Result.{on_ok_weaker}
use Rattle.orc_rows.specs.Rows.{Rows}
use Rattle.table_columns.specs.declared.table_column.Content.TheVariants.{Opaque}
use Rattle.table_columns.specs.declared.table_column.TableColumn.{TableColumn}
use Rattle.orc_writer.specs.Placing.{IsInserted}
use Rattle.orc_writer.specs.Writing.{Writing, Holds}
use Rattle.orc_writer.proofs.Stepping.{opaque_shapes, opaque_holds}
use Rattle.orc_writer.proofs.writer.Writer.push_opaque.Goals as goal

pub returns-clause-columns : goal.returns-clause-columns
returns-clause-columns c =
    let column : TableColumn = record { column = record { name = c.args.name; kind = c.args.kind; children = c.args.children }; content = Opaque c.args.streams } in
    rw (← c.self.view_is)
    (on_ok_weaker c.insert_opaque.result (λ (is : IsInserted c.args.before column c.self.inside.columns.items c.insert_opaque.new.columns.items). opaque_shapes c.args.before column c.self.inside.columns.items c.insert_opaque.new.columns.items is)
    c.insert_opaque.ensures.ok)

pub returns-clause-rows : goal.returns-clause-rows
returns-clause-rows c =
    let column : TableColumn = record { column = record { name = c.args.name; kind = c.args.kind; children = c.args.children }; content = Opaque c.args.streams } in
    let w : Writing = record {
      bytes = c.self.inside.bytes.items;
      stripes = c.self.inside.stripes.items;
      columns = c.self.inside.columns.items;
      waiting = c.self.inside.waiting;
      stripe_rows = c.self.inside.stripe_rows;
      pushed = c.self.inside.pushed;
    } in
    let no_stripes : w.stripes ≡ [] = subst (λ (s : Writing). s.stripes ≡ []) (sym c.self.view_is) c.requires.fresh.0 in
    rw (← c.self.view_is)
    (on_ok_weaker c.insert_opaque.result (λ (is : IsInserted c.args.before column c.self.inside.columns.items c.insert_opaque.new.columns.items). λ (rows : Rows) (holds : Holds w rows). opaque_holds w c.insert_opaque.new.columns.items c.args.before column rows no_stripes is (λ batch. refl) holds)
    c.insert_opaque.ensures.ok)
