use Rattle.std.proofs.Common.{List, subst}
use Rattle.std.proofs.lemmas.Result.{IfOk-weaker}
use Rattle.orc_tail.specs.declared.stripe.Stripe.{Stripe}
use Rattle.table_columns.specs.declared.table_column.TableColumn.{TableColumn}
use Rattle.orc_writer.specs.Ending.{file_columns_of, IsEnded}
use Rattle.orc_writer.specs.Stripes.{AddsLast}
use Rattle.orc_writer.specs.Writing.{Writing, IsMade}
use Rattle.orc_writer.proofs.Stepping.{at_end, is_made}
use Rattle.orc_writer.proofs.writer.Writer.into_file.Goals as goal

pub returns : goal.returns
returns c =
    let w : Writing = record {
      bytes = c.self.inside.bytes.items;
      stripes = c.self.inside.stripes.items;
      columns = c.self.inside.columns.items;
      waiting = c.self.inside.waiting;
      stripe_rows = c.self.inside.stripe_rows;
      pushed = c.self.inside.pushed;
    } in
    let bytes = c.push_last.new.bytes.items in
    let stripes = c.push_last.new.stripes.items in
    let adds = subst (λ (l : List TableColumn). AddsLast w.bytes bytes w.stripes stripes l w.waiting) c.deref.ensures.value c.in_ok-push_last.ensures in
    let end = at_end w bytes stripes c.self.invariant adds in
    rw (← c.self.view_is)
    (IfOk-weaker c.end_file.result (λ made. IsEnded bytes made.items c.deref-2.result.now (file_columns_of w.columns) w.pushed) (λ made. IsMade w made.items)
    (λ made ended. is_made w bytes made.items stripes end (subst (λ (l : List Stripe). IsEnded bytes made.items l (file_columns_of w.columns) w.pushed) c.deref-2.ensures.value ended)) c.end_file.ensures)
