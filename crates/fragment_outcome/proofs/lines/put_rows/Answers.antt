use Rattle.std.proofs.Common.{◌∙◌, ap, ◌++◌, take, List, ℕ}
use Rattle.orc_values.specs.Column.{RowValues}
use Rattle.fragment_outcome.specs.Text.{ended, row_text, rows_text}
use Rattle.fragment_outcome.proofs.OnTheWay.{Wrote-then, Wrote-as, Wrote-none}
use Rattle.fragment_outcome.proofs.Texts.{flat_map_next}
use Rattle.fragment_outcome.proofs.lines.put_rows.Goals as goal

pub loop-row-init : goal.loop-row-init
loop-row-init g c = Wrote-none _ _ _

pub loop-row-preserved : goal.loop-row-preserved
loop-row-preserved g c =
    let i = c.loop-row.row-index in
    let rows = c.args.rows.now in
    Wrote-as (Wrote-then c.loop-row.invariant (Wrote-then c.put_row.ensures c.put.ensures))
    (ap (λ (r : RowValues). rows_text (take i rows) ++ ended (row_text r)) c.row-item.is ∙ flat_map_next (λ r. ended (row_text r)) rows i c.row-item.result c.loop-row-test.true)
