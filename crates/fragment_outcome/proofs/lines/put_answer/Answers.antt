use Rattle.std.proofs.Common.{◌∙◌, ap, sym, List, ℕ, length}
use Rattle.std.specs.Fmt.{decimal}
use Rattle.orc_values.specs.Column.{RowValues}
use Rattle.group_counts.specs.Entries.{Entries}
use Rattle.fragment_outcome.specs.Text.{ended, rows_text}
use Rattle.fragment_outcome.proofs.OnTheWay.{Wrote-then, Wrote-as}
use Rattle.fragment_outcome.proofs.lines.put_answer.Goals as goal

pub returns-in-Rows : goal.returns-in-Rows
returns-in-Rows g c =
    rw c.in-Rows.is (Wrote-then c.put.ensures
    (Wrote-then (Wrote-as c.put_count.ensures (ap (λ (rows : List RowValues). ended (decimal (length rows))) c.as_slice.ensures))
    (Wrote-as c.put_rows.ensures (ap (λ (rows : List RowValues). rows_text rows) c.as_slice-in-Rows.ensures))))

pub returns-in-Count : goal.returns-in-Count
returns-in-Count g c = rw c.in-Count.is (Wrote-then c.put-in-Count.ensures (Wrote-then c.put_number.ensures c.put-in-Count-2.ensures))

pub returns-in-Group : goal.returns-in-Group
returns-in-Group g c =
    rw c.in-Group.is (Wrote-then c.put-in-Group.ensures
    (Wrote-then (Wrote-as c.put_count-in-Group.ensures (ap (λ (n : ℕ). ended (decimal n)) (c.len.ensures ∙ ap (λ (es : Entries). length es) c.counts.ensures.same)))
    c.put_groups.ensures))
