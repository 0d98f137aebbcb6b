use Rattle.std.proofs.Common.{◌∙◌, [], length, replicate, sym, List}
use Rattle.std.proofs.lemmas.List.{length-replicate}
use Rattle.orc_values.specs.declared.value.Value.{Value}
use Rattle.batch_masks.specs.Kept.{kept}
use Rattle.batch_masks.specs.Rows.{rows_of}
use Rattle.batch_masks.specs.RowsLaws.{length-rows_from}
use Rattle.fold_rows.proofs.Rows.{length-kept, count-length}
use Rattle.fold_rows.proofs.kept.with_kept_rows.Goals as goal

pub returns-in-Count-clause-state : goal.returns-in-Count-clause-state
returns-in-Count-clause-state c =
    let none : List Value = [] in
    let mask = c.args.mask.now in
    let rows = rows_of (length mask) c.args.columns.now in
    rw c.in-Count.is (c.count_with.ensures.state ∙ count-length c.args.state (replicate c.count_present.result none) (kept mask rows)
    (length-replicate c.count_present.result none ∙ c.count_present.ensures ∙ sym (length-kept mask rows (sym (length-rows_from 0 (length mask) c.args.columns.now)))))
