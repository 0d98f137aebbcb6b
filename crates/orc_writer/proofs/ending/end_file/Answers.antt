use Rattle.std.proofs.Common.{List, subst, ◌∙◌}
use Rattle.tail_writer.specs.declared.file_column.FileColumn.{FileColumn}
use Rattle.orc_writer.specs.Ending.{IsEnded}
use Rattle.orc_writer.proofs.Stepping.{is_ended}
use Rattle.orc_writer.proofs.ending.end_file.Goals as goal

pub returns : goal.returns
returns c =
    subst (λ (l : List FileColumn). IsEnded c.args.file.items c.put.new.out.items c.args.stripes.now l c.args.rows) (c.deref.ensures.value ∙ c.in_ok-columns.ensures)
    (is_ended c.args.file.items c.put.new.out.items c.in-Ok.tail.items c.deref-2.result.now c.args.stripes.now c.deref.result.now c.args.rows c.in-Ok.ensures.tail c.in-Ok.ensures.told
    c.deref-2.ensures.value c.in_ok-put.ensures.ok)
