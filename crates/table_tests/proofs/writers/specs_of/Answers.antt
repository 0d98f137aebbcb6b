use Rattle.std.proofs.Common.{List, ◌∷◌, [], ◌++◌, ap, ◌∙◌}
use Rattle.std.proofs.lemmas.List.Elements.{All-same, All-push}
use Rattle.orc_writer.specs.declared.column_spec.ColumnSpec.{ColumnSpec}
use Rattle.orc_writer.specs.Given.{IsSpec}
use Rattle.table_tests.proofs.writers.specs_of.Goals as goal

pub loop-i-preserved : goal.loop-i-preserved
loop-i-preserved c =
    let x = c.in_ok-spec.spec in
    All-same IsSpec c.push_reserved.new.self.items (c.loop-i.specs.items ++ x ∷ [])
    (c.push_reserved.ensures.items ∙ ap (λ (l : List ColumnSpec). l ++ x ∷ []) c.reserve.ensures.items) (All-push IsSpec c.loop-i.specs.items x c.loop-i.invariant c.in_ok-spec.ensures)
