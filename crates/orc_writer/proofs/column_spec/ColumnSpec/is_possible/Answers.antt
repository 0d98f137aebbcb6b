use Rattle.std.proofs.Common.{ℕ, Some, ap, ◌∙◌}
use Rattle.orc_columns.specs.Spelling.{spelling_of}
use Rattle.orc_writer.specs.Given.{number_of}
use Rattle.orc_writer.proofs.Columns.{possible}
use Rattle.orc_writer.proofs.column_spec.ColumnSpec.is_possible.Goals as goal

pub returns : goal.returns
returns c =
    possible c.spelling_of.result (spelling_of c.args.self.now.kind (Some (number_of c.args.self.now.spelling))) c.is_some.result c.is_some.ensures
    (c.spelling_of.ensures ∙ ap (λ (e : ℕ). spelling_of c.args.self.now.kind (Some e)) c.encoding_of.ensures)
