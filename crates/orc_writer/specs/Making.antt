-- Columns that were given, before their first row. Source: this project's own.
use Rattle.std.specs.Prelude.{◌≡◌, List, [], ◌∷◌, ◌++◌, Some}
use Rattle.orc_columns.specs.Spelling.{spelling_of}
use Rattle.table_columns.specs.declared.table_column.Content.{Content}
use Rattle.table_columns.specs.declared.table_column.Content.TheVariants.{Written, Opaque}
use Rattle.table_columns.specs.declared.table_column.TableColumn.{TableColumn}
use Rattle.orc_writer.specs.declared.column_spec.ColumnSpec.{ColumnSpec}
use Rattle.orc_writer.specs.Given.{number_of}

-- it is written, and has no rows
abbrev pub IsMadeBy : ColumnSpec → Content → Type 0
IsMadeBy spec (Written buffer) = (spelling_of spec.kind (Some (number_of spec.spelling)) ≡ Some buffer.spelling) × (buffer.rows ≡ [])
IsMadeBy spec (Opaque streams) = ⊥

-- the column that was given
pub record IsMadeOf (spec : ColumnSpec) (c : TableColumn) : Type 0 where
  pub name : c.column.name ≡ spec.name
  pub kind : c.column.kind ≡ spec.kind
  pub children : c.column.children.items ≡ []
  pub content : IsMadeBy spec c.content

-- so is each, in order
abbrev pub AreMade : List ColumnSpec → List TableColumn → Type 0
AreMade [] [] = Unit {0}
AreMade [] (c ∷ columns) = ⊥
AreMade (spec ∷ specs) [] = ⊥
AreMade (spec ∷ specs) (c ∷ columns) = IsMadeOf spec c × AreMade specs columns

-- a column more
abbrev pub AddsMade : List TableColumn → List TableColumn → ColumnSpec → Type 0
AddsMade before after spec = (c : TableColumn) × (after ≡ before ++ c ∷ []) × IsMadeOf spec c
