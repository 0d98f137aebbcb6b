-- The columns of the tests' web file that are written: texts by a dictionary, numbers, and truth values. Source: this project's own.
use Rattle.std.specs.Prelude.{◌≡◌, ℕ, List, [], ◌∷◌, codes}
use Rattle.orc_values.specs.declared.value.Value.{Value}
use Rattle.orc_columns.specs.declared.spelling.Spelling.TheVariants.{Bits, Integers, Dictionary}
use Rattle.orc_columns.specs.declared.spelling.Version.TheVariants.{Two}
use Rattle.column_writer.specs.Buffered.{MayStand}
use Rattle.table_columns.specs.Shapes.{Shape, RowFits}
use Rattle.orc_writer.specs.declared.column_spec.ColumnSpec.{ColumnSpec}
use Rattle.orc_writer.specs.declared.column_spec.Spelling.{Spelling}
use Rattle.orc_writer.specs.declared.column_spec.Spelling.TheVariants.{Direct, DirectV2, DictionaryV2}
use Rattle.orc_writer.specs.Given.{count_written}

abbrev pub spec_of : List ℕ → ℕ → Spelling → ColumnSpec
spec_of name kind spelling = record { name = name; kind = kind; spelling = spelling }

abbrev pub web_columns : List ColumnSpec
web_columns = spec_of (codes "url") 7 DictionaryV2 ∷ spec_of (codes "ms") 3 DirectV2 ∷ spec_of (codes "hit") 0 Direct ∷ []

-- three columns are written, and take such rows, whichever columns stand between them
pub record IsWeb (shapes : List Shape) : Type 0 where
  pub count : count_written shapes ≡ 3
  pub takes : (url ms hit : Value) → MayStand (Dictionary Two) url → MayStand (Integers Two) ms → MayStand Bits hit
      → RowFits shapes (url ∷ ms ∷ hit ∷ [])
