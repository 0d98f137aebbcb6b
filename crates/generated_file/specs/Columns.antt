-- The columns of a generated file, and its rows, column by column. Source: this project's own.
use Rattle.std.specs.Prelude.{ℕ, List, [], ◌∷◌, codes, map}
use Rattle.std.specs.List.{range_with_len}
use Rattle.orc_tail.specs.declared.columns.TopColumn.{TopColumn}
use Rattle.orc_rows.specs.Rows.{Rows}
use Rattle.orc_writer.specs.declared.column_spec.ColumnSpec.{ColumnSpec}
use Rattle.orc_writer.specs.declared.column_spec.Spelling.{Spelling}
use Rattle.orc_writer.specs.declared.column_spec.Spelling.TheVariants.{Direct, DirectV2, DictionaryV2}
use Rattle.generated_rows.specs.Rows.{id_in, even_in, city_in, note_in, qty_in}

abbrev pub spec_of : List ℕ → ℕ → Spelling → ColumnSpec
spec_of name kind spelling = record { name = name; kind = kind; spelling = spelling }

-- `id` is LONG, `even` BOOLEAN, `city` and `note` STRING, and `qty` INT
abbrev pub generated_columns : List ColumnSpec
generated_columns = spec_of (codes "id") 4 DirectV2
    ∷ spec_of (codes "even") 0 Direct
    ∷ spec_of (codes "city") 7 DictionaryV2
    ∷ spec_of (codes "note") 7 DirectV2
    ∷ spec_of (codes "qty") 3 Direct
    ∷ []

-- the same as a reader of the file's tail sees them: each is the type of the next number
abbrev pub read_columns : List TopColumn
read_columns = record { number = 1; kind = 4; name = codes "id" }
    ∷ record { number = 2; kind = 0; name = codes "even" }
    ∷ record { number = 3; kind = 7; name = codes "city" }
    ∷ record { number = 4; kind = 7; name = codes "note" }
    ∷ record { number = 5; kind = 3; name = codes "qty" }
    ∷ []

-- the first rows of the file of that number
abbrev pub rows_of : ℕ → ℕ → Rows
rows_of number rows = record {
  count = rows;
  columns =
      map (id_in number) (range_with_len 0 rows)
      ∷ map even_in (range_with_len 0 rows)
      ∷ map (city_in number) (range_with_len 0 rows)
      ∷ map note_in (range_with_len 0 rows)
      ∷ map (qty_in number) (range_with_len 0 rows)
      ∷ [];
}
