-- The rows of a generated file, by the file's number and the row's index, which is counted from 0. Source: this project's own.
use Rattle.std.specs.Prelude.{ℕ, ◌+◌, ◌%◌, ◌==◌, ◌-ℤ◌, List, [], ◌∷◌, ◌++◌, codes, pos, slice_index_or, if◌then◌else◌}
use Rattle.std.specs.Fmt.{decimal}
use Rattle.orc_values.specs.declared.value.Value.{Value}
use Rattle.orc_values.specs.declared.value.Value.TheVariants as value

-- the names that stand in turn in `city`
abbrev pub cities : List (List ℕ)
cities = codes "Aarhus" ∷ codes "Bergen" ∷ codes "Cork" ∷ codes "Dijon" ∷ codes "Espoo" ∷ []

abbrev pub id_in : ℕ → ℕ → Value
id_in number index = value.Int (pos (index + number))

-- whether the index is even
abbrev pub even_in : ℕ → Value
even_in index = value.Bool (index % 2 == 0)

abbrev pub city_in : ℕ → ℕ → Value
city_in number index = value.Text (slice_index_or cities ((index + number) % 5) [])

-- `n` and the digits of the index, of which at most the last three stand
abbrev pub note_in : ℕ → Value
note_in index = value.Text (codes "n" ++ decimal (index % 1000))

-- null in each tenth row, and else a number from -3 to 3
abbrev pub qty_in : ℕ → ℕ → Value
qty_in number index = if index % 10 == 9 then value.Null else value.Int (pos ((index + number) % 7) -ℤ pos 3)

-- a row: id, even, city, note, qty
abbrev pub row_in : ℕ → ℕ → List Value
row_in number index = id_in number index ∷ even_in index ∷ city_in number index ∷ note_in index ∷ qty_in number index ∷ []
