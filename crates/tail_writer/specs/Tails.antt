-- How a file ends. Source: Apache ORC specification v1, "File Tail".
use Rattle.std.specs.Prelude.{◌≡◌, ℕ, ◌≤◌, true, List, ◌++◌, length, Ok}
use Rattle.orc_tail.specs.declared.stripe.Stripe.{Stripe}
use Rattle.orc_tail.specs.declared.columns.TopColumn.{TopColumn}
use Rattle.orc_tail.specs.Messages.{footer_of}
use Rattle.orc_tail.specs.Tail.{greatest_len, most_stripes, stripes_end_by, tail}
use Rattle.footer_writer.specs.Ends.{EndsFile}
use Rattle.footer_writer.specs.Made.{EndsWithNumber}
use Rattle.tail_writer.specs.declared.file_column.FileColumn.{FileColumn}
use Rattle.tail_writer.specs.Columns.{types_of}

-- Whatever stands in front: a file that ends with the bytes has this tail, where it isn't too large, doesn't have too many stripes,
-- and the stripes lie in it.
abbrev pub IsTail : List ℕ → List Stripe → List TopColumn → Type 0
IsTail bytes stripes columns = (front : List ℕ) → length (front ++ bytes) ≤ greatest_len → length stripes ≤ most_stripes
    → stripes_end_by (length (front ++ bytes)) stripes ≡ true → tail (front ++ bytes) ≡ Ok (record { stripes = stripes; columns = columns })

-- The bytes end with a footer. It is read as these stripes and the types of a file of these columns, the root's, each column's and their
-- children's, and its last field, which has the number 6, is the number of rows.
pub record Tells (bytes : List ℕ) (stripes : List Stripe) (columns : List FileColumn) (rows : ℕ) : Type 0 where
  pub footer : List ℕ
  pub ends : EndsFile bytes footer
  pub is_read : footer_of footer ≡ Ok (record { stripes = stripes; types = types_of columns })
  pub told : EndsWithNumber footer 6 rows
