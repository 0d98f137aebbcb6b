-- The end of a file. Source: Apache ORC specification v1, "File Structure".
use Rattle.std.specs.Prelude.{◌≡◌, ℕ, ◌≤◌, List, ◌++◌, length, map, All, Ok}
use Rattle.orc_tail.specs.declared.stripe.Stripe.{Stripe}
use Rattle.orc_tail.specs.Tail.{greatest_len, most_stripes, stripe_end, tail}
use Rattle.tail_writer.specs.declared.file_column.FileColumn.{FileColumn}
use Rattle.tail_writer.specs.Columns.{top_columns_from}
use Rattle.tail_writer.specs.Tails.{Tells}
use Rattle.table_columns.specs.declared.table_column.TableColumn.{TableColumn}

-- what the footer says of columns
abbrev pub file_columns_of : List TableColumn → List FileColumn
file_columns_of columns = map (λ c. c.column) columns

-- Behind the bytes before stands a tail of these stripes, these columns and so many rows, and nothing else. Where the stripes end in
-- the bytes before, the whole is a file with just these stripes and columns, if it isn't too large and hasn't too many stripes.
pub record IsEnded (before after : List ℕ) (stripes : List Stripe) (columns : List FileColumn) (rows : ℕ) : Type 0 where
  pub end : List ℕ
  pub joined : after ≡ before ++ end
  pub told : Tells end stripes columns rows
  pub tail_is : All (λ stripe. stripe_end stripe ≤ length before) stripes → length after ≤ greatest_len → length stripes ≤ most_stripes
      → tail after ≡ Ok (record { stripes = stripes; columns = top_columns_from 1 columns })
