-- A generated file, as its readers find it. Source: this project's own, over the definitions of the readers.
use Rattle.std.specs.Prelude.{◌≡◌, ℕ, ◌+◌, ◌*◌, ◌≤◌, List, [], ◌∷◌, length, map, All, Ok}
use Rattle.orc_tail.specs.declared.stripe.Stripe.{Stripe}
use Rattle.orc_tail.specs.declared.stripe_footer.StripeFooter.{StripeFooter}
use Rattle.orc_tail.specs.StripeFooter.{stripe_footer}
use Rattle.orc_tail.specs.Tail.{greatest_len, tail}
use Rattle.table_columns.specs.Shapes.{Shape}
use Rattle.table_columns.specs.Files.{IsFile}
use Rattle.orc_writer.specs.Given.{AreOfSpecs}
use Rattle.generated_file.specs.Columns.{generated_columns, read_columns, rows_of}

-- the rows of a stripe, of which the last may have fewer
abbrev pub stripe_rows : ℕ
stripe_rows = 10000

-- The encodings of a stripe: DIRECT of the root, DIRECT_V2 of `id`, DIRECT of `even`, DICTIONARY_V2 of `city`, DIRECT_V2 of `note` and
-- DIRECT of `qty`.
abbrev pub HasEncodings : List ℕ → Stripe → Type 0
HasEncodings file stripe = (footer : StripeFooter) × (stripe_footer file stripe ≡ Ok footer)
    × (map (λ e. e.kind) footer.encodings ≡ 0 ∷ 2 ∷ 0 ∷ 3 ∷ 2 ∷ 0 ∷ [])

-- A file of these columns, by their names and kinds, with just these rows, whichever columns are read, in as few stripes as that takes,
-- each with these encodings; and its tail is read as the stripes and the columns, if it isn't too large.
pub record IsGenerated (number rows : ℕ) (file : List ℕ) : Type 0 where
  pub shapes : List Shape
  pub columns_are : AreOfSpecs generated_columns shapes
  pub file_is : IsFile shapes stripe_rows (rows_of number rows) file
  pub encodings : All (HasEncodings file) file_is.stripes
  pub few : stripe_rows * length file_is.stripes ≤ rows + 9999
  pub tail_is : length file ≤ greatest_len → tail file ≡ Ok (record { stripes = file_is.stripes; columns = read_columns })
