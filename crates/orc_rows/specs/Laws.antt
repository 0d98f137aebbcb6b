-- The laws of rows, which this crate's law functions carry. Source: this project's own.
use Rattle.std.specs.Prelude.{◌≡◌, ℕ, ◌⊎◌, List}
use Rattle.orc_tail.specs.declared.stripe.Stripe.{Stripe}
use Rattle.orc_streams.specs.declared.layout.ReadColumn.{ReadColumn}
use Rattle.orc_rows.specs.declared.fault.RowsFault.{RowsFault}
use Rattle.orc_rows.specs.Rows.{Rows, HaveRows, FirstFails}

-- stripes have rows, or one of them is the first that fails
abbrev pub HaveRowsOrAFault : Type 0
HaveRowsOrAFault = (file : List ℕ) (columns : List ReadColumn) (number : ℕ) (stripes : List Stripe)
    → ((rows : Rows) × HaveRows file columns stripes rows) ⊎ ((fault : RowsFault) × FirstFails file columns number stripes fault)

-- never both
abbrev pub NeverRowsAndAFault : Type 0
NeverRowsAndAFault = (file : List ℕ) (columns : List ReadColumn) (number : ℕ) (stripes : List Stripe) (rows : Rows) (fault : RowsFault)
    → HaveRows file columns stripes rows → FirstFails file columns number stripes fault → ⊥

-- the rows are one
abbrev pub RowsAreOne : Type 0
RowsAreOne = (file : List ℕ) (columns : List ReadColumn) (stripes : List Stripe) (rows others : Rows)
    → HaveRows file columns stripes rows → HaveRows file columns stripes others → rows ≡ others

-- and so is the fault
abbrev pub TheFaultIsOne : Type 0
TheFaultIsOne = (file : List ℕ) (columns : List ReadColumn) (number : ℕ) (stripes : List Stripe) (fault other : RowsFault)
    → FirstFails file columns number stripes fault → FirstFails file columns number stripes other → fault ≡ other
