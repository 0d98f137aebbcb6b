-- How many stripes there are.
use Rattle.std.proofs.Common.{◌≡◌, ℕ, ◌+◌, ◌*◌, ◌≤◌, List, [], ◌∷◌, length, refl, arith}
use Rattle.orc_tail.specs.declared.stripe.Stripe.{Stripe}
use Rattle.orc_rows.specs.Rows.{Rows, HaveRows}
use Rattle.orc_rows.specs.Rows.HaveRows.{none, next}
use Rattle.table_columns.specs.Files.{AreFilled}

pub few_stripes : (file : List ℕ) (stripes : List Stripe) (rows : Rows) → AreFilled 10000 stripes → HaveRows file [] stripes rows
    → 10000 * length stripes ≤ rows.count + 9999
few_stripes file [] rows filled has = omega arith
few_stripes file (s ∷ []) rows filled (next values more here rest) = omega (arith, filled.0)
few_stripes file (s ∷ t ∷ stripes) rows filled (next values more here rest) =
    omega (arith, filled.0, few_stripes file (t ∷ stripes) more filled.1 rest)
