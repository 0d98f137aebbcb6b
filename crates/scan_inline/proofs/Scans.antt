-- The scan of a fragment that is one.
use Rattle.std.proofs.Common.{◌≡◌, Option, None, Some, refl}
use Rattle.std.specs.Prelude.{IsSome}
use Rattle.fragment_plan.specs.declared.fragment.Scan.{Scan}

pub the_scan : (o : Option Scan) → IsSome o → (scan : Scan) × (o ≡ Some scan)
the_scan None is = absurd cc
the_scan (Some scan) is = (scan, refl)
