use Rattle.std.proofs.Common.{◌-◌, arith}
use Rattle.range_cuts.specs.Cuts.{begun}
use Rattle.range_cuts.proofs.Cutting.{begun_later, go_on}
use Rattle.range_cuts.proofs.laws.cuts_go_on.Goals as goal

pub returns : goal.returns
returns c at len chunk low middle high some p q =
    let a = begun_later chunk low middle some p in
    let b = begun_later chunk middle high some q in
    go_on at len chunk (begun chunk middle - begun chunk low) (begun chunk high - begun chunk middle) (begun chunk low) (begun chunk middle) (begun chunk high - begun chunk low)
    (omega (arith, a)) (omega (arith, a, b))
