use Rattle.std.proofs.Common.{◌<◌, take}
use Rattle.std.specs.Prelude.{All}
use Rattle.orc_values.specs.Chosen.{places_of}
use Rattle.fold_tests.proofs.batches.are_within.Given as goal

abbrev pub invariant-loop-place : goal.invariant-loop-place
invariant-loop-place l = All (λ place. place < l.entries) (take l.place (places_of l.numbers))
