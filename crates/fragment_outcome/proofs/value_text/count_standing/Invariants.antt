use Rattle.std.proofs.Common.{◌≡◌, take}
use Rattle.fragment_outcome.specs.Text.{escaped}
use Rattle.fragment_outcome.proofs.value_text.count_standing.Given as goal

abbrev pub invariant-loop-index : goal.invariant-loop-index
invariant-loop-index l = escaped (take l.index l.text) ≡ take l.index l.text
