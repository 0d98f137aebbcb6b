-- What is seen of scratch. Source: this project's own.
use Rattle.pool_rule.specs.declared.geometry.Geometry.{Geometry}
use Rattle.held_ranges.specs.Moments.{AreEmpty}
use Rattle.io_elevator.specs.declared.scratch.Scratch.{Scratch}
use Rattle.io_elevator.specs.Sound.{IsFresh}

-- nothing is held in it, and it is for caches of those sizes
abbrev pub IsFreshFor : {W : Type 0} → Geometry → Scratch W → Type 0
IsFreshFor g scratch = IsFresh g scratch.slots.items scratch.streams.items

-- nothing is held in it
abbrev pub IsIdle : {W : Type 0} → Scratch W → Type 0
IsIdle scratch = AreEmpty scratch.slots.items
