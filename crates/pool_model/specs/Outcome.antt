-- What a call that makes a step or refuses it does.
use Rattle.std.specs.Prelude.{◌≡◌, Result, Ok, Err}
use Rattle.pool_model.specs.declared.pool.PlainPool.{PlainPool}
use Rattle.pool_model.specs.declared.setting.Setting.{Setting}
use Rattle.pool_model.specs.declared.step.Step.{Step}
use Rattle.pool_model.specs.declared.step.Step.TheVariants.{Grant, Ungrant, Open, Name, Fill, Publish, Pin, Unpin}
use Rattle.pool_model.specs.declared.step.Step.TheVariants.{BeginEvict, Release, BeginMove, Copy, Settle, Cancel}
use Rattle.pool_model.specs.declared.step.StepFault.{StepFault}
use Rattle.pool_model.specs.declared.step.StepFault.TheVariants.{Refused, NoMemory}
use Rattle.pool_model.specs.Step.{Needs, after}

-- Ok exactly where the step's needs are met, but for want of memory, and then the new value is the changed one. In every
-- other case it is the old one.
abbrev pub Outcome : {R A : Type 0} → Type 0 → Result R StepFault → Type 0 → A → A → A → Type 0
Outcome memory (Ok _) needs new changed old = needs × (new ≡ changed)
Outcome memory (Err Refused) needs new changed old = (needs → ⊥) × (new ≡ old)
Outcome memory (Err NoMemory) needs new changed old = memory × needs × (new ≡ old)

-- the steps that take memory
abbrev pub TakesMemory : Step → Type 0
TakesMemory (Grant seat b) = ⊥
TakesMemory (Ungrant seat b) = ⊥
TakesMemory (Open seat header b cells) = ⊥
TakesMemory (Name seat header key) = ⊥
TakesMemory (Fill seat header value) = ⊥
TakesMemory (Publish seat header) = Unit {0}
TakesMemory (Pin seat header) = Unit {0}
TakesMemory (Unpin seat header) = ⊥
TakesMemory (BeginEvict seat header) = ⊥
TakesMemory (Release seat header) = ⊥
TakesMemory (BeginMove seat header target cells) = ⊥
TakesMemory (Copy seat header) = ⊥
TakesMemory (Settle seat header) = ⊥
TakesMemory (Cancel seat header) = ⊥

-- what a call that makes a step of the pool or refuses it does, from the old pool to the new one
abbrev pub Makes : Setting → Step → Result (Unit {0}) StepFault → PlainPool → PlainPool → Type 0
Makes setting step result old new = Outcome (TakesMemory step) result (Needs setting step old) new (after step old) old
