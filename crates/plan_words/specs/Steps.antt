-- How a step of the program is tied to a reader of the grammar.
use Rattle.std.specs.Prelude.{◌≡◌, Result, Ok, Err}
use Rattle.plan_words.specs.declared.fault.PlanKind.{PlanKind}
use Rattle.plan_words.specs.declared.fault.Stop.{Stop}
use Rattle.plan_words.specs.declared.fault.Stop.TheVariants.{Fault, NoMemory}

-- what a step that takes no memory answered is what reading gives, where `view` is what contracts see of the answer
abbrev pub Gives : {X Y : Type 0} → (X → Y) → Result X PlanKind → Result Y PlanKind → Type 0
Gives view (Ok x) read = read ≡ Ok (view x)
Gives view (Err e) read = read ≡ Err e

-- the same of a step that takes memory, which may be refused
abbrev pub GivesOr : {X Y : Type 0} → (X → Y) → Result X Stop → Result Y PlanKind → Type 0
GivesOr view (Ok x) read = read ≡ Ok (view x)
GivesOr view (Err (Fault fault)) read = read ≡ Err fault
GivesOr view (Err NoMemory) read = Unit {0}
