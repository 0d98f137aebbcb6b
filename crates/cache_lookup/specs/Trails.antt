-- What is said of a list of steps: which are among them, and what the first and the last of them on a word gave.
use Rattle.std.specs.Prelude.{◌≡◌, ◌==◌, ℕ, if◌then◌else◌, List, [], ◌∷◌, ◌⊎◌, map, Option, None, Some}
use Rattle.std.specs.Option.{option_or}
use Rattle.pool_rule.specs.declared.geometry.Geometry.{Geometry}
use Rattle.pool_rule.specs.declared.view.Access.TheVariants.{Loaded, Exchanged, Failed, Changed}
use Rattle.pool_rule.specs.declared.view.Event.{Event}
use Rattle.pool_rule.specs.declared.view.Event.TheVariants.{Stepped, Parted, Joined}
use Rattle.pool_rule.specs.declared.word_step.WordStep.{WordStep}
use Rattle.pool_rule.specs.WordSteps.{event_of}

-- it is one of them
abbrev pub Among : {A : Type 0} → A → List A → Type 0
Among a [] = ⊥
Among a (x ∷ xs) = (x ≡ a) ⊎ Among a xs

-- the value that a load of that word gave
abbrev pub loaded : ℕ → Event → Option ℕ
loaded word (Stepped w old new Loaded) = if w == word then Some old else None
loaded word (Stepped w old new Exchanged) = None
loaded word (Stepped w old new Failed) = None
loaded word (Stepped w old new Changed) = None
loaded word (Parted numbers) = None
loaded word Joined = None

-- the value with which a step on that word left it
abbrev pub left : ℕ → Event → Option ℕ
left word (Stepped w old new access) = if w == word then Some new else None
left word (Parted numbers) = None
left word Joined = None

-- the value that the first load of the word gave, where one of the events is a load of it
abbrev pub first_load : ℕ → List Event → Option ℕ
first_load word [] = None
first_load word (e ∷ es) = option_or (loaded word e) (first_load word es)

-- the value that the last load of the word gave
abbrev pub last_load : ℕ → List Event → Option ℕ
last_load word [] = None
last_load word (e ∷ es) = option_or (last_load word es) (loaded word e)

-- the value with which the last step on the word left it
abbrev pub last_left : ℕ → List Event → Option ℕ
last_left word [] = None
last_left word (e ∷ es) = option_or (last_left word es) (left word e)

-- the steps as a trail keeps them
abbrev pub events : Geometry → List WordStep → List Event
events g ss = map (event_of g) ss
