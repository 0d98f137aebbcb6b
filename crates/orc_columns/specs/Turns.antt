-- From which streams a call on a column takes, and in which order. Source: this project's own.
use Rattle.std.specs.Prelude.{◌≡◌, ℕ, List, [], ◌∷◌, ◌++◌, Option, Some, None}
use Rattle.outside.specs.Feed.{Taken}
use Rattle.orc_columns.specs.declared.plan.ColumnPlan.{ColumnPlan}
use Rattle.orc_columns.specs.declared.spelling.Spelling.{Spelling}
use Rattle.orc_columns.specs.declared.spelling.Spelling.TheVariants.{Bits, Integers, Texts, Dictionary}
use Rattle.row_flags.specs.Optional.{AllIn}
use Rattle.orc_columns.specs.Spelling.{spelling_of}

-- Takes of the first of these streams, then of the next, and so on: a part for each, which may have no take. The front of
-- such a list is one, too.
abbrev pub InTurn : List (Option ℕ) → List Taken → Type 0
InTurn [] takes = takes ≡ []
InTurn (stream ∷ others) takes = (front : List Taken) × (back : List Taken) × (takes ≡ front ++ back) × AllIn stream front
    × InTurn others back

-- one stream
abbrev pub alone : Option ℕ → List (Option ℕ)
alone stream = stream ∷ []

-- the values of a batch: LENGTH where texts are spelled one by one, then DATA
abbrev pub value_streams : ColumnPlan → Spelling → List (Option ℕ)
value_streams plan Bits = alone plan.body
value_streams plan (Integers version) = alone plan.body
value_streams plan (Texts version) = plan.length ∷ alone plan.body
value_streams plan (Dictionary version) = alone plan.body

-- a batch: PRESENT, then those of its values
abbrev pub batch_by : ColumnPlan → Option Spelling → List (Option ℕ)
batch_by plan None = []
batch_by plan (Some spelling) = plan.present ∷ value_streams plan spelling

abbrev pub batch_streams : ColumnPlan → List (Option ℕ)
batch_streams plan = batch_by plan (spelling_of plan.kind plan.encoding)

-- before the first batch: LENGTH and then DICTIONARY_DATA of a dictionary, and else none
abbrev pub start_by : ColumnPlan → Option Spelling → List (Option ℕ)
start_by plan None = []
start_by plan (Some Bits) = []
start_by plan (Some (Integers version)) = []
start_by plan (Some (Texts version)) = []
start_by plan (Some (Dictionary version)) = plan.length ∷ alone plan.dictionary

abbrev pub start_streams : ColumnPlan → List (Option ℕ)
start_streams plan = start_by plan (spelling_of plan.kind plan.encoding)

-- the values that are judged over all rows: LENGTH, where there are lengths, then DATA where its bytes are runs; no text is read
abbrev pub judged_values : ColumnPlan → Spelling → List (Option ℕ)
judged_values plan Bits = alone plan.body
judged_values plan (Integers version) = alone plan.body
judged_values plan (Texts version) = alone plan.length
judged_values plan (Dictionary version) = plan.length ∷ alone plan.body

-- a whole column that is judged: PRESENT over all rows, then those of its values
abbrev pub judged_by : ColumnPlan → Option Spelling → List (Option ℕ)
judged_by plan None = []
judged_by plan (Some spelling) = plan.present ∷ judged_values plan spelling

abbrev pub judged_streams : ColumnPlan → List (Option ℕ)
judged_streams plan = judged_by plan (spelling_of plan.kind plan.encoding)
