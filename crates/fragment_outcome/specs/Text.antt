-- What is printed of a fragment's outcome (this project's own). Every line ends with byte 0A; values in a line are parted by one tab.
use Rattle.std.specs.Prelude.{ℕ, ◌+◌, ◌/◌, ◌%◌, Bool, true, false, ◌||◌, ◌==◌, nat_lt, nat_le, not, ◌&&◌, if◌then◌else◌}
use Rattle.std.specs.Prelude.{List, [], ◌∷◌, ◌++◌, length, map, slice_get, Option, Some, None, codes}
use Rattle.std.specs.Fmt.{decimal, signed_decimal}
use Rattle.std.specs.List.{flat_map, join_with_byte}
use Rattle.orc_values.specs.declared.value.Value.{Value}
use Rattle.orc_values.specs.declared.value.Value.TheVariants as value
use Rattle.fragment_plan.specs.declared.fragment.Fragment.{Fragment}
use Rattle.fragment_outcome.specs.declared.answer.Answer.{Answer}
use Rattle.fragment_outcome.specs.declared.answer.Answer.TheVariants as answer
use Rattle.fragment_outcome.specs.declared.failure.Failure.{Failure}
use Rattle.fragment_outcome.specs.declared.failure.Failure.TheVariants as failure
use Rattle.fragment_outcome.specs.declared.outcome.Outcome.{Outcome}
use Rattle.fragment_outcome.specs.declared.outcome.Outcome.TheVariants as outcome
use Rattle.fragment_outcome.specs.Words.{tail_words, column_words}

-- a text and the byte that ends a line
abbrev pub ended : List ℕ → List ℕ
ended text = text ++ 10 ∷ []

-- a lower-case hexadecimal digit
abbrev pub hex_digit : ℕ → ℕ
hex_digit d = if nat_lt d 10 then 48 + d else 87 + d

-- whether a byte of a text stands as it is
abbrev pub stands : ℕ → Bool
stands b = nat_le 32 b && not (b == 127) && not (b == 34) && not (b == 92)

-- A byte of a text: `"` and `\` have a `\` before them, a byte below 20 or equal to 7F is `\x` and two digits, and all other
-- bytes stand as they are.
abbrev pub escaped_byte : ℕ → List ℕ
escaped_byte b =
    if b == 34 || b == 92 then 92 ∷ b ∷ []
    else if nat_lt b 32 || b == 127 then 92 ∷ 120 ∷ hex_digit (b / 16) ∷ hex_digit (b % 16) ∷ []
    else b ∷ []

abbrev pub escaped : List ℕ → List ℕ
escaped bytes = flat_map escaped_byte bytes

-- a value: null, a truth value, a decimal number, or a text in double quotes
abbrev pub value_text : Value → List ℕ
value_text value.Null = codes "null"
value_text (value.Bool true) = codes "true"
value_text (value.Bool false) = codes "false"
value_text (value.Int n) = signed_decimal n
value_text (value.Text text) = 34 ∷ escaped text ++ 34 ∷ []

-- values, each behind a tab
abbrev pub tabbed : List Value → List ℕ
tabbed values = flat_map (λ v. 9 ∷ value_text v) values

-- the values of a row
abbrev pub row_text : List Value → List ℕ
row_text row = join_with_byte 9 (map value_text row)

-- a line for each row
abbrev pub rows_text : List (List Value) → List ℕ
rows_text rows = flat_map (λ row. ended (row_text row)) rows

-- a line for each key: the key and its number
abbrev pub groups_text : List (Value × ℕ) → List ℕ
groups_text groups = flat_map (λ e. ended (value_text e.0 ++ 9 ∷ decimal e.1)) groups

-- a fragment's answer, behind its name
abbrev pub answer_text : Answer → List ℕ
answer_text (answer.Rows table) = ended (codes " rows " ++ decimal (length table)) ++ rows_text table
answer_text (answer.Count number) = ended (codes " count " ++ signed_decimal number)
answer_text (answer.Sum None) = ended (codes " sum null")
answer_text (answer.Sum (Some total)) = ended (codes " sum " ++ signed_decimal total)
answer_text (answer.Group groups) = ended (codes " group " ++ decimal (length groups)) ++ groups_text groups

-- the name of a fragment of a plan, by its number
abbrev pub name_in : Option Fragment → List ℕ
name_in None = []
name_in (Some fragment) = fragment.name

abbrev pub name_at : List Fragment → ℕ → List ℕ
name_at plan number = name_in (slice_get plan number)

-- The cause of a failure. Stripes are counted from 0, a column goes by its type's number, and a source by its fragment's name.
abbrev pub cause_text : List Fragment → Failure → List ℕ
cause_text plan failure.NoFile = codes "no file"
cause_text plan (failure.Compressed kind) = codes "compressed " ++ decimal kind
cause_text plan (failure.BrokenTail fault) = codes "broken tail " ++ tail_words fault
cause_text plan (failure.BrokenFooter stripe fault) = codes "broken stripe " ++ (decimal stripe ++ (codes " footer " ++ tail_words fault))
cause_text plan (failure.BrokenColumn stripe column fault) =
    codes "broken stripe " ++ (decimal stripe ++ (codes " column " ++ (decimal column ++ 32 ∷ column_words fault)))
cause_text plan (failure.NoColumn name) = codes "no column " ++ name
cause_text plan (failure.WrongKind name) = codes "wrong kind " ++ name
cause_text plan failure.Overflow = codes "overflow"
cause_text plan (failure.SourceFailed source) = codes "source " ++ name_at plan source
cause_text plan failure.ReadFault = codes "read fault"

-- an outcome, behind its fragment's name
abbrev pub outcome_text : List Fragment → Outcome → List ℕ
outcome_text plan (outcome.Answer answer) = answer_text answer
outcome_text plan (outcome.Failure failure) = ended (codes " failed " ++ cause_text plan failure)

-- the lines of the outcome of fragment number `number` of a plan
abbrev pub result_text : List Fragment → ℕ → Outcome → List ℕ
result_text plan number outcome = name_at plan number ++ outcome_text plan outcome
