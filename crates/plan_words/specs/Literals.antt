-- Literals (this project's own): a decimal number, `true`, `false`, or a text in single quotes.
use Rattle.std.specs.Prelude.{ℕ, ◌-◌, ◌^◌, ℤ, pos, neg_ℤ, Bool, true, false, List, [], ◌∷◌, nat_le, not, ◌==◌}
use Rattle.std.specs.Prelude.{◌&&◌, if◌then◌else◌, Option, Some, None, option_map, Result, Ok, Err, codes}
use Rattle.std.specs.Char.{is_ascii_digit}
use Rattle.std.specs.List.{list_all}
use Rattle.std.specs.Str.{bytes_eq}
use Rattle.std.specs.Str.Parse.{digits_value}
use Rattle.orc_values.specs.declared.value.Value.{Value}
use Rattle.orc_values.specs.declared.value.Value.TheVariants as value
use Rattle.plan_words.specs.declared.fault.PlanKind.{PlanKind}
use Rattle.plan_words.specs.declared.fault.PlanKind.TheVariants as kind
use Rattle.plan_words.specs.Words.{skip_blanks, word_len, text_at}
use Rattle.plan_words.specs.Reading.{Reads, word, ◌>>=◌, judged}

-- one decimal digit or more, without a leading zero where there are more
abbrev pub is_numeral : List ℕ → Bool
is_numeral [] = false
is_numeral (b ∷ []) = list_all is_ascii_digit (b ∷ [])
is_numeral (b ∷ c ∷ digits) = not (b == 48) && list_all is_ascii_digit (b ∷ c ∷ digits)

-- the number that digits write, where it's at most `most`
abbrev pub number_up_to : ℕ → List ℕ → Option ℕ
number_up_to most digits =
    if is_numeral digits && nat_le (digits_value 10 digits) most then Some (digits_value 10 digits) else None

-- a number with an optional `-`, which fits a signed number of 64 bits
abbrev pub number_of : List ℕ → Option ℤ
number_of [] = None
number_of (b ∷ digits) =
    if b == 45 then option_map (λ n. neg_ℤ (pos n)) (number_up_to (2 ^ 63) digits)
    else option_map pos (number_up_to (2 ^ 63 - 1) (b ∷ digits))

-- a literal that isn't in quotes
abbrev pub number_or_fault : Option ℤ → Result Value PlanKind
number_or_fault None = Err kind.BadLiteral
number_or_fault (Some n) = Ok (value.Int n)

abbrev pub plain_literal : List ℕ → Result Value PlanKind
plain_literal found =
    if bytes_eq found (codes "true") then Ok (value.Bool true)
    else if bytes_eq found (codes "false") then Ok (value.Bool false)
    else number_or_fault (number_of found)

-- a text behind its opening quote: a bad word where no quote closes it, a bad literal where a byte that is no
-- blank follows the quote that does
abbrev pub closed : Option (List ℕ × List ℕ) → Result (Value × List ℕ) PlanKind
closed None = Err kind.BadWord
closed (Some x) = if word_len x.1 == 0 then Ok (value.Text x.0, x.1) else Err kind.BadLiteral

abbrev pub unquoted : Reads Value
unquoted = do
  found ← word
  judged (plain_literal found)

abbrev pub literal_at : Reads Value
literal_at [] = Err kind.BadWord
literal_at (b ∷ left) = if b == 39 then closed (text_at left) else unquoted (b ∷ left)

-- LITERAL
unfoldable pub literal : Reads Value
literal left = literal_at (skip_blanks left)
