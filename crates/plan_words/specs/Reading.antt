-- Reading a line from left to right, up to its first fault (this project's own).
--
-- A reader takes the bytes that are left of the line. Readers follow each other in a `do`, whose order is the
-- order in which the line is judged: the first that fails gives the line's fault.
use Rattle.std.specs.Prelude.{ℕ, Bool, true, false, List, length, take, drop, ◌==◌, if◌then◌else◌, Result, Ok, Err}
use Rattle.std.specs.Str.{bytes_eq}
use Rattle.plan_words.specs.declared.fault.PlanKind.{PlanKind}
use Rattle.plan_words.specs.declared.fault.PlanKind.TheVariants as kind
use Rattle.plan_words.specs.Pieces.{pieces_of}
use Rattle.plan_words.specs.Words.{skip_blanks, word_len}
use Rattle.plan_words.specs.Names.{is_name, is_file_name, all_names}

-- what was read and the bytes behind it, or the first fault
abbrev pub Reads : Type 0 → Type 0
Reads X = List ℕ → Result (X × List ℕ) PlanKind

abbrev pub and_then : {A B : Type 0} → Result A PlanKind → (A → Result B PlanKind) → Result B PlanKind
and_then (Ok x) next = next x
and_then (Err e) next = Err e

infixl 10 ◌>>=◌
abbrev pub ◌>>=◌ : {A B : Type 0} → Reads A → (A → Reads B) → Reads B
(m >>= next) left = and_then (m left) (λ x. next x.0 x.1)

infixl 10 ◌>>◌
abbrev pub ◌>>◌ : {A B : Type 0} → Reads A → Reads B → Reads B
(m >> next) left = and_then (m left) (λ x. next x.1)

-- nothing is read
abbrev pub gives : {A : Type 0} → A → Reads A
gives x left = Ok (x, left)

abbrev pub fails : {A : Type 0} → PlanKind → Reads A
fails fault left = Err fault

-- what takes no byte: a value, or a fault
abbrev pub judged : {A : Type 0} → Result A PlanKind → Reads A
judged step left = and_then step (λ x. Ok (x, left))

-- the next word; a bad word where none is left
unfoldable pub word : Reads (List ℕ)
word left = let here = skip_blanks left in
    if word_len here == 0 then Err kind.BadWord else Ok (take (word_len here) here, drop (word_len here) here)

-- this word of the grammar
unfoldable pub keyword : List ℕ → Reads (List ℕ)
keyword which = do
  found ← word
  if bytes_eq found which then gives found else fails kind.BadWord

-- whether this word comes next: then it is read, and else nothing is
unfoldable pub option : List ℕ → Reads Bool
option which left = let here = skip_blanks left in
    if bytes_eq (take (word_len here) here) which then Ok (true, drop (word_len here) here) else Ok (false, left)

-- NAME and COLUMN
unfoldable pub name : Reads (List ℕ)
name = do
  found ← word
  if is_name found then gives found else fails kind.BadName

-- FILE
unfoldable pub file_name : Reads (List ℕ)
file_name = do
  found ← word
  if is_file_name found then gives found else fails kind.BadName

-- NAMES and COLUMNS: one word, whose names are joined by commas
unfoldable pub name_list : Reads (List (List ℕ))
name_list = do
  found ← word
  if all_names (pieces_of 44 found) then gives (pieces_of 44 found) else fails kind.BadName

-- the end of the line: nothing but blanks is left
unfoldable pub end_of_line : Reads (Unit {0})
end_of_line left = if length (skip_blanks left) == 0 then Ok (tt, left) else Err kind.BadWord
