-- Words of a line, and the bytes of a text in quotes (this project's own).
use Rattle.std.specs.Prelude.{ℕ, suc, Bool, not, List, [], ◌∷◌, ◌==◌, ◌||◌, if◌then◌else◌, Option, Some, None, drop}

-- words are parted by spaces and tabs
abbrev pub is_blank : ℕ → Bool
is_blank b = b == 32 || b == 9

-- how many bytes at the front pass the test
abbrev pub span : (ℕ → Bool) → List ℕ → ℕ
span test [] = 0
span test (b ∷ bytes) = if test b then suc (span test bytes) else 0

-- what follows the blanks at the front
abbrev pub skip_blanks : List ℕ → List ℕ
skip_blanks left = drop (span is_blank left) left

-- how long the word at the front is: it ends at a blank, or with the line
abbrev pub word_len : List ℕ → ℕ
word_len left = span (λ b. not (is_blank b)) left

-- a byte, put in front of a text
abbrev pub with_byte : ℕ → Option (List ℕ × List ℕ) → Option (List ℕ × List ℕ)
with_byte b None = None
with_byte b (Some x) = Some (b ∷ x.0, x.1)

-- What stands behind an opening quote: the text up to the quote that closes it, in which two quotes
-- stand for one, and what follows that quote; None where no quote closes it.
abbrev pub text_at : List ℕ → Option (List ℕ × List ℕ)
text_at [] = None
text_at (b ∷ []) = if b == 39 then Some ([], []) else None
text_at (b ∷ c ∷ left) =
    if b == 39 then (if c == 39 then with_byte 39 (text_at left) else Some ([], c ∷ left))
    else with_byte b (text_at (c ∷ left))

-- what follows a quote at the front
abbrev pub after_quote : List ℕ → Option (List ℕ)
after_quote [] = None
after_quote (b ∷ left) = if b == 39 then Some left else None
