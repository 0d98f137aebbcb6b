-- The names that a plan may have (this project's own).
use Rattle.std.specs.Prelude.{ℕ, Bool, false, List, [], ◌∷◌, length, nat_le, not, ◌==◌, ◌||◌, ◌&&◌}
use Rattle.std.specs.List.{list_all}
use Rattle.std.specs.Char.{is_ascii_alphanumeric}

-- a byte of names: a letter, a digit, or one of `_`, `-` and `.`
abbrev pub is_name_byte : ℕ → Bool
is_name_byte b = is_ascii_alphanumeric b || b == 95 || b == 45 || b == 46

-- a name of a fragment or a column: 1 to 64 such bytes
abbrev pub is_name : List ℕ → Bool
is_name bytes = not (length bytes == 0) && nat_le (length bytes) 64 && list_all is_name_byte bytes

-- it begins with `.`
abbrev pub is_hidden : List ℕ → Bool
is_hidden [] = false
is_hidden (b ∷ bytes) = b == 46

-- a name of a file doesn't begin with `.`, besides
abbrev pub is_file_name : List ℕ → Bool
is_file_name bytes = is_name bytes && not (is_hidden bytes)

-- each of them is a name
abbrev pub all_names : List (List ℕ) → Bool
all_names pieces = list_all is_name pieces
