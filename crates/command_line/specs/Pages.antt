-- What the program says of itself (this project's own).
use Rattle.std.specs.Prelude.{◌≡◌, ℕ, List, [], ◌∷◌, ◌++◌, codes}

-- the usage line, with the byte that ends a line
abbrev pub usage_text : List ℕ
usage_text = codes "usage: llapd [--min-block N] [--arenas N] [--sets N] [--executors N] [--io N] [--room N]"
    ++ codes " [--half-life N] [--gen N] [--rows N]" ++ 10 ∷ []

-- the version line
abbrev pub version_text : List ℕ
version_text = codes "llapd 0.1.0" ++ 10 ∷ []

-- words that ask for a page in place of a run
abbrev pub AskForHelp : List (List ℕ) → Type 0
AskForHelp words = words ≡ codes "--help" ∷ []

abbrev pub AskForVersion : List (List ℕ) → Type 0
AskForVersion words = words ≡ codes "--version" ∷ []
