-- Pieces of a list of bytes (this project's own): what stands before, between and behind its separators.
use Rattle.std.specs.Prelude.{◌≡◌, ℕ, List, [], ◌∷◌, ◌==◌, if◌then◌else◌, Option, Some, None}

-- a byte, put in front of the first piece
abbrev pub into_first : ℕ → List (List ℕ) → List (List ℕ)
into_first b [] = (b ∷ []) ∷ []
into_first b (piece ∷ pieces) = (b ∷ piece) ∷ pieces

-- the pieces between the bytes `separator`: one more than there are such bytes
abbrev pub pieces_of : ℕ → List ℕ → List (List ℕ)
pieces_of separator [] = [] ∷ []
pieces_of separator (b ∷ bytes) =
    if b == separator then [] ∷ pieces_of separator bytes else into_first b (pieces_of separator bytes)

-- the first of the pieces still to come was taken, and the others are to come; None where none is
abbrev pub PopsFirst : {X Y : Type 0} → (X → Y) → Option X → List Y → List Y → Type 0
PopsFirst view None before after = (before ≡ []) × (after ≡ [])
PopsFirst view (Some x) before after = before ≡ view x ∷ after
