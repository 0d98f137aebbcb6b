-- The lines of a plan (this project's own).
use Rattle.std.specs.Prelude.{ℕ, Bool, true, List, [], ◌∷◌, ◌==◌, if◌then◌else◌}
use Rattle.plan_words.specs.Pieces.{pieces_of}

-- Lines end with byte 0A, and the last may lack it. What stands behind the last 0A is listed too: where it's
-- empty, it is skipped as every empty line.
abbrev pub lines_of : List ℕ → List (List ℕ)
lines_of bytes = pieces_of 10 bytes

-- a line without one byte 0D at its end
abbrev pub without_return : List ℕ → List ℕ
without_return [] = []
without_return (b ∷ []) = if b == 13 then [] else b ∷ []
without_return (b ∷ c ∷ bytes) = b ∷ without_return (c ∷ bytes)

-- an empty line, and one whose first byte is `#`, is skipped
abbrev pub is_skipped : List ℕ → Bool
is_skipped [] = true
is_skipped (b ∷ bytes) = b == 35
