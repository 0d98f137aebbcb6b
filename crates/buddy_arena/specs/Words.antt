-- The words of an arena, or of several arenas, as one number of bits. Source: this project's own.
use Rattle.std.specs.Prelude.{ℕ, ◌+◌, ◌*◌, ◌^◌, List, [], ◌∷◌}

-- the first word has the bits 0 to 63, the next one those from 64 on
abbrev pub joined : List ℕ → ℕ
joined [] = 0
joined (w ∷ ws) = joined ws * 2 ^ 64 + w
