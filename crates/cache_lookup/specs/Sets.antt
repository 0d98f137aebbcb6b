-- The ways of a key. Source: this project's own.
use Rattle.std.specs.Prelude.{ℕ, ◌+◌, ◌*◌, ◌/◌, ◌%◌, ◌<◌, ◌≤◌}
use Rattle.buffer_word.specs.declared.key_word.Key.{Key}
use Rattle.pool_rule.specs.declared.geometry.Geometry.{Geometry}

-- the first header of the key's set
abbrev pub first_way : Geometry → Key → ℕ
first_way g key = 8 * ((key.at / g.min_block + 61 * key.file) % g.sets)

-- the header is one of the eight ways of the key's set
abbrev pub IsWay : Geometry → Key → ℕ → Type 0
IsWay g key header = (first_way g key ≤ header) × (header < first_way g key + 8)
