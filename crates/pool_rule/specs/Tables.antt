-- What callers see of the words of a pool.
use Rattle.atomic_table.specs.Seated.{TableId}
use Rattle.pool_rule.specs.declared.geometry.Geometry.{Geometry}
use Rattle.pool_rule.specs.declared.geometry.Setup.{Setup}
use Rattle.pool_rule.specs.declared.words.Words.{Words}

-- the table that they are
abbrev pub table_of : {W : Type 0} → Words W → TableId
table_of words = words.table.shared.table_id

-- the sizes that they were made with
abbrev pub geometry_of : {W : Type 0} → Words W → Geometry
geometry_of words = words.table.shared.key.geometry

-- what the table was told when it was made: the sizes, and how many numbers there are
abbrev pub setup_of : {W : Type 0} → Words W → Setup
setup_of words = words.table.shared.key
