-- The kinds that a scan reads, by their numbers in a file. Source: Apache ORC specification v1, "Type Information".
use Rattle.std.specs.Prelude.{ℕ, ◌==◌, Option, Some, None, if◌then◌else◌}
use Rattle.scan_columns.specs.declared.kind.ReadKind.{ReadKind}
use Rattle.scan_columns.specs.declared.kind.ReadKind.TheVariants.{Boolean, Short, Int, Long, String}

-- the number of a kind
abbrev pub kind_number : ReadKind → ℕ
kind_number Boolean = 0
kind_number Short = 2
kind_number Int = 3
kind_number Long = 4
kind_number String = 7

-- the kind of a number, where a scan reads it
abbrev pub kind_of_number : ℕ → Option ReadKind
kind_of_number number =
    if number == 0 then Some Boolean
    else (if number == 2 then Some Short
    else (if number == 3 then Some Int
    else (if number == 4 then Some Long
    else (if number == 7 then Some String else None))))
