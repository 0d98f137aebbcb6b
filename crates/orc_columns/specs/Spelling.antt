-- How a column spells its values, by its kind and its encoding.
--
-- Source: Apache ORC specification v1, "Column Encodings".
use Rattle.std.specs.Prelude.{ℕ, ◌==◌, ◌||◌, Bool, List, Option, Some, None, ℤ, if◌then◌else◌}
use Rattle.outside.specs.Reading.{Reader}
use Rattle.orc_rle.specs.IntRun1.{IntRun1, int_run1}
use Rattle.orc_rle2.specs.IntRun2.{IntRun2, int_run2}
use Rattle.orc_columns.specs.declared.spelling.Spelling.{Spelling}
use Rattle.orc_columns.specs.declared.spelling.Spelling.TheVariants.{Bits, Integers, Texts, Dictionary}
use Rattle.orc_columns.specs.declared.spelling.Version.{Version}
use Rattle.orc_columns.specs.declared.spelling.Version.TheVariants.{One, Two}

-- BOOLEAN: DIRECT
abbrev pub bits_by : ℕ → Option Spelling
bits_by encoding = if encoding == 0 then Some Bits else None

-- STRING: DIRECT, DICTIONARY, DIRECT_V2, DICTIONARY_V2
abbrev pub texts_by : ℕ → Option Spelling
texts_by encoding =
    if encoding == 0 then Some (Texts One)
    else (if encoding == 1 then Some (Dictionary One)
    else (if encoding == 2 then Some (Texts Two)
    else (if encoding == 3 then Some (Dictionary Two) else None)))

-- SHORT, INT, LONG: DIRECT, DIRECT_V2
abbrev pub integers_by : ℕ → Option Spelling
integers_by encoding = if encoding == 0 then Some (Integers One) else (if encoding == 2 then Some (Integers Two) else None)

-- SHORT, INT or LONG
abbrev pub is_integer_kind : ℕ → Bool
is_integer_kind kind = kind == 2 || kind == 3 || kind == 4

-- The spelling by the number of the kind, or none where there is no encoding or the kind hasn't this one. Kinds that
-- aren't read have none.
abbrev pub spelling_of : ℕ → Option ℕ → Option Spelling
spelling_of kind None = None
spelling_of kind (Some encoding) =
    if kind == 0 then bits_by encoding
    else (if kind == 7 then texts_by encoding
    else (if is_integer_kind kind then integers_by encoding else None))

-- the runs of integers of a version
abbrev pub IntRun : Version → Bool → List ℕ → List ℤ → Type 0
IntRun One signed = IntRun1 signed
IntRun Two signed = IntRun2 signed

abbrev pub int_run : Version → Bool → Reader (List ℤ)
int_run One signed = int_run1 signed
int_run Two signed = int_run2 signed
