-- The tail of a file, by the file's bytes: found from the last byte, the PostScript and the footer, or the first
-- of nine conditions that refuses the file. Source: Apache ORC specification v1, "File Tail"; the conditions
-- and their order are this project's own: 1 the file is too large, 2 too short, 3 there is no PostScript, 4 the file
-- is compressed, 5 the footer lies out of it, 6 a message is broken, 7 the types are wrong, 8 there are too many
-- stripes, 9 a stripe lies out of the file.
--
--     "ORC" | stripes | metadata | footer | PostScript | p, the PostScript's length, in one byte
use Rattle.std.specs.Prelude.{ℕ, ◌+◌, ◌-◌, Bool, not, ◌&&◌, ◌||◌, List, [], ◌∷◌, length, map, Option, Result, Ok, Err, ◌==◌, nat_lt, nat_le, if◌then◌else◌, slice_index, slice_range, bytes_eq, find}
use Rattle.std.specs.List.{list_all}
use Rattle.orc_tail.specs.declared.fault.TailFault.{TailFault}
use Rattle.orc_tail.specs.declared.fault.TailFault.TheVariants.{TooShort, NotOrc, Compressed, OutOfFile, BadTypes, TooLarge}
use Rattle.orc_tail.specs.declared.postscript.PostScript.{PostScript}
use Rattle.orc_tail.specs.declared.postscript.Span.{Span}
use Rattle.orc_tail.specs.declared.stripe.Stripe.{Stripe}
use Rattle.orc_tail.specs.declared.columns.TopColumn.{TopColumn}
use Rattle.orc_tail.specs.declared.tail.Tail.{Tail}
use Rattle.orc_tail.specs.Reading.{◌>>=◌}
use Rattle.orc_tail.specs.Messages.{postscript_of, TypeMessage, footer_of}

-- the greatest length of a file that is read, and the most stripes
abbrev pub greatest_len : ℕ
greatest_len = 4294967295

abbrev pub most_stripes : ℕ
most_stripes = 1000000

-- p, where `last` ends as the file does
abbrev pub last_byte : List ℕ → ℕ
last_byte last = slice_index last (length last - 1)

-- the p bytes before the last one
abbrev pub postscript_bytes : List ℕ → List ℕ
postscript_bytes last = slice_range last (length last - 1 - last_byte last) (length last - 1)

-- bytes that are no message are no PostScript
abbrev pub or_not_orc : {S : Type 0} → Result S TailFault → Result S TailFault
or_not_orc (Ok s) = Ok s
or_not_orc (Err e) = Err NotOrc

-- conditions 3 to 5, of a PostScript that ends p + 1 bytes with the file's end
unfoldable pub span_before : ℕ → ℕ → PostScript → Result Span TailFault
span_before len p s =
    if not s.is_orc then Err NotOrc
    else (if not (s.compression == 0) then Err (Compressed s.compression)
    else (if nat_lt len (s.footer_length + p + 1) then Err OutOfFile
    else Ok (record { at = len - (s.footer_length + p + 1); len = s.footer_length })))

-- Where the footer lies in a file of `len` bytes that ends with the bytes `last`, of which there are at least
-- p + 1 where the file has as many; or the first of the conditions 2 to 5.
unfoldable pub footer_span : ℕ → List ℕ → Result Span TailFault
footer_span len last =
    if len == 0 || nat_lt len (last_byte last + 1) then Err TooShort
    else (or_not_orc (postscript_of (postscript_bytes last)) >>= span_before len (last_byte last))

-- the number of a type that may be a child: not the root's, and below how many types there are
abbrev pub is_child : ℕ → ℕ → Bool
is_child count number = not (number == 0) && nat_lt number count

-- condition 7: type 0 is a STRUCT, whose children are types, each with a name
abbrev pub is_root : ℕ → TypeMessage → Bool
is_root count root =
    root.kind == 12 && length root.subtypes == length root.names && list_all (is_child count) root.subtypes

abbrev pub kind_of : List TypeMessage → ℕ → ℕ
kind_of types number = slice_index (map (λ t. t.kind) types) number

abbrev pub child : List TypeMessage → ℕ → List ℕ → TopColumn
child types number name = record { number = number; kind = kind_of types number; name = name }

-- the children of type 0, in order
abbrev pub children : List TypeMessage → List ℕ → List (List ℕ) → List TopColumn
children types [] names = []
children types (number ∷ numbers) [] = []
children types (number ∷ numbers) (name ∷ names) = child types number name ∷ children types numbers names

unfoldable pub top_columns : List TypeMessage → Result (List TopColumn) TailFault
top_columns [] = Err BadTypes
top_columns (root ∷ others) =
    if is_root (length (root ∷ others)) root then Ok (children (root ∷ others) root.subtypes root.names) else Err BadTypes

-- condition 9: each stripe ends in the file
abbrev pub stripe_end : Stripe → ℕ
stripe_end s = s.at + s.index_len + s.body_len + s.footer_len

abbrev pub stripes_end_by : ℕ → List Stripe → Bool
stripes_end_by len stripes = list_all (λ s. nat_le (stripe_end s) len) stripes

-- conditions 8 and 9
unfoldable pub stripes_within : ℕ → List Stripe → Result (List Stripe) TailFault
stripes_within len stripes =
    if nat_lt most_stripes (length stripes) then Err TooLarge
    else (if stripes_end_by len stripes then Ok stripes else Err OutOfFile)

-- The tail by the footer's bytes, in a file of `len` bytes; or the first of the conditions 6 to 9.
unfoldable pub tail_of_footer : ℕ → List ℕ → Result Tail TailFault
tail_of_footer len footer = do
  parts ← footer_of footer
  columns ← top_columns parts.types
  stripes ← stripes_within len parts.stripes
  Ok (record { stripes = stripes; columns = columns })

-- the tail of a file's bytes, or the first of the nine conditions
unfoldable pub tail : List ℕ → Result Tail TailFault
tail file =
    if nat_lt greatest_len (length file) then Err TooLarge
    else (footer_span (length file) file >>= λ span. tail_of_footer (length file) (slice_range file span.at (span.at + span.len)))

-- the first column of a name; of two with one name the first counts (this project's reading)
abbrev pub column_named : List ℕ → List TopColumn → Option TopColumn
column_named name columns = find (λ c. bytes_eq c.name name) columns
