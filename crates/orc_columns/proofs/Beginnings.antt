-- A reader before the first row.
use Rattle.std.proofs.Common.{◌≡◌, ℕ, true, false, List, [], ◌∷◌, length, map, ℤ, pos, Vec, Global, Option, Some, None, refl, sym, ◌∙◌, subst, arith}
use Rattle.outside.specs.Runs.{Between, Spells}
use Rattle.outside.specs.RunLaws.{Between-start}
use Rattle.orc_rle.specs.BitRun.{BitRun}
use Rattle.orc_columns.specs.declared.fault.ColumnFault.{ColumnFault}
use Rattle.orc_columns.specs.declared.plan.ColumnPlan.{ColumnPlan}
use Rattle.orc_columns.specs.declared.spelling.Spelling.{Spelling}
use Rattle.orc_columns.specs.declared.spelling.Version.{Version}
use Rattle.orc_columns.specs.declared.value_reader.ValueReader.{ValueReader}
use Rattle.orc_columns.specs.declared.value_reader.ValueReader.TheVariants as reader
use Rattle.orc_columns.specs.Batches.{ValuesBegin, ValuesFailAtStart, EntriesRead}
use Rattle.orc_columns.specs.Column.{Streams, ArePresent, AreLengths, values}
use Rattle.row_flags.specs.Decoders.{BitsOf, new_present, first_state}
use Rattle.orc_columns.specs.Decoders.{IntegersOf}
use Rattle.orc_columns.specs.Midway.{spelling_in}
use Rattle.row_flags.specs.Optional.{rest_in}
use Rattle.row_flags.specs.Present.{PresentBetween}
use Rattle.orc_columns.specs.Reader.{whole_reader, Begins, FailsAtStart}
use Rattle.orc_columns.specs.Spelling.{IntRun, spelling_of}

nothing_read : {V : Type 0} (Run : List ℕ → List V → Type 0) (start rest : List ℕ) (held : List V) → held ≡ [] → rest ≡ start → Between Run start [] held rest
nothing_read {V} Run start rest held none same = rw (none, same) (Between-start Run start)

pub bits_begin : (size : ℕ) (s : Streams) (b : BitsOf) → b.held ≡ [] → ValuesBegin size s s (reader.Bits b)
bits_begin size s b none = (refl, ([], nothing_read BitRun s.body s.body b.held none refl, refl, (refl, refl)))

pub numbers_begin : (size : ℕ) (s : Streams) (i : IntegersOf) → i.held ≡ [] → ValuesBegin size s s (reader.Integers i)
numbers_begin size s i none = (refl, ([], nothing_read (IntRun i.version true) s.body s.body i.held none refl, refl, (refl, refl)))

pub texts_begin : (size : ℕ) (s : Streams) (i : IntegersOf) (body : Option ℕ) (left : ℕ) (memory : Vec ℤ Global) → i.held ≡ [] → left ≡ length s.body
    → ValuesBegin size s s (reader.Texts (record { lengths = i; «data» = body; left = left; memory = memory }))
texts_begin size s i body left memory none len = (refl, ([], nothing_read (IntRun i.version false) s.lengths s.lengths i.held none refl, omega arith, refl, refl, refl))

pub dictionary_begins : (size : ℕ) (b a : Streams) (i : IntegersOf) (version : Version) (texts : List (List ℕ)) → i.held ≡ [] → i.version ≡ version → EntriesRead version size b a texts → ValuesBegin size b a (reader.Dictionary (record { entries = texts; places = i }))
dictionary_begins size b a i version texts none of_version read = (
  read.present,
  (
    read.lengths,
    [],
    read.all,
    subst (λ (v : Version). AreLengths v b.lengths (length b.dictionary) read.lengths) (sym of_version) read.are,
    read.entries_are,
    nothing_read (IntRun i.version false) b.body a.body i.held none read.body,
    (λ k d h. absurd (omega arith)),
    refl,
    subst (λ (v : Version). Spells (IntRun v false) b.lengths (map pos read.lengths) a.lengths) (sym of_version) read.used,
    read.left,
  ),
)

none_present : (start : List ℕ) → ArePresent start []
none_present [] = refl
none_present (byte ∷ bytes) = (byte ∷ bytes, ([], Between-start BitRun (byte ∷ bytes)))

present_begins : (stream : Option ℕ) (b a : List ℕ) → (stream ≡ None → b ≡ []) → a ≡ b → PresentBetween (first_state stream) b [] [] a
present_begins None b a empty same = (empty refl, same ∙ empty refl, refl)
present_begins (Some stream) b a empty same = (refl, refl, same)

lacking_empty : {F : Type 0} (rest : F → ℕ → Option (List ℕ)) (feed : F) (stream : Option ℕ) (bytes : List ℕ) → rest_in rest feed stream ≡ Some bytes → stream ≡ None → bytes ≡ []
lacking_empty rest feed None bytes told none = let e : Some [] ≡ Some bytes = told in cc
lacking_empty rest feed (Some stream) bytes told none = absurd (let no : Some stream ≡ None = none in cc)

pub reader_begins : {F : Type 0} (rest : F → ℕ → Option (List ℕ)) (feed : F) (plan : ColumnPlan) (b a : Streams) (v : ValueReader) → rest_in rest feed plan.present ≡ Some b.present → spelling_of plan.kind plan.encoding ≡ Some (spelling_in v)
    → ValuesBegin plan.dictionary_size b a v → Begins b a (whole_reader plan (new_present plan.present) v)
reader_begins rest feed plan b a v told spelled begun = record {
  flags = [];
  values = [];
  spelled = spelled;
  present = present_begins plan.present b.present a.present (lacking_empty rest feed plan.present b.present told) begun.0;
  enough = refl;
  standing = begun.1;
  rows_are = refl;
}

pub start_fails : (plan : ColumnPlan) (s : Spelling) (b : Streams) (fault : ColumnFault) → spelling_of plan.kind plan.encoding ≡ Some s → ValuesFailAtStart plan.dictionary_size s b fault → FailsAtStart plan b fault
start_fails plan s b fault spelled fails = values s [] spelled refl (none_present b.present) fails
