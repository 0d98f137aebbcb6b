-- The values of a batch that aren't null: numbers and truth values.
use Rattle.std.proofs.Common.{◌≡◌, ℕ, ◌+◌, Bool, true, List, ◌++◌, length, take, map, ℤ, sym, ◌∙◌, ap, subst, arith}
use Rattle.std.proofs.lemmas.List.{map-append, length-map, take_all, with_items_is}
use Rattle.std.specs.Prelude.{Vec}
use Rattle.std.specs.Vec.{with_items}
use Rattle.outside.specs.Runs.{Between, Breaks}
use Rattle.orc_rle.specs.BitRun.{BitRun, bit_run}
use Rattle.orc_values.specs.declared.column_values.ColumnValues.{ColumnValues}
use Rattle.orc_values.specs.declared.value.Value.{Value}
use Rattle.orc_values.specs.declared.value.Value.TheVariants as value
use Rattle.orc_values.specs.Column.{values_in}
use Rattle.orc_columns.specs.declared.fault.ColumnFault.{ColumnFault}
use Rattle.orc_columns.specs.declared.spelling.Version.{Version}
use Rattle.orc_columns.specs.declared.value_reader.ValueReader.TheVariants as reader
use Rattle.orc_columns.specs.Batches.{NumbersGoOn, NumbersBreak, BitsGoOn, BitsBreak, ValuesGoOn, ValuesBreak}
use Rattle.orc_columns.specs.Column.{Streams, bits, integers}
use Rattle.row_flags.specs.Decoders.{BitsOf}
use Rattle.orc_columns.specs.Decoders.{IntegersOf}
use Rattle.orc_columns.specs.Spelling.{IntRun, int_run}

-- the values of a `Vec` that was filled whole
pub filled_values : {A Z : Type 0} (kind : A → Value) (v : Vec A Z) (filled : List A) → length filled ≡ v.len → map kind (with_items v filled).items ≡ map kind filled
filled_values {A} kind v filled len = ap (λ (l : List A). map kind l) (with_items_is v filled len)

-- the items of a `Vec` of so many that was filled whole
pub filled_items : {A Z : Type 0} (n : ℕ) (v : Vec A Z) (filled : List A) → length filled ≡ v.len → v.len ≡ n → (with_items v filled).items ≡ take n filled
filled_items n v filled len all = with_items_is v filled len ∙ sym (take_all n filled (omega (arith, len, all)))

pub filled_front : {A Z : Type 0} (kind : A → Value) (n : ℕ) (v : Vec A Z) (filled : List A) → length filled ≡ v.len → v.len ≡ n → map kind (with_items v filled).items ≡ map kind (take n filled)
filled_front {A} kind n v filled len all = ap (λ (l : List A). map kind l) (filled_items n v filled len all)

-- values that were given, and then these
pub given_on : {A : Type 0} (kind : A → Value) (given more : List Value) (old new : List A) → given ≡ map kind old → more ≡ map kind new → given ++ more ≡ map kind (old ++ new)
given_on {A} kind given more old new is more_is =
    ap (λ (l : List Value). l ++ more) is ∙ ap (λ (l : List Value). map kind old ++ l) more_is ∙ sym (map-append kind old new)

-- ---- numbers

pub numbers_go : (size : ℕ) (old new : IntegersOf) (b a : Streams) (numbers : List ℤ) (typed : ColumnValues)
    → old.signed ≡ true → new.version ≡ old.version → values_in typed ≡ map (λ n. value.Int n) numbers
    → NumbersGoOn old new b a numbers → ValuesGoOn size (reader.Integers old) (reader.Integers new) b a typed
numbers_go size old new b a numbers typed signed version is on =
    record {
      present = on.0.0;
      goes = λ start given at.
          let old_at : Between (IntRun old.version old.signed) start.body at.0 old.held b.body = subst (λ (s : Bool). Between (IntRun old.version s) start.body at.0 old.held b.body) (sym signed) at.1 in
          let new_at : Between (IntRun old.version old.signed) start.body (at.0 ++ numbers) new.held a.body = on.1 start.body at.0 old_at in
          let as_signed : Between (IntRun old.version true) start.body (at.0 ++ numbers) new.held a.body = subst (λ (s : Bool). Between (IntRun old.version s) start.body (at.0 ++ numbers) new.held a.body) signed new_at in (
            at.0 ++ numbers,
            subst (λ (v : Version). Between (IntRun v true) start.body (at.0 ++ numbers) new.held a.body) (sym version) as_signed,
            given_on (λ n. value.Int n) given (values_in typed) at.0 numbers at.2 is,
            (on.0.1 ∙ at.3.0, on.0.2 ∙ at.3.1),
          );
    }

pub numbers_break : (size n : ℕ) (old : IntegersOf) (b : Streams) (fault : ColumnFault) → old.signed ≡ true → NumbersBreak old n b fault → ValuesBreak size n (reader.Integers old) b fault
numbers_break size n old b fault signed breaks start given at =
    let kind : ℤ → Value = λ (n : ℤ). value.Int n in
    let old_at : Between (IntRun old.version old.signed) start.body at.0 old.held b.body = subst (λ (s : Bool). Between (IntRun old.version s) start.body at.0 old.held b.body) (sym signed) at.1 in
    let broken : Breaks (IntRun old.version old.signed) (int_run old.version old.signed) start.body (length at.0 + n) breaks.0 = breaks.2 start.body at.0 old_at in
    let as_signed : Breaks (IntRun old.version true) (int_run old.version true) start.body (length at.0 + n) breaks.0 = subst (λ (s : Bool). Breaks (IntRun old.version s) (int_run old.version s) start.body (length at.0 + n) breaks.0) signed broken in
    let len : length at.0 + n ≡ length given + n = omega (arith, ap length at.2, length-map at.0 kind) in
    rw breaks.1 (integers (subst (λ (k : ℕ). Breaks (IntRun old.version true) (int_run old.version true) start.body k breaks.0) len as_signed))

-- ---- truth values

pub bits_go : (size : ℕ) (old new : BitsOf) (b a : Streams) (some : List Bool) (typed : ColumnValues)
    → values_in typed ≡ map (λ b. value.Bool b) some → BitsGoOn old new b a some → ValuesGoOn size (reader.Bits old) (reader.Bits new) b a typed
bits_go size old new b a some typed is on =
    record {
      present = on.0.0;
      goes = λ start given at. (at.0 ++ some, on.1 start.body at.0 at.1, given_on (λ b. value.Bool b) given (values_in typed) at.0 some at.2 is, (on.0.1 ∙ at.3.0, on.0.2 ∙ at.3.1));
    }

pub bits_break : (size n : ℕ) (old : BitsOf) (b : Streams) (fault : ColumnFault) → BitsBreak old n b fault → ValuesBreak size n (reader.Bits old) b fault
bits_break size n old b fault breaks start given at =
    let kind : Bool → Value = λ (b : Bool). value.Bool b in
    let len : length at.0 + n ≡ length given + n = omega (arith, ap length at.2, length-map at.0 kind) in
    rw breaks.1 (bits (subst (λ (k : ℕ). Breaks BitRun bit_run start.body k breaks.0) len (breaks.2 start.body at.0 at.1)))
