-- Runs that stand in bytes, read there.
use Rattle.std.proofs.Common.{◌≡◌, ℕ, ◌+◌, ◌-◌, ◌<◌, ◌≤◌, Bool, List, [], ◌∷◌, ◌++◌, length, take, Option, Some, None, Bor, ℤ, refl, ◌∙◌, arith}
use Rattle.std.specs.Prelude.{IfSome}
use Rattle.std.specs.Int.{w8, cast_signed}
use Rattle.std.proofs.lemmas.Bool.{le-ltb, lt-ltb}
use Rattle.outside.specs.Lending.{ReadsIn}
use Rattle.outside.specs.LendingLaws.{ReadsIn-then, ReadsIn-map, ReadsIn-same}
use Rattle.outside.specs.Reading.{byte, mapped}
use Rattle.outside.specs.Varint.{varint}
use Rattle.orc_integers.specs.InPlace.{NumberIn, IntegersIn}
use Rattle.orc_integers.specs.InPlaceLaws.{number-read, integers-read}
use Rattle.orc_integers.specs.Integers.{integer, ramp}
use Rattle.orc_rle.specs.IntRun1.{literal_run, repeated_run, run_after, run_len, int_run1}
use Rattle.orc_rle.proofs.RunReader.{run_after-literals}

-- one byte
pub byte-read : (first : ℕ) (left : List ℕ) → ReadsIn byte (first ∷ left) first left
byte-read first left = record { front = first ∷ []; parts = refl; reads = λ more. refl }

-- a control, and then what follows it
pub run-read : (signed : Bool) (control : ℕ) {rest left : List ℕ} {values : List ℤ} → ReadsIn (run_after signed control) rest values left
    → ReadsIn (int_run1 signed) (control ∷ rest) values left
run-read signed control {rest = rest} one = ReadsIn-then byte (run_after signed) (byte-read control rest) one

-- the same of an answer
pub run-read-if : (signed : Bool) (control : ℕ) (rest : List ℕ) (out held : List ℤ) (answer : Option (ℕ × Bor (List ℕ)))
    → IfSome answer (λ p. ReadsIn (run_after signed control) rest (take p.0 out ++ held) p.1.now)
    → IfSome answer (λ p. ReadsIn (int_run1 signed) (control ∷ rest) (take p.0 out ++ held) p.1.now)
run-read-if signed control rest out held None one = tt
run-read-if signed control rest out held (Some p) one = run-read signed control one

len-literals : (control : ℕ) → 128 ≤ control → run_len control ≡ 256 - control
len-literals control ge = rw (le-ltb control 128 ge) refl

-- the literals of a run
pub literals-read : (signed : Bool) (control : ℕ) (bytes : List ℕ) (before after : List ℤ) → 128 ≤ control → control < 256
    → length before ≡ run_len control → length after ≡ length before → (answer : Option (Bor (List ℕ)))
    → IfSome answer (λ left. IntegersIn signed bytes after left.now) → IfSome answer (λ left. ReadsIn (run_after signed control) bytes after left.now)
literals-read signed control bytes before after ge lt len same None one = tt
literals-read signed control bytes before after ge lt len same (Some left) one =
    let count : length after ≡ 256 - control = same ∙ len ∙ len-literals control ge in
    ReadsIn-same (run_after signed control) (literal_run signed (256 - control)) (λ bytes. run_after-literals signed control bytes ge lt)
    (integers-read signed (256 - control) after count one)

-- a run of equal steps whose base is one byte
pub short-ramp-read : (signed : Bool) (control delta base : ℕ) (left : List ℕ) → control < 128 → base < 128
    → ReadsIn (int_run1 signed) (control ∷ delta ∷ base ∷ left) (ramp (integer signed base) (cast_signed w8 delta) (control + 3)) left
short-ramp-read signed control delta base left lt short =
    let number : NumberIn (base ∷ left) base left = record { front = base ∷ []; parts = refl; is = record { front = []; last = base; parts = refl; goes_on = tt; ends = short; short = omega arith; is = omega arith } } in
    run-read signed control (ReadsIn-same (run_after signed control) (repeated_run signed (control + 3)) (λ bytes. rw (lt-ltb control 128 lt) refl)
    (ReadsIn-then byte (λ delta. mapped (λ base. ramp (integer signed base) (cast_signed w8 delta) (control + 3)) varint) (byte-read delta (base ∷ left))
    (ReadsIn-map varint (λ base. ramp (integer signed base) (cast_signed w8 delta) (control + 3)) (number-read number))))
