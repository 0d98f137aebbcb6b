-- The reader of a run reads just the spellings of runs, whatever follows.
use Rattle.std.proofs.Common.{◌≡◌, ℕ, ◌+◌, ◌-◌, ◌<◌, ◌≤◌, Bool, true, false, ltb, List, [], ◌∷◌, ◌++◌, length, map, Result, Ok, Err, ℤ, pos, ◌+ℤ◌, ◌*ℤ◌, refl, sym, ap, subst, ◌∙◌, arith, inl, inr}
use Rattle.std.specs.Int.{w8, w64, cast_signed, int_wrap}
use Rattle.std.proofs.lemmas.Bool.{cases_lt, lt-ltb, le-ltb}
use Rattle.std.proofs.lemmas.List.{length-map}
use Rattle.std.proofs.lemmas.List.FromFn.{length-map-range_with_len}
use Rattle.outside.specs.declared.run_fault.RunFault.{RunFault}
use Rattle.outside.specs.Reading.{value}
use Rattle.outside.specs.Runs.{IsReaderOf}
use Rattle.outside.specs.Varint.{varint, varints}
use Rattle.outside.specs.ReadingLaws.{read_is, went_on}
use Rattle.outside.specs.VarintLaws.{varint-whole, varint-only, varints-whole, varints-only}
use Rattle.orc_integers.specs.Integers.{integer, ramp}
use Rattle.orc_rle.specs.IntRun1.{IntRun1, repeated, literals, repeated_run, literal_run, run_after, int_run1}

abbrev read_of : {X : Type 0} → X × List ℕ → Result (X × List ℕ) RunFault
read_of p = Ok p

pub run_after-repeated : (signed : Bool) (control : ℕ) (bytes : List ℕ) → control < 128 → run_after signed control bytes ≡ repeated_run signed (control + 3) bytes
run_after-repeated signed control bytes h = let t : ltb control 128 ≡ true = lt-ltb control 128 h in rw t refl

pub run_after-literals : (signed : Bool) (control : ℕ) (bytes : List ℕ) → 128 ≤ control → control < 256 → run_after signed control bytes ≡ literal_run signed (256 - control) bytes
run_after-literals signed control bytes h k =
    let t : ltb control 128 ≡ false = le-ltb control 128 h in
    let u : ltb control 256 ≡ true = lt-ltb control 256 k in
    rw (t, u) refl

run_after-none : (signed : Bool) (control : ℕ) (bytes : List ℕ) (p : List ℤ × List ℕ) → 256 ≤ control → run_after signed control bytes ≡ read_of p → ⊥
run_after-none signed control bytes p h e =
    let t : ltb control 128 ≡ false = le-ltb control 128 (omega arith) in
    let u : ltb control 256 ≡ false = le-ltb control 256 h in
    let no = rw (t, u) at e in
    absurd cc

whole : (signed : Bool) (bytes rest : List ℕ) (values : List ℤ) → IntRun1 signed bytes values → int_run1 signed (bytes ++ rest) ≡ Ok (values, rest)
whole signed bytes rest values (repeated {control = control} {delta = delta} {base = base} {bytes = bytes'} lt v) =
    run_after-repeated signed control (delta ∷ (bytes' ++ rest)) lt ∙ rw (varint-whole bytes' rest base v) refl
whole signed bytes rest values (literals {control = control} {bytes = bytes'} {numbers = numbers} ge lt are len) =
    run_after-literals signed control (bytes' ++ rest) ge lt ∙ rw (← len, varints-whole rest are) refl

-- what was read is a run
Found : Bool → List ℕ → List ℕ → List ℤ → Type 0
Found signed bytes rest values = (run : List ℕ) × IntRun1 signed run values × (bytes ≡ run ++ rest)

found_repeated : (signed : Bool) (control : ℕ) (bytes rest : List ℕ) (values : List ℤ) → control < 128 → repeated_run signed (control + 3) bytes ≡ Ok (values, rest) → Found signed (control ∷ bytes) rest values
unfolding Found
found_repeated signed control [] rest values h e = absurd (let no : Err _ ≡ read_of (values, rest) = e in cc)
found_repeated signed control (delta ∷ bytes) rest values h e =
    let on = went_on (varint bytes) (λ base. value (ramp (integer signed base) (cast_signed w8 delta) (control + 3))) values rest e in
    let same = read_is (ramp (integer signed on.0) (cast_signed w8 delta) (control + 3), on.1) (values, rest) on.3 in
    let values_are : ramp (integer signed on.0) (cast_signed w8 delta) (control + 3) ≡ values = ap (λ (p : List ℤ × List ℕ). p.0) same in
    let after : on.1 ≡ rest = ap (λ (p : List ℤ × List ℕ). p.1) same in
    let run = varint-only bytes on.1 on.0 on.2 in
    let is : IntRun1 signed (control ∷ delta ∷ run.0) (ramp (integer signed on.0) (cast_signed w8 delta) (control + 3)) = repeated h run.1 in
    (control ∷ delta ∷ run.0, subst (λ (v : List ℤ). IntRun1 signed (control ∷ delta ∷ run.0) v) values_are is, ap (λ (l : List ℕ). control ∷ delta ∷ l) (run.2 ∙ ap (λ (l : List ℕ). run.0 ++ l) after))

found_literals : (signed : Bool) (control : ℕ) (bytes rest : List ℕ) (values : List ℤ) → 128 ≤ control → control < 256 → literal_run signed (256 - control) bytes ≡ Ok (values, rest) → Found signed (control ∷ bytes) rest values
unfolding Found
found_literals signed control bytes rest values ge lt e =
    let on = went_on (varints (256 - control) bytes) (λ numbers. value (map (integer signed) numbers)) values rest e in
    let same = read_is (map (integer signed) on.0, on.1) (values, rest) on.3 in
    let values_are : map (integer signed) on.0 ≡ values = ap (λ (p : List ℤ × List ℕ). p.0) same in
    let after : on.1 ≡ rest = ap (λ (p : List ℤ × List ℕ). p.1) same in
    let run = varints-only (256 - control) bytes on.1 on.0 on.2 in
    let is : IntRun1 signed (control ∷ run.0) (map (integer signed) on.0) = literals ge lt run.1 run.3 in
    (control ∷ run.0, subst (λ (v : List ℤ). IntRun1 signed (control ∷ run.0) v) values_are is, ap (λ (l : List ℕ). control ∷ l) (run.2 ∙ ap (λ (l : List ℕ). run.0 ++ l) after))

found : (signed : Bool) (bytes rest : List ℕ) (values : List ℤ) → int_run1 signed bytes ≡ Ok (values, rest) → Found signed bytes rest values
found signed [] rest values e = absurd (let no : Err _ ≡ read_of (values, rest) = e in cc)
found signed (control ∷ bytes) rest values e =
    elim (cases_lt control 128) [
      | inl lt ↦ found_repeated signed control bytes rest values lt (sym (run_after-repeated signed control bytes lt) ∙ e)
      | inr ge ↦ elim (cases_lt control 256) [
        | inl lt ↦ found_literals signed control bytes rest values ge lt (sym (run_after-literals signed control bytes ge lt) ∙ e)
        | inr none ↦ absurd (run_after-none signed control bytes (values, rest) none e)
      ]
    ]

some : (signed : Bool) (bytes : List ℕ) (values : List ℤ) → IntRun1 signed bytes values → 0 < length values
some signed bytes values (repeated {control = control} {delta = delta} {base = base} lt v) =
    omega (arith, length-map-range_with_len (λ i. int_wrap w64 (integer signed base +ℤ pos i *ℤ cast_signed w8 delta)) 0 (control + 3))
some signed bytes values (literals {numbers = numbers} ge lt are len) = omega (arith, length-map numbers (integer signed))

pub int_run1_reads : (signed : Bool) → IsReaderOf (IntRun1 signed) (int_run1 signed)
unfolding Found
int_run1_reads signed = record { whole = whole signed; only = found signed; some = some signed }
