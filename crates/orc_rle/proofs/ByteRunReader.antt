-- The reader of a run of bytes reads just the spellings of runs, whatever follows.
use Rattle.std.proofs.Common.{◌≡◌, ℕ, ◌+◌, ◌-◌, ◌<◌, ◌≤◌, Bool, true, false, cond, ltb, leb, List, [], ◌∷◌, ◌++◌, length, take, drop, replicate, Result, Ok, Err, refl, sym, ap, subst, ◌∙◌, arith, inl, inr, length-append}
use Rattle.std.proofs.Math.Seq.{take-append_seam, drop-append_seam}
use Rattle.std.proofs.lemmas.Bool.{cases_lt, lt-ltb, le-ltb, leb-true, le-leb}
use Rattle.std.proofs.lemmas.List.{length-replicate, length-take-le, take-append-drop}
use Rattle.outside.specs.declared.run_fault.RunFault.{RunFault}
use Rattle.outside.specs.declared.run_fault.RunFault.TheVariants.{StreamEnds}
use Rattle.outside.specs.Reading.{mapped, byte, exactly}
use Rattle.outside.specs.Runs.{IsReaderOf}
use Rattle.outside.specs.ReadingLaws.{read_is}
use Rattle.orc_rle.specs.ByteRun.{ByteRun, repeated, literals, bytes_after, byte_run}

abbrev read_of : {X : Type 0} → X × List ℕ → Result (X × List ℕ) RunFault
read_of p = Ok p

abbrev fault_of : RunFault → Result (List ℕ × List ℕ) RunFault
fault_of fault = Err fault

-- ---- just so many bytes

exactly-whole : (bytes rest : List ℕ) → exactly (length bytes) (bytes ++ rest) ≡ Ok (bytes, rest)
exactly-whole bytes rest =
    let t : leb (length bytes) (length (bytes ++ rest)) ≡ true = le-leb (length bytes) (length (bytes ++ rest)) (omega (arith, length-append bytes rest)) in
    rw (t, take-append_seam bytes rest, drop-append_seam bytes rest) refl

given_by : (test : Bool) (p q : List ℕ × List ℕ) → cond test (Ok p) (Err StreamEnds) ≡ read_of q → (test ≡ true) × (p ≡ q)
given_by true p q e = (refl, read_is p q e)
given_by false p q e = absurd (let no : Err StreamEnds ≡ read_of q = e in cc)

exactly-only : (count : ℕ) (bytes rest values : List ℕ) → exactly count bytes ≡ Ok (values, rest) → (length values ≡ count) × (bytes ≡ values ++ rest)
exactly-only count bytes rest values e =
    let given = given_by (leb count (length bytes)) (take count bytes, drop count bytes) (values, rest) e in
    let enough = leb-true count (length bytes) given.0 in
    let front : take count bytes ≡ values = ap (λ (p : List ℕ × List ℕ). p.0) given.1 in
    let back : drop count bytes ≡ rest = ap (λ (p : List ℕ × List ℕ). p.1) given.1 in
    (ap length (sym front) ∙ length-take-le count bytes enough, sym (take-append-drop count bytes) ∙ rw (front, back) refl)

-- ---- a run

pub bytes_after-repeated : (control : ℕ) (bytes : List ℕ) → control < 128 → bytes_after control bytes ≡ mapped (replicate (control + 3)) byte bytes
bytes_after-repeated control bytes h = let t : ltb control 128 ≡ true = lt-ltb control 128 h in rw t refl

pub bytes_after-literals : (control : ℕ) (bytes : List ℕ) → 128 ≤ control → control < 256 → bytes_after control bytes ≡ exactly (256 - control) bytes
bytes_after-literals control bytes h k =
    let t : ltb control 128 ≡ false = le-ltb control 128 h in
    let u : ltb control 256 ≡ true = lt-ltb control 256 k in
    rw (t, u) refl

bytes_after-refused : (control : ℕ) (bytes : List ℕ) → 256 ≤ control → bytes_after control bytes ≡ Err StreamEnds
bytes_after-refused control bytes h =
    let t : ltb control 128 ≡ false = le-ltb control 128 (omega arith) in
    let u : ltb control 256 ≡ false = le-ltb control 256 h in
    rw (t, u) refl

whole : (bytes rest values : List ℕ) → ByteRun bytes values → byte_run (bytes ++ rest) ≡ Ok (values, rest)
whole bytes rest values (repeated {control = control} {value = value} lt) = bytes_after-repeated control (value ∷ rest) lt
whole bytes rest values (literals {control = control} {values = values'} ge lt len) =
    bytes_after-literals control (values' ++ rest) ge lt ∙ rw (← len) (exactly-whole values' rest)

-- what was read is a run
Found : List ℕ → List ℕ → List ℕ → Type 0
Found bytes rest values = (run : List ℕ) × ByteRun run values × (bytes ≡ run ++ rest)

found_repeated : (control : ℕ) (bytes rest values : List ℕ) → control < 128 → mapped (replicate (control + 3)) byte bytes ≡ Ok (values, rest) → Found (control ∷ bytes) rest values
unfolding Found
found_repeated control [] rest values h e = absurd (let no : Err _ ≡ read_of (values, rest) = e in cc)
found_repeated control (value ∷ bytes) rest values h e =
    let same = read_is (replicate (control + 3) value, bytes) (values, rest) e in
    let values_are : replicate (control + 3) value ≡ values = ap (λ (p : List ℕ × List ℕ). p.0) same in
    let after : bytes ≡ rest = ap (λ (p : List ℕ × List ℕ). p.1) same in
    let is : ByteRun (control ∷ value ∷ []) (replicate (control + 3) value) = repeated h in
    (control ∷ value ∷ [], subst (λ (v : List ℕ). ByteRun (control ∷ value ∷ []) v) values_are is, ap (λ (l : List ℕ). control ∷ value ∷ l) after)

found_literals : (control : ℕ) (bytes rest values : List ℕ) → 128 ≤ control → control < 256 → exactly (256 - control) bytes ≡ Ok (values, rest) → Found (control ∷ bytes) rest values
unfolding Found
found_literals control bytes rest values ge lt e =
    let run = exactly-only (256 - control) bytes rest values e in
    (control ∷ values, literals ge lt run.0, ap (λ (l : List ℕ). control ∷ l) run.1)

found : (bytes rest values : List ℕ) → byte_run bytes ≡ Ok (values, rest) → Found bytes rest values
found [] rest values e = absurd (let no : Err _ ≡ read_of (values, rest) = e in cc)
found (control ∷ bytes) rest values e =
    elim (cases_lt control 128) [
      | inl lt ↦ found_repeated control bytes rest values lt (sym (bytes_after-repeated control bytes lt) ∙ e)
      | inr ge ↦ elim (cases_lt control 256) [
        | inl lt ↦ found_literals control bytes rest values ge lt (sym (bytes_after-literals control bytes ge lt) ∙ e)
        | inr none ↦ absurd (let no : Err StreamEnds ≡ read_of (values, rest) = sym (bytes_after-refused control bytes none) ∙ e in cc)
      ]
    ]

some : (bytes values : List ℕ) → ByteRun bytes values → 0 < length values
some bytes values (repeated {control = control} {value = value} lt) = omega (arith, length-replicate (control + 3) value)
some bytes values (literals {values = values'} ge lt len) = omega arith

pub byte_run_reads : IsReaderOf ByteRun byte_run
unfolding Found
byte_run_reads = record { whole = whole; only = found; some = some }

-- ---- its faults

is_end : (fault : RunFault) → fault_of StreamEnds ≡ Err fault → fault ≡ StreamEnds
is_end fault e = cc

exactly_ends : (test : Bool) (p : List ℕ × List ℕ) (fault : RunFault) → cond test (Ok p) (fault_of StreamEnds) ≡ Err fault → fault ≡ StreamEnds
exactly_ends true p fault e = absurd (let no : read_of p ≡ Err fault = e in cc)
exactly_ends false p fault e = is_end fault e

repeated_ends : (count : ℕ) (bytes : List ℕ) (fault : RunFault) → mapped (replicate count) byte bytes ≡ Err fault → fault ≡ StreamEnds
repeated_ends count [] fault e = is_end fault e
repeated_ends count (value ∷ bytes) fault e = absurd (let no : read_of (replicate count value, bytes) ≡ Err fault = e in cc)

pub byte_run_ends : (bytes : List ℕ) (fault : RunFault) → byte_run bytes ≡ Err fault → fault ≡ StreamEnds
byte_run_ends [] fault e = is_end fault e
byte_run_ends (control ∷ bytes) fault e =
    elim (cases_lt control 128) [
      | inl lt ↦ repeated_ends (control + 3) bytes fault (sym (bytes_after-repeated control bytes lt) ∙ e)
      | inr ge ↦ elim (cases_lt control 256) [
        | inl lt ↦ exactly_ends (leb (256 - control) (length bytes)) (take (256 - control) bytes, drop (256 - control) bytes) fault (sym (bytes_after-literals control bytes ge lt) ∙ e)
        | inr none ↦ is_end fault (sym (bytes_after-refused control bytes none) ∙ e)
      ]
    ]
