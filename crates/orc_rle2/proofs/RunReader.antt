-- The reader of a run reads just the spellings of runs, whatever follows.
use Rattle.std.proofs.Common.{◌≡◌, ℕ, ◌+◌, ◌-◌, ◌*◌, ◌/◌, ◌%◌, ◌<◌, ◌≤◌, Bool, true, false, ltb, eqb, ◌&&◌, List, [], ◌∷◌, ◌++◌, length, map, Option, Some, None, Result, Ok, Err, ℤ, refl, sym, ap, subst, ◌∙◌, arith, inl, inr, append_assoc}
use Rattle.std.proofs.lemmas.Bool.{cases_lt, cases_eq, lt-ltb, le-ltb, eq-eqb, ne_eqb}
use Rattle.outside.specs.declared.run_fault.RunFault.{RunFault}
use Rattle.outside.specs.declared.run_fault.RunFault.TheVariants.{PatchTooWide}
use Rattle.outside.specs.Reading.{bind, value, mapped, exactly}
use Rattle.outside.specs.Runs.{IsReaderOf}
use Rattle.outside.specs.Varint.{IsVarint, varint}
use Rattle.outside.specs.ReadingLaws.{read_is, went_on}
use Rattle.outside.specs.VarintLaws.{varint-whole, varint-only}
use Rattle.orc_rle2.proofs.Exactly.{exactly-whole, exactly-only}
use Rattle.orc_rle2.proofs.Lengths.{repeat-some, direct-some, delta-some, patched-some}
use Rattle.orc_rle2.specs.declared.patches.Shape.{Shape}
use Rattle.orc_integers.specs.Integers.{integer, zigzag}
use Rattle.orc_rle2.specs.Integers.{sign_magnitude}
use Rattle.orc_rle2.specs.Packed.{number_of, packed_len, unpacked}
use Rattle.orc_rle2.specs.Patches.{patched}
use Rattle.orc_rle2.specs.Widths.{width_of}
use Rattle.orc_rle2.specs.IntRun2.{IntRun2, short_repeat, direct, patched_base, delta, code_of, run_len, repeat_values, above_base, magnitude_len, magnitudes_in, magnitudes, delta_values, base_len, base_bytes, shape_of, patch_count, entry_width, patched_numbers, packed, patched_values, repeat_run, direct_body, delta_body, or_out_of_run, patched_rest, patched_after, patched_body, long_body, long_run, run_after, int_run2}

abbrev read_of : {X : Type 0} → X × List ℕ → Result (X × List ℕ) RunFault
read_of p = Ok p

-- ---- which form

pub run_after-short : (signed : Bool) (first : ℕ) (bytes : List ℕ) → first < 64 → run_after signed first bytes ≡ repeat_run signed first bytes
run_after-short signed first bytes h = let t : ltb first 64 ≡ true = lt-ltb first 64 h in rw t refl

pub run_after-long : (signed : Bool) (first : ℕ) (bytes : List ℕ) → 64 ≤ first → first < 256 → run_after signed first bytes ≡ long_run signed first bytes
run_after-long signed first bytes h k =
    let t : ltb first 64 ≡ false = le-ltb first 64 h in
    let u : ltb first 256 ≡ true = lt-ltb first 256 k in
    rw (t, u) refl

run_after-none : (signed : Bool) (first : ℕ) (bytes : List ℕ) (p : List ℤ × List ℕ) → 256 ≤ first → run_after signed first bytes ≡ read_of p → ⊥
run_after-none signed first bytes p h e =
    let t : ltb first 64 ≡ false = le-ltb first 64 (omega arith) in
    let u : ltb first 256 ≡ false = le-ltb first 256 h in
    let no = rw (t, u) at e in
    absurd cc

pub long_body-direct : (signed : Bool) (first code count : ℕ) (bytes : List ℕ) → first < 128 → long_body signed first code count bytes ≡ direct_body signed (width_of code) count bytes
long_body-direct signed first code count bytes h = let t : ltb first 128 ≡ true = lt-ltb first 128 h in rw t refl

pub long_body-patched : (signed : Bool) (first code count : ℕ) (bytes : List ℕ) → 128 ≤ first → first < 192 → long_body signed first code count bytes ≡ patched_body (width_of code) count bytes
long_body-patched signed first code count bytes h k =
    let t : ltb first 128 ≡ false = le-ltb first 128 h in
    let u : ltb first 192 ≡ true = lt-ltb first 192 k in
    rw (t, u) refl

pub long_body-delta : (signed : Bool) (first code count : ℕ) (bytes : List ℕ) → 192 ≤ first → long_body signed first code count bytes ≡ delta_body signed code count bytes
long_body-delta signed first code count bytes h =
    let t : ltb first 128 ≡ false = le-ltb first 128 (omega arith) in
    let u : ltb first 192 ≡ false = le-ltb first 192 h in
    rw (t, u) refl

-- ---- too wide a patch

wide_test : (patches bits : ℕ) → (0 < patches → bits ≤ 64) → (ltb 0 patches && ltb 64 bits) ≡ false
wide_test patches bits h =
    elim (cases_lt 0 patches) [
      | inl some ↦
          let t : ltb 0 patches ≡ true = lt-ltb 0 patches some in
          let u : ltb 64 bits ≡ false = le-ltb 64 bits (h some) in
          rw (t, u) refl
      | inr none ↦
          let t : ltb 0 patches ≡ false = le-ltb 0 patches none in
          rw t refl
    ]

pub patched_after-narrow : (shape : Shape) (base patches count : ℕ) (bytes : List ℕ) → (0 < patches → shape.gaps + shape.patches ≤ 64) → patched_after shape base patches count bytes ≡ patched_rest shape base patches count bytes
patched_after-narrow shape base patches count bytes h =
    let t : (ltb 0 patches && ltb 64 (shape.gaps + shape.patches)) ≡ false = wide_test patches (shape.gaps + shape.patches) h in
    rw t refl

pub patched_after-wide : (shape : Shape) (base patches count : ℕ) (bytes : List ℕ) → 0 < patches → 64 < shape.gaps + shape.patches → patched_after shape base patches count bytes ≡ Err PatchTooWide
patched_after-wide shape base patches count bytes h k =
    let t : ltb 0 patches ≡ true = lt-ltb 0 patches h in
    let u : ltb 64 (shape.gaps + shape.patches) ≡ true = lt-ltb 64 (shape.gaps + shape.patches) k in
    rw (t, u) refl

-- ---- packed values

no_bytes : (bytes : List ℕ) → length bytes ≡ 0 → bytes ≡ []
no_bytes [] e = refl
no_bytes (x ∷ bytes) e = absurd (omega arith)

pub packed-whole : (width count : ℕ) (body rest : List ℕ) → length body ≡ packed_len width count → packed width count (body ++ rest) ≡ Ok (unpacked width count body, rest)
packed-whole width count body rest len = rw (← len, exactly-whole body rest) refl

-- the bytes of what was read
record Body (len : ℕ) (made : List ℕ → List ℕ) (bytes rest numbers : List ℕ) : Type 0 where
  body : List ℕ
  parts : bytes ≡ body ++ rest
  len_is : length body ≡ len
  is : made body ≡ numbers

packed-only : (width count : ℕ) (bytes rest numbers : List ℕ) → packed width count bytes ≡ Ok (numbers, rest) → Body (packed_len width count) (unpacked width count) bytes rest numbers
packed-only width count bytes rest numbers e =
    let on = went_on (exactly (packed_len width count) bytes) (λ body. value (unpacked width count body)) numbers rest e in
    let same = read_is (unpacked width count on.0, on.1) (numbers, rest) on.3 in
    let parts = exactly-only (packed_len width count) bytes on.0 on.1 on.2 in
    record {
      body = on.0;
      parts = parts.0 ∙ ap (λ (l : List ℕ). on.0 ++ l) (ap (λ (p : List ℕ × List ℕ). p.1) same);
      len_is = parts.1;
      is = ap (λ (p : List ℕ × List ℕ). p.0) same;
    }

magnitudes-whole : (code count : ℕ) (body rest : List ℕ) → length body ≡ magnitude_len code count → magnitudes code count (body ++ rest) ≡ Ok (magnitudes_in code count body, rest)
magnitudes-whole code count body rest len =
    elim (cases_eq code 0) [
      | inl none ↦
          let t : eqb code 0 ≡ true = eq-eqb code 0 none in
          let empty : length body ≡ 0 = rw t at len in
          rw (t, no_bytes body empty) refl
      | inr some ↦
          let t : eqb code 0 ≡ false = ne_eqb code 0 some in
          let len_is = rw t at len in
          rw t (packed-whole (width_of code) (count - 2) body rest len_is)
    ]

magnitudes-only : (code count : ℕ) (bytes rest numbers : List ℕ) → magnitudes code count bytes ≡ Ok (numbers, rest) → Body (magnitude_len code count) (magnitudes_in code count) bytes rest numbers
magnitudes-only code count bytes rest numbers e =
    elim (cases_eq code 0) [
      | inl none ↦
          let t : eqb code 0 ≡ true = eq-eqb code 0 none in
          let read = rw t at e in
          let same = read_is ([], bytes) (numbers, rest) read in
          record { body = []; parts = ap (λ (p : List ℕ × List ℕ). p.1) same; len_is = rw t refl; is = rw t (ap (λ (p : List ℕ × List ℕ). p.0) same) }
      | inr some ↦
          let t : eqb code 0 ≡ false = ne_eqb code 0 some in
          let read = rw t at e in
          let b = packed-only (width_of code) (count - 2) bytes rest numbers read in
          record { body = b.body; parts = b.parts; len_is = rw t b.len_is; is = rw t b.is }
    ]

-- ---- a spelling is read, whatever follows

patched-whole : (shape : Shape) (base_count patches count : ℕ) (base body entries numbers rest : List ℕ) → length base ≡ base_count → length body ≡ packed_len shape.values count → length entries ≡ packed_len (entry_width shape) patches → patched_numbers shape patches count body entries ≡ Some numbers →
    patched_rest shape base_count patches count ((base ++ (body ++ entries)) ++ rest) ≡ Ok (above_base (sign_magnitude (8 * base_count) (number_of base)) numbers, rest)
patched-whole shape base_count patches count base body entries numbers rest a b e n =
    let parts : (base ++ (body ++ entries)) ++ rest ≡ base ++ (body ++ (entries ++ rest)) = simp append_assoc in
    rw (parts, ← a, exactly-whole base (body ++ (entries ++ rest)), packed-whole shape.values count body (entries ++ rest) b, packed-whole (entry_width shape) patches entries rest e, n) refl

delta-whole : (signed : Bool) (code count start step : ℕ) (start_bytes step_bytes body rest : List ℕ) → IsVarint start_bytes start → IsVarint step_bytes step → length body ≡ magnitude_len code count →
    delta_body signed code count ((start_bytes ++ (step_bytes ++ body)) ++ rest) ≡ Ok (delta_values (integer signed start) (zigzag step) code count (magnitudes_in code count body), rest)
delta-whole signed code count start step start_bytes step_bytes body rest v w len =
    let parts : (start_bytes ++ (step_bytes ++ body)) ++ rest ≡ start_bytes ++ (step_bytes ++ (body ++ rest)) = simp append_assoc in
    rw (parts, varint-whole start_bytes (step_bytes ++ (body ++ rest)) start v, varint-whole step_bytes (body ++ rest) step w, magnitudes-whole code count body rest len) refl

whole : (signed : Bool) (bytes rest : List ℕ) (values : List ℤ) → IntRun2 signed bytes values → int_run2 signed (bytes ++ rest) ≡ Ok (values, rest)
whole signed bytes rest values (short_repeat first body lt len) =
    run_after-short signed first (body ++ rest) lt ∙ rw (← len, exactly-whole body rest) refl
whole signed bytes rest values (direct first second body ge lt len) =
    run_after-long signed first (second ∷ (body ++ rest)) ge (omega arith)
    ∙ long_body-direct signed first (code_of first) (run_len first second) (body ++ rest) lt
    ∙ rw (packed-whole (width_of (code_of first)) (run_len first second) body rest len) refl
whole signed bytes rest values (patched_base first second third fourth base body entries numbers ge lt narrow a b e n) =
    run_after-long signed first (second ∷ third ∷ fourth ∷ ((base ++ (body ++ entries)) ++ rest)) (omega arith) (omega arith)
    ∙ long_body-patched signed first (code_of first) (run_len first second) (third ∷ fourth ∷ ((base ++ (body ++ entries)) ++ rest)) ge lt
    ∙ patched_after-narrow (shape_of (width_of (code_of first)) third fourth) (base_len third) (patch_count fourth) (run_len first second) ((base ++ (body ++ entries)) ++ rest) narrow
    ∙ patched-whole (shape_of (width_of (code_of first)) third fourth) (base_len third) (patch_count fourth) (run_len first second) base body entries numbers rest a b e n
whole signed bytes rest values (delta first second start step start_bytes step_bytes body ge lt v w len) =
    run_after-long signed first (second ∷ ((start_bytes ++ (step_bytes ++ body)) ++ rest)) (omega arith) lt
    ∙ long_body-delta signed first (code_of first) (run_len first second) ((start_bytes ++ (step_bytes ++ body)) ++ rest) ge
    ∙ delta-whole signed (code_of first) (run_len first second) start step start_bytes step_bytes body rest v w len

-- ---- what was read is a run

abbrev Found : Bool → List ℕ → List ℕ → List ℤ → Type 0
Found signed bytes rest values = (run : List ℕ) × IntRun2 signed run values × (bytes ≡ run ++ rest)

found : (signed : Bool) (run bytes after rest : List ℕ) (made values : List ℤ) → IntRun2 signed run made → bytes ≡ run ++ after → read_of (made, after) ≡ Ok (values, rest) → Found signed bytes rest values
found signed run bytes after rest made values is parts e =
    let same = read_is (made, after) (values, rest) e in
    let values_are : made ≡ values = ap (λ (p : List ℤ × List ℕ). p.0) same in
    let rest_is : after ≡ rest = ap (λ (p : List ℤ × List ℕ). p.1) same in
    (run, subst (λ (v : List ℤ). IntRun2 signed run v) values_are is, parts ∙ ap (λ (l : List ℕ). run ++ l) rest_is)

found_short : (signed : Bool) (first : ℕ) (bytes rest : List ℕ) (values : List ℤ) → first < 64 → repeat_run signed first bytes ≡ Ok (values, rest) → Found signed (first ∷ bytes) rest values
found_short signed first bytes rest values lt e =
    let on = went_on (exactly (first / 8 + 1) bytes) (λ body. value (repeat_values signed first body)) values rest e in
    let parts = exactly-only (first / 8 + 1) bytes on.0 on.1 on.2 in
    found signed (first ∷ on.0) (first ∷ bytes) on.1 rest (repeat_values signed first on.0) values (short_repeat first on.0 lt parts.1) (ap (λ (l : List ℕ). first ∷ l) parts.0) on.3

found_direct : (signed : Bool) (first second : ℕ) (bytes rest : List ℕ) (values : List ℤ) → 64 ≤ first → first < 128 → direct_body signed (width_of (code_of first)) (run_len first second) bytes ≡ Ok (values, rest) → Found signed (first ∷ second ∷ bytes) rest values
found_direct signed first second bytes rest values ge lt e =
    let width = width_of (code_of first) in
    let count = run_len first second in
    let on = went_on (packed width count bytes) (λ numbers. value (map (integer signed) numbers)) values rest e in
    let b = packed-only width count bytes on.1 on.0 on.2 in
    found signed (first ∷ second ∷ b.body) (first ∷ second ∷ bytes) on.1 rest (map (integer signed) (unpacked width count b.body)) values (direct first second b.body ge lt b.len_is) (ap (λ (l : List ℕ). first ∷ second ∷ l) b.parts)
    (rw b.is on.3)

found_delta : (signed : Bool) (first second : ℕ) (bytes rest : List ℕ) (values : List ℤ) → 192 ≤ first → first < 256 → delta_body signed (code_of first) (run_len first second) bytes ≡ Ok (values, rest) → Found signed (first ∷ second ∷ bytes) rest values
found_delta signed first second bytes rest values ge lt e =
    let code = code_of first in
    let count = run_len first second in
    let one = went_on (varint bytes) (λ start. bind varint (λ step. mapped (delta_values (integer signed start) (zigzag step) code count) (magnitudes code count))) values rest e in
    let two = went_on (varint one.1) (λ step. mapped (delta_values (integer signed one.0) (zigzag step) code count) (magnitudes code count)) values rest one.3 in
    let on = went_on (magnitudes code count two.1) (λ numbers. value (delta_values (integer signed one.0) (zigzag two.0) code count numbers)) values rest two.3 in
    let start = varint-only bytes one.1 one.0 one.2 in
    let step = varint-only one.1 two.1 two.0 two.2 in
    let b = magnitudes-only code count two.1 on.1 on.0 on.2 in
    let joined : bytes ≡ start.0 ++ (step.0 ++ (b.body ++ on.1)) = start.2 ∙ ap (λ (l : List ℕ). start.0 ++ l) (step.2 ∙ ap (λ (l : List ℕ). step.0 ++ l) b.parts) in
    let parts : (start.0 ++ (step.0 ++ b.body)) ++ on.1 ≡ start.0 ++ (step.0 ++ (b.body ++ on.1)) = simp append_assoc in
    found signed (first ∷ second ∷ (start.0 ++ (step.0 ++ b.body))) (first ∷ second ∷ bytes) on.1 rest (delta_values (integer signed one.0) (zigzag two.0) code count (magnitudes_in code count b.body)) values
    (delta first second one.0 two.0 start.0 step.0 b.body ge lt start.1 step.1 b.len_is) (ap (λ (l : List ℕ). first ∷ second ∷ l) (joined ∙ sym parts)) (rw b.is on.3)

read_base : (x y : ℤ × List ℕ) → read_of x ≡ read_of y → x ≡ y
read_base x y e = cc

in_run : (base : ℤ) (patched : Option (List ℕ)) (after rest : List ℕ) (values : List ℤ) → or_out_of_run base patched after ≡ Ok (values, rest) → (numbers : List ℕ) × (patched ≡ Some numbers) × (read_of (above_base base numbers, after) ≡ Ok (values, rest))
in_run base None after rest values e = absurd (let no : Err _ ≡ read_of (values, rest) = e in cc)
in_run base (Some numbers) after rest values e = (numbers, refl, e)

found_narrow : (signed : Bool) (first second third fourth : ℕ) (bytes rest : List ℕ) (values : List ℤ) → 128 ≤ first → first < 192 → (0 < patch_count fourth → fourth / 32 + 1 + width_of (third % 32) ≤ 64) →
    patched_rest (shape_of (width_of (code_of first)) third fourth) (base_len third) (patch_count fourth) (run_len first second) bytes ≡ Ok (values, rest) → Found signed (first ∷ second ∷ third ∷ fourth ∷ bytes) rest values
found_narrow signed first second third fourth bytes rest values ge lt narrow e =
    let shape = shape_of (width_of (code_of first)) third fourth in
    let base = base_len third in
    let patches = patch_count fourth in
    let count = run_len first second in
    let zero = went_on (base_bytes base bytes) (λ base. patched_values shape base patches count) values rest e in
    let one = went_on (exactly base bytes) (λ bytes. value (sign_magnitude (8 * base) (number_of bytes))) zero.0 zero.1 zero.2 in
    let same = read_base (sign_magnitude (8 * base) (number_of one.0), one.1) (zero.0, zero.1) one.3 in
    let value_is : sign_magnitude (8 * base) (number_of one.0) ≡ zero.0 = ap (λ (p : ℤ × List ℕ). p.0) same in
    let after : one.1 ≡ zero.1 = ap (λ (p : ℤ × List ℕ). p.1) same in
    let two = went_on (packed shape.values count zero.1) (λ numbers. bind (packed (entry_width shape) patches) (λ entries. or_out_of_run zero.0 (patched shape 0 entries numbers))) values rest zero.3 in
    let three = went_on (packed (entry_width shape) patches two.1) (λ entries. or_out_of_run zero.0 (patched shape 0 entries two.0)) values rest two.3 in
    let on = in_run zero.0 (patched shape 0 three.0 two.0) three.1 rest values three.3 in
    let base_is = exactly-only base bytes one.0 one.1 one.2 in
    let body = packed-only shape.values count zero.1 two.1 two.0 two.2 in
    let entries = packed-only (entry_width shape) patches two.1 three.1 three.0 three.2 in
    let joined : bytes ≡ one.0 ++ (body.body ++ (entries.body ++ three.1)) = base_is.0 ∙ ap (λ (l : List ℕ). one.0 ++ l) (after ∙ body.parts ∙ ap (λ (l : List ℕ). body.body ++ l) entries.parts) in
    let parts : (one.0 ++ (body.body ++ entries.body)) ++ three.1 ≡ one.0 ++ (body.body ++ (entries.body ++ three.1)) = simp append_assoc in
    let numbers_are : patched_numbers shape patches count body.body entries.body ≡ Some on.0 = rw (body.is, entries.is) on.1 in
    found signed (first ∷ second ∷ third ∷ fourth ∷ (one.0 ++ (body.body ++ entries.body))) (first ∷ second ∷ third ∷ fourth ∷ bytes) three.1 rest (above_base (sign_magnitude (8 * base) (number_of one.0)) on.0) values
    (patched_base first second third fourth one.0 body.body entries.body on.0 ge lt narrow base_is.1 body.len_is entries.len_is numbers_are) (ap (λ (l : List ℕ). first ∷ second ∷ third ∷ fourth ∷ l) (joined ∙ sym parts)) (rw value_is on.2)

found_patched : (signed : Bool) (first second : ℕ) (bytes rest : List ℕ) (values : List ℤ) → 128 ≤ first → first < 192 → patched_body (width_of (code_of first)) (run_len first second) bytes ≡ Ok (values, rest) → Found signed (first ∷ second ∷ bytes) rest values
found_patched signed first second [] rest values ge lt e = absurd (let no : Err _ ≡ read_of (values, rest) = e in cc)
found_patched signed first second (third ∷ []) rest values ge lt e = absurd (let no : Err _ ≡ read_of (values, rest) = e in cc)
found_patched signed first second (third ∷ fourth ∷ bytes) rest values ge lt e =
    let shape = shape_of (width_of (code_of first)) third fourth in
    let narrow_read = λ (narrow : 0 < patch_count fourth → fourth / 32 + 1 + width_of (third % 32) ≤ 64). found_narrow signed first second third fourth bytes rest values ge lt narrow (sym (patched_after-narrow shape (base_len third) (patch_count fourth) (run_len first second) bytes narrow) ∙ e) in
    elim (cases_lt 64 (fourth / 32 + 1 + width_of (third % 32))) [
      | inl wide ↦ elim (cases_lt 0 (patch_count fourth)) [
        | inl some ↦
            let refused = patched_after-wide shape (base_len third) (patch_count fourth) (run_len first second) bytes some wide in
            absurd (let no : Err _ ≡ read_of (values, rest) = sym refused ∙ e in cc)
        | inr none ↦ narrow_read (λ some. absurd (omega arith))
      ]
      | inr narrow ↦ narrow_read (λ some. narrow)
    ]

found_long : (signed : Bool) (first : ℕ) (bytes rest : List ℕ) (values : List ℤ) → 64 ≤ first → first < 256 → long_run signed first bytes ≡ Ok (values, rest) → Found signed (first ∷ bytes) rest values
found_long signed first [] rest values ge lt e = absurd (let no : Err _ ≡ read_of (values, rest) = e in cc)
found_long signed first (second ∷ bytes) rest values ge lt e =
    let code = code_of first in
    let count = run_len first second in
    elim (cases_lt first 128) [
      | inl small ↦ found_direct signed first second bytes rest values ge small (sym (long_body-direct signed first code count bytes small) ∙ e)
      | inr above ↦ elim (cases_lt first 192) [
        | inl small ↦ found_patched signed first second bytes rest values above small (sym (long_body-patched signed first code count bytes above small) ∙ e)
        | inr great ↦ found_delta signed first second bytes rest values great lt (sym (long_body-delta signed first code count bytes great) ∙ e)
      ]
    ]

only : (signed : Bool) (bytes rest : List ℕ) (values : List ℤ) → int_run2 signed bytes ≡ Ok (values, rest) → Found signed bytes rest values
only signed [] rest values e = absurd (let no : Err _ ≡ read_of (values, rest) = e in cc)
only signed (first ∷ bytes) rest values e =
    elim (cases_lt first 64) [
      | inl lt ↦ found_short signed first bytes rest values lt (sym (run_after-short signed first bytes lt) ∙ e)
      | inr ge ↦ elim (cases_lt first 256) [
        | inl lt ↦ found_long signed first bytes rest values ge lt (sym (run_after-long signed first bytes ge lt) ∙ e)
        | inr none ↦ absurd (run_after-none signed first bytes (values, rest) none e)
      ]
    ]

some : (signed : Bool) (bytes : List ℕ) (values : List ℤ) → IntRun2 signed bytes values → 0 < length values
some signed bytes values (short_repeat first body lt len) = repeat-some signed first body
some signed bytes values (direct first second body ge lt len) = direct-some signed (width_of (code_of first)) (run_len first second) body (omega arith)
some signed bytes values (patched_base first second third fourth base body entries numbers ge lt narrow a b e n) =
    patched-some (shape_of (width_of (code_of first)) third fourth) (patch_count fourth) (run_len first second) (sign_magnitude (8 * base_len third) (number_of base)) body entries numbers n (omega arith)
some signed bytes values (delta first second start step start_bytes step_bytes body ge lt v w len) =
    delta-some (integer signed start) (zigzag step) (code_of first) (run_len first second) (magnitudes_in (code_of first) (run_len first second) body) (omega arith)

pub int_run2_reads : (signed : Bool) → IsReaderOf (IntRun2 signed) (int_run2 signed)
int_run2_reads signed = record { whole = whole signed; only = only signed; some = some signed }
