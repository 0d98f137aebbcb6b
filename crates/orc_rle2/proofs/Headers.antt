-- A run is its header, and then what follows by its form.
use Rattle.std.proofs.Common.{◌≡◌, ℕ, ◌+◌, ◌/◌, ◌%◌, ◌<◌, ◌≤◌, Bool, true, false, cond, ltb, List, [], ◌∷◌, ℤ, refl}
use Rattle.std.proofs.lemmas.Bool.{lt-ltb, le-ltb}
use Rattle.outside.specs.declared.run_fault.RunFault.TheVariants.{StreamEnds}
use Rattle.outside.specs.Reading.{Reader, go_on, bind, value, mapped, refusal, byte}
use Rattle.orc_rle2.specs.declared.header.Header.{Header}
use Rattle.orc_rle2.specs.declared.header.Header.TheVariants.{Repeat, Direct, Patched, Delta}
use Rattle.orc_rle2.specs.Header.{long_header, header_after, run_header, run_body}
use Rattle.orc_rle2.specs.IntRun2.{code_of, run_len, repeat_run, direct_body, patched_body, delta_body, long_run, int_run2}
use Rattle.orc_rle2.specs.Widths.{width_of}

abbrev header_by : Bool → Bool → ℕ → ℕ → Header
header_by direct patched code count = cond direct (Direct (width_of code) count) (cond patched (Patched (width_of code) count) (Delta code count))

abbrev body_by : Bool → Bool → Bool → ℕ → ℕ → Reader (List ℤ)
body_by direct patched signed code count = cond direct (direct_body signed (width_of code) count) (cond patched (patched_body (width_of code) count) (delta_body signed code count))

long_by : (direct patched signed : Bool) (code count : ℕ) (bytes : List ℕ) → body_by direct patched signed code count bytes ≡ run_body signed (header_by direct patched code count) bytes
long_by true patched signed code count bytes = refl
long_by false true signed code count bytes = refl
long_by false false signed code count bytes = refl

after_second : (signed : Bool) (first : ℕ) (bytes : List ℕ) → long_run signed first bytes ≡ go_on (mapped (λ second. long_header first (code_of first) (run_len first second)) byte bytes) (run_body signed)
after_second signed first [] = refl
after_second signed first (second ∷ bytes) = long_by (ltb first 128) (ltb first 192) signed (code_of first) (run_len first second) bytes

abbrev first_by : Bool → Bool → ℕ → Reader Header
first_by short is_byte first = cond short (value (Repeat (first / 8 + 1) (first % 8 + 3))) (cond is_byte (mapped (λ second. long_header first (code_of first) (run_len first second)) byte) (refusal StreamEnds))

abbrev run_by : Bool → Bool → Bool → ℕ → Reader (List ℤ)
run_by short is_byte signed first = cond short (repeat_run signed first) (cond is_byte (long_run signed first) (refusal StreamEnds))

after_first : (short is_byte signed : Bool) (first : ℕ) (bytes : List ℕ) → run_by short is_byte signed first bytes ≡ go_on (first_by short is_byte first bytes) (run_body signed)
after_first true is_byte signed first bytes = refl
after_first false true signed first bytes = after_second signed first bytes
after_first false false signed first bytes = refl

pub by_header : (signed : Bool) (bytes : List ℕ) → int_run2 signed bytes ≡ bind run_header (run_body signed) bytes
by_header signed [] = refl
by_header signed (first ∷ bytes) = after_first (ltb first 64) (ltb first 256) signed first bytes

pub header_after-long : (first : ℕ) (bytes : List ℕ) → 64 ≤ first → first < 256 → header_after first bytes ≡ mapped (λ second. long_header first (code_of first) (run_len first second)) byte bytes
header_after-long first bytes h k =
    let t : ltb first 64 ≡ false = le-ltb first 64 h in
    let u : ltb first 256 ≡ true = lt-ltb first 256 k in
    rw (t, u) refl

pub header_after-short : (first : ℕ) (bytes : List ℕ) → first < 64 → header_after first bytes ≡ value (Repeat (first / 8 + 1) (first % 8 + 3)) bytes
header_after-short first bytes h = let t : ltb first 64 ≡ true = lt-ltb first 64 h in rw t refl
