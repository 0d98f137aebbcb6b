-- Runs that stand in bytes, read there.
use Rattle.std.proofs.Common.{◌≡◌, ℕ, ◌+◌, ◌*◌, ◌/◌, ◌%◌, ◌≤◌, ◌<◌, Bool, List, [], ◌∷◌, ◌++◌, length, take, drop, replicate, Option, Some, None, Bor, ℤ, refl, ◌∙◌, sym, ap, arith, map}
use Rattle.std.specs.Prelude.{IfSome}
use Rattle.std.proofs.lemmas.List.{take-append-drop, length-take-le}
use Rattle.outside.specs.Lending.{ReadsIn}
use Rattle.outside.specs.LendingLaws.{ReadsIn-value, ReadsIn-then, ReadsIn-same, ReadsIn-map}
use Rattle.outside.specs.Reading.{value, mapped, bind, byte, exactly}
use Rattle.outside.specs.Varint.{varint}
use Rattle.orc_integers.specs.InPlace.{NumberIn}
use Rattle.orc_integers.specs.InPlaceLaws.{number-read}
use Rattle.orc_integers.specs.Integers.{integer, zigzag, ramp}
use Rattle.orc_rle2.specs.declared.header.Header.{Header}
use Rattle.orc_rle2.specs.declared.header.Header.TheVariants.{Repeat}
use Rattle.orc_rle2.specs.Header.{long_header, header_after, run_header, run_body, repeat_body}
use Rattle.orc_rle2.specs.IntRun2.{code_of, run_len, int_run2, packed, direct_body, delta_body, delta_values, magnitudes}
use Rattle.orc_rle2.specs.Packed.{number_of, packed_len, unpacked}
use Rattle.orc_rle2.proofs.Exactly.{exactly-whole}
use Rattle.orc_rle2.proofs.Forms.{delta-fixed}
use Rattle.orc_rle2.proofs.Headers.{by_header, header_after-long, header_after-short}
use Rattle.orc_rle2.proofs.Numbers.{Bytes, Bytes-behind, unpacked-front}

-- a header, and then what follows it
pub run-read : (signed : Bool) (header : Header) {bytes rest left : List ℕ} {values : List ℤ} → ReadsIn run_header bytes header rest
    → ReadsIn (run_body signed header) rest values left → ReadsIn (int_run2 signed) bytes values left
run-read signed header first one = ReadsIn-same (int_run2 signed) (bind run_header (run_body signed)) (by_header signed) (ReadsIn-then run_header (run_body signed) first one)

-- the same of an answer
pub run-read-if : (signed : Bool) (header : Header) {bytes rest : List ℕ} (out held : List ℤ) → ReadsIn run_header bytes header rest
    → (answer : Option (ℕ × Bor (List ℕ))) → IfSome answer (λ p. ReadsIn (run_body signed header) rest (take p.0 out ++ held) p.1.now)
    → IfSome answer (λ p. ReadsIn (int_run2 signed) bytes (take p.0 out ++ held) p.1.now)
run-read-if signed header out held first None one = tt
run-read-if signed header out held first (Some p) one = run-read signed header first one

-- one byte
byte-read : (first : ℕ) (left : List ℕ) → ReadsIn byte (first ∷ left) first left
byte-read first left = record { front = first ∷ []; parts = refl; reads = λ more. refl }

pub short-read : (first : ℕ) (left : List ℕ) → first < 64 → ReadsIn run_header (first ∷ left) (Repeat (first / 8 + 1) (first % 8 + 3)) left
short-read first left h = ReadsIn-then byte header_after (byte-read first left)
    (ReadsIn-same (header_after first) (value (Repeat (first / 8 + 1) (first % 8 + 3))) (λ bytes. header_after-short first bytes h) (ReadsIn-value _ left))

pub long-read : (first second : ℕ) (left : List ℕ) → 64 ≤ first → first < 256
    → ReadsIn run_header (first ∷ second ∷ left) (long_header first (code_of first) (run_len first second)) left
long-read first second left h k = ReadsIn-then byte header_after (byte-read first (second ∷ left))
    (ReadsIn-same (header_after first) (mapped (λ second. long_header first (code_of first) (run_len first second)) byte) (λ bytes. header_after-long first bytes h k)
    (ReadsIn-map byte (λ second. long_header first (code_of first) (run_len first second)) (byte-read second left)))

-- just so many bytes
pub exactly-read : (count : ℕ) (bytes : List ℕ) → count ≤ length bytes → ReadsIn (exactly count) bytes (take count bytes) (drop count bytes)
exactly-read count bytes h = record {
  front = take count bytes;
  parts = sym (take-append-drop count bytes);
  reads = λ more. ap (λ (n : ℕ). exactly n (take count bytes ++ more)) (sym (length-take-le count bytes h)) ∙ exactly-whole (take count bytes) more;
}

pub repeat-read : (signed : Bool) (len count : ℕ) (bytes : List ℕ) → len ≤ length bytes
    → ReadsIn (repeat_body signed len count) bytes (replicate count (integer signed (number_of (take len bytes)))) (drop len bytes)
repeat-read signed len count bytes h = ReadsIn-map (exactly len) (λ body. replicate count (integer signed (number_of body))) (exactly-read len bytes h)

pub packed-read : (signed : Bool) (width count : ℕ) (bytes : List ℕ) → Bytes bytes → packed_len width count ≤ length bytes
    → ReadsIn (direct_body signed width count) bytes (map (integer signed) (unpacked width count bytes)) (drop (packed_len width count) bytes)
packed-read signed width count bytes are h =
    let len = packed_len width count in
    let body = take len bytes in
    let room : width * count ≤ 8 * length body = omega (arith, length-take-le len bytes h) in
    let is : unpacked width count bytes ≡ unpacked width count body =
    ap (unpacked width count) (sym (take-append-drop len bytes)) ∙ unpacked-front width count body (drop len bytes) (Bytes-behind bytes len are) room in
    rw is (ReadsIn-map (packed width count) (map (integer signed)) (ReadsIn-map (exactly len) (unpacked width count) (exactly-read len bytes h)))

pub ramp-read : (signed : Bool) (code count : ℕ) {bytes rest left : List ℕ} (start step : ℕ) → code ≡ 0 → NumberIn bytes start rest → NumberIn rest step left
    → ReadsIn (delta_body signed code count) bytes (ramp (integer signed start) (zigzag step) count) left
ramp-read signed code count {left = left} start step none first second =
    ReadsIn-then varint (λ start. bind varint (λ step. mapped (delta_values (integer signed start) (zigzag step) code count) (magnitudes code count))) (number-read first)
    (ReadsIn-then varint (λ step. mapped (delta_values (integer signed start) (zigzag step) code count) (magnitudes code count)) (number-read second)
    (ReadsIn-same (mapped (delta_values (integer signed start) (zigzag step) code count) (magnitudes code count)) (value (ramp (integer signed start) (zigzag step) count))
    (λ bytes. delta-fixed (integer signed start) (zigzag step) code count bytes none) (ReadsIn-value _ left)))
