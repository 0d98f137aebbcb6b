-- Runs of bits, by the runs of their bytes.
use Rattle.std.proofs.Common.{◌≡◌, ℕ, zero, ◌*◌, ◌<◌, ◌≤◌, Bool, List, [], ◌∷◌, ◌++◌, length, take, drop, Result, Ok, Err, refl, sym, ap, subst, ◌∙◌, arith, length-append, append_assoc}
use Rattle.std.proofs.Math.Seq.{take-append_seam}
use Rattle.std.proofs.lemmas.List.{length-take-le, take-append-drop, take-append-le}
use Rattle.outside.specs.declared.run_fault.RunFault.{RunFault}
use Rattle.outside.specs.Reading.{go_on, value}
use Rattle.outside.specs.Runs.{Joined, none, one, Fewest, no_run, runs, Spells, Breaks, IsReaderOf}
use Rattle.outside.specs.ReadingLaws.{read_is, went_on}
use Rattle.orc_rle.specs.BitRun.{byte_bits, bits_of, BitRun, bits, bit_run, bytes_for, BitsAreSpelled, BitsBreak}
use Rattle.orc_rle.specs.ByteRun.{ByteRun, byte_run, OnlyEnds}
use Rattle.orc_rle.proofs.ByteRunReader.{byte_run_reads, byte_run_ends}

abbrev read_of : {X : Type 0} → X × List ℕ → Result (X × List ℕ) RunFault
read_of p = Ok p

-- ---- the bits of bytes

pub length-bits_of : (bytes : List ℕ) → length (bits_of bytes) ≡ 8 * length bytes
length-bits_of [] = refl
length-bits_of (byte ∷ bytes) = omega (arith, length-bits_of bytes)

pub bits_of-append : (front back : List ℕ) → bits_of (front ++ back) ≡ bits_of front ++ bits_of back
bits_of-append [] back = refl
bits_of-append (byte ∷ front) back = ap (λ (l : List Bool). byte_bits byte ++ l) (bits_of-append front back) ∙ sym (append_assoc (byte_bits byte) (bits_of front) (bits_of back))

-- ---- the reader of a run of bits

whole : (bytes rest : List ℕ) (values : List Bool) → BitRun bytes values → bit_run (bytes ++ rest) ≡ Ok (values, rest)
whole bytes rest values (bits {values = numbers} run) = rw (byte_run_reads.whole bytes rest numbers run) refl

only : (bytes rest : List ℕ) (values : List Bool) → bit_run bytes ≡ Ok (values, rest) → (run : List ℕ) × BitRun run values × (bytes ≡ run ++ rest)
only bytes rest values e =
    let on = went_on (byte_run bytes) (λ numbers. value (bits_of numbers)) values rest e in
    let same = read_is (bits_of on.0, on.1) (values, rest) on.3 in
    let values_are : bits_of on.0 ≡ values = ap (λ (p : List Bool × List ℕ). p.0) same in
    let after : on.1 ≡ rest = ap (λ (p : List Bool × List ℕ). p.1) same in
    let run = byte_run_reads.only bytes on.1 on.0 on.2 in
    let is : BitRun run.0 (bits_of on.0) = bits run.1 in
    (run.0, subst (λ (v : List Bool). BitRun run.0 v) values_are is, run.2 ∙ ap (λ (l : List ℕ). run.0 ++ l) after)

some : (bytes : List ℕ) (values : List Bool) → BitRun bytes values → 0 < length values
some bytes values (bits {values = numbers} run) = omega (arith, length-bits_of numbers, byte_run_reads.some bytes numbers run)

pub bit_run_reads : IsReaderOf BitRun bit_run
bit_run_reads = record { whole = whole; only = only; some = some }

-- ---- so many bits are in so many bytes

bits_joined : {bytes values : List ℕ} → Joined ByteRun bytes values → Joined BitRun bytes (bits_of values)
bits_joined none = none
bits_joined (one {values = values} {others = others} run more) = rw bits_of-append (one (bits run) (bits_joined more))

-- bytes whose bits these are
BytesOf : (List ℕ → Type 0) → List Bool → Type 0
BytesOf P values = (numbers : List ℕ) × P numbers × (values ≡ bits_of numbers)

bytes_joined : {bytes : List ℕ} {values : List Bool} → Joined BitRun bytes values → BytesOf (Joined ByteRun bytes) values
unfolding BytesOf
bytes_joined none = ([], none, refl)
bytes_joined (one (bits {values = numbers} run) more) =
    let others = bytes_joined more in
    (numbers ++ others.0, one run others.1, ap (λ (l : List Bool). bits_of numbers ++ l) others.2 ∙ sym (bits_of-append numbers others.0))

bits_fewest : (count needed : ℕ) {bytes values : List ℕ} → needed ≡ bytes_for count → Fewest ByteRun needed bytes values → Fewest BitRun count bytes (bits_of values)
bits_fewest count zero e no_run = let is : 0 ≡ count = omega arith in subst (λ (n : ℕ). Fewest BitRun n [] []) is no_run
bits_fewest count needed e (runs {before = before} {values = values} joined fewer run enough) =
    let len = length-bits_of before in
    let all = length-bits_of (before ++ values) in
    let short : length (bits_of before) < count = omega arith in
    let long : count ≤ length (bits_of before ++ bits_of values) = omega (arith, ap length (bits_of-append before values)) in
    rw bits_of-append (runs (bits_joined joined) short (bits run) long)

bytes_fewest : (count : ℕ) {bytes : List ℕ} {values : List Bool} → Fewest BitRun count bytes values → BytesOf (Fewest ByteRun (bytes_for count) bytes) values
unfolding BytesOf
bytes_fewest zero no_run = ([], no_run, refl)
bytes_fewest count (runs {before = before} joined fewer (bits {values = numbers} run) enough) =
    let front = bytes_joined joined in
    let len : length before ≡ 8 * length front.0 = ap length front.2 ∙ length-bits_of front.0 in
    let all : length (before ++ bits_of numbers) ≡ 8 * length (front.0 ++ numbers) = omega (arith, len, length-append before (bits_of numbers), length-append front.0 numbers, length-bits_of numbers) in
    let short : length front.0 < bytes_for count = omega arith in
    let long : bytes_for count ≤ length (front.0 ++ numbers) = omega arith in
    (front.0 ++ numbers, runs front.1 short run long, ap (λ (l : List Bool). l ++ bits_of numbers) front.2 ∙ sym (bits_of-append front.0 numbers))

fewest_enough : {count : ℕ} {bytes values : List ℕ} → Fewest ByteRun count bytes values → count ≤ length values
fewest_enough no_run = omega arith
fewest_enough (runs joined fewer run enough) = enough

-- ---- what a stream spells

abbrev Bytes : List ℕ → List ℕ → List Bool → Type 0
Bytes stream rest values = (bytes : List ℕ) × Spells ByteRun stream bytes rest × (length bytes ≡ bytes_for (length values)) × (values ≡ take (length values) (bits_of bytes))

bytes_spelled : (stream rest : List ℕ) (values : List Bool) → Spells BitRun stream values rest → Bytes stream rest values
unfolding BytesOf
bytes_spelled stream rest values (held, at) =
    let found = bytes_fewest (length values) at.fewest in
    let numbers = found.0 in
    let needed = bytes_for (length values) in
    let enough : needed ≤ length numbers = fewest_enough found.1 in
    let len : length (take needed numbers) ≡ needed = length-take-le needed numbers enough in
    let room : length values ≤ length (bits_of (take needed numbers)) = omega (arith, len, length-bits_of (take needed numbers)) in
    let parts : values ++ held ≡ bits_of (take needed numbers) ++ bits_of (drop needed numbers) = found.2 ∙ ap bits_of (sym (take-append-drop needed numbers)) ∙ bits_of-append (take needed numbers) (drop needed numbers) in
    let first : values ≡ take (length values) (bits_of (take needed numbers)) = sym (take-append_seam values held) ∙ ap (λ (l : List Bool). take (length values) l) parts ∙ take-append-le (length values) (bits_of (take needed numbers)) (bits_of (drop needed numbers)) room in
    let fewest : Fewest ByteRun (length (take needed numbers)) at.used (take needed numbers ++ drop needed numbers) = rw (len, take-append-drop needed numbers) found.1 in
    (take needed numbers, (drop needed numbers, record { used = at.used; parts = at.parts; fewest = fewest }), len, first)

bits_spelled : (stream rest : List ℕ) (values : List Bool) → Bytes stream rest values → Spells BitRun stream values rest
bits_spelled stream rest values (bytes, (held, at), len, first) =
    let all = bits_of (bytes ++ held) in
    let room : length values ≤ length (bits_of bytes) = omega (arith, len, length-bits_of bytes) in
    let front : take (length values) all ≡ values = ap (λ (l : List Bool). take (length values) l) (bits_of-append bytes held) ∙ take-append-le (length values) (bits_of bytes) (bits_of held) room ∙ sym first in
    let parts : all ≡ values ++ drop (length values) all = sym (take-append-drop (length values) all) ∙ ap (λ (l : List Bool). l ++ drop (length values) all) front in
    (drop (length values) all, record { used = at.used; parts = at.parts; fewest = subst (λ (l : List Bool). Fewest BitRun (length values) at.used l) parts (bits_fewest (length values) (length bytes) len at.fewest) })

pub bits_are_spelled : BitsAreSpelled
bits_are_spelled stream rest values = (bytes_spelled stream rest values, bits_spelled stream rest values)

-- ---- where it breaks

went_wrong : {X Y : Type 0} (read : Result (X × List ℕ) RunFault) (f : X → Y) (fault : RunFault) → go_on read (λ x. value (f x)) ≡ Err fault → read ≡ Err fault
went_wrong (Ok (x, after)) f fault e = absurd (let no : read_of (f x, after) ≡ Err fault = e in cc)
went_wrong (Err other) f fault e = let same : other ≡ fault = cc in ap Err same

bytes_broken : (stream : List ℕ) (count : ℕ) (fault : RunFault) → Breaks BitRun bit_run stream count fault → Breaks ByteRun byte_run stream (bytes_for count) fault
unfolding BytesOf
bytes_broken stream count fault breaks =
    let found = bytes_joined breaks.joined in
    let len : length breaks.values ≡ 8 * length found.0 = ap length found.2 ∙ length-bits_of found.0 in
    record {
      used = breaks.used;
      rest = breaks.rest;
      values = found.0;
      parts = breaks.parts;
      joined = found.1;
      fewer = omega (arith, len, breaks.fewer);
      broken = went_wrong (byte_run breaks.rest) bits_of fault breaks.broken;
    }

bits_broken : (stream : List ℕ) (count : ℕ) (fault : RunFault) → Breaks ByteRun byte_run stream (bytes_for count) fault → Breaks BitRun bit_run stream count fault
bits_broken stream count fault breaks = record {
  used = breaks.used;
  rest = breaks.rest;
  values = bits_of breaks.values;
  parts = breaks.parts;
  joined = bits_joined breaks.joined;
  fewer = omega (arith, length-bits_of breaks.values, breaks.fewer);
  broken = rw breaks.broken refl;
}

pub bits_break : BitsBreak
bits_break stream count fault = (bytes_broken stream count fault, bits_broken stream count fault)

pub bytes_only_end : OnlyEnds ByteRun byte_run
bytes_only_end stream count fault breaks = byte_run_ends breaks.rest fault breaks.broken

pub bits_only_end : OnlyEnds BitRun bit_run
bits_only_end stream count fault breaks = byte_run_ends breaks.rest fault (went_wrong (byte_run breaks.rest) bits_of fault breaks.broken)
