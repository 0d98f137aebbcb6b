-- The forms of a run, as they are written.
use Rattle.std.proofs.Common.{◌≡◌, ℕ, ◌+◌, ◌-◌, ◌*◌, ◌/◌, ◌%◌, ◌^◌, ◌<◌, ◌≤◌, List, [], ◌∷◌, ◌++◌, length, map, get_or, replicate, take, Result, Ok, Err, refl, sym, ap, subst, ◌∙◌, append_assoc, append-nil, drop, arith, ℤ, pos, ◌+ℤ◌, ◌*ℤ◌, Bool, true, false, eqb, inl, inr, neg_ℤ, FitsSigned}
use Rattle.std.specs.Prelude.{OnOk}
use Rattle.std.specs.Int.{w64, cast_signed, int_wrap}
use Rattle.std.proofs.lemmas.Int.{int_wrap_fits, ints}
use Rattle.std.proofs.lemmas.Bool.{cases_eq, eq-eqb, ne_eqb}
use Rattle.std.proofs.lemmas.List.{length-replicate, get_or-replicate}
use Rattle.std.proofs.lemmas.List.FromFn.{fill_by_all}
use Rattle.std.proofs.Math.Seq.{take-length}
use Rattle.outside.specs.Varint.{IsVarint}
use Rattle.orc_integers.specs.Integers.{integer, zigzag, ramp, wrapped_sum}
use Rattle.orc_rle2.specs.Integers.{sums, with_sign}
use Rattle.orc_rle2.specs.IntRun2.{IntRun2, direct, short_repeat, delta, code_of, run_len, delta_values, magnitude_len, magnitudes_in}
use Rattle.orc_rle2.specs.Packed.{number_of, packed_len, unpacked}
use Rattle.orc_rle2.specs.Widths.{width_of}
use Rattle.rle_writer.specs.Written.{Adds}
use Rattle.rle2_writer.specs.Packs.{Packs}
use Rattle.rle2_writer.proofs.PackedBits.{Packs-unpacked}

pub OnOk-then : {T E : Type 0} (r : Result T E) {P Q : Type 0} → OnOk r P → (P → Q) → OnOk r Q
OnOk-then (Ok x) h f = f h
OnOk-then (Err e) h f = tt

-- ---- direct

pub direct_run : (signed : Bool) (before between after : List ℕ) (code len : ℕ) (numbers : List ℕ) (values : List ℤ) → code < 32 → 0 < len → len ≤ 512 → len ≡ length numbers → map (integer signed) numbers ≡ values → ((k : ℕ) → get_or numbers k 0 < 2 ^ width_of code)
    → between ≡ before ++ (64 + 2 * code + (len - 1) / 256) ∷ (len - 1) % 256 ∷ [] → Adds (Packs (width_of code)) between after numbers → Adds (IntRun2 signed) before after values
direct_run signed before between after code len numbers values code_fits some most len_is are below front adds =
    let first = 64 + 2 * code + (len - 1) / 256 in
    let second = (len - 1) % 256 in
    let body = adds.0 in
    let packed = Packs-unpacked (width_of code) body numbers below adds.2 in
    let low : 64 ≤ first = omega arith in
    let high : first < 128 = omega arith in
    let code_is : code ≡ code_of first = omega arith in
    let count_is : length numbers ≡ run_len first second = omega arith in
    let body_len : length body ≡ packed_len (width_of (code_of first)) (run_len first second) =
    subst (λ (n : ℕ). length body ≡ packed_len (width_of n) (run_len first second)) code_is (subst (λ (n : ℕ). length body ≡ packed_len (width_of code) n) count_is packed.0) in
    let same : unpacked (width_of (code_of first)) (run_len first second) body ≡ numbers =
    subst (λ (n : ℕ). unpacked (width_of n) (run_len first second) body ≡ numbers) code_is (subst (λ (n : ℕ). unpacked (width_of code) n body ≡ numbers) count_is packed.1) in (
      first ∷ second ∷ body,
      adds.1 ∙ ap (λ (l : List ℕ). l ++ body) front ∙ append_assoc before (first ∷ second ∷ []) body,
      subst (λ (l : List ℤ). IntRun2 signed (first ∷ second ∷ body) l) (ap (map (integer signed)) same ∙ are) (direct first second body low high body_len),
    )

-- ---- short repeat

plain : (p n : ℕ) → (0 * p + n) * 1 ≡ n
plain p n = omega arith

repeat_first : (len count : ℕ) → 0 < len → len ≤ 8 → 3 ≤ count → count ≤ 10 → (8 * (len - 1) + (count - 3) < 64) × (len ≡ (8 * (len - 1) + (count - 3)) / 8 + 1) × ((8 * (len - 1) + (count - 3)) % 8 + 3 ≡ count)
repeat_first len count some most low high = (omega arith, omega arith, omega arith)

pub repeat_run : (signed : Bool) (before between after : List ℕ) (len count number : ℕ) (value : ℤ) → 0 < len → len ≤ 8 → 3 ≤ count → count ≤ 10 → integer signed number ≡ value
    → between ≡ before ++ (8 * (len - 1) + (count - 3)) ∷ [] → Adds (Packs (8 * len)) between after (number ∷ []) → Adds (IntRun2 signed) before after (replicate count value)
repeat_run signed before between after len count number value some most low high is front adds =
    let first = 8 * (len - 1) + (count - 3) in
    let facts = repeat_first len count some most low high in
    let body = adds.0 in
    let packs = adds.2 in
    let no_pad : packs.pad ≡ 0 = omega (arith, packs.small, packs.count) in
    let body_len : length body ≡ first / 8 + 1 = omega (arith, packs.count, no_pad, facts.1) in
    let number_is : number_of body ≡ number = packs.is ∙ ap (λ (n : ℕ). (0 * 2 ^ (8 * len) + number) * 2 ^ n) no_pad ∙ plain (2 ^ (8 * len)) number in
    let value_is : integer signed (number_of body) ≡ value = ap (integer signed) number_is ∙ is in (
      first ∷ body,
      adds.1 ∙ ap (λ (l : List ℕ). l ++ body) front ∙ append_assoc before (first ∷ []) body,
      subst (λ (n : ℕ). IntRun2 signed (first ∷ body) (replicate n value)) facts.2
          (subst (λ (z : ℤ). IntRun2 signed (first ∷ body) (replicate (first % 8 + 3) z)) value_is (short_repeat first body facts.0 body_len)),
    )

joined : (a b c d : List ℕ) → a ++ b ++ c ++ d ≡ a ++ (b ++ (c ++ (d ++ [])))
joined a b c d =
    append_assoc (a ++ b) c d ∙ append_assoc a b (c ++ d) ∙ ap (λ (l : List ℕ). a ++ (b ++ (c ++ l))) (sym (append-nil d))

-- ---- delta, with equal steps

ramp_front : (count : ℕ) → 0 < count → count ≤ 512 → (192 ≤ 192 + 2 * 0 + (count - 1) / 256) × (192 + 2 * 0 + (count - 1) / 256 < 256) × (0 ≡ code_of (192 + 2 * 0 + (count - 1) / 256)) × (count ≡ run_len (192 + 2 * 0 + (count - 1) / 256) ((count - 1) % 256))
ramp_front count some most = (omega arith, omega arith, omega arith, omega arith)

pub ramp_run : (signed : Bool) (before second_at third_at after : List ℕ) (count start step : ℕ) (first delta_is : ℤ) → 0 < count → count ≤ 512 → integer signed start ≡ first → zigzag step ≡ delta_is
    → second_at ≡ before ++ (192 + 2 * 0 + (count - 1) / 256) ∷ (count - 1) % 256 ∷ [] → Adds IsVarint second_at third_at start → Adds IsVarint third_at after step → Adds (IntRun2 signed) before after (ramp first delta_is count)
ramp_run signed before second_at third_at after count start step first delta_is some most start_is step_is front one two =
    let head = 192 + 2 * 0 + (count - 1) / 256 in
    let second = (count - 1) % 256 in
    let facts = ramp_front count some most in
    let no_body : length {A = ℕ} [] ≡ magnitude_len (code_of head) (run_len head second) = subst (λ (n : ℕ). length {A = ℕ} [] ≡ magnitude_len n (run_len head second)) facts.2 refl in
    let run : IntRun2 signed (head ∷ second ∷ (one.0 ++ (two.0 ++ []))) (delta_values (integer signed start) (zigzag step) (code_of head) (run_len head second) (magnitudes_in (code_of head) (run_len head second) [])) =
    delta head second start step one.0 two.0 [] facts.0 facts.1 one.2 two.2 no_body in
    let plain : IntRun2 signed (head ∷ second ∷ (one.0 ++ (two.0 ++ []))) (ramp (integer signed start) (zigzag step) (run_len head second)) =
    subst (λ (n : ℕ). IntRun2 signed (head ∷ second ∷ (one.0 ++ (two.0 ++ []))) (delta_values (integer signed start) (zigzag step) n (run_len head second) (magnitudes_in n (run_len head second) []))) (sym facts.2) run in
    let whole = subst (λ (n : ℕ). IntRun2 signed (head ∷ second ∷ (one.0 ++ (two.0 ++ []))) (ramp (integer signed start) (zigzag step) n)) (sym facts.3) plain in
    let based = subst (λ (z : ℤ). IntRun2 signed (head ∷ second ∷ (one.0 ++ (two.0 ++ []))) (ramp z (zigzag step) count)) start_is whole in (
      head ∷ second ∷ (one.0 ++ (two.0 ++ [])),
      two.1 ∙ ap (λ (l : List ℕ). l ++ two.0) one.1 ∙ ap (λ (l : List ℕ). l ++ one.0 ++ two.0) front ∙ joined before (head ∷ second ∷ []) one.0 two.0,
      subst (λ (z : ℤ). IntRun2 signed (head ∷ second ∷ (one.0 ++ (two.0 ++ []))) (ramp first z count)) step_is based,
    )

-- values of no step are one value
at_no_step : (base : ℤ) (i : ℕ) → base +ℤ pos i *ℤ pos 0 ≡ base
at_no_step base i = omega (arith, ints)

flat_ramp : (first : ℤ) (count : ℕ) → FitsSigned w64 first → replicate count first ≡ ramp first (pos 0) count
flat_ramp first count fits =
    fill_by_all (λ i. int_wrap w64 (first +ℤ pos i *ℤ pos 0)) (replicate count first) count first (length-replicate count first) (λ k h.
    get_or-replicate count k first first h ∙ sym (ap (λ (z : ℤ). int_wrap w64 z) (at_no_step first k) ∙ int_wrap_fits w64 first fits))

-- what a number of 64 bits stands for fits 64 bits
bits_fit : (bits : ℕ) → bits < 2 ^ 64 → FitsSigned w64 (cast_signed w64 bits)
bits_fit bits h = search (arith, ints)

half_fits : (n : ℕ) → n < 2 ^ 63 → FitsSigned w64 (pos n)
half_fits n h = search (arith, ints)

minus_fits : (n : ℕ) → n ≤ 2 ^ 63 → FitsSigned w64 (neg_ℤ (pos n))
minus_fits n h = search (arith, ints)

zigzag_fits : (number : ℕ) → number < 2 ^ 64 → FitsSigned w64 (zigzag number)
zigzag_fits number h =
    elim (cases_eq (number % 2) 0) [
      | inl even ↦ let t : eqb (number % 2) 0 ≡ true = eq-eqb (number % 2) 0 even in rw t (half_fits (number / 2) (omega arith))
      | inr odd ↦ let t : eqb (number % 2) 0 ≡ false = ne_eqb (number % 2) 0 odd in rw t (minus_fits ((number + 1) / 2) (omega arith))
    ]

integer_fits : (signed : Bool) (number : ℕ) → number < 2 ^ 64 → FitsSigned w64 (integer signed number)
integer_fits true number h = zigzag_fits number h
integer_fits false number h = bits_fit number h

-- the value that is repeated is a ramp of no step
pub flat_run : (signed : Bool) (before after : List ℕ) (count number : ℕ) (value : ℤ) → number < 2 ^ 64 → integer signed number ≡ value → Adds (IntRun2 signed) before after (replicate count value) → Adds (IntRun2 signed) before after (ramp value (pos 0) count)
flat_run signed before after count number value h is adds =
    let fits : FitsSigned w64 value = subst (λ (z : ℤ). FitsSigned w64 z) is (integer_fits signed number h) in
    subst (λ (l : List ℤ). Adds (IntRun2 signed) before after l) (flat_ramp value count fits) adds

-- ---- delta, with steps

steps_front : (code count : ℕ) → code < 32 → 0 < count → count ≤ 512 → (192 ≤ 192 + 2 * code + (count - 1) / 256) × (192 + 2 * code + (count - 1) / 256 < 256) × (code_of (192 + 2 * code + (count - 1) / 256) ≡ code) × (run_len (192 + 2 * code + (count - 1) / 256) ((count - 1) % 256) ≡ count)
steps_front code count low some most = (omega arith, omega arith, omega arith, omega arith)

first_and_rest : (values : List ℤ) → 0 < length values → get_or values 0 (pos 0) ∷ drop 1 values ≡ values
first_and_rest [] h = absurd (omega (arith, h))
first_and_rest (v ∷ values) h = refl

joined_four : (a b c d e : List ℕ) → a ++ b ++ c ++ d ++ e ≡ a ++ (b ++ (c ++ (d ++ e)))
joined_four a b c d e = append_assoc (a ++ b ++ c) d e ∙ append_assoc (a ++ b) c (d ++ e) ∙ append_assoc a b (c ++ (d ++ e))

-- a run whose code isn't 0 varies its steps
varied_is : (base step : ℤ) (code count : ℕ) (body : List ℕ) → 0 < code → 2 ≤ count → delta_values base step code count (magnitudes_in code count body) ≡ base ∷ sums (wrapped_sum base step) (map (with_sign step) (unpacked (width_of code) (count - 2) body))
varied_is base step code count body some more =
    let a : eqb code 0 ≡ false = ne_eqb code 0 (λ e. absurd (omega (arith, e, some))) in
    let b : eqb count 1 ≡ false = ne_eqb count 1 (λ e. absurd (omega (arith, e, more))) in
    rw a (rw b refl)

magnitude_len_is : (code count : ℕ) → 0 < code → magnitude_len code count ≡ packed_len (width_of code) (count - 2)
magnitude_len_is code count some =
    let a : eqb code 0 ≡ false = ne_eqb code 0 (λ e. absurd (omega (arith, e, some))) in
    rw a refl

pub steps_run : (signed : Bool) (before second_at third_at fourth_at after : List ℕ) (code start step : ℕ) (delta_is : ℤ) (numbers : List ℕ) (values : List ℤ) → 0 < code → code < 32 → 2 ≤ length values → length values ≤ 512
    → length numbers ≡ length values - 2 → ((k : ℕ) → get_or numbers k 0 < 2 ^ width_of code) → integer signed start ≡ get_or values 0 (pos 0) → zigzag step ≡ delta_is
    → get_or values 1 (pos 0) ≡ wrapped_sum (get_or values 0 (pos 0)) delta_is → sums (get_or values 1 (pos 0)) (map (with_sign delta_is) numbers) ≡ drop 1 values
    → second_at ≡ before ++ (192 + 2 * code + (length values - 1) / 256) ∷ (length values - 1) % 256 ∷ [] → Adds IsVarint second_at third_at start → Adds IsVarint third_at fourth_at step → Adds (Packs (width_of code)) fourth_at after numbers
    → Adds (IntRun2 signed) before after values
steps_run signed before second_at third_at fourth_at after code start step delta_is numbers values some low more most len below start_is step_is second_is made front one two packs =
    let count = length values in
    let head = 192 + 2 * code + (count - 1) / 256 in
    let second = (count - 1) % 256 in
    let facts = steps_front code count low (omega (arith, more)) most in
    let body = packs.0 in
    let packed = Packs-unpacked (width_of code) body numbers below packs.2 in
    let body_len : length body ≡ magnitude_len (code_of head) (run_len head second) =
    packed.0 ∙ ap (packed_len (width_of code)) len ∙ sym (magnitude_len_is code count some) ∙ ap (λ (n : ℕ). magnitude_len n count) (sym facts.2) ∙ ap (magnitude_len (code_of head)) (sym facts.3) in
    let run : IntRun2 signed (head ∷ second ∷ (one.0 ++ (two.0 ++ body))) (delta_values (integer signed start) (zigzag step) (code_of head) (run_len head second) (magnitudes_in (code_of head) (run_len head second) body)) =
    delta head second start step one.0 two.0 body facts.0 facts.1 one.2 two.2 body_len in
    let same : unpacked (width_of code) (count - 2) body ≡ numbers = ap (λ (n : ℕ). unpacked (width_of code) n body) (sym len) ∙ packed.1 in
    let first = integer signed start in
    let values_are : delta_values first (zigzag step) (code_of head) (run_len head second) (magnitudes_in (code_of head) (run_len head second) body) ≡ values =
    ap (λ (n : ℕ). delta_values first (zigzag step) n (run_len head second) (magnitudes_in n (run_len head second) body)) facts.2
    ∙ ap (λ (n : ℕ). delta_values first (zigzag step) code n (magnitudes_in code n body)) facts.3
    ∙ varied_is first (zigzag step) code count body some more
    ∙ ap (λ (l : List ℕ). first ∷ sums (wrapped_sum first (zigzag step)) (map (with_sign (zigzag step)) l)) same
    ∙ ap (λ (z : ℤ). z ∷ sums (wrapped_sum z (zigzag step)) (map (with_sign (zigzag step)) numbers)) start_is
    ∙ ap (λ (z : ℤ). get_or values 0 (pos 0) ∷ sums (wrapped_sum (get_or values 0 (pos 0)) z) (map (with_sign z) numbers)) step_is
    ∙ ap (λ (z : ℤ). get_or values 0 (pos 0) ∷ sums z (map (with_sign delta_is) numbers)) (sym second_is)
    ∙ ap (λ (l : List ℤ). get_or values 0 (pos 0) ∷ l) made
    ∙ first_and_rest values (omega (arith, more)) in (
      head ∷ second ∷ (one.0 ++ (two.0 ++ body)),
      packs.1 ∙ ap (λ (l : List ℕ). l ++ body) two.1 ∙ ap (λ (l : List ℕ). l ++ two.0 ++ body) one.1 ∙ ap (λ (l : List ℕ). l ++ one.0 ++ two.0 ++ body) front ∙ joined_four before (head ∷ second ∷ []) one.0 two.0 body,
      subst (λ (l : List ℤ). IntRun2 signed (head ∷ second ∷ (one.0 ++ (two.0 ++ body))) l) values_are run,
    )

-- the values behind the first are a slice of them
pub behind_first : (values : List ℤ) (delta_is : ℤ) (numbers : List ℕ) → 2 ≤ length values → sums (get_or (take (length values - 1) (drop 1 values)) 0 (pos 0)) (map (with_sign delta_is) numbers) ≡ take (length values - 1) (drop 1 values)
    → sums (get_or values 1 (pos 0)) (map (with_sign delta_is) numbers) ≡ drop 1 values
behind_first [] delta_is numbers more h = absurd (omega (arith, more))
behind_first (v ∷ []) delta_is numbers more h = absurd (omega (arith, more))
behind_first (v ∷ w ∷ values) delta_is numbers more h =
    let n : length (v ∷ w ∷ values) - 1 ≡ length (w ∷ values) = omega arith in
    let e : take (length (v ∷ w ∷ values) - 1) (drop 1 (v ∷ w ∷ values)) ≡ w ∷ values = ap (λ (n : ℕ). take n (w ∷ values)) n ∙ take-length (w ∷ values) in
    subst (λ (l : List ℤ). sums (get_or l 0 (pos 0)) (map (with_sign delta_is) numbers) ≡ l) e h
