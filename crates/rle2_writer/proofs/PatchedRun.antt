-- A patched run, as it is written.
use Rattle.std.proofs.Common.{◌≡◌, ℕ, ◌+◌, ◌-◌, ◌*◌, ◌/◌, ◌%◌, ◌^◌, ◌<◌, ◌≤◌, List, [], ◌∷◌, ◌++◌, length, get_or, Some, refl, sym, ap, subst, ◌∙◌, append_assoc, arith, ℤ, Bool}
use Rattle.std.specs.List.{AllByRecursion}
use Rattle.std.proofs.lemmas.List.{length-map}
use Rattle.orc_rle2.specs.declared.patches.Shape.{Shape}
use Rattle.orc_rle2.specs.Integers.{sign_magnitude}
use Rattle.orc_rle2.specs.IntRun2.{IntRun2, patched_base, code_of, run_len, base_len, shape_of, patch_count, entry_width, patched_numbers, above_base}
use Rattle.orc_rle2.specs.Packed.{number_of, packed_len, unpacked}
use Rattle.orc_rle2.specs.Patches.{patched}
use Rattle.orc_rle2.specs.Widths.{width_of, least_width}
use Rattle.rle_writer.specs.Written.{Adds}
use Rattle.rle2_writer.specs.Entries.{Entries}
use Rattle.rle2_writer.specs.Packs.{Packs}
use Rattle.rle2_writer.proofs.PackedBits.{Packs-unpacked}
use Rattle.rle2_writer.proofs.AllPatches.{low_bits, low_fits, patched_all}

patched_front : (code count : ℕ) → code < 31 → 0 < count → count ≤ 512 → (128 ≤ 128 + 2 * code + (count - 1) / 256) × (128 + 2 * code + (count - 1) / 256 < 192) × (code_of (128 + 2 * code + (count - 1) / 256) ≡ code) × (run_len (128 + 2 * code + (count - 1) / 256) ((count - 1) % 256) ≡ count)
patched_front code count low some most = (omega arith, omega arith, omega arith, omega arith)

third_is : (len patch : ℕ) → 0 < len → patch < 31 → (base_len (32 * (len - 1) + patch) ≡ len) × ((32 * (len - 1) + patch) % 32 ≡ patch)
third_is len patch some low = (omega arith, omega arith)

fourth_is : (count : ℕ) → count ≤ 31 → ((224 + count) / 32 + 1 ≡ 8) × (patch_count (224 + count) ≡ count)
fourth_is count most = (omega arith, omega arith)

abbrev shape_with : ℕ → ℕ → ℕ → Shape
shape_with values gaps patches = record { values = values; gaps = gaps; patches = patches }

shape_is : (first third fourth code patch : ℕ) → code_of first ≡ code → third % 32 ≡ patch → fourth / 32 + 1 ≡ 8 → shape_of (width_of (code_of first)) third fourth ≡ shape_with (width_of code) 8 (width_of patch)
shape_is first third fourth code patch c p g =
    ap (λ (n : ℕ). shape_with (width_of n) (fourth / 32 + 1) (width_of (third % 32))) c
    ∙ ap (λ (n : ℕ). shape_with (width_of code) n (width_of (third % 32))) g
    ∙ ap (λ (n : ℕ). shape_with (width_of code) 8 (width_of n)) p

plain : (p n : ℕ) → (0 * p + n) * 1 ≡ n
plain p n = omega arith

-- one number in whole bytes
base_in : (len number : ℕ) (body : List ℕ) → Packs (8 * len) body (number ∷ []) → (length body ≡ len) × (number_of body ≡ number)
base_in len number body packs =
    let no_pad : packs.pad ≡ 0 = omega (arith, packs.small, packs.count) in (
      omega (arith, packs.count, no_pad),
      packs.is ∙ ap (λ (n : ℕ). (0 * 2 ^ (8 * len) + number) * 2 ^ n) no_pad ∙ plain (2 ^ (8 * len)) number,
    )

numbers_in : (code patch count : ℕ) (body listed numbers entries : List ℕ) → Entries (width_of code) (width_of patch) 0 numbers entries → AllByRecursion (λ number. number < 2 ^ 64) numbers
    → unpacked (width_of code) (length numbers) body ≡ low_bits (width_of code) numbers → unpacked (least_width (8 + width_of patch)) count listed ≡ entries
    → patched_numbers (shape_with (width_of code) 8 (width_of patch)) count (length numbers) body listed ≡ Some numbers
numbers_in code patch count body listed numbers entries are below low high =
    let shape = shape_with (width_of code) 8 (width_of patch) in
    ap (λ (l : List ℕ). patched shape 0 l (unpacked (width_of code) (length numbers) body)) high
    ∙ ap (patched shape 0 entries) low
    ∙ patched_all shape refl are below 0 [] refl

joined_five : (a b c d e f : List ℕ) → a ++ b ++ c ++ d ++ e ++ f ≡ a ++ (b ++ (c ++ (d ++ (e ++ f))))
joined_five a b c d e f = append_assoc (a ++ b ++ c ++ d) e f ∙ append_assoc (a ++ b ++ c) d (e ++ f) ∙ append_assoc (a ++ b) c (d ++ (e ++ f)) ∙ append_assoc a b (c ++ (d ++ (e ++ f)))

within : (a b c : ℕ) → a ≡ 8 → b ≡ c → c ≤ 56 → a + b ≤ 64
within a b c e f h = omega (arith, e, f, h)

pub patched_run : (signed : Bool) (before second_at third_at fourth_at fifth_at after : List ℕ) (code patch len count number : ℕ) (base : ℤ) (numbers entries : List ℕ) (values : List ℤ) → code < 31 → patch < 31 → width_of patch ≤ 56 → 0 < len → count ≤ 31 → 0 < length values → length values ≤ 512
    → length numbers ≡ length values → length entries ≡ count → AllByRecursion (λ number. number < 2 ^ 64) numbers → Entries (width_of code) (width_of patch) 0 numbers entries → ((k : ℕ) → get_or entries k 0 < 2 ^ least_width (8 + width_of patch))
    → sign_magnitude (8 * len) number ≡ base → above_base base numbers ≡ values
    → second_at ≡ before ++ (128 + 2 * code + (length values - 1) / 256) ∷ (length values - 1) % 256 ∷ [] → third_at ≡ second_at ++ (32 * (len - 1) + patch) ∷ (224 + count) ∷ []
    → Adds (Packs (8 * len)) third_at fourth_at (number ∷ []) → Adds (Packs (width_of code)) fourth_at fifth_at (low_bits (width_of code) numbers) → Adds (Packs (least_width (8 + width_of patch))) fifth_at after entries
    → Adds (IntRun2 signed) before after values
patched_run signed before second_at third_at fourth_at fifth_at after code patch len count number base numbers entries values code_fits patch_fits narrow some few any most same listed below are fit base_is values_are front shape_at one two three =
    let n = length values in
    let first = 128 + 2 * code + (n - 1) / 256 in
    let second = (n - 1) % 256 in
    let third = 32 * (len - 1) + patch in
    let fourth = 224 + count in
    let width = width_of code in
    let listed_width = least_width (8 + width_of patch) in
    let facts = patched_front code n code_fits any most in
    let third_facts = third_is len patch some patch_fits in
    let fourth_facts = fourth_is count few in
    let shape = shape_is first third fourth code patch facts.2 third_facts.1 fourth_facts.0 in
    let start = base_in len number one.0 one.2 in
    let body = Packs-unpacked width two.0 (low_bits width numbers) (low_fits width numbers) two.2 in
    let list = Packs-unpacked listed_width three.0 entries fit three.2 in
    let low_len : length (low_bits width numbers) ≡ length numbers = length-map numbers (λ number. number % 2 ^ width) in
    let low_count : length (low_bits width numbers) ≡ n = low_len ∙ same in
    let low_is : unpacked width (length numbers) two.0 ≡ low_bits width numbers = ap (λ (m : ℕ). unpacked width m two.0) (sym low_len) ∙ body.1 in
    let high_is : unpacked listed_width count three.0 ≡ entries = ap (λ (m : ℕ). unpacked listed_width m three.0) (sym listed) ∙ list.1 in
    let all : patched_numbers (shape_of (width_of (code_of first)) third fourth) (patch_count fourth) (run_len first second) two.0 three.0 ≡ Some numbers =
    ap (λ (s : Shape). patched_numbers s (patch_count fourth) (run_len first second) two.0 three.0) shape
    ∙ ap (λ (m : ℕ). patched_numbers (shape_with width 8 (width_of patch)) m (run_len first second) two.0 three.0) fourth_facts.1
    ∙ ap (λ (m : ℕ). patched_numbers (shape_with width 8 (width_of patch)) count m two.0 three.0) (facts.3 ∙ sym same)
    ∙ numbers_in code patch count two.0 three.0 numbers entries are below low_is high_is in
    let base_count : length one.0 ≡ base_len third = start.0 ∙ sym third_facts.0 in
    let body_count : length two.0 ≡ packed_len (width_of (code_of first)) (run_len first second) =
    body.0 ∙ ap (packed_len width) low_count ∙ ap (λ (m : ℕ). packed_len (width_of m) n) (sym facts.2) ∙ ap (packed_len (width_of (code_of first))) (sym facts.3) in
    let list_count : length three.0 ≡ packed_len (entry_width (shape_of (width_of (code_of first)) third fourth)) (patch_count fourth) =
    list.0 ∙ ap (packed_len listed_width) (listed ∙ sym fourth_facts.1) ∙ ap (λ (s : Shape). packed_len (entry_width s) (patch_count fourth)) (sym shape) in
    let room : 0 < patch_count fourth → fourth / 32 + 1 + width_of (third % 32) ≤ 64 = λ _. within (fourth / 32 + 1) (width_of (third % 32)) (width_of patch) fourth_facts.0 (ap (λ (m : ℕ). width_of m) third_facts.1) narrow in
    let run : IntRun2 signed (first ∷ second ∷ third ∷ fourth ∷ (one.0 ++ (two.0 ++ three.0))) (above_base (sign_magnitude (8 * base_len third) (number_of one.0)) numbers) =
    patched_base first second third fourth one.0 two.0 three.0 numbers facts.0 facts.1 room base_count body_count list_count all in
    let run_values : above_base (sign_magnitude (8 * base_len third) (number_of one.0)) numbers ≡ values =
    ap (λ (m : ℕ). above_base (sign_magnitude (8 * m) (number_of one.0)) numbers) third_facts.0
    ∙ ap (λ (m : ℕ). above_base (sign_magnitude (8 * len) m) numbers) start.1
    ∙ ap (λ (z : ℤ). above_base z numbers) base_is
    ∙ values_are in (
      first ∷ second ∷ third ∷ fourth ∷ (one.0 ++ (two.0 ++ three.0)),
      three.1 ∙ ap (λ (l : List ℕ). l ++ three.0) two.1 ∙ ap (λ (l : List ℕ). l ++ two.0 ++ three.0) one.1 ∙ ap (λ (l : List ℕ). l ++ one.0 ++ two.0 ++ three.0) shape_at ∙ ap (λ (l : List ℕ). l ++ (third ∷ fourth ∷ []) ++ one.0 ++ two.0 ++ three.0) front ∙ joined_five before (first ∷ second ∷ []) (third ∷ fourth ∷ []) one.0 two.0 three.0,
      subst (λ (l : List ℤ). IntRun2 signed (first ∷ second ∷ third ∷ fourth ∷ (one.0 ++ (two.0 ++ three.0))) l) run_values run,
    )
