-- The streams of a column.
use Rattle.std.proofs.Common.{◌≡◌, ℕ, zero, suc, ◌+◌, ◌-◌, ◌^◌, ◌<◌, ◌≤◌, Bool, true, false, List, [], ◌∷◌, ◌++◌, length, map, take, drop, replicate, sum, Option, Some, refl, sym, ap, subst, ◌∙◌, arith, ℤ, pos, append-nil, length-append}
use Rattle.std.specs.Prelude.{All, slice_get, slice_index_or, slice_range}
use Rattle.std.specs.Option.{unwrap_or}
use Rattle.std.specs.Int.{w64, cast_unsigned}
use Rattle.std.specs.List.{concat}
use Rattle.std.proofs.lemmas.Option.{none-some}
use Rattle.std.proofs.lemmas.Int.{of_z-to_z, to_z_pos}
use Rattle.std.proofs.lemmas.List.{map-append}
use Rattle.std.proofs.Math.Seq.{take-append_seam}
use Rattle.std.proofs.lemmas.List.Elements.{All-append, All-cons, All-nil, All-take, All-drop, All-weaker}
use Rattle.std.proofs.lemmas.List.Folds.{concat-append}
use Rattle.outside.specs.Runs.{Fewest, no_run, runs, Spells}
use Rattle.orc_values.specs.declared.value.Value.{Value}
use Rattle.orc_values.specs.declared.value.Value.TheVariants as value
use Rattle.orc_values.specs.Texts.{slices}
use Rattle.orc_values.specs.TextsLaws.{sum-cons, slices-behind}
use Rattle.orc_values.specs.Woven.{present_count}
use Rattle.orc_values.specs.WovenLaws.{present_count-le}
use Rattle.orc_rle.specs.ByteRun.{ByteRun, repeated, literals}
use Rattle.orc_rle.specs.BitRun.{BitRun, bits}
use Rattle.orc_columns.specs.declared.spelling.Version.{Version}
use Rattle.orc_columns.specs.Column.{ArePresent, AreLengths, AreNumbers, entry_text, places_of}
use Rattle.column_writer.specs.Encoded.{SpellTexts, AreChosen}

-- ---- reading a list

some_is : {A : Type 0} (x y : A) → Some x ≡ Some y → x ≡ y
some_is {A} x y e = ap (λ (o : Option A). unwrap_or o x) e

pub some_below : {A : Type 0} (xs : List A) (i : ℕ) (x : A) → slice_get xs i ≡ Some x → i < length xs
some_below [] i x e = absurd (none-some x e)
some_below (y ∷ xs) zero x e = omega arith
some_below (y ∷ xs) (suc i) x e = let h = some_below xs i x e in omega arith

pub some_read : {A : Type 0} (xs : List A) (i : ℕ) (x d : A) → slice_get xs i ≡ Some x → slice_index_or xs i d ≡ x
some_read [] i x d e = absurd (none-some x e)
some_read (y ∷ xs) zero x d e = some_is y x e
some_read (y ∷ xs) (suc i) x d e = some_read xs i x d e

pub take_some : {A : Type 0} (xs : List A) (i : ℕ) (x : A) → slice_get xs i ≡ Some x → take (i + 1) xs ≡ take i xs ++ x ∷ []
take_some [] i x e = absurd (none-some x e)
take_some {A} (y ∷ xs) zero x e = ap (λ (z : A). z ∷ []) (some_is y x e)
take_some {A} (y ∷ xs) (suc i) x e =
    let k : suc i + 1 ≡ suc (i + 1) = omega arith in
    rw k (ap (λ (l : List A). y ∷ l) (take_some xs i x e))

pub last_is : {A : Type 0} (xs : List A) (x : A) → slice_get (xs ++ x ∷ []) (length xs) ≡ Some x
last_is [] x = refl
last_is (y ∷ xs) x = last_is xs x

-- ---- PRESENT

pub all_set : (flags : List Bool) → present_count flags ≡ length flags → flags ≡ replicate (length flags) true
all_set [] e = refl
all_set (true ∷ flags) e = ap (λ (l : List Bool). true ∷ l) (all_set flags (omega arith))
all_set (false ∷ flags) e = absurd (omega (arith, present_count-le flags))

byte_run_some : {bytes values : List ℕ} → ByteRun bytes values → 0 < length bytes
byte_run_some (repeated low) = omega arith
byte_run_some (literals high low count) = omega arith

bit_run_some : {bytes : List ℕ} {values : List Bool} → BitRun bytes values → 0 < length bytes
bit_run_some (bits run) = byte_run_some run

no_bytes : (count : ℕ) {bytes : List ℕ} {values : List Bool} → Fewest BitRun count bytes values → length bytes ≡ 0 → count ≡ 0
no_bytes zero no_run e = refl
no_bytes count (runs {front = front} {last = last} joined fewer run enough) e = absurd (omega (arith, bit_run_some run, length-append front last))

no_flags : (flags : List Bool) → length flags ≡ 0 → flags ≡ replicate (length flags) true
no_flags [] e = refl
no_flags (x ∷ flags) e = absurd (omega arith)

pub present_of_bits : (stream : List ℕ) (flags : List Bool) → Spells BitRun stream flags [] → ArePresent stream flags
present_of_bits [] flags spelled =
    let between = spelled.1 in
    let none : length between.used ≡ 0 = omega (arith, ap length between.parts, length-append between.used []) in
    no_flags flags (no_bytes (length flags) between.fewest none)
present_of_bits (byte ∷ bytes) flags spelled = ([], spelled)

-- ---- texts

pub lengths_more : (texts : List (List ℕ)) (i : ℕ) (text : List ℕ) (lens after : List ℤ) → slice_get texts i ≡ Some text → lens ≡ map (λ (t : List ℕ). pos (length t)) (take i texts) → after ≡ lens ++ pos (length text) ∷ [] → after ≡ map (λ (t : List ℕ). pos (length t)) (take (i + 1) texts)
lengths_more texts i text lens after e made written =
    written ∙ ap (λ (l : List ℤ). l ++ pos (length text) ∷ []) made ∙ sym (map-append (λ (t : List ℕ). pos (length t)) (take i texts) (text ∷ [])) ∙ ap (map (λ (t : List ℕ). pos (length t))) (sym (take_some texts i text e))

pub bytes_more : (texts : List (List ℕ)) (i : ℕ) (text bytes after : List ℕ) → slice_get texts i ≡ Some text → bytes ≡ concat (take i texts) → after ≡ bytes ++ text → after ≡ concat (take (i + 1) texts)
bytes_more texts i text bytes after e made written =
    written ∙ ap (λ (l : List ℕ). l ++ text) made ∙ ap (λ (l : List ℕ). concat (take i texts) ++ l) (sym (append-nil text)) ∙ sym (concat-append (take i texts) (text ∷ [])) ∙ ap concat (sym (take_some texts i text e))

lens_are : (texts : List (List ℕ)) → map (λ (t : List ℕ). pos (length t)) texts ≡ map pos (map (λ (t : List ℕ). length t) texts)
lens_are [] = refl
lens_are (text ∷ texts) = ap (λ (l : List ℤ). pos (length text) ∷ l) (lens_are texts)

sum_of_lens : (texts : List (List ℕ)) → sum (map (λ (t : List ℕ). length t) texts) ≡ length (concat texts)
sum_of_lens [] = refl
sum_of_lens (text ∷ texts) =
    sum-cons (length text) (map (λ (t : List ℕ). length t) texts) ∙ ap (λ (n : ℕ). length text + n) (sum_of_lens texts) ∙ sym (length-append text (concat texts))

cut : (texts : List (List ℕ)) → slices 0 (map (λ (t : List ℕ). length t) texts) (concat texts) ≡ texts
cut [] = refl
cut (text ∷ texts) =
    let lens = map (λ (t : List ℕ). length t) texts in
    let whole = text ++ concat texts in
    let n : 0 + length text - 0 ≡ length text = omega arith in
    let k : 0 + length text ≡ length text + 0 = omega arith in
    let first : slice_range whole 0 (0 + length text) ≡ text = ap (λ (m : ℕ). take m whole) n ∙ take-append_seam text (concat texts) in
    ap (λ (t : List ℕ). t ∷ slices (0 + length text) lens whole) first
    ∙ ap (λ (m : ℕ). text ∷ slices m lens whole) k
    ∙ ap (λ (l : List (List ℕ)). text ∷ l) (slices-behind 0 lens text (concat texts) ∙ cut texts)

length-lens : (texts : List (List ℕ)) → length (map (λ (t : List ℕ). length t) texts) ≡ length texts
length-lens [] = refl
length-lens (text ∷ texts) = ap suc (length-lens texts)

pub spell_texts : (version : Version) (lengths bytes : List ℕ) (texts : List (List ℕ)) (numbers : List ℤ) → numbers ≡ map (λ (t : List ℕ). pos (length t)) texts → AreNumbers version false lengths numbers → bytes ≡ concat texts → SpellTexts version lengths bytes texts
spell_texts version lengths bytes texts numbers numbers_are spelled bytes_are =
    let lens = map (λ (t : List ℕ). length t) texts in (
      lens,
      length-lens texts,
      record {
        spelled = subst (λ (l : List ℤ). AreNumbers version false lengths l) (numbers_are ∙ lens_are texts) spelled;
        within = omega (arith, sum_of_lens texts, ap length bytes_are);
      },
      ap (slices 0 lens) bytes_are ∙ cut texts,
    )

-- ---- dictionaries

pub All-insert : (P : ℕ → Type 0) (xs : List ℕ) (i x : ℕ) → All P xs → P x → All P (take i xs ++ x ∷ drop i xs)
All-insert P xs i x all is = All-append P (take i xs) (x ∷ drop i xs) (All-take P i xs all) (All-cons P x (drop i xs) is (All-drop P i xs all))

pub below_more : (n m : ℕ) (xs : List ℕ) → n ≤ m → All (λ x. x < n) xs → All (λ x. x < m) xs
below_more n m xs h all = All-weaker (λ (x : ℕ). x < n) (λ (x : ℕ). x < m) (λ x k. omega arith) xs all

front_read : {A : Type 0} (xs ys : List A) (i : ℕ) (d : A) → i < length xs → slice_index_or (xs ++ ys) i d ≡ slice_index_or xs i d
front_read [] ys i d h = absurd (omega arith)
front_read (x ∷ xs) ys zero d h = refl
front_read (x ∷ xs) ys (suc i) d h = front_read xs ys i d (omega arith)

pub AreChosen-grown : (entries more : List (List ℕ)) (places : List ℕ) (texts : List (List ℕ)) → AreChosen entries places texts → AreChosen (entries ++ more) places texts
AreChosen-grown entries more [] [] chosen = tt
AreChosen-grown entries more [] (text ∷ texts) chosen = absurd chosen
AreChosen-grown entries more (place ∷ places) [] chosen = absurd chosen
AreChosen-grown entries more (place ∷ places) (text ∷ texts) chosen =
    let h : place < length entries = chosen.0 in
    (omega (arith, length-append entries more), front_read entries more place [] h ∙ chosen.1, AreChosen-grown entries more places texts chosen.2)

pub AreChosen-push : (entries : List (List ℕ)) (places : List ℕ) (texts : List (List ℕ)) (place : ℕ) (text : List ℕ) → AreChosen entries places texts → place < length entries → slice_index_or entries place [] ≡ text → AreChosen entries (places ++ place ∷ []) (texts ++ text ∷ [])
AreChosen-push entries [] [] place text chosen h is = (h, is, tt)
AreChosen-push entries [] (other ∷ texts) place text chosen h is = absurd chosen
AreChosen-push entries (other ∷ places) [] place text chosen h is = absurd chosen
AreChosen-push entries (other ∷ places) (first ∷ texts) place text chosen h is = (chosen.0, chosen.1, AreChosen-push entries places texts place text chosen.2 h is)

pub chosen_values : (entries : List (List ℕ)) (places : List ℕ) (texts : List (List ℕ)) → AreChosen entries places texts → map (λ (t : List ℕ). value.Text t) texts ≡ map (entry_text entries) places
chosen_values entries [] [] chosen = refl
chosen_values entries [] (text ∷ texts) chosen = absurd chosen
chosen_values entries (place ∷ places) [] chosen = absurd chosen
chosen_values entries (place ∷ places) (text ∷ texts) chosen =
    ap (λ (t : List ℕ). value.Text t ∷ map (λ (t : List ℕ). value.Text t) texts) (sym chosen.1) ∙ ap (λ (l : List Value). entry_text entries place ∷ l) (chosen_values entries places texts chosen.2)

pub chosen_below : (entries : List (List ℕ)) (places : List ℕ) (texts : List (List ℕ)) → AreChosen entries places texts → All (λ place. place < length entries) places
chosen_below entries [] [] chosen = All-nil (λ (place : ℕ). place < length entries)
chosen_below entries [] (text ∷ texts) chosen = absurd chosen
chosen_below entries (place ∷ places) [] chosen = absurd chosen
chosen_below entries (place ∷ places) (text ∷ texts) chosen = All-cons (λ (p : ℕ). p < length entries) place places chosen.0 (chosen_below entries places texts chosen.2)

same_place : (place : ℕ) → place < 2 ^ 63 → cast_unsigned w64 (pos place) ≡ place
same_place place h = ap (cast_unsigned w64) (sym (to_z_pos w64 place h)) ∙ of_z-to_z w64 place (omega arith)

pub chosen_places : (entries : List (List ℕ)) (places : List ℕ) (texts : List (List ℕ)) → length entries ≤ 2 ^ 32 → AreChosen entries places texts → places_of (map pos places) ≡ places
chosen_places entries [] [] few chosen = refl
chosen_places entries [] (text ∷ texts) few chosen = absurd chosen
chosen_places entries (place ∷ places) [] few chosen = absurd chosen
chosen_places entries (place ∷ places) (text ∷ texts) few chosen =
    let h : place < length entries = chosen.0 in
    ap (λ (n : ℕ). n ∷ places_of (map pos places)) (same_place place (omega arith)) ∙ ap (λ (l : List ℕ). place ∷ l) (chosen_places entries places texts few chosen.2)

same_below : (size : ℕ) (xs ys : List ℕ) → xs ≡ ys → All (λ x. x < size) ys → All (λ x. x < size) xs
same_below size xs ys e all = subst (λ (l : List ℕ). All (λ x. x < size) l) (sym e) all

pub dictionary_spelled : (version : Version) (size : ℕ) (body lengths bytes : List ℕ) (entries texts : List (List ℕ)) (places : List ℕ) (numbers : List ℤ) → size ≡ length entries → SpellTexts version lengths bytes entries → numbers ≡ map pos places → AreNumbers version false body numbers → AreChosen entries places texts → length entries ≤ 2 ^ 32
    → (lens : List ℕ) × (numbers : List ℤ) × (length lens ≡ size) × AreLengths version lengths (length bytes) lens × AreNumbers version false body numbers × All (λ place. place < size) (places_of numbers)
    × (map (λ (t : List ℕ). value.Text t) texts ≡ map (entry_text (slices 0 lens bytes)) (places_of numbers))
dictionary_spelled version size body lengths bytes entries texts places numbers size_is spelled numbers_are body_is chosen few =
    let same : places_of numbers ≡ places = ap places_of numbers_are ∙ chosen_places entries places texts few chosen in (
      spelled.0,
      numbers,
      spelled.1 ∙ sym size_is,
      spelled.2,
      body_is,
      same_below size (places_of numbers) places same (subst (λ (n : ℕ). All (λ place. place < n) places) (sym size_is) (chosen_below entries places texts chosen)),
      chosen_values entries places texts chosen ∙ ap (λ (e : List (List ℕ)). map (entry_text e) places) (sym spelled.3) ∙ ap (map (entry_text (slices 0 spelled.0 bytes))) (sym same),
    )
