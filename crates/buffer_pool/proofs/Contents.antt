-- The bytes of a range, in the cells of its key.
use Rattle.std.proofs.Common.{◌≡◌, ℕ, zero, suc, ◌+◌, ◌-◌, ◌*◌, ◌/◌, ◌%◌, ◌<◌, ◌≤◌, List, [], ◌∷◌, length, get_or, take, drop, refl, sym, ap, ◌∙◌, subst, inl, inr, arith, ◌≢◌, ne_eqb}
use Rattle.std.specs.Prelude.{Option, Some, None, All, IsSomeAnd, if◌then◌else◌, option_map, slice_get, slice_range}
use Rattle.std.specs.Int.{from_le_bytes, to_le_bytes, w64}
use Rattle.std.proofs.lemmas.List.{ext_get_or, get_or-drop, get_or-take, get_or_past, length-drop, length-take}
use Rattle.std.proofs.lemmas.Bool.{cases_eq, cases_lt}
use Rattle.std.proofs.lemmas.Nat.{le_bytes_8}
use Rattle.std.proofs.lemmas.Option.{get_or_from_slice_get, slice_get_past}
use Rattle.pool_model.specs.declared.buffer.BufferKey.{BufferKey}
use Rattle.pool_model.specs.Content.{Files, IsCell, IsRange, content_cell, told_bytes}
use Rattle.outside.specs.Files.{AreFiles}
use Rattle.buffer_pool.specs.Made.{byte_of, cells_touched}

-- ---- a byte of a cell

abbrev first_eight : List ℕ → List ℕ
first_eight xs = get_or xs 0 0 ∷ (get_or xs 1 0 ∷ (get_or xs 2 0 ∷ (get_or xs 3 0 ∷ (get_or xs 4 0 ∷ (get_or xs 5 0 ∷ (get_or xs 6 0 ∷ (get_or xs 7 0 ∷ [])))))))

small_first : (xs : List ℕ) → ((i : ℕ) → get_or xs i 0 < 256) → (i : ℕ) → get_or (first_eight xs) i 0 < 256
small_first xs small zero = small 0
small_first xs small (suc zero) = small 1
small_first xs small (suc (suc zero)) = small 2
small_first xs small (suc (suc (suc zero))) = small 3
small_first xs small (suc (suc (suc (suc zero)))) = small 4
small_first xs small (suc (suc (suc (suc (suc zero))))) = small 5
small_first xs small (suc (suc (suc (suc (suc (suc zero)))))) = small 6
small_first xs small (suc (suc (suc (suc (suc (suc (suc zero))))))) = small 7
small_first xs small (suc (suc (suc (suc (suc (suc (suc (suc i)))))))) = omega arith

of_first : (xs : List ℕ) (k : ℕ) → k < 8 → get_or (first_eight xs) k 0 ≡ get_or xs k 0
of_first xs zero less = refl
of_first xs (suc zero) less = refl
of_first xs (suc (suc zero)) less = refl
of_first xs (suc (suc (suc zero))) less = refl
of_first xs (suc (suc (suc (suc zero)))) less = refl
of_first xs (suc (suc (suc (suc (suc zero))))) less = refl
of_first xs (suc (suc (suc (suc (suc (suc zero)))))) less = refl
of_first xs (suc (suc (suc (suc (suc (suc (suc zero))))))) less = refl
of_first xs (suc (suc (suc (suc (suc (suc (suc (suc i)))))))) less = absurd (omega (arith, less))

cell_byte : (xs : List ℕ) (k : ℕ) → k < 8 → ((i : ℕ) → get_or xs i 0 < 256) → get_or (to_le_bytes w64 (from_le_bytes w64 xs)) k 0 ≡ get_or xs k 0
cell_byte xs k less small = ap (λ l. get_or l k 0) (le_bytes_8 (first_eight xs) (from_le_bytes w64 xs) refl (small_first xs small) refl) ∙ of_first xs k less

-- ---- the bytes of told files

abbrev Small : List ℕ → Type 0
Small xs = (i : ℕ) → get_or xs i 0 < 256

small_of : (xs : List ℕ) → All (λ b. b < 256) xs → Small xs
small_of xs all i =
    elim (cases_lt i (length xs)) [
      | inl inside ↦ all i 0 inside
      | inr past ↦ let P : ℕ → Type 0 = λ n. n < 256 in subst P (sym (get_or_past xs i 0 past)) (omega arith)
    ]

small_drop : (n : ℕ) (xs : List ℕ) → Small xs → Small (drop n xs)
small_drop n xs small i = let P : ℕ → Type 0 = λ k. k < 256 in subst P (sym (get_or-drop n xs i 0)) (small (n + i))

small_take : (n : ℕ) (xs : List ℕ) → Small xs → Small (take n xs)
small_take n xs small i =
    let P : ℕ → Type 0 = λ k. k < 256 in
    elim (cases_lt i n) [
      | inl inside ↦ subst P (sym (get_or-take n xs i 0 inside)) (small i)
      | inr past ↦ subst P (sym (get_or_past (take n xs) i 0 (omega (arith, length-take n xs, past)))) (omega arith)
    ]

entry_at : (P : List ℕ × List ℕ → Type 0) (fs : Files) (number : ℕ) (f : List ℕ × List ℕ) → All P fs → slice_get fs number ≡ Some f → P f
entry_at P fs number f all e =
    elim (cases_lt number (length fs)) [
      | inl inside ↦ subst P (get_or_from_slice_get fs number f f e) (all number f inside)
      | inr past ↦ let none : None ≡ Some f = sym (slice_get_past fs number past) ∙ e in cc
    ]

told_small : (files : Option Files) (number : ℕ) (file : List ℕ) → ((fs : Files) → files ≡ Some fs → AreFiles fs) → told_bytes files number ≡ Some file → Small file
told_small None number file are told = cc
told_small (Some fs) number file are told = of_entry (slice_get fs number) refl told
  where
    of_entry : (o : Option (List ℕ × List ℕ)) → slice_get fs number ≡ o → option_map (λ (f : List ℕ × List ℕ). f.1) o ≡ Some file → Small file
    of_entry None e is = cc
    of_entry (Some f) e is =
        let here : f.1 ≡ file = cc in
        subst Small here (small_of f.1 (entry_at (λ (x : List ℕ × List ℕ). All (λ b. b < 256) x.1) fs number f (are fs refl).bytes e))

told_range : (files : Option Files) (key : BufferKey) (file : List ℕ) → IsRange files key → told_bytes files key.file ≡ Some file → key.at + key.len ≤ length file
told_range None key file range told = cc
told_range (Some fs) key file range told =
    let P : Option (List ℕ) → Type 0 = λ o. IsSomeAnd o (λ bytes. key.at + key.len ≤ length bytes) in
    subst P told (range refl)

-- ---- the range

module _ (files : Option Files) (key : BufferKey) (file : List ℕ) (are : (fs : Files) → files ≡ Some fs → AreFiles fs) (told : told_bytes files key.file ≡ Some file) where
  small_in : (first : ℕ) → Small (drop first (slice_range file key.at (key.at + key.len)))
  small_in first = small_drop first (slice_range file key.at (key.at + key.len)) (small_take (key.at + key.len - key.at) (drop key.at file) (small_drop key.at file (told_small files key.file file are told)))

  byte_is : (at i : ℕ) (bytes found : List ℕ) → at + length bytes ≤ key.len → i < length bytes → get_or bytes i 0 ≡ byte_of found (at % 8 + i) → get_or found ((at % 8 + i) / 8) 0 ≡ content_cell file key (at / 8 + (at % 8 + i) / 8) → get_or bytes i 0 ≡ get_or file (key.at + at + i) 0
  unfolding content_cell
  byte_is at i bytes found range inside is cell =
      let q : ℕ = (at % 8 + i) / 8 in
      let r : ℕ = (at % 8 + i) % 8 in
      let R = slice_range file key.at (key.at + key.len) in
      let xs = drop (8 * (at / 8 + q)) R in
      let place : 8 * (at / 8 + q) + r ≡ at + i = omega arith in
      is ∙ (ap (λ n. get_or (to_le_bytes w64 n) r 0) cell ∙ (cell_byte xs r (omega arith) (small_in (8 * (at / 8 + q)))
      ∙ (get_or-drop (8 * (at / 8 + q)) R r 0 ∙ (ap (λ n. get_or R n 0) place
      ∙ (get_or-take (key.at + key.len - key.at) (drop key.at file) (at + i) 0 (omega (arith, range, inside)) ∙ (get_or-drop key.at file (at + i) 0 ∙ ap (λ n. get_or file n 0) (omega arith)))))))

  pub range_is : (at : ℕ) (bytes found : List ℕ) → at + length bytes ≤ key.len → IsRange files key → ((i : ℕ) → i < length bytes → get_or bytes i 0 ≡ byte_of found (at % 8 + i)) → ((j : ℕ) → j < length found → IsCell files key (at / 8 + j) (get_or found j 0)) → ((i : ℕ) → i < length bytes → (at % 8 + i) / 8 < length found) → bytes ≡ slice_range file (key.at + at) (key.at + at + length bytes)
  range_is at bytes found range is_range are_bytes cells covered =
      let end = told_range files key file is_range told in
      let l1 = length-drop (key.at + at) file in
      let l2 = length-take (key.at + at + length bytes - (key.at + at)) (drop (key.at + at) file) in
      let count : length bytes ≡ length (slice_range file (key.at + at) (key.at + at + length bytes)) = omega (arith, l1, l2, end, range) in
      ext_get_or 0 bytes (slice_range file (key.at + at) (key.at + at + length bytes)) count
      (λ i inside.
      byte_is at i bytes found range inside (are_bytes i inside) (cells ((at % 8 + i) / 8) (covered i inside) file told)
      ∙ sym (get_or-take (key.at + at + length bytes - (key.at + at)) (drop (key.at + at) file) i 0 (omega (arith, inside)) ∙ get_or-drop (key.at + at) file i 0))

-- each byte of a range lies in one of its cells
pub covered : (skip len count i : ℕ) → count ≡ cells_touched skip len → i < len → (skip + i) / 8 < count
covered skip len count i is inside =
    let some_bytes : len ≢ 0 = λ none. omega (arith, none, inside) in
    let touched : cells_touched skip len ≡ (skip + len + 7) / 8 = ap (λ t. if t then 0 else (skip + len + 7) / 8) (ne_eqb len 0 some_bytes) in
    let here : count ≡ (skip + len + 7) / 8 = is ∙ touched in
    omega (arith, here, inside)

-- what was read is the file's, where the cells that were found are the key's
pub content_is : (files : Option Files) (key : BufferKey) (are : (fs : Files) → files ≡ Some fs → AreFiles fs) (at len : ℕ) (bytes found : List ℕ) → at + len ≤ key.len → length bytes ≡ len → length found ≡ cells_touched (at % 8) len → ((i : ℕ) → i < len → get_or bytes i 0 ≡ byte_of found (at % 8 + i)) → ((j : ℕ) → j < length found → IsCell files key (at / 8 + j) (get_or found j 0) × IsRange files key) → (file : List ℕ) → told_bytes files key.file ≡ Some file → bytes ≡ slice_range file (key.at + at) (key.at + at + len)
content_is files key are at len bytes found range same count are_bytes cells file told =
    elim (cases_eq len 0) [
      | inl none ↦
          let l = length-take (key.at + at + len - (key.at + at)) (drop (key.at + at) file) in
          ext_get_or 0 bytes (slice_range file (key.at + at) (key.at + at + len)) (omega (arith, l, none, same)) (λ i inside. absurd (omega (arith, inside, same, none)))
      | inr some_bytes ↦
          let first = covered (at % 8) len (length found) 0 count (omega (arith, some_bytes)) in
          let is_range = (cells 0 (omega (arith, first))).1 in
          let P : ℕ → Type 0 = λ n. bytes ≡ slice_range file (key.at + at) (key.at + at + n) in
          subst P same
          (range_is files key file are told at bytes found (omega (arith, range, same)) is_range (λ i inside. are_bytes i (omega (arith, inside, same))) (λ j inside. (cells j inside).0)
          (λ i inside. covered (at % 8) len (length found) i count (omega (arith, inside, same))))
    ]
