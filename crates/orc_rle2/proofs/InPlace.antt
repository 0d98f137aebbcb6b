-- Lists that are written over, value by value; and packed numbers as the values that have their bits.
use Rattle.std.proofs.Common.{◌≡◌, ◌≢◌, ℕ, ◌+◌, ◌*◌, ◌%◌, ◌^◌, ◌<◌, ◌≤◌, Bool, true, false, cond, ltb, List, [], ◌∷◌, ◌++◌, length, take, drop, Option, None, set, get_or, map, ℤ, pos, refl, sym, ap, ◌∙◌, arith, add-one, drop-cons}
use Rattle.std.specs.Int.{w64, cast_unsigned}
use Rattle.std.specs.List.{range_with_len}
use Rattle.std.proofs.Math.Nat.{pow-le-pow_right}
use Rattle.std.proofs.lemmas.Int.{of_z-to_z}
use Rattle.std.proofs.lemmas.Bool.{lt-ltb}
use Rattle.std.proofs.lemmas.List.{take_more, take_more_set, map-append, get_or-set_other, get_or-map, map-set, length-map}
use Rattle.std.proofs.lemmas.Nat.{pow_pos, mod_below}
use Rattle.orc_integers.specs.Integers.{integer}
use Rattle.orc_rle2.specs.Integers.{bits_in}
use Rattle.orc_rle2.specs.declared.patches.Shape.{Shape}
use Rattle.orc_rle2.specs.Packed.{bits_to, unpacked}
use Rattle.orc_rle2.specs.Patches.{patched, gap_of, patch_of, only_moves, patched_value}

-- ---- writing over

pub map_take_more : {A B : Type 0} (f : A → B) (list : List A) (i : ℕ) (d : A) → i < length list → map f (take (i + 1) list) ≡ map f (take i list) ++ f (get_or list i d) ∷ []
map_take_more f list i d h = ap (map f) (take_more list i d h) ∙ map-append f (take i list) (get_or list i d ∷ [])

pub over_more : {A B : Type 0} (f : A → B) (values : List B) (old : List A) (i : ℕ) (value : B) (d : A) → i < length values → i < length old → take i values ≡ map f (take i old) → value ≡ f (get_or old i d) → take (i + 1) (set values i value) ≡ map f (take (i + 1) old)
over_more f values old i value d h k made is = take_more_set values i value h ∙ rw (made, is) refl ∙ sym (map_take_more f old i d k)

pub over_rest : {V : Type 0} (values old : List V) (i : ℕ) (value d : V) → ((k : ℕ) → i ≤ k → get_or values k d ≡ get_or old k d) → (k : ℕ) → i + 1 ≤ k → get_or (set values i value) k d ≡ get_or old k d
over_rest values old i value d rest k h =
    let other : k ≢ i = λ e. absurd (omega arith) in
    get_or-set_other values i k value d other ∙ rest k (omega arith)

-- ---- packed numbers

bits_of_made : (f : ℕ → ℕ) (list : List ℕ) → ((k : ℕ) → f k < 2 ^ 64) → bits_in (map (integer false) (map f list)) ≡ map f list
bits_of_made f [] below = refl
bits_of_made f (x ∷ list) below =
    ap (λ (n : ℕ). n ∷ bits_in (map (integer false) (map f list))) (of_z-to_z w64 (f x) (below x)) ∙ ap (λ (l : List ℕ). f x ∷ l) (bits_of_made f list below)

packed_below : (number width : ℕ) → width ≤ 64 → number % 2 ^ width < 2 ^ 64
packed_below number width h =
    let p : 2 ^ width ≤ 2 ^ 64 = pow-le-pow_right (omega arith) h in
    omega (arith, mod_below number (2 ^ width) (pow_pos width))

pub unpacked-bits : (width count : ℕ) (bytes : List ℕ) → width ≤ 64 → bits_in (map (integer false) (unpacked width count bytes)) ≡ unpacked width count bytes
unpacked-bits width count bytes h = bits_of_made (λ i. bits_to bytes width (width * (i + 1))) (range_with_len 0 count) (λ i. packed_below _ width h)

-- ---- patches

-- what an entry does, by the position that it comes to
abbrev patched_at : Shape → ℕ → ℕ → List ℕ → List ℕ → Option (List ℕ)
patched_at shape at entry entries values =
    cond (only_moves shape entry) (patched shape at entries values) (cond (ltb at (length values)) (patched shape at entries (set values at (patched_value shape.values (patch_of shape entry) (get_or values at 0)))) None)

patched_in : (move within : Bool) (moved kept out : Option (List ℕ)) → move ≡ false → within ≡ true → cond move moved (cond within kept out) ≡ kept
patched_in true within moved kept out e h = absurd cc
patched_in false true moved kept out e h = refl
patched_in false false moved kept out e h = absurd cc

-- one entry more, which patches a value
pub patched-sets : (shape : Shape) (position at entry number : ℕ) (entries numbers : List ℤ) (i : ℕ) (value : ℤ) → i < length entries → at < length numbers → entry ≡ cast_unsigned w64 (get_or entries i (pos 0)) → at ≡ position + gap_of shape entry → only_moves shape entry ≡ false →
    number ≡ cast_unsigned w64 (get_or numbers at (pos 0)) → cast_unsigned w64 value ≡ patched_value shape.values (patch_of shape entry) number →
    patched shape position (bits_in (drop i entries)) (bits_in numbers) ≡ patched shape at (bits_in (drop (i + 1) entries)) (bits_in (set numbers at value))
patched-sets shape position at entry number entries numbers i value h k entry_is at_is stays number_is value_is =
    let front : bits_in (drop i entries) ≡ entry ∷ bits_in (drop (i + 1) entries) = rw (add-one, drop-cons entries i (pos 0), entry_is) refl in
    let read : get_or (bits_in numbers) at 0 ≡ number = get_or-map (cast_unsigned w64) numbers at (pos 0) 0 k ∙ sym number_is in
    let room : ltb at (length (bits_in numbers)) ≡ true = lt-ltb at (length (bits_in numbers)) (omega (arith, length-map numbers (cast_unsigned w64))) in
    let written : bits_in (set numbers at value) ≡ set (bits_in numbers) at (patched_value shape.values (patch_of shape entry) (get_or (bits_in numbers) at 0)) =
    map-set (cast_unsigned w64) numbers at value ∙ ap (set (bits_in numbers) at) (value_is ∙ ap (patched_value shape.values (patch_of shape entry)) (sym read)) in
    ap (λ (l : List ℕ). patched shape position l (bits_in numbers)) front
    ∙ ap (λ (n : ℕ). patched_at shape n entry (bits_in (drop (i + 1) entries)) (bits_in numbers)) (sym at_is)
    ∙ patched_in (only_moves shape entry) (ltb at (length (bits_in numbers))) _ _ None stays room
    ∙ ap (patched shape at (bits_in (drop (i + 1) entries))) (sym written)
