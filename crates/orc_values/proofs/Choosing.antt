-- Texts by the numbers of entries.
use Rattle.std.proofs.Common.{◌≡◌, ◌∙◌, ℕ, ◌<◌, List, [], length, slice_get, Some, ℤ, pos, ap, arith}
use Rattle.std.specs.Prelude.{slice_index_or}
use Rattle.std.specs.Option.{option_map}
use Rattle.std.specs.Int.{w64, cast_unsigned}
use Rattle.std.proofs.lemmas.List.{get_or-map, length-map}
use Rattle.std.proofs.lemmas.Option.{slice_get-map, slice_get-get_or}
use Rattle.orc_values.specs.Chosen.{places_of, chosen, AreWithin}

pub length-chosen : (entries : List (List ℕ)) (numbers : List ℤ) → length (chosen entries (places_of numbers)) ≡ length numbers
length-chosen entries numbers = length-map (places_of numbers) (λ (place : ℕ). slice_index_or entries place []) ∙ length-map numbers (cast_unsigned w64)

pub number_below : (entries : List (List ℕ)) (numbers : List ℤ) (index : ℕ) → AreWithin entries numbers → index < length numbers
    → cast_unsigned w64 (slice_index_or numbers index (pos 0)) < length entries
number_below entries numbers index within lt =
    let below : slice_index_or (places_of numbers) index 0 < length entries = within index 0 (omega (arith, lt, length-map numbers (cast_unsigned w64))) in
    let at : slice_index_or (places_of numbers) index 0 ≡ cast_unsigned w64 (slice_index_or numbers index (pos 0)) = get_or-map (cast_unsigned w64) numbers index (pos 0) 0 lt in
    omega (arith, below, at)

pub chosen_at : (entries : List (List ℕ)) (numbers : List ℤ) (index : ℕ) → index < length numbers
    → slice_get (chosen entries (places_of numbers)) index ≡ Some (slice_index_or entries (cast_unsigned w64 (slice_index_or numbers index (pos 0))) [])
chosen_at entries numbers index lt =
    slice_get-map (λ (place : ℕ). slice_index_or entries place []) (places_of numbers) index
    ∙ ap (option_map (λ (place : ℕ). slice_index_or entries place []))
    (slice_get-map (cast_unsigned w64) numbers index ∙ ap (option_map (cast_unsigned w64)) (slice_get-get_or numbers index (pos 0) lt))
