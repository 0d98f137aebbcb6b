-- Flags of a dictionary's entries are flags of the texts that are chosen.
use Rattle.std.proofs.Common.{◌≡◌, ◌∙◌, ◌&&◌, ◌<◌, ◌≤◌, ℕ, Bool, true, false, List, [], ◌++◌, length, map, take, get_or, replicate, All, sym, ap, arith}
use Rattle.std.specs.Prelude.{slice_index_or}
use Rattle.std.proofs.lemmas.List.{ext_get_or, get_or-map, get_or-replicate, get_or-take, get_or_append_left, length-map, length-replicate, length-take-le}
use Rattle.orc_values.specs.declared.value.Value.{Value}
use Rattle.orc_values.specs.declared.value.Value.TheVariants as value
use Rattle.orc_values.specs.Chosen.{chosen}
use Rattle.batch_masks.specs.Kept.{both}
use Rattle.batch_masks.proofs.Masks.{both-at, both-length, map-map}

-- functions that agree below a number do so over numbers below it
map-below : (f g : ℕ → Bool) (n : ℕ) (places : List ℕ) → ((place : ℕ) → place < n → f place ≡ g place) → All (λ place. place < n) places → map f places ≡ map g places
map-below f g n places same within =
    ext_get_or false (map f places) (map g places) (length-map places f ∙ sym (length-map places g))
    (λ k lt.
    let h : k < length places = omega (arith, lt, length-map places f) in
    get_or-map f places k 0 false h ∙ same (get_or places k 0) (within k 0 h) ∙ sym (get_or-map g places k 0 false h))

module _ (asked : Value → Bool) (entries : List (List ℕ)) (most : ℕ) (few : length entries ≤ most) where
  -- the flags of the entries, of which all were set
  abbrev of_entries : List Bool
  of_entries = both (take (length entries) (replicate most true)) (map asked (map (λ t. value.Text t) entries))

  of-length : length (take (length entries) (replicate most true)) ≡ length (map asked (map (λ t. value.Text t) entries))
  of-length =
      length-take-le (length entries) (replicate most true) (omega (arith, few, length-replicate most true))
      ∙ sym (length-map entries (λ t. value.Text t)) ∙ sym (length-map (map (λ t. value.Text t) entries) asked)

  -- the flag of an entry
  entry-flag : (behind : List Bool) (place : ℕ) → place < length entries → get_or (of_entries ++ behind) place false ≡ asked (value.Text (slice_index_or entries place []))
  entry-flag behind place lt =
      let none : List ℕ = [] in
      let values = map (λ t. value.Text t) entries in
      let all = take (length entries) (replicate most true) in
      let long : length all ≡ length entries = length-take-le (length entries) (replicate most true) (omega (arith, few, length-replicate most true)) in
      let set : get_or all place false ≡ true =
      get_or-take (length entries) (replicate most true) place false lt ∙ get_or-replicate most place true false (omega (arith, lt, few)) in
      get_or_append_left of_entries behind false place (omega (arith, lt, long, both-length all (map asked values) of-length))
      ∙ both-at all (map asked values) place of-length (omega (arith, lt, long))
      ∙ ap (λ (b : Bool). b && get_or (map asked values) place false) set
      ∙ get_or-map asked values place value.Null false (omega (arith, lt, length-map entries (λ t. value.Text t)))
      ∙ ap asked (get_or-map (λ t. value.Text t) entries place none value.Null lt)

  -- a text passes where its entry does
  pub chosen-flags : (behind : List Bool) (places : List ℕ) → All (λ place. place < length entries) places
      → map (λ place. get_or (of_entries ++ behind) place false) places ≡ map asked (map (λ t. value.Text t) (chosen entries places))
  chosen-flags behind places within =
      let pick = λ (place : ℕ). slice_index_or entries place [] in
      map-below (λ place. get_or (of_entries ++ behind) place false) (λ place. asked (value.Text (pick place))) (length entries) places (entry-flag behind) within
      ∙ sym (ap (map asked) (map-map (λ (t : List ℕ). value.Text t) pick places) ∙ map-map asked (λ (place : ℕ). value.Text (pick place)) places)
