-- The generated file, where it is the last of the told files, is found under its name.
use Rattle.std.proofs.Common.{◌≡◌, ◌≢◌, ℕ, zero, suc, ◌+◌, true, false, List, [], ◌∷◌, length, get_or, Option, Some, None, AllPairs, slice_get, bytes_eq, refl, sym, ap, ◌∙◌, subst, inl, inr, arith}
use Rattle.std.proofs.lemmas.Bool.{cases_Bool, cond-true, cond-false}
use Rattle.std.proofs.lemmas.Option.{get_or_from_slice_get, slice_get_past, slice_get_within, same_Some, none-some}
use Rattle.std.proofs.lemmas.Slice.Eq.{bytes_eq-Decides}
use Rattle.outside.specs.Files.{AreFiles, File, Files, file_named, found_from}
use Rattle.generated_plan.specs.Text.{file_name}
use Rattle.generated_store.specs.Made.{MadeOf}
use Rattle.generated_store.specs.Generated.{IsLast, made_number, made_ref}

abbrev Apart : File → File → Type 0
Apart f g = f.0 ≢ g.0

other_name : (g f : File) → g.0 ≢ f.0 → bytes_eq g.0 f.0 ≡ false
other_name g f apart =
    elim (cases_Bool (bytes_eq g.0 f.0)) [
      | inl same ↦ absurd (apart ((bytes_eq-Decides g.0 f.0).0 same))
      | inr other ↦ other
    ]

found_here : (number : ℕ) (name : List ℕ) (f : File) (fs : Files) → bytes_eq f.0 name ≡ true
    → found_from number name (f ∷ fs) ≡ Some (record { number = number; len = length f.1 })
found_here number name f fs same =
    cond-true (bytes_eq f.0 name) (Some (record { number = number; len = length f.1 })) (found_from (number + 1) name fs) same

found_later : (number : ℕ) (name : List ℕ) (f : File) (fs : Files) → bytes_eq f.0 name ≡ false
    → found_from number name (f ∷ fs) ≡ found_from (number + 1) name fs
found_later number name f fs other =
    cond-false (bytes_eq f.0 name) (Some (record { number = number; len = length f.1 })) (found_from (number + 1) name fs) other

-- names that differ: the file at a place is the one that is found under its name
found_at : (number place : ℕ) (f : File) (files : Files) → AllPairs Apart files → slice_get files place ≡ Some f
    → found_from number f.0 files ≡ Some (record { number = number + place; len = length f.1 })
found_at number place f [] apart is = absurd (none-some f (sym (slice_get_past [] place (omega arith)) ∙ is))
found_at number zero f (g ∷ fs) apart is =
    let same : g ≡ f = same_Some g f is in
    subst (λ (h : File). found_from number f.0 (h ∷ fs) ≡ Some (record { number = number + 0; len = length f.1 })) (sym same)
    (found_here number f.0 f fs ((bytes_eq-Decides f.0 f.0).1 refl)
    ∙ ap (λ (n : ℕ). Some (record { number = n; len = length f.1 })) (omega arith))
found_at number (suc place) f (g ∷ fs) apart is =
    let next : slice_get fs place ≡ Some f = is in
    let short = slice_get_within fs place f next in
    let there : get_or fs place f ≡ f = get_or_from_slice_get fs place f f next in
    let differ : g.0 ≢ f.0 = subst (λ (h : File). g.0 ≢ h.0) there (apart 0 (suc place) f (omega arith) (omega arith)) in
    found_later number f.0 g fs (other_name g f differ)
    ∙ found_at (number + 1) place f fs (λ i j d below inside. apart (suc i) (suc j) d (omega arith) (omega arith)) next
    ∙ ap (λ (n : ℕ). Some (record { number = n; len = length f.1 })) (omega arith)

-- so the generated file is found under its name
pub found_last : (told : Option Files) (made : MadeOf) → ((files : Files) → told ≡ Some files → AreFiles files) → IsLast told (Some made)
    → (files : Files) → told ≡ Some files → Some (made_ref made) ≡ file_named (file_name made.number made.rows) files
found_last None made are last files is = absurd (none-some files is)
found_last (Some known) made are last files is =
    let same : known ≡ files = same_Some known files is in
    let entry : slice_get files made_number ≡ Some (file_name made.number made.rows, made.bytes) =
    subst (λ (all : Files). slice_get all made_number ≡ Some (file_name made.number made.rows, made.bytes)) same last in
    sym (found_at 0 made_number (file_name made.number made.rows, made.bytes) files (are files is).distinct entry)
