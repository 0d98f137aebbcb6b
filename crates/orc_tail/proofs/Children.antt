-- The children of type 0, one after the other.
use Rattle.std.proofs.Common.{◌≡◌, ℕ, ◌+◌, ◌<◌, true, List, ◌∷◌, ◌++◌, [], length, get_or, drop, map, refl, sym, ◌∙◌, ap, append_assoc, arith, add-one, drop-cons}
use Rattle.std.proofs.lemmas.Bool.Decides.{nat_tests}
use Rattle.std.proofs.lemmas.List.{get_or-map, length-map}
use Rattle.std.proofs.lemmas.List.Sums.{AllPass-from_list_all}
use Rattle.std.specs.List.{list_all}
use Rattle.orc_tail.specs.declared.types.ColumnType.{ColumnType}
use Rattle.orc_tail.specs.declared.columns.TopColumn.{TopColumn}
use Rattle.orc_tail.specs.Messages.{TypeMessage}
use Rattle.orc_tail.specs.Tail.{is_child, kind_of, child, children}
use Rattle.orc_tail.specs.Views.{type_view}

-- one child more
pub children_more : (types : List TypeMessage) (numbers : List ℕ) (names : List (List ℕ)) (i : ℕ) (none : List ℕ) → i < length numbers → i < length names
    → children types (drop i numbers) (drop i names) ≡ child types (get_or numbers i 0) (get_or names i none) ∷ children types (drop (i + 1) numbers) (drop (i + 1) names)
children_more types numbers names i none p q = rw (add-one, drop-cons numbers i 0, drop-cons names i none) refl

pub kind_at : (types : List ColumnType) (number : ℕ) (none : ColumnType) → number < length types → kind_of (map type_view types) number ≡ (get_or types number none).kind
kind_at types number none lt =
    get_or-map (λ t. t.kind) (map type_view types) number (type_view none) 0 (rw length-map lt) ∙ ap (λ t. t.kind) (get_or-map type_view types number none (type_view none) lt)

-- a child that was pushed
pub goes_on : (types : List TypeMessage) (numbers : List ℕ) (names : List (List ℕ)) (i : ℕ) (none : List ℕ) (front all : List TopColumn) (pushed : TopColumn)
    → i < length numbers → i < length names → pushed ≡ child types (get_or numbers i 0) (get_or names i none)
    → front ++ children types (drop i numbers) (drop i names) ≡ all → (front ++ pushed ∷ []) ++ children types (drop (i + 1) numbers) (drop (i + 1) names) ≡ all
goes_on types numbers names i none front all pushed p q is so_far =
    append_assoc front (pushed ∷ []) (children types (drop (i + 1) numbers) (drop (i + 1) names))
    ∙ ap (λ (c : TopColumn). front ++ c ∷ children types (drop (i + 1) numbers) (drop (i + 1) names)) is
    ∙ ap (λ (cs : List TopColumn). front ++ cs) (sym (children_more types numbers names i none p q)) ∙ so_far

is_child_below : (count number : ℕ) → is_child count number ≡ true → number < count
is_child_below count number h = grind (arith, nat_tests)

pub children_below : (count : ℕ) (numbers : List ℕ) → list_all (is_child count) numbers ≡ true → (k : ℕ) → k < length numbers → get_or numbers k 0 < count
children_below count numbers h k lt = is_child_below count _ (AllPass-from_list_all (is_child count) numbers h k 0 lt)
