-- The names and the shapes of one fragment more.
use Rattle.std.proofs.Common.{◌≡◌, ℕ, List, [], ◌∷◌, ◌++◌, Result, Ok, refl, sym, ap, ◌∙◌}
use Rattle.plan_words.specs.declared.fault.PlanKind.{PlanKind}
use Rattle.std.proofs.lemmas.List.{map_push}
use Rattle.fragment_plan.specs.Fragments.{names_of}
use Rattle.fragment_plan.specs.declared.fragment.Fragment.{Fragment}
use Rattle.fragment_plan.specs.declared.shape.Shape.{Shape}
use Rattle.fragment_plan.specs.Shapes.{shape_of, shapes_behind, shapes_of}

behind-push : (shapes : List Shape) (before : List Fragment) (fragment : Fragment)
    → shapes_behind shapes (before ++ fragment ∷ []) ≡ shapes_behind shapes before ++ shape_of (shapes_behind shapes before) fragment.work ∷ []
behind-push shapes [] fragment = refl
behind-push shapes (first ∷ before) fragment = behind-push (shapes ++ shape_of shapes first.work ∷ []) before fragment

pub shapes_push : (before : List Fragment) (fragment : Fragment)
    → shapes_of (before ++ fragment ∷ []) ≡ shapes_of before ++ shape_of (shapes_of before) fragment.work ∷ []
shapes_push before fragment = behind-push [] before fragment

pub keeps_names : (list pushed : List Fragment) (fragment : Fragment) (names added : List (List ℕ)) (name : List ℕ)
    → names ≡ names_of list → added ≡ names ++ name ∷ [] → fragment.name ≡ name → pushed ≡ list ++ fragment ∷ [] → added ≡ names_of pushed
keeps_names list pushed fragment names added name before grown same push =
    grown ∙ ap (λ (ns : List (List ℕ)). ns ++ name ∷ []) before ∙ ap (λ (n : List ℕ). names_of list ++ n ∷ []) (sym same)
    ∙ sym (map_push (λ f. f.name) list fragment) ∙ ap names_of (sym push)

pub keeps_shapes : (list pushed : List Fragment) (fragment : Fragment) (shapes added : List Shape) (shape : Shape)
    → shapes ≡ shapes_of list → added ≡ shapes ++ shape ∷ [] → shape ≡ shape_of shapes fragment.work → pushed ≡ list ++ fragment ∷ [] → added ≡ shapes_of pushed
keeps_shapes list pushed fragment shapes added shape before grown same push =
    grown ∙ ap (λ (s : Shape). shapes ++ s ∷ []) same ∙ ap (λ (ss : List Shape). ss ++ shape_of ss fragment.work ∷ []) before
    ∙ sym (shapes_push list fragment) ∙ ap shapes_of (sym push)

abbrev Known : Type 0
Known = List (List ℕ) × List Shape

abbrev known : Known → Result Known PlanKind
known x = Ok x

ok_is : (x y : Known) → known x ≡ known y → x ≡ y
ok_is x y e = cc

abbrev fragments : List Fragment → Result (List Fragment) PlanKind
fragments list = Ok list

pub list_is : (list pushed : List Fragment) → fragments pushed ≡ fragments list → list ≡ pushed
list_is list pushed e = cc

-- the pair of what is known of the fragments in `list` and the fragment more
pub keeps_earlier : (list pushed : List Fragment) (fragment : Fragment) (old new : Known) (name : List ℕ) (shape : Shape)
    → old ≡ (names_of list, shapes_of list) → known (old.0 ++ name ∷ [], old.1 ++ shape ∷ []) ≡ known new → fragment.name ≡ name → shape ≡ shape_of old.1 fragment.work
    → pushed ≡ list ++ fragment ∷ [] → new ≡ (names_of pushed, shapes_of pushed)
keeps_earlier list pushed fragment old new name shape before grown same formed push =
    let names = keeps_names list pushed fragment old.0 (old.0 ++ name ∷ []) name (ap (λ (e : Known). e.0) before) refl same push in
    let shapes = keeps_shapes list pushed fragment old.1 (old.1 ++ shape ∷ []) shape (ap (λ (e : Known). e.1) before) refl formed push in
    sym (ok_is (old.0 ++ name ∷ [], old.1 ++ shape ∷ []) new grown) ∙ rw names (rw shapes refl)
