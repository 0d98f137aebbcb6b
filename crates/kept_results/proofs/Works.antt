-- The shape of a fragment is the one of its work.
use Rattle.std.proofs.Common.{◌≡◌, ℕ, zero, suc, ◌+◌, ◌<◌, ◌≤◌, List, [], ◌∷◌, ◌++◌, length, length-append, get_or, Option, Some, unwrap_or, slice_get, slice_index_or, refl, sym, ap, ◌∙◌, subst, arith}
use Rattle.std.proofs.lemmas.Option.{slice_get_within, get_or_from_slice_get}
use Rattle.fragment_plan.specs.declared.fragment.Fragment.{Fragment}
use Rattle.fragment_plan.specs.declared.fragment.Work.{Work}
use Rattle.fragment_plan.specs.declared.fragment.Work.TheVariants as work
use Rattle.fragment_plan.specs.declared.shape.Shape.{Shape}
use Rattle.fragment_plan.specs.declared.shape.Shape.TheVariants as shape
use Rattle.fragment_plan.specs.Bounds.{WorkInBounds, AllInBounds}
use Rattle.fragment_plan.specs.Shapes.{shape_at, shape_of, shapes_behind, shapes_of}

in_front : {A : Type 0} (xs ys : List A) (k : ℕ) → k < length xs → slice_get (xs ++ ys) k ≡ slice_get xs k
in_front [] ys k h = absurd (omega (arith, h))
in_front (x ∷ xs) ys zero h = refl
in_front (x ∷ xs) ys (suc k) h = in_front xs ys k (omega (arith, h))

at_end : {A : Type 0} (xs : List A) (x : A) → slice_get (xs ++ x ∷ []) (length xs) ≡ Some x
at_end [] x = refl
at_end (y ∷ xs) x = at_end xs x

-- shapes in front stay
front_stays : (shapes : List Shape) (fragments : List Fragment) (k : ℕ) → k < length shapes
    → slice_get (shapes_behind shapes fragments) k ≡ slice_get shapes k
front_stays shapes [] k h = refl
front_stays shapes (fragment ∷ fragments) k h =
    let s = shape_of shapes fragment.work in
    front_stays (shapes ++ s ∷ []) fragments k (omega (arith, h, length-append shapes (s ∷ []))) ∙ in_front shapes (s ∷ []) k h

-- behind more fragments a work that names earlier ones has the same shape
same_shape : (shapes whole : List Shape) (w : Work) → ((k : ℕ) → k < length shapes → slice_get whole k ≡ slice_get shapes k)
    → WorkInBounds (length shapes) w → shape_of shapes w ≡ shape_of whole w
same_shape shapes whole (work.Scan scan) same within = refl
same_shape shapes whole (work.Merge []) same within = refl
same_shape shapes whole (work.Merge (first ∷ others)) same within =
    ap (λ (o : Option Shape). unwrap_or o shape.Count) (sym (same first (within 0 first (omega arith))))

by_work : (shapes : List Shape) (fragments : List Fragment) (i : ℕ) (fragment : Fragment) → slice_get fragments i ≡ Some fragment
    → WorkInBounds (length shapes + i) fragment.work
    → shape_at (shapes_behind shapes fragments) (length shapes + i) ≡ shape_of (shapes_behind shapes fragments) fragment.work
by_work shapes [] i fragment e within = cc
by_work shapes (f ∷ fs) zero fragment e within =
    let s = shape_of shapes f.work in
    let whole = shapes_behind (shapes ++ s ∷ []) fs in
    let is : f ≡ fragment = cc in
    let none : length shapes + 0 ≡ length shapes = omega arith in
    let here : slice_get whole (length shapes) ≡ Some s =
    front_stays (shapes ++ s ∷ []) fs (length shapes) (omega (arith, length-append shapes (s ∷ []))) ∙ at_end shapes s in
    let there : shape_at whole (length shapes + 0) ≡ s =
    ap (shape_at whole) none ∙ ap (λ (o : Option Shape). unwrap_or o shape.Count) here in
    let bound : WorkInBounds (length shapes) f.work =
    subst (λ (g : Fragment). WorkInBounds (length shapes) g.work) (sym is) (subst (λ n. WorkInBounds n fragment.work) none within) in
    there ∙ (same_shape shapes whole f.work (λ k h. front_stays shapes (f ∷ fs) k h) bound ∙ ap (λ (g : Fragment). shape_of whole g.work) is)
by_work shapes (f ∷ fs) (suc i) fragment e within =
    let s = shape_of shapes f.work in
    let more : length (shapes ++ s ∷ []) + i ≡ length shapes + suc i = omega (arith, length-append shapes (s ∷ [])) in
    let whole = shapes_behind (shapes ++ s ∷ []) fs in
    ap (shape_at whole) (sym more)
    ∙ by_work (shapes ++ s ∷ []) fs i fragment e (subst (λ n. WorkInBounds n fragment.work) (sym more) within)

-- the shape of a plan's fragment is that of its work, behind all
pub shape_by_work : (plan : List Fragment) (f : ℕ) (fragment : Fragment) → AllInBounds plan → slice_get plan f ≡ Some fragment
    → shape_at (shapes_of plan) f ≡ shape_of (shapes_of plan) fragment.work
shape_by_work plan f fragment bounds e =
    let got : slice_index_or plan f fragment ≡ fragment = get_or_from_slice_get plan f fragment fragment e in
    let within : WorkInBounds f fragment.work =
    subst (λ (g : Fragment). WorkInBounds f g.work) got (bounds f fragment (slice_get_within plan f fragment e)).work_is in
    let none : 0 + f ≡ f = omega arith in
    ap (shape_at (shapes_of plan)) (sym none) ∙ by_work [] plan f fragment e (subst (λ n. WorkInBounds n fragment.work) (sym none) within)

pub shape_of_none : (shapes : List Shape) (sources : List ℕ) → length sources < 1 → shape_of shapes (work.Merge sources) ≡ shape.Count
shape_of_none shapes [] h = refl
shape_of_none shapes (first ∷ others) h = absurd (omega (arith, h))

pub shape_of_some : (shapes : List Shape) (sources : List ℕ) (d : ℕ) → 1 ≤ length sources
    → shape_of shapes (work.Merge sources) ≡ shape_at shapes (get_or sources 0 d)
shape_of_some shapes [] d h = absurd (omega (arith, h))
shape_of_some shapes (first ∷ others) d h = refl
