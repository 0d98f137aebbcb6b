-- For those who put lists of steps together: what is said of them, of a list and then another.
use Rattle.std.specs.Prelude.{◌≡◌, ◌≢◌, ℕ, List, [], ◌∷◌, ◌++◌, ◌⊎◌, Option, None, Some}
use Rattle.std.specs.Option.{option_or}
use Rattle.std.proofs.Common.{refl, sym, ◌∙◌, ap, inl, inr, eq-eqb, ne_eqb}
use Rattle.pool_rule.specs.declared.geometry.Geometry.{Geometry}
use Rattle.pool_rule.specs.declared.view.Access.{Access}
use Rattle.pool_rule.specs.declared.view.Access.TheVariants.{Loaded, Exchanged, Failed, Changed}
use Rattle.pool_rule.specs.declared.view.Event.{Event}
use Rattle.pool_rule.specs.declared.view.Event.TheVariants.{Stepped}
use Rattle.pool_rule.specs.declared.word_step.WordStep.{WordStep}
use Rattle.pool_rule.specs.WordSteps.{event_of}
use Rattle.cache_lookup.specs.Trails.{Among, events, first_load, last_left, last_load, left, loaded}

-- ---- among

pub among_front : {A : Type 0} (a : A) (xs ys : List A) → Among a xs → Among a (xs ++ ys)
among_front a [] ys h = absurd h
among_front a (x ∷ xs) ys (inl is) = inl is
among_front a (x ∷ xs) ys (inr there) = inr (among_front a xs ys there)

pub among_back : {A : Type 0} (a : A) (xs ys : List A) → Among a ys → Among a (xs ++ ys)
among_back a [] ys h = h
among_back a (x ∷ xs) ys h = inr (among_back a xs ys h)

pub among_either : {A : Type 0} (a : A) (xs ys : List A) → Among a (xs ++ ys) → Among a xs ⊎ Among a ys
among_either a [] ys h = inr h
among_either a (x ∷ xs) ys (inl is) = inl (inl is)
among_either a (x ∷ xs) ys (inr there) = elim (among_either a xs ys there) [ inl front ↦ inl (inr front) | inr back ↦ inr back ]

-- ---- loads and values that were left

pub events-append : (g : Geometry) (ss ts : List WordStep) → events g (ss ++ ts) ≡ events g ss ++ events g ts
events-append g [] ts = refl
events-append g (s ∷ ss) ts = ap (λ l. event_of g s ∷ l) (events-append g ss ts)

or_or : (a b c : Option ℕ) → option_or (option_or a b) c ≡ option_or a (option_or b c)
or_or None b c = refl
or_or (Some x) b c = refl

or_none : (a : Option ℕ) → option_or a None ≡ a
or_none None = refl
or_none (Some x) = refl

pub first_load-append : (word : ℕ) (xs ys : List Event) → first_load word (xs ++ ys) ≡ option_or (first_load word xs) (first_load word ys)
first_load-append word [] ys = refl
first_load-append word (x ∷ xs) ys =
    ap (option_or (loaded word x)) (first_load-append word xs ys) ∙ sym (or_or (loaded word x) (first_load word xs) (first_load word ys))

pub last_load-append : (word : ℕ) (xs ys : List Event) → last_load word (xs ++ ys) ≡ option_or (last_load word ys) (last_load word xs)
last_load-append word [] ys = sym (or_none (last_load word ys))
last_load-append word (x ∷ xs) ys =
    ap (λ o. option_or o (loaded word x)) (last_load-append word xs ys) ∙ or_or (last_load word ys) (last_load word xs) (loaded word x)

pub last_left-append : (word : ℕ) (xs ys : List Event) → last_left word (xs ++ ys) ≡ option_or (last_left word ys) (last_left word xs)
last_left-append word [] ys = sym (or_none (last_left word ys))
last_left-append word (x ∷ xs) ys =
    ap (λ o. option_or o (left word x)) (last_left-append word xs ys) ∙ or_or (last_left word ys) (last_left word xs) (left word x)

-- ---- a load of the word, and loads of others

pub loaded_here : (word old new : ℕ) → loaded word (Stepped word old new Loaded) ≡ Some old
loaded_here word old new = rw (eq-eqb word word refl) refl

pub left_here : (word old new : ℕ) (access : Access) → left word (Stepped word old new access) ≡ Some new
left_here word old new access = rw (eq-eqb word word refl) refl

-- the event is no load of the word
abbrev pub IsNoLoad : ℕ → Event → Type 0
IsNoLoad word e = loaded word e ≡ None

pub no_load_away : (word w old new : ℕ) (access : Access) → w ≢ word → IsNoLoad word (Stepped w old new access)
no_load_away word w old new Loaded h = rw (ne_eqb w word h) refl
no_load_away word w old new Exchanged h = refl
no_load_away word w old new Failed h = refl
no_load_away word w old new Changed h = refl

-- none of them is
abbrev pub AreNoLoads : ℕ → List Event → Type 0
AreNoLoads word [] = Unit {0}
AreNoLoads word (e ∷ es) = IsNoLoad word e × AreNoLoads word es

pub no_loads-append : (word : ℕ) (xs ys : List Event) → AreNoLoads word xs → AreNoLoads word ys → AreNoLoads word (xs ++ ys)
no_loads-append word [] ys p q = q
no_loads-append word (x ∷ xs) ys p q = (p.0, no_loads-append word xs ys p.1 q)

pub first_load-none : (word : ℕ) (es : List Event) → AreNoLoads word es → first_load word es ≡ None
first_load-none word [] h = refl
first_load-none word (e ∷ es) h = ap (λ o. option_or o (first_load word es)) h.0 ∙ first_load-none word es h.1

pub last_load-none : (word : ℕ) (es : List Event) → AreNoLoads word es → last_load word es ≡ None
last_load-none word [] h = refl
last_load-none word (e ∷ es) h = ap (option_or (last_load word es)) h.0 ∙ (or_none (last_load word es) ∙ last_load-none word es h.1)

-- steps behind don't change the first load, and steps that load other words don't change the last
pub first_load-front : (word value : ℕ) (xs ys : List Event) → first_load word xs ≡ Some value → first_load word (xs ++ ys) ≡ Some value
first_load-front word value xs ys e = first_load-append word xs ys ∙ ap (λ o. option_or o (first_load word ys)) e

pub first_load-back : (word : ℕ) (xs ys : List Event) → AreNoLoads word xs → first_load word (xs ++ ys) ≡ first_load word ys
first_load-back word xs ys h = first_load-append word xs ys ∙ ap (λ o. option_or o (first_load word ys)) (first_load-none word xs h)

pub last_load-front : (word : ℕ) (xs ys : List Event) → AreNoLoads word ys → last_load word (xs ++ ys) ≡ last_load word xs
last_load-front word xs ys h = last_load-append word xs ys ∙ ap (λ o. option_or o (last_load word xs)) (last_load-none word ys h)

pub last_load-back : (word value : ℕ) (xs ys : List Event) → last_load word ys ≡ Some value → last_load word (xs ++ ys) ≡ Some value
last_load-back word value xs ys e = last_load-append word xs ys ∙ ap (λ o. option_or o (last_load word xs)) e

pub last_left-back : (word value : ℕ) (xs ys : List Event) → last_left word ys ≡ Some value → last_left word (xs ++ ys) ≡ Some value
last_left-back word value xs ys e = last_left-append word xs ys ∙ ap (λ o. option_or o (last_left word xs)) e
