-- For those who put lists of steps together: what is tried, released and seen in a list and then another.
use Rattle.std.specs.Prelude.{◌≡◌, ◌≢◌, ℕ, ◌+◌, List, [], ◌∷◌, ◌++◌, Option, None, Some}
use Rattle.std.specs.Option.{option_or}
use Rattle.std.proofs.Common.{refl, sym, ◌∙◌, ap, inl, inr, arith, eq-eqb, ne_eqb}
use Rattle.pool_model.specs.declared.block.Block.{Block}
use Rattle.pool_rule.specs.declared.geometry.Geometry.{Geometry}
use Rattle.pool_rule.specs.declared.view.Event.{Event}
use Rattle.pool_rule.specs.declared.word_step.WordStep.{WordStep}
use Rattle.pool_rule.specs.declared.word_step.WordStep.TheVariants.{Looked, LookedAtCell, Missed, Granted, Returned, Opened, Named}
use Rattle.pool_rule.specs.declared.word_step.WordStep.TheVariants.{Filled, Published, Counted, Uncounted, EvictBegun, HeaderReleased}
use Rattle.pool_rule.specs.declared.word_step.WordStep.TheVariants.{Updated}
use Rattle.pool_rule.specs.Layout.{header_word}
use Rattle.pool_rule.specs.WordSteps.{block_in}
use Rattle.cache_lookup.specs.Trails.{Among, events}
use Rattle.cache_lookup.specs.TrailLaws.{events-append}
use Rattle.cache_eviction.specs.Evictions.{HeldSteps, OutSteps, TrySteps}
use Rattle.cache_eviction.specs.Evictions as try
use Rattle.cache_placement.specs.Placements.{IsPlaceStep}
use Rattle.cache_placement.specs.Placements as place
use Rattle.cache_room.specs.Tried.{HasEnd, HasTouch, IsEnd, IsTried, gone, last_saw, lost, released_by, releases, saw_by, shown}

-- ---- tries

end_front : (header : ℕ) (xs ys : List WordStep) → IsEnd header xs → IsEnd header (xs ++ ys)
end_front header xs ys (shown word rest ne) = shown word (rest ++ ys) ne
end_front header xs ys (lost word saw rest ne) = lost word saw (rest ++ ys) ne
end_front header xs ys (gone word released b rest) = gone word released b (rest ++ ys)

pub ends_front : (header : ℕ) (xs ys : List WordStep) → HasEnd header xs → HasEnd header (xs ++ ys)
ends_front header [] ys h = absurd h
ends_front header (x ∷ xs) ys (inl here) = inl (end_front header (x ∷ xs) ys here)
ends_front header (x ∷ xs) ys (inr there) = inr (ends_front header xs ys there)

pub ends_back : (header : ℕ) (xs ys : List WordStep) → HasEnd header ys → HasEnd header (xs ++ ys)
ends_back header [] ys h = h
ends_back header (x ∷ xs) ys h = inr (ends_back header xs ys h)

pub touch_front : (header : ℕ) (xs ys : List WordStep) → HasTouch header xs → HasTouch header (xs ++ ys)
touch_front header [] ys h = absurd h
touch_front header (x ∷ xs) ys (inl here) = inl here
touch_front header (x ∷ xs) ys (inr there) = inr (touch_front header xs ys there)

pub touch_back : (header : ℕ) (xs ys : List WordStep) → HasTouch header ys → HasTouch header (xs ++ ys)
touch_back header [] ys h = h
touch_back header (x ∷ xs) ys h = inr (touch_back header xs ys h)

pub tried_front : (header : ℕ) (xs ys : List WordStep) → IsTried header xs → IsTried header (xs ++ ys)
tried_front header [] ys h = absurd h
tried_front header (x ∷ xs) ys (inl here) = inl (here.0, ends_front header xs ys here.1)
tried_front header (x ∷ xs) ys (inr there) = inr (tried_front header xs ys there)

pub tried_back : (header : ℕ) (xs ys : List WordStep) → IsTried header ys → IsTried header (xs ++ ys)
tried_back header [] ys h = h
tried_back header (x ∷ xs) ys h = inr (tried_back header xs ys h)

pub tried_over : (header : ℕ) (xs ys : List WordStep) → HasTouch header xs → HasEnd header ys → IsTried header (xs ++ ys)
tried_over header [] ys t e = absurd t
tried_over header (x ∷ xs) ys (inl here) e = inl (here, ends_back header xs ys e)
tried_over header (x ∷ xs) ys (inr there) e = inr (tried_over header xs ys there e)

-- a header that is tried has an end of it
pub held_end : (header : ℕ) (ss : List WordStep) (word : ℕ) → HeldSteps header ss word → HasEnd header ss
held_end header ss word (try.shown _ ne) = inl (shown word [] ne)
held_end header ss word (try.lost seen _ idle ne) = inl (lost seen word [] ne)

pub out_end : (header : ℕ) (ss : List WordStep) (b : Block) → OutSteps header ss b → HasEnd header ss
out_end header ss b (try.out word released given idle) = inr (inl (gone word released (block_in word) _))

-- ---- releases

pub releases-append : (xs ys : List WordStep) → releases (xs ++ ys) ≡ releases xs + releases ys
releases-append [] ys = omega arith
releases-append (x ∷ xs) ys = let e = releases-append xs ys in omega (arith, e)

pub held_releases : (header : ℕ) (ss : List WordStep) (word : ℕ) → HeldSteps header ss word → releases ss ≡ 0
held_releases header ss word (try.shown _ ne) = refl
held_releases header ss word (try.lost seen _ idle ne) = refl

pub out_releases : (header : ℕ) (ss : List WordStep) (b : Block) → OutSteps header ss b → releases ss ≡ 1
out_releases header ss b (try.out word released given idle) = refl

pub out_released : (header : ℕ) (ss : List WordStep) (b : Block) → OutSteps header ss b
    → (c : Block) × (found : ℕ) × Among (HeaderReleased header c found) ss
out_released header ss b (try.out word released given idle) = (block_in word, released, inr (inr (inl refl)))

-- steps none of which releases a header
no_release_by : (s : WordStep) → ((header : ℕ) (b : Block) (found : ℕ) → s ≡ HeaderReleased header b found → ⊥) → released_by s ≡ 0
no_release_by (Looked word found) h = refl
no_release_by (LookedAtCell cell found) h = refl
no_release_by (Missed word found) h = refl
no_release_by (Granted b found) h = refl
no_release_by (Returned b found) h = refl
no_release_by (Opened header b cells) h = refl
no_release_by (Named header b key found) h = refl
no_release_by (Filled header b key done value found) h = refl
no_release_by (Published header b key found) h = refl
no_release_by (Counted header found) h = refl
no_release_by (Uncounted header found) h = refl
no_release_by (EvictBegun header found) h = refl
no_release_by (HeaderReleased header b found) h = absurd (h header b found refl)
no_release_by (Updated word found left) h = refl

pub no_releases : (ss : List WordStep) → ((header : ℕ) (b : Block) (found : ℕ) → Among
    (HeaderReleased header b found) ss → ⊥) → releases ss ≡ 0
no_releases [] h = refl
no_releases (s ∷ ss) h =
    let here = no_release_by s (λ header b found is. h header b found (inl is)) in
    let rest = no_releases ss (λ header b found there. h header b found (inr there)) in
    omega (arith, here, rest)

-- a placement releases none
place_released : (s : WordStep) → IsPlaceStep s → released_by s ≡ 0
place_released s (place.asked arena found) = refl
place_released s (place.missed word found) = refl
place_released s (place.granted b found) = refl
place_released s (place.returned b found) = refl
place_released s (place.opened header b cells) = refl
place_released s (place.named header b key found) = refl
place_released s (place.filled header b key done value found) = refl
place_released s (place.published header b key found) = refl

pub place_releases : (ss : List WordStep) → ((s : WordStep) → Among s ss → IsPlaceStep s) → releases ss ≡ 0
place_releases [] only = refl
place_releases (s ∷ ss) only =
    let here = place_released s (only s (inl refl)) in
    let rest = place_releases ss (λ t there. only t (inr there)) in
    omega (arith, here, rest)

-- ---- the value that a word's last step found

or_or : (a b c : Option ℕ) → option_or (option_or a b) c ≡ option_or a (option_or b c)
or_or None b c = refl
or_or (Some x) b c = refl

or_none : (a : Option ℕ) → option_or a None ≡ a
or_none None = refl
or_none (Some x) = refl

pub last_saw-append : (word : ℕ) (xs ys : List Event) → last_saw word (xs ++ ys) ≡ option_or (last_saw word ys) (last_saw word xs)
last_saw-append word [] ys = sym (or_none (last_saw word ys))
last_saw-append word (x ∷ xs) ys = ap (λ o. option_or o (saw_by word x)) (last_saw-append word xs ys) ∙ or_or
    (last_saw word ys) (last_saw word xs) (saw_by word x)

pub last_saw-back : (word value : ℕ) (xs ys : List Event) → last_saw word ys ≡ Some value → last_saw word (xs ++ ys) ≡ Some value
last_saw-back word value xs ys e = last_saw-append word xs ys ∙ ap (λ o. option_or o (last_saw word xs)) e

pub last_saw-front : (word : ℕ) (xs ys : List Event) → last_saw word ys ≡ None → last_saw word (xs ++ ys) ≡ last_saw word xs
last_saw-front word xs ys e = last_saw-append word xs ys ∙ ap (λ o. option_or o (last_saw word xs)) e

module _ (g : Geometry) where
  held_saw : (header : ℕ) (ss : List WordStep) (word : ℕ) → HeldSteps header ss word
      → last_saw (header_word g header) (events g ss) ≡ Some word
  held_saw header ss word (try.shown _ ne) = rw (eq-eqb (header_word g header) (header_word g header) refl) refl
  held_saw header ss word (try.lost seen _ idle ne) = rw (eq-eqb (header_word g header) (header_word g header) refl) refl

  -- a try of one header has no step on the state of another
  held_away : (header other : ℕ) (ss : List WordStep) (word : ℕ) → header ≢ other → HeldSteps header ss word
      → last_saw (header_word g other) (events g ss) ≡ None
  held_away header other ss word apart (try.shown _ ne) =
      let away : header_word g header ≢ header_word g other = λ e. apart (omega (arith, e)) in
      rw (ne_eqb (header_word g header) (header_word g other) away) refl
  held_away header other ss word apart (try.lost seen _ idle ne) =
      let away : header_word g header ≢ header_word g other = λ e. apart (omega (arith, e)) in
      rw (ne_eqb (header_word g header) (header_word g other) away) refl

  pub saw_here : (header : ℕ) (xs ys : List WordStep) (word : ℕ) → HeldSteps header ys word
      → last_saw (header_word g header) (events g (xs ++ ys)) ≡ Some word
  saw_here header xs ys word h =
      ap (last_saw (header_word g header)) (events-append g xs ys)
      ∙ last_saw-back (header_word g header) word (events g xs) (events g ys) (held_saw header ys word h)

  pub saw_away : (header other : ℕ) (xs ys : List WordStep) (word value : ℕ) → header ≢ other
      → HeldSteps header ys word → last_saw (header_word g other) (events g xs) ≡ Some value
      → last_saw (header_word g other) (events g (xs ++ ys)) ≡ Some value
  saw_away header other xs ys word value apart h was =
      ap (last_saw (header_word g other)) (events-append g xs ys)
      ∙ (last_saw-front (header_word g other) (events g xs) (events g ys)
      (held_away header other ys word apart h) ∙ was)

pub ruleset trials = (
  ends_front,
  ends_back,
  touch_front,
  touch_back,
  tried_front,
  tried_back,
  tried_over,
  held_end,
  out_end,
  releases-append,
  held_releases,
  out_releases,
  out_released,
  no_releases,
  place_releases,
  last_saw-append,
  last_saw-back,
  last_saw-front,
  saw_here,
  saw_away,
)
