-- What a look-up's answer tells, by its steps.
use Rattle.std.proofs.Common.{◌≡◌, ◌≢◌, ℕ, ◌+◌, ◌<◌, ◌≤◌, List, [], ◌∷◌, ◌++◌, refl, sym, ap, ◌∙◌, subst, inl, inr, arith}
use Rattle.std.specs.Prelude.{Some, slice_index}
use Rattle.std.specs.Option.{option_or}
use Rattle.std.proofs.lemmas.Bool.{cases_eq}
use Rattle.buffer_word.specs.declared.key_word.Key.{Key}
use Rattle.buffer_word.specs.KeyWord.{key_word}
use Rattle.pool_rule.specs.declared.geometry.Geometry.{Geometry}
use Rattle.pool_rule.specs.declared.geometry.WordName.TheVariants.{State, KeyOf}
use Rattle.pool_rule.specs.declared.view.Access.TheVariants.{Loaded}
use Rattle.pool_rule.specs.declared.view.Event.{Event}
use Rattle.pool_rule.specs.declared.word_step.WordStep.{WordStep}
use Rattle.pool_rule.specs.declared.word_step.WordStep.TheVariants.{Looked, Counted}
use Rattle.pool_rule.specs.Layout.{header_word}
use Rattle.pool_rule.specs.WordSteps.{event_of}
use Rattle.buffer_pool.specs.Pools.{pin_header}
use Rattle.cache_lookup.specs.declared.ways.Found.{Found}
use Rattle.cache_lookup.specs.declared.ways.Found.TheVariants as found
use Rattle.cache_lookup.specs.declared.ways.Tried.{Tried}
use Rattle.cache_lookup.specs.declared.ways.Tried.TheVariants.{Hit, Busy, Passed}
use Rattle.cache_lookup.specs.LookUps.{IsBusy, IsLookStep, IsMissing, IsPassed, Tells, other_key, no_buffer, new_way, counted, load, count, back}
use Rattle.cache_lookup.specs.Sets.{IsWay, first_way}
use Rattle.cache_lookup.specs.Trails.{Among, events, first_load, last_load, loaded}
use Rattle.cache_lookup.specs.TrailLaws.{AreNoLoads, among_back, among_either, among_front, events-append, first_load-back, first_load-front, last_load-back, last_load-front, last_load-none, loaded_here, no_load_away, no_loads-append}
use Rattle.cache_lookup.specs.Tries.{LookSteps, PinSteps, TrySteps, held, refused, changed, has_not, is_new, pins, past, passed, hit, busy}

last_of : (word : ℕ) (e : Event) (es : List Event) → AreNoLoads word es → last_load word (e ∷ es) ≡ loaded word e
last_of word e es h = ap (λ o. option_or o (loaded word e)) (last_load-none word es h)

-- ---- the kinds of steps

module _ (key : Key) (header : ℕ) where
  pin_only : (seen : ℕ) (ss : List WordStep) (r : Tried) → PinSteps key header seen ss r → (s : WordStep) → Among s ss → IsLookStep s
  pin_only seen ss r (held word pin live is) s (inl e) = subst IsLookStep e (count header word)
  pin_only seen ss r (held word pin live is) s (inr (inl e)) = subst IsLookStep e (load (KeyOf header) (key_word key))
  pin_only seen ss r (held word pin live is) s (inr (inr gone)) = absurd gone
  pin_only seen ss r (refused word left dead) s (inl e) = subst IsLookStep e (count header word)
  pin_only seen ss r (refused word left dead) s (inr (inl e)) = subst IsLookStep e (back header left)
  pin_only seen ss r (refused word left dead) s (inr (inr gone)) = absurd gone
  pin_only seen ss r (changed word other left live ne) s (inl e) = subst IsLookStep e (count header word)
  pin_only seen ss r (changed word other left live ne) s (inr (inl e)) = subst IsLookStep e (load (KeyOf header) other)
  pin_only seen ss r (changed word other left live ne) s (inr (inr (inl e))) = subst IsLookStep e (back header left)
  pin_only seen ss r (changed word other left live ne) s (inr (inr (inr gone))) = absurd gone

  try_only : (ss : List WordStep) (r : Tried) → TrySteps key header ss r → (s : WordStep) → Among s ss → IsLookStep s
  try_only ss r (has_not seen shown why) s (inl e) = subst IsLookStep e (load (State header) seen)
  try_only ss r (has_not seen shown why) s (inr (inl e)) = subst IsLookStep e (load (KeyOf header) shown)
  try_only ss r (has_not seen shown why) s (inr (inr gone)) = absurd gone
  try_only ss r (is_new seen new) s (inl e) = subst IsLookStep e (load (State header) seen)
  try_only ss r (is_new seen new) s (inr (inl e)) = subst IsLookStep e (load (KeyOf header) (key_word key))
  try_only ss r (is_new seen new) s (inr (inr gone)) = absurd gone
  try_only ss r (pins seen ts _ may p) s (inl e) = subst IsLookStep e (load (State header) seen)
  try_only ss r (pins seen ts _ may p) s (inr (inl e)) = subst IsLookStep e (load (KeyOf header) (key_word key))
  try_only ss r (pins seen ts _ may p) s (inr (inr there)) = pin_only seen ts r p s there

pub look_only : (key : Key) (first : ℕ) (states : List ℕ) (way : ℕ) (ss : List WordStep) (r : Found) → LookSteps key first states way ss r → (s : WordStep) → Among s ss → IsLookStep s
look_only key first states way ss r (past _ e) s gone = absurd gone
look_only key first states way ss r (passed _ seen xs ts _ lt t at more) s there =
    elim (among_either s xs ts there) [ inl front ↦ try_only key (first + way) xs (Passed seen) t s front | inr rest ↦ look_only key first states (way + 1) ts r more s rest ]
look_only key first states way ss r (hit _ _ pin lt t) s there = try_only key (first + way) ss (Hit pin) t s there
look_only key first states way ss r (busy _ word _ lt t) s there = try_only key (first + way) ss (Busy word) t s there

-- ---- a way

module _ (g : Geometry) (key : Key) (header : ℕ) where
  -- no step of a pin loads the state
  pin_no_state : (seen : ℕ) (ss : List WordStep) (r : Tried) → PinSteps key header seen ss r → AreNoLoads (header_word g header) (events g ss)
  pin_no_state seen ss r (held word pin live is) = (refl, (no_load_away (header_word g header) (header_word g header + 1) (key_word key) (key_word key) Loaded (λ e. omega (arith, e)), tt))
  pin_no_state seen ss r (refused word left dead) = (refl, (refl, tt))
  pin_no_state seen ss r (changed word other left live ne) = (refl, (no_load_away (header_word g header) (header_word g header + 1) other other Loaded (λ e. omega (arith, e)), (refl, tt)))

  -- and none of a try loads another word
  module _ (word : ℕ) (a : header_word g header ≢ word) (b : header_word g header + 1 ≢ word) where
    pin_away : (seen : ℕ) (ss : List WordStep) (r : Tried) → PinSteps key header seen ss r → AreNoLoads word (events g ss)
    pin_away seen ss r (held w pin live is) = (refl, (no_load_away word (header_word g header + 1) (key_word key) (key_word key) Loaded b, tt))
    pin_away seen ss r (refused w left dead) = (refl, (refl, tt))
    pin_away seen ss r (changed w other left live ne) = (refl, (no_load_away word (header_word g header + 1) other other Loaded b, (refl, tt)))

    try_away : (ss : List WordStep) (r : Tried) → TrySteps key header ss r → AreNoLoads word (events g ss)
    try_away ss r (has_not seen shown why) = (no_load_away word (header_word g header) seen seen Loaded a, (no_load_away word (header_word g header + 1) shown shown Loaded b, tt))
    try_away ss r (is_new seen new) = (no_load_away word (header_word g header) seen seen Loaded a, (no_load_away word (header_word g header + 1) (key_word key) (key_word key) Loaded b, tt))
    try_away ss r (pins seen ts _ may p) = (no_load_away word (header_word g header) seen seen Loaded a, (no_load_away word (header_word g header + 1) (key_word key) (key_word key) Loaded b, pin_away seen ts r p))

  -- a way that was passed
  abbrev IfPassedTry : (ℕ → Type 0) → Tried → Type 0
  IfPassedTry P (Hit pin) = Unit {0}
  IfPassedTry P (Busy word) = Unit {0}
  IfPassedTry P (Passed seen) = P seen

  seen_first : (seen shown : ℕ) (ss : List WordStep) → first_load (header_word g header) (events g (Looked (State header) seen ∷ Looked (KeyOf header) shown ∷ ss)) ≡ Some seen
  seen_first seen shown ss = ap (λ o. option_or o (first_load (header_word g header) (events g (Looked (KeyOf header) shown ∷ ss)))) (loaded_here (header_word g header) seen seen)

  seen_last : (seen shown : ℕ) (ss : List WordStep) → AreNoLoads (header_word g header) (events g ss) → last_load (header_word g header) (events g (Looked (State header) seen ∷ Looked (KeyOf header) shown ∷ ss)) ≡ Some seen
  seen_last seen shown ss none =
      last_of (header_word g header) (event_of g (Looked (State header) seen)) (events g (Looked (KeyOf header) shown ∷ ss)) (no_load_away (header_word g header) (header_word g header + 1) shown shown Loaded (λ e. omega (arith, e)), none)
      ∙ loaded_here (header_word g header) seen seen

  pin_passed : (seen : ℕ) (ss : List WordStep) (r : Tried) → PinSteps key header seen ss r → IfPassedTry (λ state. IsPassed g key (Looked (State header) seen ∷ Looked (KeyOf header) (key_word key) ∷ ss) header state) r
  pin_passed seen ss r (held word pin live is) = tt
  pin_passed seen ss r (refused word left dead) = tt
  pin_passed seen ss r (changed word other left live ne) =
      record {
        missing = other_key other ne (inr (inr (inr (inl refl))));
        first = seen_first seen (key_word key) ss;
        last = seen_last seen (key_word key) ss (pin_no_state seen ss (Passed seen) (changed word other left live ne));
      }

  try_passed : (ss : List WordStep) (r : Tried) → TrySteps key header ss r → IfPassedTry (λ state. IsPassed g key ss header state) r
  try_passed ss r (has_not seen shown (inl ne)) =
      record { missing = other_key shown ne (inr (inl refl)); first = seen_first seen shown []; last = seen_last seen shown [] tt }
  try_passed ss r (has_not seen shown (inr gone)) =
      record { missing = no_buffer seen gone (inl refl); first = seen_first seen shown []; last = seen_last seen shown [] tt }
  try_passed ss r (is_new seen new) = tt
  try_passed ss r (pins seen ts _ may p) = pin_passed seen ts r p

  -- a way that is busy
  abbrev IfBusyTry : (ℕ → Type 0) → Tried → Type 0
  IfBusyTry P (Hit pin) = Unit {0}
  IfBusyTry P (Busy word) = P word
  IfBusyTry P (Passed seen) = Unit {0}

  pin_busy : IsWay g key header → (seen : ℕ) (ss : List WordStep) (r : Tried) → PinSteps key header seen ss r → IfBusyTry (λ word. IsBusy g key (Looked (State header) seen ∷ Looked (KeyOf header) (key_word key) ∷ ss) word) r
  pin_busy way seen ss r (held word pin live is) = tt
  pin_busy way seen ss r (refused word left dead) = counted header way (inr (inl refl)) dead (inr (inr (inl refl)))
  pin_busy way seen ss r (changed word other left live ne) = tt

  try_busy : IsWay g key header → (ss : List WordStep) (r : Tried) → TrySteps key header ss r → IfBusyTry (λ word. IsBusy g key ss word) r
  try_busy way ss r (has_not seen shown why) = tt
  try_busy way ss r (is_new seen new) = new_way header way (inr (inl refl)) new (inl refl)
  try_busy way ss r (pins seen ts _ may p) = pin_busy way seen ts r p

  abbrev IfHitTry : (ℕ → Type 0) → Tried → Type 0
  IfHitTry P (Hit pin) = P (pin_header pin)
  IfHitTry P (Busy word) = Unit {0}
  IfHitTry P (Passed seen) = Unit {0}

  pin_hit : (seen : ℕ) (ss : List WordStep) (r : Tried) → PinSteps key header seen ss r → IfHitTry (λ h. h ≡ header) r
  pin_hit seen ss r (held word pin live is) = is
  pin_hit seen ss r (refused word left dead) = tt
  pin_hit seen ss r (changed word other left live ne) = tt

  try_hit : (ss : List WordStep) (r : Tried) → TrySteps key header ss r → IfHitTry (λ h. h ≡ header) r
  try_hit ss r (has_not seen shown why) = tt
  try_hit ss r (is_new seen new) = tt
  try_hit ss r (pins seen ts _ may p) = pin_hit seen ts r p

-- ---- the ways in order

missing_front : (key : Key) (header : ℕ) (ss ts : List WordStep) → IsMissing key ss header → IsMissing key (ss ++ ts) header
missing_front key header ss ts (other_key shown ne at) = other_key shown ne (among_front (Looked (KeyOf header) shown) ss ts at)
missing_front key header ss ts (no_buffer word gone at) = no_buffer word gone (among_front (Looked (State header) word) ss ts at)

missing_back : (key : Key) (header : ℕ) (ss ts : List WordStep) → IsMissing key ts header → IsMissing key (ss ++ ts) header
missing_back key header ss ts (other_key shown ne at) = other_key shown ne (among_back (Looked (KeyOf header) shown) ss ts at)
missing_back key header ss ts (no_buffer word gone at) = no_buffer word gone (among_back (Looked (State header) word) ss ts at)

busy_back : (g : Geometry) (key : Key) (word : ℕ) (ss ts : List WordStep) → IsBusy g key ts word → IsBusy g key (ss ++ ts) word
busy_back g key word ss ts (new_way header way shown new at) = new_way header way (among_back (Looked (KeyOf header) (key_word key)) ss ts shown) new (among_back (Looked (State header) word) ss ts at)
busy_back g key word ss ts (counted header way shown dead at) = counted header way (among_back (Looked (KeyOf header) (key_word key)) ss ts shown) dead (among_back (Counted header word) ss ts at)

module _ (g : Geometry) (key : Key) (first : ℕ) (states : List ℕ) where
  -- no step loads a word before the way's
  look_away : (word way : ℕ) (ss : List WordStep) (r : Found) → word < header_word g (first + way) → LookSteps key first states way ss r → AreNoLoads word (events g ss)
  look_away word way ss r h (past _ e) = tt
  look_away word way ss r h (passed _ seen xs ts _ lt t at more) =
      let P : List Event → Type 0 = λ l. AreNoLoads word l in
      subst P (sym (events-append g xs ts))
      (no_loads-append word (events g xs) (events g ts) (try_away g key (first + way) word (λ e. omega (arith, e, h)) (λ e. omega (arith, e, h)) xs (Passed seen) t)
      (look_away word (way + 1) ts r (omega (arith, h)) more))
  look_away word way ss r h (hit _ _ pin lt t) = try_away g key (first + way) word (λ e. omega (arith, e, h)) (λ e. omega (arith, e, h)) ss (Hit pin) t
  look_away word way ss r h (busy _ w _ lt t) = try_away g key (first + way) word (λ e. omega (arith, e, h)) (λ e. omega (arith, e, h)) ss (Busy w) t

  -- each way that was passed, by a look-up that found nothing
  abbrev TellsFrom : ℕ → List WordStep → Found → Type 0
  TellsFrom way ss (found.Hit pin) = (i : ℕ) × (i < 8) × (pin_header pin ≡ first + i)
  TellsFrom way ss (found.Busy word) = first ≡ first_way g key → IsBusy g key ss word
  TellsFrom way ss found.Missing = (i : ℕ) → way ≤ i → i < 8 → IsPassed g key ss (first + i) (slice_index states i)

  passed_here : (way i seen : ℕ) (xs ts : List WordStep) (r : Found) → i ≡ way → slice_index states way ≡ seen → TrySteps key (first + way) xs (Passed seen) → LookSteps key first states (way + 1) ts r → IsPassed g key (xs ++ ts) (first + i) (slice_index states i)
  passed_here way i seen xs ts r same at t more =
      let one = try_passed g key (first + way) xs (Passed seen) t in
      let word : ℕ = header_word g (first + way) in
      let P : ℕ → Type 0 = λ n. IsPassed g key (xs ++ ts) (first + n) (slice_index states n) in
      let e = events-append g xs ts in
      subst P (sym same)
      (record {
        missing = missing_front key (first + way) xs ts one.missing;
        first = ap (first_load word) e ∙ (first_load-front word seen (events g xs) (events g ts) one.first ∙ ap Some (sym at));
        last = ap (last_load word) e ∙ (last_load-front word (events g xs) (events g ts) (look_away word (way + 1) ts r (omega arith) more) ∙ (one.last ∙ ap Some (sym at)));
      })

  passed_later : (way i seen : ℕ) (xs ts : List WordStep) → i ≢ way → TrySteps key (first + way) xs (Passed seen) → IsPassed g key ts (first + i) (slice_index states i) → IsPassed g key (xs ++ ts) (first + i) (slice_index states i)
  passed_later way i seen xs ts apart t rest =
      let word : ℕ = header_word g (first + i) in
      let e = events-append g xs ts in
      let none = try_away g key (first + way) word (λ q. omega (arith, q, apart)) (λ q. omega (arith, q, apart)) xs (Passed seen) t in
      record {
        missing = missing_back key (first + i) xs ts rest.missing;
        first = ap (first_load word) e ∙ (first_load-back word (events g xs) (events g ts) none ∙ rest.first);
        last = ap (last_load word) e ∙ last_load-back word (slice_index states i) (events g xs) (events g ts) rest.last;
      }

  later : (way seen : ℕ) (xs ts : List WordStep) (r : Found) → TrySteps key (first + way) xs (Passed seen) → slice_index states way ≡ seen → LookSteps key first states (way + 1) ts r → TellsFrom (way + 1) ts r → TellsFrom way (xs ++ ts) r
  later way seen xs ts (found.Hit pin) t at more rest = rest
  later way seen xs ts (found.Busy word) t at more rest = λ e. busy_back g key word xs ts (rest e)
  later way seen xs ts found.Missing t at more rest = λ i le lt.
      elim (cases_eq i way) [
        | inl same ↦ passed_here way i seen xs ts found.Missing same at t more
        | inr apart ↦ passed_later way i seen xs ts apart t (rest i (omega (arith, le, apart)) lt)
      ]

  look_from : (way : ℕ) (ss : List WordStep) (r : Found) → LookSteps key first states way ss r → TellsFrom way ss r
  look_from way ss r (past _ e) = λ i le lt. absurd (omega (arith, e, le, lt))
  look_from way ss r (passed _ seen xs ts _ lt t at more) = later way seen xs ts r t at more (look_from (way + 1) ts r more)
  look_from way ss r (hit _ _ pin lt t) = (way, lt, try_hit g key (first + way) ss (Hit pin) t)
  look_from way ss r (busy _ word _ lt t) = λ e. try_busy g key (first + way) (omega (arith, e), omega (arith, e, lt)) ss (Busy word) t

  told : (ss : List WordStep) (r : Found) → first ≡ first_way g key → TellsFrom 0 ss r → Tells g key ss states r
  told ss (found.Hit pin) e t = (omega (arith, t.2, e), omega (arith, t.1, t.2, e))
  told ss (found.Busy word) e t = t e
  told ss found.Missing e t = λ way lt. let P : ℕ → Type 0 = λ n. IsPassed g key ss (n + way) (slice_index states way) in subst P e (t way (omega arith) lt)

  pub look_tells : (ss : List WordStep) (r : Found) → first ≡ first_way g key → LookSteps key first states 0 ss r → Tells g key ss states r
  look_tells ss r e l = told ss r e (look_from 0 ss r l)
