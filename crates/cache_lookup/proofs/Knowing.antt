-- A look-up by a seat that knows the words.
use Rattle.std.proofs.Common.{◌≡◌, ◌≢◌, ℕ, ◌+◌, ◌-◌, ◌%◌, ◌^◌, ◌<◌, List, [], ◌∷◌, ◌++◌, length, refl, sym, ap, ◌∙◌, subst, inl, inr, arith}
use Rattle.std.specs.Prelude.{Option, Some, ◌⊎◌, slice_index, slice_set}
use Rattle.std.proofs.lemmas.Bool.{cases_eq, cases_lt}
use Rattle.std.proofs.lemmas.List.{get_or-set_same, get_or-set_other, set-get_or, set-set, set_past}
use Rattle.buffer_word.specs.declared.key_word.Key.{Key}
use Rattle.buffer_word.specs.declared.state_word.Mode.{Mode}
use Rattle.buffer_word.specs.declared.state_word.Mode.TheVariants.{Released, New, Live, Moving, Evicted}
use Rattle.buffer_word.specs.KeyWord.{key_word}
use Rattle.buffer_word.specs.StateWord.{word_of}
use Rattle.pool_model.specs.Content.{Files}
use Rattle.pool_rule.specs.declared.geometry.Geometry.{Geometry}
use Rattle.pool_rule.specs.declared.geometry.WordName.TheVariants.{State as StateOf, KeyOf}
use Rattle.pool_rule.specs.declared.view.View.{View}
use Rattle.pool_rule.specs.declared.word_step.WordStep.{WordStep}
use Rattle.pool_rule.specs.declared.word_step.WordStep.TheVariants.{Looked, Counted, Uncounted}
use Rattle.pool_rule.specs.Layout.{header_word}
use Rattle.pool_rule.specs.WordSteps.{IsStateWord}
use Rattle.buffer_pool.specs.Made.{AreMade, IsLiveWord}
use Rattle.buffer_pool.specs.Pools.{pin_header}
use Rattle.cache_lookup.specs.declared.ways.Found.{Found}
use Rattle.cache_lookup.specs.declared.ways.Found.TheVariants as found
use Rattle.cache_lookup.specs.declared.ways.Tried.{Tried}
use Rattle.cache_lookup.specs.declared.ways.Tried.TheVariants.{Hit, Busy, Passed}
use Rattle.cache_lookup.specs.Callers.{known_found, known_left, known_looked}
use Rattle.cache_lookup.specs.Exact.{IsExact, IsFirstWith, IsWithout, state_in}
use Rattle.cache_lookup.specs.Right.{HasMode}
use Rattle.cache_lookup.specs.Tries.{LookSteps, PinSteps, TrySteps, held, refused, changed, has_not, is_new, pins, past, passed, hit, busy}

-- ---- a count, and its return

small : (g : Geometry) (word : ℕ) → IsStateWord g word → word < 2 ^ 44
small g word is = by_mode is.0.mode is.2
  where
    by_mode : (m : Mode) → word ≡ word_of is.0.count m is.0.order is.0.place → word < 2 ^ 44
    by_mode Released e = omega (arith, e, is.1.count, is.1.order, is.1.place)
    by_mode New e = omega (arith, e, is.1.count, is.1.order, is.1.place)
    by_mode Live e = omega (arith, e, is.1.count, is.1.order, is.1.place)
    by_mode Moving e = omega (arith, e, is.1.count, is.1.order, is.1.place)
    by_mode Evicted e = omega (arith, e, is.1.count, is.1.order, is.1.place)

round : (f : ℕ) → f < 2 ^ 44 → ((f + 16) % 2 ^ 64 + (2 ^ 64 - 16)) % 2 ^ 64 ≡ f
round f h = omega (arith, h)

uncounted_words : (ws : List ℕ) (h f left : ℕ) → slice_index ws h ≡ f → f < 2 ^ 44 → slice_index (slice_set ws h ((f + 16) % 2 ^ 64)) h ≡ left → slice_set (slice_set ws h ((f + 16) % 2 ^ 64)) h ((left + (2 ^ 64 - 16)) % 2 ^ 64) ≡ ws
uncounted_words ws h f left is low told =
    let x : ℕ = (f + 16) % 2 ^ 64 in
    let y : ℕ = (left + (2 ^ 64 - 16)) % 2 ^ 64 in
    elim (cases_lt h (length ws)) [
      | inl within ↦
          let left_is : left ≡ x = sym told ∙ get_or-set_same ws h x 0 within in
          let again : y ≡ f = ap (λ (n : ℕ). (n + (2 ^ 64 - 16)) % 2 ^ 64) left_is ∙ round f low in
          set-set ws h x y ∙ (ap (slice_set ws h) (again ∙ sym is) ∙ set-get_or ws h 0)
      | inr beyond ↦ ap (λ l. slice_set l h y) (set_past ws h x beyond) ∙ set_past ws h y beyond
    ]

-- ---- a way

module _ (files : Option Files) (g : Geometry) (id : ℕ) (key : Key) (ws : List ℕ) where
  abbrev pub ExactTry : ℕ → Tried → View → Type 0
  ExactTry header (Passed seen) w = IsWithout g key ws header × (seen ≡ state_in g ws header) × (w.known ≡ Some ws)
  ExactTry header (Busy word) w = (slice_index ws (header_word g header + 1) ≡ key_word key) × (word ≡ state_in g ws header) × (IsLiveWord word → ⊥) × (w.known ≡ Some ws)
  ExactTry header (Hit pin) w =
      (slice_index ws (header_word g header + 1) ≡ key_word key) × (pin_header pin ≡ header) × IsLiveWord (state_in g ws header)
      × (w.known ≡ Some (slice_set ws (header_word g header) ((state_in g ws header + 16) % 2 ^ 64)))

  ends : (w x : View) (k : Option (List ℕ)) → w ≡ x → x.known ≡ k → w.known ≡ k
  ends w x k e is = ap (λ (z : View). z.known) e ∙ is

  pin_exact : (header seen : ℕ) (v w : View) (ss : List WordStep) (r : Tried) → v.known ≡ Some ws → slice_index ws (header_word g header + 1) ≡ key_word key → AreMade files g id ss v w → PinSteps key header seen ss r → ExactTry header r w
  pin_exact header seen v w ss r e has all (held word pin live is) =
      let f = known_found files g id (Counted header word) v all.0 ws e all.1 in
      let k = known_left files g id (Counted header word) v all.0 ws e all.1 in
      let P : ℕ → Type 0 = λ n. IsLiveWord n in
      let Q : ℕ → Type 0 = λ n. all.0.known ≡ Some (slice_set ws (header_word g header) ((n + 16) % 2 ^ 64)) in
      let last = known_looked files g id (KeyOf header) (key_word key) all.0 all.2.0 _ (subst Q (sym f) k) all.2.1 in
      (has, is, subst P (sym f) live, ends w all.2.0 _ all.2.2 last)
  pin_exact header seen v w ss r e has all (refused word left dead) =
      let f = known_found files g id (Counted header word) v all.0 ws e all.1 in
      let k = known_left files g id (Counted header word) v all.0 ws e all.1 in
      let told = known_found files g id (Uncounted header left) all.0 all.2.0 _ k all.2.1 in
      let last = known_left files g id (Uncounted header left) all.0 all.2.0 _ k all.2.1 in
      let same = uncounted_words ws (header_word g header) word left f (small g word all.1.tells) told in
      (has, sym f, dead, ends w all.2.0 (Some ws) all.2.2 (last ∙ ap Some same))
  pin_exact header seen v w ss r e has all (changed word other left live differs) =
      let k = known_left files g id (Counted header word) v all.0 ws e all.1 in
      let second = known_found files g id (Looked (KeyOf header) other) all.0 all.2.0 _ k all.2.1 in
      let same = get_or-set_other ws (header_word g header) (header_word g header + 1) ((word + 16) % 2 ^ 64) 0 (λ q. omega (arith, q)) in
      absurd (differs (sym second ∙ (same ∙ has)))

  not_live : (n : ℕ) → HasMode n New → IsLiveWord n → ⊥
  not_live n new live = omega (arith, new, live)

  try_exact : (header : ℕ) (v w : View) (ss : List WordStep) (r : Tried) → v.known ≡ Some ws → AreMade files g id ss v w → TrySteps key header ss r → ExactTry header r w
  try_exact header v w ss r e all (has_not seen shown why) =
      let f1 = known_found files g id (Looked (StateOf header) seen) v all.0 ws e all.1 in
      let k1 = known_looked files g id (StateOf header) seen v all.0 ws e all.1 in
      let f2 = known_found files g id (Looked (KeyOf header) shown) all.0 all.2.0 ws k1 all.2.1 in
      let k2 = known_looked files g id (KeyOf header) shown all.0 all.2.0 ws k1 all.2.1 in
      let without : IsWithout g key ws header =
      let P : ℕ × ℕ → Type 0 = λ z. (z.1 ≢ key_word key) ⊎ (HasMode z.0 Evicted ⊎ HasMode z.0 Released) in
      let a = sym f1 in let b = sym f2 in subst P (λ i. (a i, b i)) why in
      (without, sym f1, ends w all.2.0 (Some ws) all.2.2 k2)
  try_exact header v w ss r e all (is_new seen new) =
      let f1 = known_found files g id (Looked (StateOf header) seen) v all.0 ws e all.1 in
      let k1 = known_looked files g id (StateOf header) seen v all.0 ws e all.1 in
      let f2 = known_found files g id (Looked (KeyOf header) (key_word key)) all.0 all.2.0 ws k1 all.2.1 in
      let k2 = known_looked files g id (KeyOf header) (key_word key) all.0 all.2.0 ws k1 all.2.1 in
      (f2, sym f1, not_live seen new, ends w all.2.0 (Some ws) all.2.2 k2)
  try_exact header v w ss r e all (pins seen ts _ may p) =
      let k1 = known_looked files g id (StateOf header) seen v all.0 ws e all.1 in
      let f2 = known_found files g id (Looked (KeyOf header) (key_word key)) all.0 all.2.0 ws k1 all.2.1 in
      let k2 = known_looked files g id (KeyOf header) (key_word key) all.0 all.2.0 ws k1 all.2.1 in
      pin_exact header seen all.2.0 w ts r k2 f2 all.2.2 p

  -- ---- the ways in order

  module _ (first : ℕ) (states : List ℕ) where
    at_once : (way : ℕ) → way < 8 → slice_index ws (header_word g (first + way) + 1) ≡ key_word key → IsFirstWith g key ws first way way
    at_once way lt has = record { inside = lt; has = has; before = λ lower le less. absurd (omega (arith, le, less)) }

    later_first : (from way : ℕ) → IsWithout g key ws (first + from) → IsFirstWith g key ws first (from + 1) way → IsFirstWith g key ws first from way
    later_first from way here rest =
        record {
          inside = rest.inside;
          has = rest.has;
          before = λ lower le less.
              elim (cases_eq lower from) [
                | inl same ↦ let P : ℕ → Type 0 = λ n. IsWithout g key ws (first + n) in subst P (sym same) here
                | inr apart ↦ rest.before lower (omega (arith, le, apart)) less
              ];
        }

    later : (from seen : ℕ) (r : Found) (w : View) → IsWithout g key ws (first + from) → seen ≡ state_in g ws (first + from) → slice_index states from ≡ seen → IsExact g key ws first (from + 1) states w r → IsExact g key ws first from states w r
    later from seen (found.Hit pin) w here is at x = (x.0, later_first from x.0 here x.1, x.2, x.3, x.4)
    later from seen (found.Busy word) w here is at x = (x.0, later_first from x.0 here x.1, x.2, x.3, x.4)
    later from seen found.Missing w here is at x = (
      (λ way le lt.
          elim (cases_eq way from) [
            | inl same ↦
                let P : ℕ → Type 0 = λ n. IsWithout g key ws (first + n) × (slice_index states n ≡ state_in g ws (first + n)) in
                subst P (sym same) (here, at ∙ is)
            | inr apart ↦ x.0 way (omega (arith, le, apart)) lt
          ]),
      x.1,
    )

    parts : (ss ts : List WordStep) (v w : View) → AreMade files g id (ss ++ ts) v w → (u : View) × AreMade files g id ss v u × AreMade files g id ts u w
    parts [] ts v w all = (v, refl, all)
    parts (s ∷ ss) ts v w all = let rest = parts ss ts all.0 w all.2 in (rest.0, (all.0, all.1, rest.1), rest.2)

    pub look_exact : (way : ℕ) (v w : View) (ss : List WordStep) (r : Found) → v.known ≡ Some ws → AreMade files g id ss v w → LookSteps key first states way ss r → IsExact g key ws first way states w r
    look_exact way v w ss r e all (past _ is) = ((λ i le lt. absurd (omega (arith, is, le, lt))), ends w v (Some ws) all e)
    look_exact way v w ss r e all (passed _ seen xs ts _ lt t at more) =
        let p = parts xs ts v w all in
        let one = try_exact (first + way) v p.0 xs (Passed seen) e p.1 t in
        later way seen r w one.0 one.1 at (look_exact (way + 1) p.0 w ts r one.2 p.2 more)
    look_exact way v w ss r e all (hit _ _ pin lt t) =
        let one = try_exact (first + way) v w ss (Hit pin) e all t in (way, at_once way lt one.0, one.1, one.2, one.3)
    look_exact way v w ss r e all (busy _ word _ lt t) =
        let one = try_exact (first + way) v w ss (Busy word) e all t in (way, at_once way lt one.0, one.1, one.2, one.3)
