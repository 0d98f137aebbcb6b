-- A placement by a seat that knows the words.
use Rattle.std.proofs.Common.{◌≡◌, ℕ, ◌+◌, ◌*◌, ◌/◌, ◌<◌, ◌≤◌, List, [], ◌∷◌, ◌++◌, refl, sym, ap, ◌∙◌, subst, inl, inr, arith}
use Rattle.std.specs.Prelude.{Option, Some, None, slice_index, slice_set}
use Rattle.std.proofs.lemmas.Bool.{cases_eq}
use Rattle.std.proofs.lemmas.List.{get_or-set_other}
use Rattle.std.proofs.lemmas.Nat.{pow_pos}
use Rattle.buddy_arena.specs.Buddy.{IsBuddyAnswer}
use Rattle.buffer_word.specs.declared.key_word.Key.{Key}
use Rattle.pool_model.specs.declared.block.Block.{Block}
use Rattle.pool_model.specs.Content.{Files}
use Rattle.pool_rule.specs.declared.geometry.Geometry.{Geometry}
use Rattle.pool_rule.specs.declared.geometry.WordName.TheVariants.{Arena, State}
use Rattle.pool_rule.specs.declared.view.View.{View}
use Rattle.pool_rule.specs.declared.word_step.WordStep.{WordStep}
use Rattle.pool_rule.specs.declared.word_step.WordStep.TheVariants as step
use Rattle.pool_rule.specs.Layout.{header_word}
use Rattle.pool_rule.specs.WordSteps.{left_by}
use Rattle.buffer_pool.specs.Made.{AreMade}
use Rattle.buffer_pool.specs.Pools.{block_at, block_of}
use Rattle.cache_lookup.specs.Callers.{known_found, known_left, known_looked}
use Rattle.cache_placement.specs.declared.arenas.Asked.{Asked}
use Rattle.cache_placement.specs.declared.arenas.Asked.TheVariants as asked
use Rattle.cache_placement.specs.declared.why.Placed.{Placed}
use Rattle.cache_placement.specs.Exact.{AreStates, IsExact, IsFirstArena}
use Rattle.cache_placement.specs.Free.{IsFirstFree}
use Rattle.cache_placement.specs.Steps.{AskSteps, OpenSteps, PlaceSteps, none_left, full, got, raced, lost, filled, set_full, no_room, arena_raced, opens}

module _ (files : Option Files) (g : Geometry) (id : ℕ) (key : Key) (order : ℕ) (ws : List ℕ) (until : ℕ) (few : until ≤ g.arenas) where
  ends : (w x : View) (k : Option (List ℕ)) → w ≡ x → x.known ≡ k → w.known ≡ k
  ends w x k e is = ap (λ (z : View). z.known) e ∙ is

  -- ---- the arenas in order

  abbrev ExactAsk : List ℕ → ℕ → Asked → View → Type 0
  ExactAsk words from (asked.Got grant) w =
      (arena offset value : ℕ) × IsFirstArena order ws from until arena offset × (block_of grant ≡ block_at (64 * arena + offset) order) × (w.known ≡ Some (slice_set ws arena value))
  ExactAsk words from (asked.Raced saw) w = ⊥
  ExactAsk words from asked.Full w = ((arena : ℕ) → from ≤ arena → arena < until → slice_index words arena ≡ slice_index ws arena) × (w.known ≡ Some ws)

  none_there : (arena found i : ℕ) → i ≡ arena → slice_index ws arena ≡ found → IsBuddyAnswer 64 found order None → IsBuddyAnswer 64 (slice_index ws i) order None
  none_there arena found i same is none =
      let P : ℕ → Type 0 = λ n. IsBuddyAnswer 64 n order None in subst P (sym (ap (slice_index ws) same ∙ is)) none

  later : (words : List ℕ) (from found : ℕ) (r : Asked) (w : View) → slice_index ws from ≡ found → IsBuddyAnswer 64 found order None → slice_index words from ≡ found → ExactAsk words (from + 1) r w → ExactAsk words from r w
  later words from found (asked.Got grant) w is none at x =
      let first = x.3 in (
        x.0,
        x.1,
        x.2,
        record {
          inside = first.inside;
          answer = first.answer;
          before = λ lower le less. elim (cases_eq lower from) [ inl same ↦ none_there from found lower same is none | inr apart ↦ first.before lower (omega (arith, le, apart)) less ];
        },
        x.4,
        x.5,
      )
  later words from found (asked.Raced saw) w is none at x = x
  later words from found asked.Full w is none at x = (
    (λ arena le lt.
        elim (cases_eq arena from) [
          | inl same ↦ ap (slice_index words) same ∙ (at ∙ (sym is ∙ ap (slice_index ws) (sym same)))
          | inr apart ↦ x.0 arena (omega (arith, le, apart)) lt
        ]),
    x.1,
  )

  in_arena : (arena word offset : ℕ) → IsBuddyAnswer 64 word order (Some offset) → (64 * arena + offset) / 64 ≡ arena
  in_arena arena word offset answer =
      let end = answer.1.free.here.block.inside in
      let size = pow_pos answer.0 in
      omega (arith, end, size)

  ask_exact : (words : List ℕ) (arena : ℕ) (v w : View) (ss : List WordStep) (r : Asked) → v.known ≡ Some ws → AreMade files g id ss v w → AskSteps g order words until arena ss r → ExactAsk words arena r w
  ask_exact words arena v w ss r e all (none_left _ is) = ((λ i le lt. absurd (omega (arith, is, le, lt))), ends w v (Some ws) all e)
  ask_exact words arena v w ss r e all (full _ found ts _ inside none at more) =
      let f = known_found files g id (step.Looked (Arena arena) found) v all.0 ws e all.1 in
      let k = known_looked files g id (Arena arena) found v all.0 ws e all.1 in
      later words arena found r w f none at (ask_exact words (arena + 1) all.0 w ts r k all.2 more)
  ask_exact words arena v w ss r e all (got _ found offset grant inside answer is) =
      let f = known_found files g id (step.Looked (Arena arena) found) v all.0 ws e all.1 in
      let k = known_looked files g id (Arena arena) found v all.0 ws e all.1 in
      let s = step.Granted (block_at (64 * arena + offset) order) found in
      let after = known_left files g id s all.0 all.2.0 ws k all.2.1 in
      let P : ℕ → Type 0 = λ n. IsBuddyAnswer 64 n order (Some offset) in
      let Q : ℕ → Type 0 = λ n. w.known ≡ Some (slice_set ws n (left_by s)) in (
        arena,
        offset,
        left_by s,
        record { inside = inside; answer = subst P (sym f) answer; before = λ lower le less. absurd (omega (arith, le, less)) },
        is,
        subst Q (in_arena arena found offset answer) (ends w all.2.0 _ all.2.2 after),
      )
  ask_exact words arena v w ss r e all (raced _ found saw inside other) =
      let f = known_found files g id (step.Looked (Arena arena) found) v all.0 ws e all.1 in
      let k = known_looked files g id (Arena arena) found v all.0 ws e all.1 in
      let again = known_found files g id (step.Missed (Arena arena) saw) all.0 all.2.0 ws k all.2.1 in
      other (sym again ∙ f)

  parts : (ss ts : List WordStep) (v w : View) → AreMade files g id (ss ++ ts) v w → (u : View) × AreMade files g id ss v u × AreMade files g id ts u w
  parts [] ts v w all = (v, refl, all)
  parts (s ∷ ss) ts v w all = let rest = parts ss ts all.0 w all.2 in (rest.0, (all.0, all.1, rest.1), rest.2)

  module _ (first : ℕ) (states : List ℕ) (from : ℕ) (are : AreStates g ws first states) where
    open_exact : (way arena offset value : ℕ) (b : Block) (v w : View) (ss : List WordStep) (r : Placed) → IsFirstFree states way → IsFirstArena order ws from until arena offset → b ≡ block_at (64 * arena + offset) order → v.known ≡ Some (slice_set ws arena value) → AreMade files g id ss v w → OpenSteps key (first + way) b ss r → IsExact g order ws first states from until w r
    open_exact way arena offset value b v w ss r free there is e all (lost saw found far) =
        let word : ℕ = header_word g (first + way) in
        let inside = there.inside in
        let below : arena < g.arenas = omega (arith, inside, few) in
        let told = known_found files g id (step.Missed (State (first + way)) saw) v all.0 _ e all.1 in
        let same = get_or-set_other ws arena word value 0 (λ q. omega (arith, q, below)) in
        far (sym told ∙ (same ∙ (sym (are way free.inside) ∙ free.free)))
    open_exact way arena offset value b v w ss r free there is e all (filled cells bytes found named published pin at its) = (way, arena, offset, free, there, at, its ∙ is)

    pub place_exact : (v w : View) (ss : List WordStep) (r : Placed) → v.known ≡ Some ws → AreMade files g id ss v w → PlaceSteps g key order first states from until ss r → IsExact g order ws first states from until w r
    place_exact v w ss r e all (set_full none) = ends w v (Some ws) all e
    place_exact v w ss r e all (no_room way words _ is a past) =
        let x = ask_exact words from v w ss asked.Full e all a in ((way, is), x.0, x.1)
    place_exact v w ss r e all (arena_raced way saw words _ is a) = ask_exact words from v w ss (asked.Raced saw) e all a
    place_exact v w ss r e all (opens way words grant xs ts _ is a o) =
        let p = parts xs ts v w all in
        let x = ask_exact words from v p.0 xs (asked.Got grant) e p.1 a in
        open_exact way x.0 x.1 x.2 (block_of grant) p.0 w ts r is x.3 x.4 x.5 p.2 o
