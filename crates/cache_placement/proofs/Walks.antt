-- Each step of a placement is right, and what the placement leaves.
use Rattle.std.proofs.Common.{◌≢◌, ℕ, ◌+◌, ◌*◌, ◌<◌, ◌≤◌, List, [], ◌∷◌, ◌++◌, length, refl, sym, subst, arith}
use Rattle.std.specs.Prelude.{Option}
use Rattle.buffer_word.specs.declared.key_word.Key.{Key}
use Rattle.pool_model.specs.declared.block.Block.{Block}
use Rattle.pool_model.specs.declared.buffer.BufferKey.{BufferKey}
use Rattle.pool_model.specs.Content.{Files}
use Rattle.pool_rule.specs.declared.geometry.Geometry.{Geometry}
use Rattle.pool_rule.specs.declared.geometry.WordName.{WordName}
use Rattle.pool_rule.specs.declared.geometry.WordName.TheVariants.{Arena, State}
use Rattle.pool_rule.specs.declared.view.View.{View}
use Rattle.pool_rule.specs.declared.word_step.WordStep.{WordStep}
use Rattle.pool_rule.specs.declared.word_step.WordStep.TheVariants as step
use Rattle.buffer_pool.specs.Made.{AreMade, cell_in, fill_steps}
use Rattle.buffer_pool.specs.Pools.{block_at, block_of, buffer_key}
use Rattle.cache_lookup.specs.Before.{HasHoldMore, IsAsBefore}
use Rattle.cache_lookup.specs.Callers.{right_arena, right_else, right_then}
use Rattle.cache_lookup.specs.Right.{AreRight}
use Rattle.cache_placement.specs.declared.arenas.Asked.{Asked}
use Rattle.cache_placement.specs.declared.arenas.Asked.TheVariants as asked
use Rattle.cache_placement.specs.declared.why.Placed.{Placed}
use Rattle.cache_placement.specs.Placements.{Leaves}
use Rattle.cache_placement.specs.Steps.{AskSteps, OpenSteps, PlaceSteps, none_left, full, got, raced, lost, filled, set_full, no_room, arena_raced, opens}
use Rattle.cache_placement.proofs.Blocks.{HasBlock, IsKept, block_granted, block_lost, kept_arena, new_fills, new_named, new_opened, new_published, same_missed, same_returned}

-- ---- steps that are neither loads nor counts

pub record IsElse (s : WordStep) : Type 0 where
  pub no_load : (word : WordName) (found : ℕ) → s ≢ step.Looked word found
  pub no_count : (header found : ℕ) → s ≢ step.Counted header found

abbrev pub AreElse : List WordStep → Type 0
AreElse [] = Unit {0}
AreElse (s ∷ ss) = IsElse s × AreElse ss

granted_else : (b : Block) (found : ℕ) → IsElse (step.Granted b found)
granted_else b found = record { no_load = λ w f e. (let no : ⊥ = cc in no); no_count = λ h f e. (let no : ⊥ = cc in no) }

missed_else : (word : WordName) (found : ℕ) → IsElse (step.Missed word found)
missed_else word found = record { no_load = λ w f e. (let no : ⊥ = cc in no); no_count = λ h f e. (let no : ⊥ = cc in no) }

returned_else : (b : Block) (found : ℕ) → IsElse (step.Returned b found)
returned_else b found = record { no_load = λ w f e. (let no : ⊥ = cc in no); no_count = λ h f e. (let no : ⊥ = cc in no) }

opened_else : (header : ℕ) (b : Block) (cells : List ℕ) → IsElse (step.Opened header b cells)
opened_else header b cells = record { no_load = λ w f e. (let no : ⊥ = cc in no); no_count = λ h f e. (let no : ⊥ = cc in no) }

named_else : (header : ℕ) (b : Block) (key : BufferKey) (found : ℕ) → IsElse (step.Named header b key found)
named_else header b key found = record { no_load = λ w f e. (let no : ⊥ = cc in no); no_count = λ h f e. (let no : ⊥ = cc in no) }

filled_else : (header : ℕ) (b : Block) (key : BufferKey) (done value found : ℕ) → IsElse (step.Filled header b key done value found)
filled_else header b key done value found = record { no_load = λ w f e. (let no : ⊥ = cc in no); no_count = λ h f e. (let no : ⊥ = cc in no) }

published_else : (header : ℕ) (b : Block) (key : BufferKey) (found : ℕ) → IsElse (step.Published header b key found)
published_else header b key found = record { no_load = λ w f e. (let no : ⊥ = cc in no); no_count = λ h f e. (let no : ⊥ = cc in no) }

else-append : (xs ys : List WordStep) → AreElse xs → AreElse ys → AreElse (xs ++ ys)
else-append [] ys p q = q
else-append (x ∷ xs) ys p q = (p.0, else-append xs ys p.1 q)

fills_else : (header : ℕ) (b : Block) (key : BufferKey) (cell : ℕ → ℕ) (done : ℕ) (found : List ℕ) → AreElse (fill_steps header b key cell done found)
fills_else header b key cell done [] = tt
fills_else header b key cell done (f ∷ fs) = (filled_else header b key done (cell done) f, fills_else header b key cell (done + 1) fs)

-- ---- walks

module _ (files : Option Files) (g : Geometry) (id : ℕ) (key : Key) (hit : Type 0) (start : View) where
  right_all : (before ss : List WordStep) (v w : View) → AreElse ss → AreMade files g id ss v w → AreRight files g id key hit start before v ss w
  right_all before [] v w p e = e
  right_all before (s ∷ ss) v w p all =
      (all.0, all.1, right_else g key hit start before s v p.0.no_load p.0.no_count, right_all (before ++ s ∷ []) ss all.0 w p.1 all.2)

  -- what the seat has, once the arenas were asked
  abbrev pub AfterAsk : View → Asked → Type 0
  AfterAsk w (asked.Got grant) = HasBlock start w (block_of grant)
  AfterAsk w (asked.Raced saw) = IsAsBefore start w
  AfterAsk w asked.Full = IsAsBefore start w

  pub record AskWalk (before : List WordStep) (v : View) (ss : List WordStep) (w : View) (r : Asked) : Type 0 where
    pub right : AreRight files g id key hit start before v ss w
    pub after : AfterAsk w r

  pub ask_walk : (order : ℕ) (words : List ℕ) (until arena : ℕ) (before : List WordStep) (v w : View) (ss : List WordStep) (r : Asked) → IsKept start v → AreMade files g id ss v w → AskSteps g order words until arena ss r → AskWalk before v ss w r
  ask_walk order words until arena before v w ss r c all (none_left _ e) = let P : View → Type 0 = λ x. IsAsBefore start x in record { right = all; after = subst P (sym all) c.same }
  ask_walk order words until arena before v w ss r c all (full _ word ts _ lt none at more) =
      let next = kept_arena files g id start v all.0 arena word all.1 c in
      let rest = ask_walk order words until (arena + 1) (before ++ step.Looked (Arena arena) word ∷ []) all.0 w ts r next all.2 more in
      record { right = (all.0, all.1, right_arena g key hit start before arena word v c.same, rest.right); after = rest.after }
  ask_walk order words until arena before v w ss r c all (got _ word offset grant lt found is) =
      let next = kept_arena files g id start v all.0 arena word all.1 c in
      let b = block_at (64 * arena + offset) order in
      let has = block_granted files g id start all.0 all.2.0 b word all.2.1 next in
      let P : View × Block → Type 0 = λ z. HasBlock start z.0 z.1 in
      let e = sym all.2.2 in
      let f = sym is in
      let only : AreElse (step.Granted b word ∷ []) = (granted_else b word, tt) in
      record {
        right = (all.0, all.1, right_arena g key hit start before arena word v c.same, right_all (before ++ step.Looked (Arena arena) word ∷ []) (step.Granted b word ∷ []) all.0 w only all.2);
        after = subst P (λ i. (e i, f i)) has;
      }
  ask_walk order words until arena before v w ss r c all (raced _ word saw lt other) =
      let next = kept_arena files g id start v all.0 arena word all.1 c in
      let P : View → Type 0 = λ x. IsAsBefore start x in
      let only : AreElse (step.Missed (Arena arena) saw ∷ []) = (missed_else (Arena arena) saw, tt) in
      record {
        right = (all.0, all.1, right_arena g key hit start before arena word v c.same, right_all (before ++ step.Looked (Arena arena) word ∷ []) (step.Missed (Arena arena) saw ∷ []) all.0 w only all.2);
        after = subst P (sym all.2.2) (same_missed files g id start all.0 all.2.0 arena saw all.2.1 next.same);
      }

  pub record PlaceWalk (before : List WordStep) (v : View) (ss : List WordStep) (w : View) (r : Placed) : Type 0 where
    pub right : AreRight files g id key hit start before v ss w
    pub leaves : Leaves start w r

  parts : (ss ts : List WordStep) (v w : View) → AreMade files g id (ss ++ ts) v w → (u : View) × AreMade files g id ss v u × AreMade files g id ts u w
  parts [] ts v w all = (v, refl, all)
  parts (s ∷ ss) ts v w all = let rest = parts ss ts all.0 w all.2 in (rest.0, (all.0, all.1, rest.1), rest.2)

  open_walk : (header : ℕ) (b : Block) (before : List WordStep) (v w : View) (ss : List WordStep) (r : Placed) → header < length start.marks → HasBlock start v b → AreMade files g id ss v w → OpenSteps key header b ss r → PlaceWalk before v ss w r
  open_walk header b before v w ss r inside c all (lost saw found far) =
      let P : View → Type 0 = λ x. IsAsBefore start x in
      let only : AreElse (step.Missed (State header) saw ∷ step.Returned b found ∷ []) = (missed_else (State header) saw, (returned_else b found, tt)) in
      let still = block_lost files g id start v all.0 b header saw all.1 c in
      record {
        right = right_all before (step.Missed (State header) saw ∷ step.Returned b found ∷ []) v w only all;
        leaves = subst P (sym all.2.2) (same_returned files g id start all.0 all.2.0 b found all.2.1 still);
      }
  open_walk header b before v w ss r inside c all (filled cells bytes found named published pin is its) =
      let k = buffer_key key in
      let fills = fill_steps header b k (cell_in bytes) 0 found in
      let p = parts fills (step.Published header b k published ∷ []) all.2.0 w all.2.2 in
      let one = new_opened files g id start v all.0 header inside b cells all.1 c in
      let two = new_named files g id start all.0 all.2.0 header inside b k named all.2.1 one in
      let three = new_fills files g id start header inside b k (cell_in bytes) 0 found all.2.0 p.0 p.1 two in
      let four = new_published files g id start p.0 p.2.0 header inside b k published p.2.1 three in
      let last : AreElse (step.Published header b k published ∷ []) = (published_else header b k published, tt) in
      let tail = fills ++ step.Published header b k published ∷ [] in
      let only : AreElse (step.Opened header b cells ∷ step.Named header b k named ∷ tail) =
      (opened_else header b cells, (named_else header b k named, else-append fills (step.Published header b k published ∷ []) (fills_else header b k (cell_in bytes) 0 found) last)) in
      let P : View × ℕ → Type 0 = λ z. HasHoldMore start z.0 z.1 in
      let e = sym p.2.2 in
      let f = sym is in
      record {
        right = right_all before (step.Opened header b cells ∷ step.Named header b k named ∷ tail) v w only all;
        leaves = subst P (λ i. (e i, f i)) four;
      }

  pub place_walk : (order first : ℕ) (states : List ℕ) (from until : ℕ) (before : List WordStep) (v w : View) (ss : List WordStep) (r : Placed) → first + 8 ≤ length start.marks → IsKept start v → AreMade files g id ss v w → PlaceSteps g key order first states from until ss r → PlaceWalk before v ss w r
  place_walk order first states from until before v w ss r inside c all (set_full none) = let P : View → Type 0 = λ x. IsAsBefore start x in record { right = all; leaves = subst P (sym all) c.same }
  place_walk order first states from until before v w ss r inside c all (no_room way words _ is a past) =
      let one = ask_walk order words until from before v w ss asked.Full c all a in record { right = one.right; leaves = one.after }
  place_walk order first states from until before v w ss r inside c all (arena_raced way saw words _ is a) =
      let one = ask_walk order words until from before v w ss (asked.Raced saw) c all a in record { right = one.right; leaves = one.after }
  place_walk order first states from until before v w ss r inside c all (opens way words grant xs ts _ is a o) =
      let p = parts xs ts v w all in
      let one = ask_walk order words until from before v p.0 xs (asked.Got grant) c p.1 a in
      let there = is.inside in
      let two = open_walk (first + way) (block_of grant) (before ++ xs) p.0 w ts r (omega (arith, inside, there)) one.after p.2 o in
      record { right = right_then files g id key hit start before xs ts v p.0 w one.right two.right; leaves = two.leaves }
