-- For those who make several calls in a row: what follows by name from the step that a call made, as lemmas that a proof of
-- theirs can use. `m` says in each which step was made, from the view v to the view w.
use Rattle.std.specs.Prelude.{◌≡◌, ◌≢◌, ◌==◌, ℕ, ◌-◌, ◌%◌, ◌<◌, replicate, if◌then◌else◌, Bool, true}
use Rattle.std.specs.Prelude.{false, List, [], ◌∷◌, ◌++◌, map, length, Option, None, Some, IfSome, IsSomeAnd}
use Rattle.std.specs.Prelude.{Err, option_map, slice_index, slice_index_or, slice_set}
use Rattle.std.proofs.Common.{refl, sym, ◌∙◌, ap, subst, inl, inr, arith}
use Rattle.std.proofs.lemmas.Bool.{cases_eq, cases_lt}
use Rattle.std.proofs.lemmas.Option.{none-some}
use Rattle.std.proofs.lemmas.List.{length-set, length-drop, length-replicate, get_or-set_same, get_or-set_other}
use Rattle.std.proofs.lemmas.List.{get_or_past, get_or-replicate, set_past, take-append-drop, append_assoc, append-nil}
use Rattle.pool_model.specs.declared.block.Block.{Block}
use Rattle.pool_model.specs.declared.step.Step.{Step}
use Rattle.pool_model.specs.Content.{Files}
use Rattle.pool_rule.specs.declared.geometry.Geometry.{Geometry}
use Rattle.pool_rule.specs.declared.geometry.WordName.{WordName}
use Rattle.pool_rule.specs.declared.geometry.WordName.TheVariants as name
use Rattle.pool_rule.specs.declared.view.Event.TheVariants.{Joined, Parted}
use Rattle.pool_rule.specs.declared.view.Claim.{Claim}
use Rattle.pool_rule.specs.declared.view.Claim.TheVariants.{Unclaimed}
use Rattle.pool_rule.specs.declared.view.Hold.{Hold}
use Rattle.pool_rule.specs.declared.view.Hold.TheVariants.{Free, Bid, Pinned}
use Rattle.pool_rule.specs.declared.view.Mark.{Mark}
use Rattle.pool_rule.specs.declared.view.View.{View}
use Rattle.pool_rule.specs.declared.word_step.WordStep.{WordStep}
use Rattle.pool_rule.specs.declared.word_step.WordStep.TheVariants.{Looked, LookedAtCell, Missed, Granted, Returned}
use Rattle.pool_rule.specs.declared.word_step.WordStep.TheVariants.{Opened, Named, Filled, Published, Counted}
use Rattle.pool_rule.specs.declared.word_step.WordStep.TheVariants.{Uncounted, EvictBegun, HeaderReleased, Updated}
use Rattle.pool_rule.specs.Layout.{headers_of, places_of}
use Rattle.pool_rule.specs.Seats.{HasNothing, clear_mark, granted_at, joined, key_of, mark_at, mark_with_key}
use Rattle.pool_rule.specs.Seats.{noted, part_of, parted, with_granted, with_key, with_mark, with_step}
use Rattle.pool_rule.specs.WordSteps.{IsMade, dropping, effect, event_of, found_by, learnt, left_by, word_at}
use Rattle.buffer_pool.specs.declared.fault.Held.{Held}
use Rattle.buffer_pool.specs.declared.pool.Pool.{Pool}
use Rattle.buffer_pool.specs.declared.seat.PoolSeat.{PoolSeat}
use Rattle.buffer_pool.specs.declared.token.Evicting.{Evicting}
use Rattle.buffer_pool.specs.declared.token.Grant.{Grant}
use Rattle.buffer_pool.specs.declared.token.NewBuffer.{NewBuffer}
use Rattle.buffer_pool.specs.declared.token.Pin.{Pin}
use Rattle.buffer_pool.specs.Made.{AreMade, Evicts, header_of, header_of_word, place_of}
use Rattle.buffer_pool.specs.Pools.{IsEvictingOf, IsGrantOf, IsNewOf, IsPinOf, block_of, evicting_header, new_header, pin_header, view}

-- ---- what a step leaves of a view, beside what it has to do with

-- the same trail, known words and numbers
record IsBeside (v w : View) : Type 0 where
  pub trail : w.trail ≡ v.trail
  pub known : w.known ≡ v.known
  pub numbers : w.numbers ≡ v.numbers

beside_same : (v : View) → IsBeside v v
beside_same v = record { trail = refl; known = refl; numbers = refl }

beside_mark : (header : ℕ) (m : Mark) (v : View) → IsBeside v (with_mark header m v)
unfolding with_mark
beside_mark header m v = record { trail = refl; known = refl; numbers = refl }

beside_step : (s : Step) (v w : View) → IsBeside v w → IsBeside v (with_step s w)
unfolding with_step
beside_step s v w h = record { trail = h.trail; known = h.known; numbers = h.numbers }

beside_granted : (place : ℕ) (o : Option ℕ) (v w : View) → IsBeside v w → IsBeside v (with_granted place o w)
unfolding with_granted
beside_granted place o v w h = record { trail = h.trail; known = h.known; numbers = h.numbers }

beside_either : (t : Bool) (v a b : View) → IsBeside v a → IsBeside v b → IsBeside v (if t then a else b)
beside_either true v a b p q = p
beside_either false v a b p q = q

beside_learnt : (word : WordName) (found : ℕ) (v : View) → IsBeside v (learnt word found v)
unfolding with_key
beside_learnt (name.Arena i) found v = beside_same v
beside_learnt (name.State header) found v = beside_same v
beside_learnt (name.KeyOf header) found v = record { trail = refl; known = refl; numbers = refl }
beside_learnt (name.Touches header) found v = beside_same v
beside_learnt (name.Last header) found v = beside_same v
beside_learnt name.Clock found v = beside_same v

beside_dropping : (x : Hold) (id header : ℕ) (v : View) → IsBeside v (dropping x id header v)
beside_dropping Free id header v = beside_same v
beside_dropping Bid id header v = beside_mark header _ v
beside_dropping (Pinned b k) id header v = beside_step _ v _ (beside_mark header _ v)

beside_effect : (id : ℕ) (s : WordStep) (v : View) → IsBeside v (effect id s v)
beside_effect id (Looked word found) v = beside_learnt word found v
beside_effect id (LookedAtCell cell found) v = beside_same v
beside_effect id (Missed word found) v = beside_same v
beside_effect id (Granted b found) v = beside_step _ v _ (beside_granted b.place _ v v (beside_same v))
beside_effect id (Returned b found) v = beside_step _ v _ (beside_granted b.place _ v v (beside_same v))
beside_effect id (Opened header b cells) v = beside_step _ v _ (beside_granted b.place _ v _ (beside_mark header _ v))
beside_effect id (Named header b key found) v = beside_step _ v _ (beside_mark header _ v)
beside_effect id (Filled header b key done value found) v = beside_step _ v _ (beside_mark header _ v)
beside_effect id (Published header b key found) v = beside_step _ v _ (beside_mark header _ v)
beside_effect id (Counted header found) v = beside_either (found % 16 == 0) v _ _ (beside_step _ v _
    (beside_mark header _ v)) (beside_mark header _ v)
beside_effect id (Uncounted header found) v = beside_dropping (mark_at v header).hold id header v
beside_effect id (EvictBegun header found) v = beside_step _ v _ (beside_mark header _ v)
beside_effect id (HeaderReleased header b found) v = beside_step _ v _ (beside_granted b.place _ v _ (beside_mark header _ v))
beside_effect id (Updated word found left) v = beside_same v

-- what the seat has of another header
other_mark : (header : ℕ) (m : Mark) (v : View) (other : ℕ) → Some header ≢ Some other
    → mark_at (with_mark header m v) other ≡ mark_at v other
unfolding with_mark
other_mark header m v other apart = get_or-set_other v.marks header other m clear_mark (λ e. apart (ap Some (sym e)))

mark_of_step : (s : Step) (w : View) (other : ℕ) → mark_at (with_step s w) other ≡ mark_at w other
unfolding with_step
mark_of_step s w other = refl

mark_of_granted : (place : ℕ) (o : Option ℕ) (w : View) (other : ℕ) → mark_at (with_granted place o w) other ≡ mark_at w other
unfolding with_granted
mark_of_granted place o w other = refl

mark_of_either : (t : Bool) (a b : View) (m : Mark) (other : ℕ) → mark_at a other ≡ m → mark_at b other ≡ m
    → mark_at (if t then a else b) other ≡ m
mark_of_either true a b m other p q = p
mark_of_either false a b m other p q = q

learnt_mark : (word : WordName) (found : ℕ) (v : View) (other : ℕ) → header_of_word word ≢ Some other
    → mark_at (learnt word found v) other ≡ mark_at v other
unfolding with_key
learnt_mark (name.Arena i) found v other apart = refl
learnt_mark (name.State header) found v other apart = refl
learnt_mark (name.KeyOf header) found v other apart = get_or-set_other v.marks header other _ clear_mark (λ e. apart (ap Some (sym e)))
learnt_mark (name.Touches header) found v other apart = refl
learnt_mark (name.Last header) found v other apart = refl
learnt_mark name.Clock found v other apart = refl

dropping_mark : (x : Hold) (id header : ℕ) (v : View) (other : ℕ) → Some header ≢ Some other
    → mark_at (dropping x id header v) other ≡ mark_at v other
dropping_mark Free id header v other apart = refl
dropping_mark Bid id header v other apart = other_mark header _ v other apart
dropping_mark (Pinned b k) id header v other apart = mark_of_step _ _ other ∙ other_mark header _ v other apart

effect_mark : (id : ℕ) (s : WordStep) (v : View) (other : ℕ) → header_of s ≢ Some other → mark_at (effect id s v) other ≡ mark_at v other
effect_mark id (Looked word found) v other apart = learnt_mark word found v other apart
effect_mark id (LookedAtCell cell found) v other apart = refl
effect_mark id (Missed word found) v other apart = refl
effect_mark id (Granted b found) v other apart = mark_of_step _ _ other ∙ mark_of_granted b.place _ v other
effect_mark id (Returned b found) v other apart = mark_of_step _ _ other ∙ mark_of_granted b.place _ v other
effect_mark id (Opened header b cells) v other apart =
    mark_of_step _ _ other ∙ (mark_of_granted b.place _ _ other ∙ other_mark header _ v other apart)
effect_mark id (Named header b key found) v other apart = mark_of_step _ _ other ∙ other_mark header _ v other apart
effect_mark id (Filled header b key done value found) v other apart = mark_of_step _ _ other ∙ other_mark header _ v other apart
effect_mark id (Published header b key found) v other apart = mark_of_step _ _ other ∙ other_mark header _ v other apart
effect_mark id (Counted header found) v other apart =
    mark_of_either (found % 16 == 0) _ _ _ other (mark_of_step _ _ other ∙ other_mark header _ v other apart)
    (other_mark header _ v other apart)
effect_mark id (Uncounted header found) v other apart = dropping_mark (mark_at v header).hold id header v other apart
effect_mark id (EvictBegun header found) v other apart = mark_of_step _ _ other ∙ other_mark header _ v other apart
effect_mark id (HeaderReleased header b found) v other apart =
    mark_of_step _ _ other ∙ (mark_of_granted b.place _ _ other ∙ other_mark header _ v other apart)
effect_mark id (Updated word found left) v other apart = refl

-- what is granted to it at another place
granted_of_step : (s : Step) (w : View) (place : ℕ) → granted_at (with_step s w) place ≡ granted_at w place
unfolding with_step
granted_of_step s w place = refl

granted_of_mark : (header : ℕ) (m : Mark) (v : View) (place : ℕ) → granted_at (with_mark header m v) place ≡ granted_at v place
unfolding with_mark
granted_of_mark header m v place = refl

other_granted : (place : ℕ) (o : Option ℕ) (w : View) (other : ℕ) → Some place ≢ Some other
    → granted_at (with_granted place o w) other ≡ granted_at w other
unfolding with_granted
other_granted place o w other apart = get_or-set_other w.granted place other o None (λ e. apart (ap Some (sym e)))

granted_of_either : (t : Bool) (a b : View) (o : Option ℕ) (place : ℕ) → granted_at a place ≡ o
    → granted_at b place ≡ o → granted_at (if t then a else b) place ≡ o
granted_of_either true a b o place p q = p
granted_of_either false a b o place p q = q

learnt_granted : (word : WordName) (found : ℕ) (v : View) (place : ℕ) → granted_at (learnt word found v) place ≡ granted_at v place
unfolding with_key
learnt_granted (name.Arena i) found v place = refl
learnt_granted (name.State header) found v place = refl
learnt_granted (name.KeyOf header) found v place = refl
learnt_granted (name.Touches header) found v place = refl
learnt_granted (name.Last header) found v place = refl
learnt_granted name.Clock found v place = refl

dropping_granted : (x : Hold) (id header : ℕ) (v : View) (place : ℕ) → granted_at (dropping x id header v) place ≡ granted_at v place
dropping_granted Free id header v place = refl
dropping_granted Bid id header v place = granted_of_mark header _ v place
dropping_granted (Pinned b k) id header v place = granted_of_step _ _ place ∙ granted_of_mark header _ v place

effect_granted : (id : ℕ) (s : WordStep) (v : View) (place : ℕ) → place_of s ≢ Some place
    → granted_at (effect id s v) place ≡ granted_at v place
effect_granted id (Looked word found) v place apart = learnt_granted word found v place
effect_granted id (LookedAtCell cell found) v place apart = refl
effect_granted id (Missed word found) v place apart = refl
effect_granted id (Granted b found) v place apart = granted_of_step _ _ place ∙ other_granted b.place _ v place apart
effect_granted id (Returned b found) v place apart = granted_of_step _ _ place ∙ other_granted b.place _ v place apart
effect_granted id (Opened header b cells) v place apart =
    granted_of_step _ _ place ∙ (other_granted b.place _ _ place apart ∙ granted_of_mark header _ v place)
effect_granted id (Named header b key found) v place apart = granted_of_step _ _ place ∙ granted_of_mark header _ v place
effect_granted id (Filled header b key done value found) v place apart = granted_of_step _ _ place ∙ granted_of_mark header _ v place
effect_granted id (Published header b key found) v place apart = granted_of_step _ _ place ∙ granted_of_mark header _ v place
effect_granted id (Counted header found) v place apart =
    granted_of_either (found % 16 == 0) _ _ _ place (granted_of_step _ _ place ∙ granted_of_mark header _ v place)
    (granted_of_mark header _ v place)
effect_granted id (Uncounted header found) v place apart = dropping_granted (mark_at v header).hold id header v place
effect_granted id (EvictBegun header found) v place apart = granted_of_step _ _ place ∙ granted_of_mark header _ v place
effect_granted id (HeaderReleased header b found) v place apart =
    granted_of_step _ _ place ∙ (other_granted b.place _ _ place apart ∙ granted_of_mark header _ v place)
effect_granted id (Updated word found left) v place apart = refl

-- ---- one step

module _ (files : Option Files) (g : Geometry) (id : ℕ) (s : WordStep) (v w : View) (m : IsMade files g id s v w) where
  -- the trail grew by the step's event
  pub made_trail : w.trail ≡ v.trail ++ event_of g s ∷ []
  unfolding noted
  made_trail = ap (λ (u : View). u.trail) m.view ∙ ap (λ l. l ++ event_of g s ∷ []) (beside_effect id s v).trail

  -- known words are known as the step left them
  pub made_known : w.known ≡ option_map (λ ws. slice_set ws (word_at g s) (left_by s)) v.known
  unfolding noted
  made_known =
      ap (λ (u : View). u.known) m.view
      ∙ ap (option_map (λ ws. slice_set ws (word_at g s) (left_by s))) (beside_effect id s v).known

  pub made_numbers : w.numbers ≡ v.numbers
  unfolding noted
  made_numbers = ap (λ (u : View). u.numbers) m.view ∙ (beside_effect id s v).numbers

  -- of each header that the step has nothing to do with the seat has what it had
  pub made_mark : (header : ℕ) → header_of s ≢ Some header → mark_at w header ≡ mark_at v header
  unfolding noted
  made_mark header apart = ap (λ u. mark_at u header) m.view ∙ effect_mark id s v header apart

  -- and at each place
  pub made_granted : (place : ℕ) → place_of s ≢ Some place → granted_at w place ≡ granted_at v place
  unfolding noted
  made_granted place apart = ap (λ u. granted_at u place) m.view ∙ effect_granted id s v place apart

-- ---- several steps

pub all_trail : (files : Option Files) (g : Geometry) (id : ℕ) (ss : List WordStep) (v w : View)
    → AreMade files g id ss v w → w.trail ≡ v.trail ++ map (event_of g) ss
all_trail files g id [] v w e = ap (λ (u : View). u.trail) e ∙ sym (append-nil v.trail)
all_trail files g id (s ∷ ss) v w all =
    all_trail files g id ss all.0 w all.2
    ∙ (ap (λ l. l ++ map (event_of g) ss) (made_trail files g id s v all.0 all.1)
    ∙ append_assoc v.trail (event_of g s ∷ []) (map (event_of g) ss))

-- steps and then steps
pub all_then : (files : Option Files) (g : Geometry) (id : ℕ) (ss ts : List WordStep) (v u w : View)
    → AreMade files g id ss v u → AreMade files g id ts u w → AreMade files g id (ss ++ ts) v w
all_then files g id [] ts v u w e all = let P : View → Type 0 = λ x. AreMade files g id ts x w in subst P e all
all_then files g id (s ∷ ss) ts v u w all more = (all.0, all.1, all_then files g id ss ts all.0 u w all.2 more)

-- one step is a list of steps
pub one_made : (files : Option Files) (g : Geometry) (id : ℕ) (s : WordStep) (v w : View) → IsMade files g id s v w
    → AreMade files g id (s ∷ []) v w
one_made files g id s v w m = (w, m, refl)

pub all_numbers : (files : Option Files) (g : Geometry) (id : ℕ) (ss : List WordStep) (v w : View)
    → AreMade files g id ss v w → w.numbers ≡ v.numbers
all_numbers files g id [] v w e = ap (λ (u : View). u.numbers) e
all_numbers files g id (s ∷ ss) v w all = all_numbers files g id ss all.0 w all.2 ∙ made_numbers files g id s v all.0 all.1

-- none of the steps has to do with the header, or with the place
abbrev pub AreApartFrom : ℕ → List WordStep → Type 0
AreApartFrom header [] = Unit {0}
AreApartFrom header (s ∷ ss) = (header_of s ≢ Some header) × AreApartFrom header ss

abbrev pub AreAwayFrom : ℕ → List WordStep → Type 0
AreAwayFrom place [] = Unit {0}
AreAwayFrom place (s ∷ ss) = (place_of s ≢ Some place) × AreAwayFrom place ss

pub all_mark : (files : Option Files) (g : Geometry) (id : ℕ) (ss : List WordStep) (v w : View)
    → AreMade files g id ss v w → (header : ℕ) → AreApartFrom header ss → mark_at w header ≡ mark_at v header
all_mark files g id [] v w e header apart = ap (λ u. mark_at u header) e
all_mark files g id (s ∷ ss) v w all header apart =
    all_mark files g id ss all.0 w all.2 header apart.1 ∙ made_mark files g id s v all.0 all.1 header apart.0

pub all_granted : (files : Option Files) (g : Geometry) (id : ℕ) (ss : List WordStep) (v w : View)
    → AreMade files g id ss v w → (place : ℕ) → AreAwayFrom place ss → granted_at w place ≡ granted_at v place
all_granted files g id [] v w e place away = ap (λ u. granted_at u place) e
all_granted files g id (s ∷ ss) v w all place away =
    all_granted files g id ss all.0 w all.2 place away.1 ∙ made_granted files g id s v all.0 all.1 place away.0

-- ---- known words

-- these are the words, and that one of them has that value
abbrev pub HasWord : ℕ → ℕ → Option (List ℕ) → Type 0
HasWord word value known = IsSomeAnd known (λ ws. (word < length ws) × (slice_index ws word ≡ value))

-- the seat knows the words, and that one of them has that value
pub record KnowsWord (word value : ℕ) (v : View) : Type 0 where
  pub is : HasWord word value v.known

found_in : (word found value : ℕ) (k : Option (List ℕ)) → IfSome k (λ ws. slice_index ws word ≡ found)
    → HasWord word value k → found ≡ value
found_in word found value None told has = absurd has
found_in word found value (Some ws) told has = sym told ∙ has.1

left_in : (word left value : ℕ) (k : Option (List ℕ)) → HasWord word value k
    → HasWord word left (option_map (λ ws. slice_set ws word left) k)
left_in word left value None has = absurd has
left_in word left value (Some ws) has =
    let P : ℕ → Type 0 = λ n. word < n in
    (subst P (sym (length-set ws word left)) has.0, get_or-set_same ws word left 0 has.0)

other_in : (word left other value : ℕ) → other ≢ word → (k : Option (List ℕ)) → HasWord other value k
    → HasWord other value (option_map (λ ws. slice_set ws word left) k)
other_in word left other value apart None has = absurd has
other_in word left other value apart (Some ws) has =
    let P : ℕ → Type 0 = λ n. other < n in
    (subst P (sym (length-set ws word left)) has.0, get_or-set_other ws word other left 0 apart ∙ has.1)

module _ (files : Option Files) (g : Geometry) (id : ℕ) (s : WordStep) (v w : View) (m : IsMade files g id s v w) where
  -- a step finds what the seat knows
  pub finds_known : (word value : ℕ) → word_at g s ≡ word → KnowsWord word value v → found_by s ≡ value
  finds_known word value here k =
      let P : ℕ → Type 0 = λ i. IfSome v.known (λ ws. slice_index ws i ≡ found_by s) in
      found_in word (found_by s) value v.known (subst P here m.told) k.is

  -- after a step the seat knows what it left
  pub knows_left : (word value : ℕ) → word_at g s ≡ word → KnowsWord word value v → KnowsWord word (left_by s) w
  knows_left word value here k =
      let P : Option (List ℕ) → Type 0 = λ o. HasWord word (left_by s) o in
      let Q : ℕ → Type 0 = λ i. HasWord word (left_by s) (option_map (λ ws. slice_set ws i (left_by s)) v.known) in
      record { is = subst P (sym (made_known files g id s v w m)) (subst Q (sym here) (left_in word (left_by s) value v.known k.is)) }

  -- and every other word as before
  pub knows_other : (other value : ℕ) → other ≢ word_at g s → KnowsWord other value v → KnowsWord other value w
  knows_other other value apart k =
      let P : Option (List ℕ) → Type 0 = λ o. HasWord other value o in
      record { is = subst P (sym (made_known files g id s v w m)) (other_in (word_at g s) (left_by s) other value apart v.known k.is) }

-- ---- nothing

replicated : {A : Type 0} (n k : ℕ) (a : A) → slice_index_or (replicate n a) k a ≡ a
replicated {A = A} n k a =
    elim (cases_lt k n) [
      | inl within ↦ get_or-replicate n k a a within
      | inr past ↦ get_or_past (replicate n a) k a (omega (arith, length-replicate {A = A} n a, past))
    ]

clear_with_key : (m : Mark) (found : ℕ) → m ≡ clear_mark → mark_with_key (key_of found) m ≡ clear_mark
clear_with_key m found e = ap (mark_with_key (key_of found)) e

key_clear : (header found : ℕ) (v : View) (other : ℕ) → mark_at v header ≡ clear_mark → mark_at v other ≡ clear_mark
    → mark_at (with_key header found v) other ≡ clear_mark
unfolding with_key
key_clear header found v other clear clear_other =
    elim (cases_eq other header) [
      | inl same ↦
          elim (cases_lt header (length v.marks)) [
            | inl within ↦
                ap (λ k. slice_index_or (slice_set v.marks header (mark_with_key (key_of found) (mark_at v header))) k clear_mark) same
                ∙ (get_or-set_same v.marks header (mark_with_key (key_of found) (mark_at v header)) clear_mark within
                ∙ clear_with_key (mark_at v header) found clear)
            | inr past ↦
                let with = mark_with_key (key_of found) (mark_at v header) in
                ap (λ l. slice_index_or l other clear_mark) (set_past v.marks header with past) ∙ clear_other
          ]
      | inr apart ↦ get_or-set_other v.marks header other (mark_with_key (key_of found) (mark_at v header)) clear_mark apart ∙ clear_other
    ]

learnt_clear : (word : WordName) (found : ℕ) (v : View) → HasNothing v → (other : ℕ) → mark_at (learnt word found v) other ≡ clear_mark
learnt_clear (name.Arena i) found v h other = h.marks other
learnt_clear (name.State header) found v h other = h.marks other
learnt_clear (name.KeyOf header) found v h other = key_clear header found v other (h.marks header) (h.marks other)
learnt_clear (name.Touches header) found v h other = h.marks other
learnt_clear (name.Last header) found v h other = h.marks other
learnt_clear name.Clock found v h other = h.marks other

-- nothing stays nothing over a look
pub looked_nothing : (files : Option Files) (g : Geometry) (id : ℕ) (word : WordName) (found : ℕ) (v w : View)
    → IsMade files g id (Looked word found) v w → HasNothing v → HasNothing w
unfolding noted
looked_nothing files g id word found v w m h =
    record {
      marks = λ other. ap (λ u. mark_at u other) m.view ∙ learnt_clear word found v h other;
      granted = λ place. made_granted files g id (Looked word found) v w m place (none-some place) ∙ h.granted place;
    }

-- over a grant that was lost
pub missed_nothing : (files : Option Files) (g : Geometry) (id : ℕ) (word : WordName) (found : ℕ) (v w : View)
    → IsMade files g id (Missed word found) v w → HasNothing v → HasNothing w
missed_nothing files g id word found v w m h =
    record {
      marks = λ other. made_mark files g id (Missed word found) v w m other (none-some other) ∙ h.marks other;
      granted = λ place. made_granted files g id (Missed word found) v w m place (none-some place) ∙ h.granted place;
    }

gone_at : (place : ℕ) (v : View) → granted_at (with_granted place None v) place ≡ None
unfolding with_granted
gone_at place v =
    elim (cases_lt place (length v.granted)) [
      | inl within ↦ get_or-set_same v.granted place None None within
      | inr past ↦ ap (λ l. slice_index_or l place None) (set_past v.granted place None past) ∙ get_or_past v.granted place None past
    ]

-- a returned block isn't granted any more
pub returned_gone : (files : Option Files) (g : Geometry) (id : ℕ) (b : Block) (found : ℕ) (v w : View)
    → IsMade files g id (Returned b found) v w → granted_at w b.place ≡ None
unfolding noted
returned_gone files g id b found v w m = ap (λ u. granted_at u b.place) m.view ∙ (granted_of_step _ _ b.place ∙ gone_at b.place v)

-- over a grant and its return
pub returned_nothing : (files : Option Files) (g : Geometry) (id id' : ℕ) (b : Block) (seen found : ℕ) (v u w : View)
    → IsMade files g id (Granted b seen) v u → IsMade files g id' (Returned b found) u w → HasNothing v → HasNothing w
returned_nothing files g id id' b seen found v u w m r h =
    record {
      marks = λ other. made_mark files g id' (Returned b found) u w r other (none-some other)
          ∙ (made_mark files g id (Granted b seen) v u m other (none-some other) ∙ h.marks other);
      granted = λ place.
          elim (cases_eq place b.place) [
            | inl same ↦ ap (granted_at w) same ∙ returned_gone files g id' b found u w r
            | inr apart ↦
                let away : Some b.place ≢ Some place = λ e. apart (let f : place ≡ b.place = cc in f) in
                made_granted files g id' (Returned b found) u w r place away
                ∙ (made_granted files g id (Granted b seen) v u m place away ∙ h.granted place)
          ];
    }

-- ---- buffers on their way out

-- a refused eviction leaves what the seat has
refused_steps : (files : Option Files) (g : Geometry) (id header : ℕ) (v w : View) (held : Held) → Evicts files g id header v w (Err held) →
    ((other : ℕ) → mark_at w other ≡ mark_at v other) × ((place : ℕ) → granted_at w place ≡ granted_at v place)
refused_steps files g id header v w held refused =
    elim refused [
      | inl shown ↦
          let ss = Looked (name.State header) held.word ∷ [] in (
            λ other. all_mark files g id ss v w shown.1 other (none-some other, tt),
            λ place. all_granted files g id ss v w shown.1 place (none-some place, tt),
          )
      | inr lost ↦
          let ss = Looked (name.State header) lost.0 ∷ Missed (name.State header) held.word ∷ [] in (
            λ other. all_mark files g id ss v w lost.3 other (none-some other, (none-some other, tt)),
            λ place. all_granted files g id ss v w lost.3 place (none-some place, (none-some place, tt)),
          )
    ]

pub refused_mark : (files : Option Files) (g : Geometry) (id header : ℕ) (v w : View) (held : Held)
    → Evicts files g id header v w (Err held) →
    (other : ℕ) → mark_at w other ≡ mark_at v other
refused_mark files g id header v w held refused = (refused_steps files g id header v w held refused).0

pub refused_granted : (files : Option Files) (g : Geometry) (id header : ℕ) (v w : View) (held : Held)
    → Evicts files g id header v w (Err held) →
    (place : ℕ) → granted_at w place ≡ granted_at v place
refused_granted files g id header v w held refused = (refused_steps files g id header v w held refused).1

-- what becomes of a header's hold and claim, where they are set
hold_set : (header : ℕ) (c : Claim) (v : View)
    → (mark_at (with_mark header (record { hold = (mark_at v header).hold; claim = c }) v) header).hold
    ≡ (mark_at v header).hold
unfolding with_mark
hold_set header c v =
    let m : Mark = record { hold = (mark_at v header).hold; claim = c } in
    elim (cases_lt header (length v.marks)) [
      | inl within ↦ ap (λ (x : Mark). x.hold) (get_or-set_same v.marks header m clear_mark within)
      | inr past ↦ ap (λ l. (slice_index_or l header clear_mark).hold) (set_past v.marks header m past)
    ]

claim_unset : (header : ℕ) (h : Hold) (v : View)
    → (mark_at (with_mark header (record { hold = h; claim = Unclaimed }) v) header).claim ≡ Unclaimed
unfolding with_mark
claim_unset header h v =
    let m : Mark = record { hold = h; claim = Unclaimed } in
    elim (cases_lt header (length v.marks)) [
      | inl within ↦ ap (λ (x : Mark). x.claim) (get_or-set_same v.marks header m clear_mark within)
      | inr past ↦ ap (λ l. (slice_index_or l header clear_mark).claim) (set_past v.marks header m past)
          ∙ ap (λ (x : Mark). x.claim) (get_or_past v.marks header clear_mark past)
    ]

-- the seat that evicts a buffer had nothing of its header
pub begun_clear : (files : Option Files) (g : Geometry) (id header found : ℕ) (v w : View)
    → IsMade files g id (EvictBegun header found) v w → mark_at v header ≡ clear_mark
begun_clear files g id header found v w m = m.tells.1

-- and once the header is released it has nothing of it again
pub released_clear : (files : Option Files) (g : Geometry) (id id' header found left : ℕ) (b : Block) (v u w : View) →
    IsMade files g id (EvictBegun header found) v u → IsMade files g id' (HeaderReleased header b left) u w → mark_at w header ≡ clear_mark
unfolding noted
released_clear files g id id' header found left b v u w m r =
    let begun : (mark_at u header).hold ≡ Free =
    ap (λ x. (mark_at x header).hold) m.view ∙ (ap (λ (x : Mark). x.hold) (mark_of_step _ _ header) ∙
    (hold_set header _ v ∙ ap (λ (x : Mark). x.hold) m.tells.1)) in
    let hold : (mark_at w header).hold ≡ Free =
    ap (λ x. (mark_at x header).hold) r.view ∙ (ap (λ (x : Mark). x.hold)
    (mark_of_step _ _ header ∙ mark_of_granted b.place _ _ header) ∙ (hold_set header _ u ∙ begun)) in
    let claim : (mark_at w header).claim ≡ Unclaimed =
    ap (λ x. (mark_at x header).claim) r.view ∙ (ap (λ (x : Mark). x.claim)
    (mark_of_step _ _ header ∙ mark_of_granted b.place _ _ header) ∙ claim_unset header _ u) in
    λ k. record { hold = hold k; claim = claim k }

-- a buffer that goes out, with its block given back, leaves what the seat had
pub out_mark : (files : Option Files) (g : Geometry) (id id' id'' header found left given : ℕ) (b : Block) (v u w x : View) →
    IsMade files g id (EvictBegun header found) v u → IsMade files g id' (HeaderReleased header b left) u w
    → IsMade files g id'' (Returned b given) w x →
    (other : ℕ) → mark_at x other ≡ mark_at v other
out_mark files g id id' id'' header found left given b v u w x m r q other =
    let last = made_mark files g id'' (Returned b given) w x q other (none-some other) in
    elim (cases_eq other header) [
      | inl same ↦
          let here : mark_at w other ≡ mark_at v other =
          ap (mark_at w) same ∙ (released_clear files g id id' header found left b v u w m r ∙
          (sym m.tells.1 ∙ ap (mark_at v) (sym same))) in
          last ∙ here
      | inr apart ↦
          let away : Some header ≢ Some other = λ e. apart (let f : other ≡ header = cc in f) in
          last ∙ (made_mark files g id' (HeaderReleased header b left) u w r other away
          ∙ made_mark files g id (EvictBegun header found) v u m other away)
    ]

pub out_granted : (files : Option Files) (g : Geometry) (id id' id'' header found left given : ℕ) (b : Block) (v u w x : View) →
    IsMade files g id (EvictBegun header found) v u → IsMade files g id' (HeaderReleased header b left) u w
    → IsMade files g id'' (Returned b given) w x →
    (place : ℕ) → granted_at x place ≡ granted_at v place
out_granted files g id id' id'' header found left given b v u w x m r q place =
    let first = made_granted files g id (EvictBegun header found) v u m place (none-some place) in
    elim (cases_eq place b.place) [
      | inl same ↦
          let none : granted_at u place ≡ None = ap (granted_at u) same ∙ r.tells in
          ap (granted_at x) same ∙ (returned_gone files g id'' b given w x q ∙ (sym none ∙ first))
      | inr apart ↦
          let away : Some b.place ≢ Some place = λ e. apart (let f : place ≡ b.place = cc in f) in
          made_granted files g id'' (Returned b given) w x q place away
          ∙ (made_granted files g id' (HeaderReleased header b left) u w r place away ∙ first)
    ]

-- ---- seats parted and joined

module _ (count : ℕ) (v : View) where
  -- a part has nothing but its numbers
  pub part_nothing : HasNothing (part_of count v)
  unfolding part_of
  part_nothing =
      record {
        marks = λ header. replicated (headers_of v.geometry) header clear_mark;
        granted = λ place. replicated (places_of v.geometry) place None;
      }

  pub part_count : count < length v.numbers → length (part_of count v).numbers ≡ count
  unfolding part_of
  part_count h = omega (arith, length-drop (length v.numbers - count) v.numbers, h)

  pub part_knows : ((part_of count v).known ≡ None) × ((part_of count v).trail ≡ []) × ((part_of count v).steps ≡ [])
  unfolding part_of
  part_knows = (refl, refl, refl)

  -- a seat that was parted has what it had but those numbers, and doesn't know the words
  pub parted_numbers : (parted count v).numbers ++ (part_of count v).numbers ≡ v.numbers
  unfolding parted part_of
  parted_numbers = take-append-drop (length v.numbers - count) v.numbers

  pub parted_keeps : ((parted count v).marks ≡ v.marks) × ((parted count v).granted ≡ v.granted) × ((parted count v).steps ≡ v.steps)
  unfolding parted
  parted_keeps = (refl, refl, refl)

  pub parted_knows : ((parted count v).known ≡ None) × ((parted count v).trail ≡ v.trail ++ Parted count ∷ [])
  unfolding parted
  parted_knows = (refl, refl)

  pub parted_nothing : HasNothing v → HasNothing (parted count v)
  unfolding parted
  parted_nothing h = record { marks = h.marks; granted = h.granted }

-- and so has one that was joined by another
module _ (v w : View) where
  pub joined_keeps : ((joined v w).marks ≡ v.marks) × ((joined v w).granted ≡ v.granted)
      × ((joined v w).steps ≡ v.steps) × ((joined v w).numbers ≡ v.numbers ++ w.numbers)
  unfolding joined
  joined_keeps = (refl, refl, refl, refl)

  pub joined_knows : ((joined v w).known ≡ None) × ((joined v w).trail ≡ v.trail ++ Joined ∷ [])
  unfolding joined
  joined_knows = (refl, refl)

  pub joined_nothing : HasNothing v → HasNothing (joined v w)
  unfolding joined
  joined_nothing h = record { marks = h.marks; granted = h.granted }

-- ---- tokens

-- a token is still the seat's after a step that has nothing to do with its place or header
pub grant_stays : {W : Type 0} (pool : Pool W) (old new : PoolSeat W) (grant : Grant) (files : Option Files)
    (g : Geometry) (id : ℕ) (s : WordStep) → IsMade files g id s (view old) (view new) → IsGrantOf pool old grant
    → place_of s ≢ Some (block_of grant).place → IsGrantOf pool new grant
grant_stays pool old new grant files g id s m token apart =
    record { block = token.block; granted = made_granted files g id s (view old) (view new) m (block_of grant).place apart ∙ token.granted }

pub new_stays : {W : Type 0} (pool : Pool W) (old new : PoolSeat W) (token : NewBuffer) (done : ℕ)
    (files : Option Files) (g : Geometry) (id : ℕ) (s : WordStep) → IsMade files g id s (view old) (view new)
    → IsNewOf pool old token done → header_of s ≢ Some (new_header token) → IsNewOf pool new token done
new_stays pool old new token done files g id s m h apart =
    let kept = made_mark files g id s (view old) (view new) m (new_header token) apart in
    record {
      header = h.header;
      block = h.block;
      key = h.key;
      fits = h.fits;
      claim = ap (λ (x : Mark). x.claim) kept ∙ h.claim;
    }

pub pin_stays : {W : Type 0} (pool : Pool W) (old new : PoolSeat W) (pin : Pin) (files : Option Files) (g : Geometry)
    (id : ℕ) (s : WordStep) → IsMade files g id s (view old) (view new) → IsPinOf pool old pin
    → header_of s ≢ Some (pin_header pin) → IsPinOf pool new pin
pin_stays pool old new pin files g id s m h apart =
    let kept = made_mark files g id s (view old) (view new) m (pin_header pin) apart in
    record {
      header = h.header;
      block = h.block;
      key = h.key;
      fits = h.fits;
      pinned = ap (λ (x : Mark). x.hold) kept ∙ h.pinned;
    }

pub evicting_stays : {W : Type 0} (pool : Pool W) (old new : PoolSeat W) (token : Evicting) (files : Option Files)
    (g : Geometry) (id : ℕ) (s : WordStep) → IsMade files g id s (view old) (view new) → IsEvictingOf pool old token
    → header_of s ≢ Some (evicting_header token) → IsEvictingOf pool new token
evicting_stays pool old new token files g id s m h apart =
    let kept = made_mark files g id s (view old) (view new) m (evicting_header token) apart in
    record { header = h.header; block = h.block; claim = ap (λ (x : Mark). x.claim) kept ∙ h.claim }

-- a block that a call found free of the seat's own begins where none of the seat's tokens does
pub apart_from : {W : Type 0} (pool : Pool W) (seat : PoolSeat W) (grant : Grant) (place : ℕ)
    → IsGrantOf pool seat grant → granted_at (view seat) place ≡ None → (block_of grant).place ≢ place
apart_from pool seat grant place token free same =
    none-some (block_of grant).order (sym free ∙ (ap (granted_at (view seat)) (sym same) ∙ token.granted))

pub ruleset callers = (
  one_made,
  all_then,
  made_trail,
  made_numbers,
  made_mark,
  made_granted,
  all_trail,
  all_numbers,
  all_mark,
  all_granted,
  finds_known,
  knows_left,
  knows_other,
  looked_nothing,
  missed_nothing,
  returned_gone,
  returned_nothing,
  part_nothing,
  part_count,
  part_knows,
  parted_numbers,
  parted_keeps,
  parted_knows,
  parted_nothing,
  joined_keeps,
  joined_knows,
  joined_nothing,
  grant_stays,
  new_stays,
  pin_stays,
  evicting_stays,
  refused_mark,
  refused_granted,
  begun_clear,
  released_clear,
  out_mark,
  out_granted,
  apart_from,
)
