-- Walks over headers in the policy's order, from one call to the next.
use Rattle.std.proofs.Common.{◌≡◌, ℕ, ◌+◌, ◌<◌, Bool, true, false, List, [], ◌++◌, length, sym, ap, ◌∙◌, subst}
use Rattle.std.specs.Prelude.{Option, Some, slice_index, slice_index_or, slice_set}
use Rattle.std.proofs.lemmas.List.{append-nil}
use Rattle.lrfu_policy.specs.declared.rank.Rank.{Rank}
use Rattle.lrfu_policy.specs.Laws.{NoneBetween, RanksAreOrdered}
use Rattle.lrfu_policy.specs.Policy.{Ranking}
use Rattle.lrfu_policy.specs.Victim.{Among, IsLeast}
use Rattle.pool_model.specs.Content.{Files}
use Rattle.pool_rule.specs.declared.geometry.Geometry.{Geometry}
use Rattle.pool_rule.specs.declared.view.View.{View}
use Rattle.pool_rule.specs.declared.word_step.WordStep.{WordStep}
use Rattle.buffer_pool.specs.Made.{AreMade}
use Rattle.cache_eviction.specs.Order.{AllTried, IsOneTry, IsVictimWalk, IsWalkEnd, IsWalkOn, tries}
use Rattle.cache_eviction.specs.OrderLaws.{all_tried, end_then, on_more, one_then, other_next, tries-append, upto_more, victim_next, walk_end, walk_more}
use Rattle.cache_lookup.specs.Callers.{right_made}
use Rattle.cache_lookup.specs.Trails as Lists
use Rattle.cache_placement.specs.declared.why.Placed.{Placed}
use Rattle.cache_placement.specs.declared.why.Placed.TheVariants.{Bypass}
use Rattle.cache_placement.specs.declared.why.Why.TheVariants.{SetFull}
use Rattle.cache_placement.specs.Placements.{IsPlacement, Tells}
use Rattle.cache_room.specs.declared.wanted.Wanted.{Wanted}
use Rattle.cache_room.specs.Rooms.{MakesRoom}
use Rattle.cache_room.specs.SearchLaws.{place_forgets, place_tries}

-- the steps of a placement
pub placement_made : (files : Option Files) (g : Geometry) (id id' : ℕ) (wanted : Wanted) (from until : ℕ) (us : List WordStep) (v w : View) (placed : Placed) → id' ≡ id → IsPlacement files g id' wanted.key wanted.order wanted.first wanted.states from until us v w placed → AreMade files g id us v w
placement_made files g id id' wanted from until us v w placed same p =
    let M : ℕ → Type 0 = λ n. AreMade files g n us v w in
    subst M same (right_made files g id' wanted.key ⊥ v [] us v w p.right)

-- one header was tried, and then a placement
pub one_placed : (files : Option Files) (g : Geometry) (id id' header : ℕ) (p now : Ranking) (wanted : Wanted) (from until : ℕ) (us : List WordStep) (v u w : View) (placed : Placed) → id' ≡ id → IsOneTry files g id header p now v u → IsPlacement files g id' wanted.key wanted.order wanted.first wanted.states from until us u w placed → IsOneTry files g id header p now v w
one_placed files g id id' header p now wanted from until us v u w placed same t place =
    one_then files g id header p now us v u w t (place_tries us place.only) (place_forgets us place.only) (placement_made files g id id' wanted from until us u w placed same place)

-- the next victim was tried
pub victim_step : RanksAreOrdered → NoneBetween → (files : Option Files) (g : Geometry) (id id' first count : ℕ) (p : Ranking) (start : View) (after : Option Rank) (marks : List Bool) (now : Ranking) (v : View) → id' ≡ id → IsVictimWalk files g id first count p start after marks now v → (r : Rank) (i : ℕ) (later : Ranking) (w : View) → r.header ≡ first + i → i < length marks → r.header < length now.entries → IsLeast (Among first count) now.entries after (Some r) → IsOneTry files g id' r.header now later v w → IsVictimWalk files g id first count p start (Some r) (slice_set marks i true) later w
victim_step ranks between files g id id' first count p start after marks now v same c r i later w at marks_len within least t =
    let T : ℕ → Type 0 = λ n. IsOneTry files g n r.header now later v w in
    let next = victim_next ranks between files g id first count p start after marks now v c r least in
    let m = walk_more files g id first count p start marks now v c.walk r.header i later w at marks_len within next (subst T same t) in
    record { walk = m.walk; upto = upto_more ranks between files g id first count p start after marks now v c r m.walk.ss least m.more }

-- the next of the others was tried
pub other_step : (files : Option Files) (g : Geometry) (id id' first count : ℕ) (p : Ranking) (start : View) (marks : List Bool) (now : Ranking) (v : View) → id' ≡ id → IsWalkOn files g id first count p start marks now v → (header i : ℕ) (later : Ranking) (w : View) → header ≡ first + i → i < count → i < length marks → header < length now.entries → slice_index_or marks i false ≡ false → ((j : ℕ) → j < i → slice_index_or marks j false ≡ true) → IsOneTry files g id' header now later v w → IsWalkOn files g id first count p start (slice_set marks i true) later w
other_step files g id id' first count p start marks now v same c header i later w at less marks_len within bare lower t =
    let T : ℕ → Type 0 = λ n. IsOneTry files g n header now later v w in
    let next = other_next files g id first count p start marks now v c header i at less bare lower in
    on_more files g id first count p start marks now v c header (slice_set marks i true) later w
    (walk_more files g id first count p start marks now v c.walk header i later w at marks_len within next (subst T same t))

-- all were tried, and the range was placed
pub record AllEnded (files : Option Files) (g : Geometry) (id first count : ℕ) (p : Ranking) (start : View) (now : Ranking) (w : View) : Type 0 where
  pub walk : IsWalkEnd files g id first count p start now w
  pub all : AllTried first count walk.ss

pub all_placed : (files : Option Files) (g : Geometry) (id id' first count : ℕ) (p : Ranking) (start : View) (marks : List Bool) (now : Ranking) (v w : View) (wanted : Wanted) (from until : ℕ) (us : List WordStep) (placed : Placed) → id' ≡ id → IsWalkOn files g id first count p start marks now v → ((i : ℕ) → i < count → slice_index_or marks i false ≡ true) → IsPlacement files g id' wanted.key wanted.order wanted.first wanted.states from until us v w placed → AllEnded files g id first count p start now w
all_placed files g id id' first count p start marks now v w wanted from until us placed same c are place =
    let none = place_tries us place.only in
    let e = walk_end files g id first count p start marks now v c.walk in
    let still : tries (c.walk.ss ++ us) ≡ tries c.walk.ss = tries-append c.walk.ss us ∙ (ap (λ l. tries c.walk.ss ++ l) none ∙ append-nil (tries c.walk.ss)) in
    let P : List ℕ → Type 0 = λ l. (header : ℕ) → Among first count header → Lists.Among header l in
    record {
      walk = end_then files g id first count p start now us v w e none (place_forgets us place.only) (placement_made files g id id' wanted from until us v w placed same place);
      all = subst P (sym still) (all_tried files g id first count p start marks now v c are);
    }

-- where a way was free, the answer isn't that the set is full
pub not_full : (files : Option Files) (g : Geometry) (id : ℕ) (wanted : Wanted) (v w : View) (evicted way : ℕ) (placed : Placed) → way < 8 → slice_index wanted.states way ≡ 8 → MakesRoom files g id wanted v w evicted placed → (states : List ℕ) → placed ≡ Bypass (SetFull states) → ⊥
not_full files g id wanted v w evicted way placed lt free m states is =
    let P : Placed → Type 0 = λ x. Tells g wanted.order wanted.first wanted.states m.from m.until m.ts x in
    (subst P is m.places.tells).0 way lt free
