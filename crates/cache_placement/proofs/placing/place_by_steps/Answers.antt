use Rattle.std.proofs.Common.{◌≡◌, ℕ, ◌+◌, ◌*◌, ◌-◌, ◌^◌, ◌≤◌, List, [], refl, sym, subst, ◌∙◌}
use Rattle.std.specs.Prelude.{Option}
use Rattle.std.proofs.lemmas.List.{get_or-replicate}
use Rattle.buffer_word.specs.declared.key_word.Key.{Key}
use Rattle.pool_model.specs.Content.{Files}
use Rattle.pool_rule.specs.declared.geometry.Geometry.{Geometry}
use Rattle.pool_rule.specs.declared.view.View.{View}
use Rattle.buffer_pool.specs.declared.token.Grant.{Grant}
use Rattle.buffer_pool.specs.Callers.{all_then}
use Rattle.buffer_pool.specs.Made.{AreMade}
use Rattle.buffer_pool.specs.Pools.{block_of, sizes_of}
use Rattle.cache_placement.specs.declared.arenas.Asked.TheVariants.{Got}
use Rattle.cache_placement.specs.declared.why.Placed.{Placed}
use Rattle.cache_placement.specs.Free.{IsFirstFree}
use Rattle.cache_placement.specs.Steps.{Asks, Opens, Places, arena_raced, no_room, opens, set_full}
use Rattle.cache_placement.proofs.placing.place_by_steps.Goals as goal

-- a block that was got, and what comes then
then_opens : (files : Option Files) (g : Geometry) (id id' : ℕ) (key : Key) (order first way : ℕ) (states : List ℕ) (from until : ℕ) (words : List ℕ) (grant : Grant) (v u w : View) (r : Placed) → id' ≡ id → IsFirstFree states way → Asks files g id order words until from v u (Got grant) → Opens files g id' key (first + way) (block_of grant) u w r → Places files g id key order first states from until v w r
then_opens files g id id' key order first way states from until words grant v u w r same is a o =
    let P : ℕ → Type 0 = λ n. AreMade files g n o.0 u w in
    (_, all_then files g id a.0 o.0 v u w a.1 (subst P same o.1), opens way words grant a.0 o.0 r is a.2 o.2)

pub returns-in-None-clause-made : goal.returns-in-None-clause-made
returns-in-None-clause-made g c = ([], refl, set_full c.in-None.ensures)

pub open_with-requires-clause-fits : goal.open_with-requires-clause-fits
open_with-requires-clause-fits g c =
    let P : ℕ → Type 0 = λ n. c.args.key.len ≤ (sizes_of c.args.pool.now).min_block * 2 ^ n in
    subst P (sym c.in-Got.ensures.token.1) c.requires.order.room

pub returns-in-Full-clause-made : goal.returns-in-Full-clause-made
returns-in-Full-clause-made g c =
    let a = c.in-Full.ensures.made in
    (a.0, a.1, no_room c.in-Some.way _ a.0 c.in-Some.ensures a.2 (λ i past lt. c.ask.ensures.past i past ∙ get_or-replicate 64 i (2 ^ 64 - 1) 0 lt))

pub returns-in-Raced-clause-made : goal.returns-in-Raced-clause-made
returns-in-Raced-clause-made g c =
    let a = c.in-Raced.ensures.made in
    (a.0, a.1, arena_raced c.in-Some.way c.in-Raced.saw _ a.0 c.in-Some.ensures a.2)

pub returns-in-Got-clause-made : goal.returns-in-Got-clause-made
returns-in-Got-clause-made g c =
    then_opens g.W.World.files (sizes_of c.args.pool.now) _ _ c.args.key c.args.order c.args.first c.in-Some.way _ c.args.from c.args.until _ c.in-Got.grant _ _ _ _ c.ask.ensures.seat.same c.in-Some.ensures c.in-Got.ensures.made c.open_with.ensures.made
