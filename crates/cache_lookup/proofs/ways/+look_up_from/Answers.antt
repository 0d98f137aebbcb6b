use Rattle.std.proofs.Common.{◌≡◌, ℕ, ◌+◌, ◌<◌, List, [], length, arith, refl, subst, ◌∙◌}
use Rattle.std.specs.Prelude.{Option, slice_index}
use Rattle.std.proofs.lemmas.List.{get_or-set_same}
use Rattle.buffer_word.specs.declared.key_word.Key.{Key}
use Rattle.pool_model.specs.Content.{Files}
use Rattle.pool_rule.specs.declared.geometry.Geometry.{Geometry}
use Rattle.pool_rule.specs.declared.view.View.{View}
use Rattle.buffer_pool.specs.Callers.{all_then}
use Rattle.buffer_pool.specs.Made.{AreMade}
use Rattle.buffer_pool.specs.Pools.{sizes_of}
use Rattle.cache_lookup.specs.declared.ways.Found.{Found}
use Rattle.cache_lookup.specs.declared.ways.Tried.TheVariants.{Passed}
use Rattle.cache_lookup.specs.Tries.{Looks, Tries, busy, hit, passed, past}
use Rattle.cache_lookup.proofs.ways.+look_up_from.Goals as goal

-- a way that was passed, and then the others
then_looks : (files : Option Files) (g : Geometry) (id id' : ℕ) (key : Key) (first way seen : ℕ) (states : List ℕ) (v u w : View) (r : Found) → id' ≡ id → way < 8 → slice_index states way ≡ seen → Tries files g id key (first + way) v u (Passed seen) → Looks files g id' key first states (way + 1) u w r → Looks files g id key first states way v w r
then_looks files g id id' key first way seen states v u w r same lt at t l =
    let P : ℕ → Type 0 = λ n. AreMade files g n l.0 u w in
    (_, all_then files g id t.0 l.0 v u w t.1 (subst P same l.1), passed way seen t.0 l.0 r lt t.2 at l.2)

pub returns-then-way-eq8-clause-made : goal.returns-then-way-eq8-clause-made
returns-then-way-eq8-clause-made g t c = ([], refl, past _ c.if-way-eq8.true)

pub returns-in-Hit-clause-made : goal.returns-in-Hit-clause-made
returns-in-Hit-clause-made g t c =
    let made = c.in-Hit.ensures.made in (made.0, made.1, hit _ made.0 c.in-Hit.pin (omega arith) made.2)

pub returns-in-Busy-clause-made : goal.returns-in-Busy-clause-made
returns-in-Busy-clause-made g t c =
    let made = c.in-Busy.ensures.made in (made.0, made.1, busy _ c.in-Busy.word made.0 (omega arith) made.2)

pub returns-in-Passed-clause-made : goal.returns-in-Passed-clause-made
returns-in-Passed-clause-made g t c =
    let within : c.args.way < length c.args.states.now = omega arith in
    then_looks g.W.World.files (sizes_of c.args.pool.now) _ _ c.args.key c.args.first c.args.way c.in-Passed.seen _ _ _ _ _ c.try_way.ensures.seat.same (omega arith)
    (c.look_up_from.ensures.below c.args.way (omega arith) ∙ get_or-set_same c.args.states.now c.args.way c.in-Passed.seen 0 within) c.in-Passed.ensures.made c.look_up_from.ensures.made
