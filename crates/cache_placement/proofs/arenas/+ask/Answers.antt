use Rattle.std.proofs.Common.{◌≡◌, ◌≢◌, ℕ, ◌+◌, ◌*◌, ◌/◌, ◌<◌, List, [], length, arith, refl, subst, ◌∙◌}
use Rattle.std.specs.Prelude.{Option, Some, None, slice_index}
use Rattle.std.proofs.lemmas.List.{get_or-set_same}
use Rattle.std.proofs.lemmas.Nat.{pow_pos}
use Rattle.buddy_arena.specs.Buddy.{IsBuddyAnswer}
use Rattle.pool_model.specs.Content.{Files}
use Rattle.pool_rule.specs.declared.geometry.Geometry.{Geometry}
use Rattle.pool_rule.specs.declared.geometry.WordName.TheVariants.{Arena}
use Rattle.pool_rule.specs.declared.view.View.{View}
use Rattle.pool_rule.specs.declared.word_step.WordStep.TheVariants.{Looked, Missed, Granted}
use Rattle.pool_rule.specs.WordSteps.{IsMade}
use Rattle.buffer_pool.specs.declared.token.Grant.{Grant}
use Rattle.buffer_pool.specs.Made.{AreMade}
use Rattle.buffer_pool.specs.Pools.{block_at, block_of, sizes_of}
use Rattle.cache_placement.specs.declared.arenas.Asked.{Asked}
use Rattle.cache_placement.specs.declared.arenas.Asked.TheVariants as asked
use Rattle.cache_placement.specs.Steps.{Asks, none_left, full, got, raced}
use Rattle.cache_placement.proofs.arenas.+ask.Goals as goal

-- an arena's word is loaded, and what comes then
module _ (files : Option Files) (g : Geometry) (id id' order : ℕ) (words : List ℕ) (until arena word : ℕ) (v u w : View) (same : id' ≡ id) (inside : arena < until) (load : IsMade files g id (Looked (Arena arena) word) v u) where
  again : (r : Asked) → IsBuddyAnswer 64 word order None → slice_index words arena ≡ word → Asks files g id' order words until (arena + 1) u w r → Asks files g id order words until arena v w r
  again r none at a =
      let P : ℕ → Type 0 = λ n. AreMade files g n a.0 u w in
      (_, (u, load, subst P same a.1), full arena word a.0 r inside none at a.2)

  taken : (offset : ℕ) (grant : Grant) → IsBuddyAnswer 64 word order (Some offset) → block_of grant ≡ block_at (64 * arena + offset) order → IsMade files g id' (Granted (block_at (64 * arena + offset) order) word) u w → Asks files g id order words until arena v w (asked.Got grant)
  taken offset grant answer is m =
      let P : ℕ → Type 0 = λ n. IsMade files g n (Granted (block_at (64 * arena + offset) order) word) u w in
      (_, (u, load, (w, subst P same m, refl)), got arena word offset grant inside answer is)

  missed : (saw at : ℕ) → at ≡ arena → saw ≢ word → IsMade files g id' (Missed (Arena at) saw) u w → Asks files g id order words until arena v w (asked.Raced saw)
  missed saw at here other m =
      let P : ℕ × ℕ → Type 0 = λ z. IsMade files g z.0 (Missed (Arena z.1) saw) u w in
      (_, (u, load, (w, subst P (λ i. (same i, here i)) m, refl)), raced arena word saw inside other)

-- a block lies in the arena whose word gave it
in_arena : (arena word order offset : ℕ) → IsBuddyAnswer 64 word order (Some offset) → (64 * arena + offset) / 64 ≡ arena
in_arena arena word order offset answer =
    let end = answer.1.free.here.block.inside in
    let size = pow_pos answer.0 in
    omega (arith, end, size)

pub returns-then-arena-until-clause-made : goal.returns-then-arena-until-clause-made
returns-then-arena-until-clause-made g t c = ([], refl, none_left _ c.if-arena-until.true)

pub grant-requires-clause-block : goal.grant-requires-clause-block
grant-requires-clause-block g t c =
    let few = c.requires.until.0 in
    (c.found_blocks_can_be_granted.ensures (sizes_of c.args.pool.now) c.args.arena c.args.order c.in-Some.offset c.look-word.result (omega (arith, few)) c.requires.order c.in-Some.ensures.answer).0

pub grant-requires-clause-clear : goal.grant-requires-clause-clear
grant-requires-clause-clear g t c =
    let few = c.requires.until.0 in
    (c.found_blocks_can_be_granted.ensures (sizes_of c.args.pool.now) c.args.arena c.args.order c.in-Some.offset c.look-word.result (omega (arith, few)) c.requires.order c.in-Some.ensures.answer).1

pub returns-in-None-clause-made : goal.returns-in-None-clause-made
returns-in-None-clause-made g t c =
    let below : c.args.arena < c.args.until = omega arith in
    let few = c.requires.until.1 in
    let inside : c.args.arena < length c.args.words.now = omega (arith, below, few) in
    again g.W.World.files (sizes_of c.args.pool.now) _ _ c.args.order _ c.args.until c.args.arena c.look-word.result _ _ _ c.look-word.ensures.seat.same below c.look-word.ensures.made _ c.in-None.ensures.answer
    (c.ask.ensures.below c.args.arena (omega arith) ∙ get_or-set_same c.args.words.now c.args.arena c.look-word.result 0 inside) c.ask.ensures.made

pub returns-in-Ok-clause-made : goal.returns-in-Ok-clause-made
returns-in-Ok-clause-made g t c =
    taken g.W.World.files (sizes_of c.args.pool.now) _ _ c.args.order _ c.args.until c.args.arena c.look-word.result _ _ _ c.look-word.ensures.seat.same (omega arith) c.look-word.ensures.made
    c.in-Some.offset c.in-Ok.block c.in-Some.ensures.answer c.in-Ok.ensures.block c.in-Ok.ensures.ok

pub returns-in-Err-clause-made : goal.returns-in-Err-clause-made
returns-in-Err-clause-made g t c =
    missed g.W.World.files (sizes_of c.args.pool.now) _ _ c.args.order _ c.args.until c.args.arena c.look-word.result _ _ _ c.look-word.ensures.seat.same (omega arith) c.look-word.ensures.made
    c.in-Err.lost.saw _ (in_arena c.args.arena c.look-word.result c.args.order c.in-Some.offset c.in-Some.ensures.answer) c.in-Err.ensures.saw c.in-Err.ensures.err
