use Rattle.std.proofs.Common.{◌≡◌, ℕ, ◌+◌, ◌≤◌, List, [], length, arith, subst}
use Rattle.std.specs.Prelude.{Option}
use Rattle.buffer_word.specs.declared.key_word.Key.{Key}
use Rattle.buffer_word.specs.Changes.{WordTellsKey}
use Rattle.buffer_word.specs.KeyWord.{IsKey}
use Rattle.pool_model.specs.Content.{Files}
use Rattle.pool_rule.specs.declared.geometry.Geometry.{Geometry}
use Rattle.pool_rule.specs.declared.view.View.{View}
use Rattle.pool_rule.specs.declared.word_step.WordStep.{WordStep}
use Rattle.pool_rule.specs.Layout.{headers_of}
use Rattle.buffer_pool.specs.Bids.{HasNoBid}
use Rattle.buffer_pool.specs.Pools.{buffer_key, seat_id, sizes_of, view}
use Rattle.cache_lookup.specs.declared.ways.Found.{Found}
use Rattle.cache_lookup.specs.Before.{HasNoPinOf}
use Rattle.cache_lookup.specs.Exact.{IsExact}
use Rattle.cache_lookup.specs.LookUps.{IsHit, IsLookUp}
use Rattle.cache_lookup.specs.Sets.{first_way}
use Rattle.cache_lookup.specs.Tries.{Looks}
use Rattle.cache_lookup.proofs.Keeping.{kept_at_start}
use Rattle.cache_lookup.proofs.Knowing.{look_exact}
use Rattle.cache_lookup.proofs.Showing.{look_only, look_tells}
use Rattle.cache_lookup.proofs.Walks.{leaves, look_walk}
use Rattle.cache_lookup.proofs.ways.look_up.Goals as goal

-- a look-up by its steps is one by what it tells
looked_up : WordTellsKey → (files : Option Files) (g : Geometry) (id : ℕ) (key : Key) (first : ℕ) (states : List ℕ) (v w : View) (r : Found) → IsKey key → first ≡ first_way g key → first + 8 ≤ headers_of g → length v.marks ≡ headers_of g → HasNoPinOf (buffer_key key) v → HasNoBid v → Looks files g id key first states 0 v w r → (ss : List WordStep) × IsLookUp files g id key ss states v w r
looked_up law files g id key first states v w r good is inside marks no_pin no_bid l =
    let within : first + 8 ≤ length v.marks = omega (arith, inside, marks) in
    let walk = look_walk files g id key v first states law good no_pin no_bid within is (IsHit r) 0 [] v w l.0 r (kept_at_start v) (λ h. h) l.1 l.2 in (
      l.0,
      record {
        right = walk.right;
        only = look_only key first states 0 l.0 r l.2;
        leaves = leaves files g id key v first states law good no_pin no_bid within is w r walk.keeps;
        tells = look_tells g key first states l.0 r is l.2;
        exact = λ words known.
            let P : ℕ → Type 0 = λ n. IsExact g key words n 0 states w r in
            subst P is (look_exact files g id key words first states 0 v w l.0 r known l.1 l.2);
      },
    )

pub returns-clause-looked : goal.returns-clause-looked
returns-clause-looked g c =
    looked_up c.word_tells_key.ensures g.W.World.files (sizes_of c.args.pool.now) (seat_id c.args.seat.now) c.args.key c.args.first c.look_up_from.new.states (view c.args.seat.now) (view c.look_up_from.new.seat) c.look_up_from.result
    c.requires.key c.requires.first c.requires.set c.requires.seat.live.marks c.requires.no_pin c.args.seat.now.no_bid c.look_up_from.ensures.made
