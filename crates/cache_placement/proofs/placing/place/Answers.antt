use Rattle.std.proofs.Common.{◌≡◌, ℕ, ◌+◌, ◌≤◌, List, [], length, arith}
use Rattle.std.specs.Prelude.{Option}
use Rattle.buffer_word.specs.declared.key_word.Key.{Key}
use Rattle.pool_model.specs.Content.{Files}
use Rattle.pool_rule.specs.declared.geometry.Geometry.{Geometry}
use Rattle.pool_rule.specs.declared.view.View.{View}
use Rattle.pool_rule.specs.declared.word_step.WordStep.{WordStep}
use Rattle.pool_rule.specs.Layout.{headers_of}
use Rattle.buffer_pool.specs.Pools.{seat_id, sizes_of, view}
use Rattle.cache_placement.specs.declared.why.Placed.{Placed}
use Rattle.cache_placement.specs.Placements.{IsPlacement}
use Rattle.cache_placement.specs.Steps.{Places}
use Rattle.cache_placement.proofs.AskedArenas.{place_asked, place_inside}
use Rattle.cache_placement.proofs.Blocks.{kept_at_start}
use Rattle.cache_placement.proofs.Knowing.{place_exact}
use Rattle.cache_placement.proofs.Showing.{place_granted, place_only, place_opened, place_publishes, place_tells}
use Rattle.cache_placement.proofs.Walks.{place_walk}
use Rattle.cache_placement.proofs.placing.place.Goals as goal

-- a placement by its steps is one by what it tells
placed : (files : Option Files) (g : Geometry) (id : ℕ) (key : Key) (order first : ℕ) (states : List ℕ) (from until : ℕ) (v w : View) (r : Placed) → until ≤ g.arenas → first + 8 ≤ headers_of g → length v.marks ≡ headers_of g → Places files g id key order first states from until v w r → (ss : List WordStep) × IsPlacement files g id key order first states from until ss v w r
placed files g id key order first states from until v w r few inside marks p =
    let walk = place_walk files g id key ⊥ v order first states from until [] v w p.0 r (omega (arith, inside, marks)) (kept_at_start v) p.1 p.2 in (
      p.0,
      record {
        right = walk.right;
        leaves = walk.leaves;
        tells = place_tells g key order first states from until few p.0 r p.2;
        granted = place_granted g key order first states from until p.0 r p.2;
        opened = place_opened g key order first states from until p.0 r p.2;
        only = place_only g key order first states from until p.0 r p.2;
        published = place_publishes g key order first states from until p.0 r p.2;
        inside = λ s arena there is. place_inside g key order first states from until p.0 r p.2 s arena there is;
        asked = λ less way inside free. place_asked g key order first states from until less way inside free p.0 r p.2;
        exact = λ words known are. place_exact files g id key order words until few first states from are v w p.0 r known p.1 p.2;
      },
    )

pub returns-clause-placed : goal.returns-clause-placed
returns-clause-placed g c =
    placed g.W.World.files (sizes_of c.args.pool.now) (seat_id c.args.seat.now) c.args.key c.args.order c.args.first c.args.states c.args.from c.args.until (view c.args.seat.now) (view c.place_by_steps.new.seat) c.place_by_steps.result
    c.requires.arenas.1 c.requires.set c.requires.seat.live.marks c.place_by_steps.ensures.made
