-- For those who fetch ranges, read them and let them go: what their seats have in between.
use Rattle.std.specs.Prelude.{◌≡◌, ◌⊎◌, ℕ, List, [], ◌∷◌, ◌++◌, length, Option}
use Rattle.std.proofs.Common.{◌∙◌, refl, sym, subst, inl, inr, arith}
use Rattle.buffer_word.specs.declared.key_word.Key.{Key}
use Rattle.pool_model.specs.Content.{Files}
use Rattle.pool_rule.specs.declared.geometry.Geometry.{Geometry}
use Rattle.pool_rule.specs.declared.view.View.{View}
use Rattle.pool_rule.specs.declared.word_step.WordStep.{WordStep}
use Rattle.buffer_pool.specs.Callers.{all_trail}
use Rattle.buffer_pool.specs.declared.pool.Pool.{Pool}
use Rattle.buffer_pool.specs.declared.seat.PoolSeat.{PoolSeat}
use Rattle.buffer_pool.specs.Pools.{IsContentOf, buffer_key}
use Rattle.cache_lookup.specs.Before.{IsAsBefore}
use Rattle.cache_lookup.specs.Callers.{before_then, right_made}
use Rattle.cache_lookup.specs.LookUps.{IsLookStep}
use Rattle.cache_lookup.specs.LookUps as look
use Rattle.cache_lookup.specs.Right.{AreRight}
use Rattle.cache_lookup.specs.Trails.{Among, events}
use Rattle.cache_placement.specs.Publications.{publications, published_by}
use Rattle.range_cache.specs.declared.ranged.Grip.{Grip}
use Rattle.range_cache.specs.declared.ranged.Grip.TheVariants as grip
use Rattle.range_cache.specs.declared.ranged.How.{How}
use Rattle.range_cache.specs.declared.ranged.How.TheVariants.{Hit, Filled, Bypass}
use Rattle.range_cache.specs.declared.ranged.Ranged.{Ranged}
use Rattle.range_cache.specs.Ranges.{GripFits, IsHit, IsRangedFor, IsReadable, Leaves, LeavesGrip, ScratchFits, key_of_grip}

grip_then : (start v w : View) (g : Grip) → LeavesGrip start v g → IsAsBefore v w → LeavesGrip start w g
grip_then start v w (grip.Pin pin) l c =
    record {
      claims = λ header. c.claims header ∙ l.claims header;
      grants = λ place. c.grants place ∙ l.grants place;
      others = λ other apart. c.holds other ∙ l.others other apart;
      was = l.was;
    }
grip_then start v w (grip.Bypass key) l c = before_then start v w l c

-- what a fetch leaves, a call that leaves the seat what it has leaves too
pub leaves_then : (start v w : View) (ranged : Ranged) → Leaves start v ranged → IsAsBefore v w → Leaves start w ranged
leaves_then start v w ranged l c = grip_then start v w ranged.held l c

-- after a fetch the scratch is one from which the range can be read
readable_by : (files : Option Files) (key : Key) (how : How) (g : Grip) (scratch : List ℕ) → GripFits how g
    → key_of_grip g ≡ key → (IsHit how ⊎ IsContentOf files (buffer_key key) scratch) → length scratch ≡ key.len
    → ScratchFits files g scratch
readable_by files key how (grip.Pin pin) scratch fits is bytes len = tt
readable_by files key Hit (grip.Bypass k) scratch fits is bytes len = absurd fits
readable_by files key Filled (grip.Bypass k) scratch fits is bytes len = absurd fits
readable_by files key (Bypass why) (grip.Bypass k) scratch fits is (inl clash) len = absurd clash
readable_by files key (Bypass why) (grip.Bypass k) scratch fits is (inr content) len =
    let P : Key → Type 0 = λ x. (length scratch ≡ x.len) × IsContentOf files (buffer_key x) scratch in
    subst P (sym is) (len, content)

pub readable : {W : Type 0} (files : Option Files) (pool : Pool W) (seat : PoolSeat W) (key : Key) (ranged : Ranged)
    (scratch : List ℕ) → IsRangedFor pool seat key ranged
    → (IsHit ranged.how ⊎ IsContentOf files (buffer_key key) scratch) → length scratch ≡ key.len
    → IsReadable files ranged scratch
readable files pool seat key ranged scratch r bytes len = readable_by files key ranged.how ranged.held scratch r.grip r.key_is bytes len

-- steps that are right are those by which the trail grew
pub right_trail : (files : Option Files) (g : Geometry) (id : ℕ) (key : Key) (hit : Type 0) (start : View)
    (before ss : List WordStep) (v w : View) → AreRight files g id key hit start before v ss w
    → w.trail ≡ v.trail ++ events g ss
right_trail files g id key hit start before ss v w right =
    all_trail files g id ss v w (right_made files g id key hit start before ss v w right)

-- a look-up publishes nothing
look_published : (s : WordStep) → IsLookStep s → published_by s ≡ 0
look_published s (look.load word found) = refl
look_published s (look.count header found) = refl
look_published s (look.back header found) = refl

pub look_publishes : (ss : List WordStep) → ((s : WordStep) → Among s ss → IsLookStep s) → publications ss ≡ 0
look_publishes [] only = refl
look_publishes (s ∷ ss) only =
    let here = look_published s (only s (inl refl)) in
    let rest = look_publishes ss (λ t there. only t (inr there)) in
    omega (arith, here, rest)

pub ruleset fetchers = (leaves_then, readable, right_trail, look_publishes)
