-- Every run keeps the pool lawful, and leaves the held buffers alone.
use Rattle.std.proofs.Common.{◌≡◌, ℕ, List, [], ◌∷◌, ◌++◌, get_or, replicate, zero, suc, refl, sym, subst, ◌+◌, arith}
use Rattle.std.specs.Prelude.{Option, None, IfSome}
use Rattle.pool_model.specs.declared.pool.PlainPool.{PlainPool}
use Rattle.pool_model.specs.declared.setting.Setting.{Setting}
use Rattle.pool_model.specs.declared.step.Step.{Step}
use Rattle.pool_model.specs.Lawful.{IsLawful}
use Rattle.pool_model.specs.Laws.{EveryRunIsLawful, LawfulIsDisjoint, IsLawfulOnTheWay}
use Rattle.pool_model.specs.Pool.{total, buffer_covers, grant_covers, owners, empty_pool}
use Rattle.pool_model.specs.Step.{IsRun, after, run}
use Rattle.pool_model.proofs.PoolSteps.{step_keeps}
use Rattle.pool_model.proofs.PartsAreOwners.{owned_once}
use Rattle.pool_model.proofs.HeldBuffers.{step_spares, step_keeps_held}

-- a run from a lawful pool leads to one
pub run_keeps : (w : Setting) (ss : List Step) (p : PlainPool) → IsLawful w p → IsRun w ss p → IsLawful w (run ss p)
run_keeps w [] p l r = l
run_keeps w (s ∷ ss) p l r = run_keeps w ss (after s p) (step_keeps w s p l r.0) r.1

-- a run, and then another
pub run-append : (ss ts : List Step) (p : PlainPool) → run (ss ++ ts) p ≡ run ts (run ss p)
run-append [] ts p = refl
run-append (s ∷ ss) ts p = run-append ss ts (after s p)

pub IsRun-append : (w : Setting) (ss ts : List Step) (p : PlainPool) → IsRun w ss p → IsRun w ts (run ss p) → IsRun w (ss ++ ts) p
IsRun-append w [] ts p r q = q
IsRun-append w (s ∷ ss) ts p r q = (r.0, IsRun-append w ss ts (after s p) r.1 q)

-- the empty pool is lawful

total-none : {A : Type 0} (f : ℕ → Option A → ℕ) (i n : ℕ) → ((k : ℕ) → f k None ≡ 0) → total f i (replicate n None) ≡ 0
total-none f i zero h = refl
total-none f i (suc n) h = omega (arith, h i, total-none f (i + 1) n h)

get_or-none : {A : Type 0} (n k : ℕ) → get_or (replicate {A = Option A} n None) k None ≡ None
get_or-none zero k = refl
get_or-none (suc n) zero = refl
get_or-none (suc n) (suc k) = get_or-none n k

if_none : {A : Type 0} (P : A → Type 0) (o : Option A) → o ≡ None → IfSome o P
if_none P o e = let Q : Option _ → Type 0 = λ v. IfSome v P in subst Q (sym e) tt

pub empty_lawful : (w : Setting) (headers places : ℕ) → IsLawful w (empty_pool headers places)
unfolding owners
empty_lawful w headers places =
    record {
      apart =
          λ m. omega (arith, total-none (buffer_covers m) 0 headers (λ k. refl), total-none (grant_covers m) 0 places (λ k. refl));
      buffers = λ header. if_none _ _ (get_or-none headers header);
      grants = λ place. if_none _ _ (get_or-none places place);
    }

-- from a lawful pool on, each pool on the way is lawful, and held buffers are left alone
pub lawful_on_the_way : (w : Setting) (ss : List Step) (p : PlainPool) → IsLawful w p → IsRun w ss p → IsLawfulOnTheWay w ss p
lawful_on_the_way w [] p l r = l
lawful_on_the_way w (s ∷ ss) p l r =
    (l, step_spares w s p l r.0, step_keeps_held w s p l r.0, lawful_on_the_way w ss (after s p) (step_keeps w s p l r.0) r.1)

pub every_run_is_lawful : EveryRunIsLawful
every_run_is_lawful w headers places steps r =
    lawful_on_the_way w steps (empty_pool headers places) (empty_lawful w headers places) r

pub lawful_is_disjoint : LawfulIsDisjoint
lawful_is_disjoint w p l m = owned_once p m (l.apart m)
