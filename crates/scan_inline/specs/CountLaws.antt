-- Counts of calls, one after the other. Source: this project's own.
use Rattle.std.proofs.Common.{◌≡◌, ℕ, ◌+◌, List, [], length, refl, sym, ◌∙◌, subst, inl, inr, arith}
use Rattle.std.specs.Prelude.{◌≤◌, Option, ◌++◌}
use Rattle.std.proofs.lemmas.List.{length-append}
use Rattle.outside.specs.declared.file_ref.FileRange.{FileRange}
use Rattle.outside.specs.Told.{Extended-none, Extended-then}
use Rattle.ledgers.specs.declared.cache_totals.CacheTotals.{CacheTotals}
use Rattle.pool_model.specs.Content.{Files}
use Rattle.pool_rule.specs.declared.word_step.WordStep.{WordStep}
use Rattle.buffer_pool.specs.declared.pool.Pool.{Pool}
use Rattle.buffer_pool.specs.declared.seat.PoolSeat.{PoolSeat}
use Rattle.buffer_pool.specs.Callers.{all_then}
use Rattle.buffer_pool.specs.Made.{AreMade}
use Rattle.buffer_pool.specs.Pools.{seat_id, sizes_of, view}
use Rattle.cache_placement.specs.Publications.{publications, publications-append}
use Rattle.cache_room.specs.Touchings.{touchings, touchings-append}
use Rattle.cache_room.specs.Tried.{releases}
use Rattle.cache_room.specs.TriedLaws.{releases-append}
use Rattle.held_ranges.specs.Counts.{AreStepsCounted, EvictedBy, FilledBy, GrewBy, HitBy, last}
use Rattle.scan_inline.specs.Counts.{AreCounted, HaveFit}

-- where nothing was done
pub counted_none : (reads : Option (List FileRange)) (totals : CacheTotals) → HaveFit totals → AreCounted reads reads totals totals
counted_none reads totals fit =
    record {
      hit = omega arith;
      filled = omega arith;
      bypass = omega arith;
      evicted = omega arith;
      moved = refl;
      fit = fit;
      items = [];
      gained = Extended-none reads;
      grew = inl (omega arith);
    }

grew_then : (r0 r1 r2 : Option (List FileRange)) (a b c : CacheTotals) (n : ℕ) (p : AreCounted r0 r1 a b) (q : AreCounted r1 r2 b c)
    → n ≡ length p.items + length q.items → GrewBy a c n
grew_then r0 r1 r2 a b c n p q e =
    elim q.grew [
      | inl two ↦ elim p.grew [
        | inl one ↦ inl (omega (arith, one, two, e))
        | inr (inl full) ↦ inr (inl (omega (arith, full, q.filled, q.fit.filled)))
        | inr (inr full) ↦ inr (inr (omega (arith, full, q.bypass, q.fit.bypass)))
      ]
      | inr full ↦ inr full
    ]

-- where one call follows another
pub counted_then : (r0 r1 r2 : Option (List FileRange)) (a b c : CacheTotals) → AreCounted r0 r1 a b → AreCounted r1 r2 b c
    → AreCounted r0 r2 a c
counted_then r0 r1 r2 a b c p q =
    record {
      hit = omega (arith, p.hit, q.hit);
      filled = omega (arith, p.filled, q.filled);
      bypass = omega (arith, p.bypass, q.bypass);
      evicted = omega (arith, p.evicted, q.evicted);
      moved = q.moved ∙ p.moved;
      fit = q.fit;
      items = p.items ++ q.items;
      gained = Extended-then r0 r1 r2 p.items q.items p.gained q.gained;
      grew = grew_then r0 r1 r2 a b c (length (p.items ++ q.items)) p q (length-append p.items q.items);
    }

-- ---- and their steps

-- where nothing was done
pub stepped_none : (files : Option Files) {W : Type 0} (pool : Pool W) (seat : PoolSeat W) (totals : CacheTotals)
    → AreStepsCounted files pool seat seat totals totals
stepped_none files pool seat totals =
    record {
      steps = [];
      made = refl;
      same = refl;
      hit = inl (omega arith);
      filled = inl (omega arith);
      evicted = inl (omega arith);
      moved = λ le. refl;
    }

hit_on : (a b c : CacheTotals) (x y n p q m : ℕ) → n ≡ x + y → m ≡ p + q → b.hit ≤ c.hit → c.hit ≤ last → HitBy a b x p
    → HitBy b c y q → HitBy a c n m
hit_on a b c x y n p q m e f grew fits one two =
    elim two [
      | inl is ↦ elim one [ inl was ↦ inl (omega (arith, was, is, e, f)) | inr full ↦ inr (omega (arith, full, grew, fits)) ]
      | inr full ↦ inr full
    ]

filled_on : (a b c : CacheTotals) (x y n : ℕ) → n ≡ x + y → b.filled ≤ c.filled → c.filled ≤ last → FilledBy a b x → FilledBy b c y
    → FilledBy a c n
filled_on a b c x y n e grew fits one two =
    elim two [
      | inl is ↦ elim one [ inl was ↦ inl (omega (arith, was, is, e)) | inr full ↦ inr (omega (arith, full, grew, fits)) ]
      | inr full ↦ inr full
    ]

evicted_on : (a b c : CacheTotals) (x y n : ℕ) → n ≡ x + y → b.evicted ≤ c.evicted → c.evicted ≤ last → EvictedBy a b x
    → EvictedBy b c y → EvictedBy a c n
evicted_on a b c x y n e grew fits one two =
    elim two [
      | inl is ↦ elim one [ inl was ↦ inl (omega (arith, was, is, e)) | inr full ↦ inr (omega (arith, full, grew, fits)) ]
      | inr full ↦ inr full
    ]

-- where one call follows another
pub stepped_then : (files : Option Files) {W : Type 0} (pool : Pool W) (s t u : PoolSeat W) (r r' : Option (List FileRange))
    (a b c : CacheTotals) → AreStepsCounted files pool s t a b → AreStepsCounted files pool t u b c → AreCounted r r' b c
    → AreStepsCounted files pool s u a c
stepped_then files pool s t u r r' a b c p q counted =
    let g = sizes_of pool in
    let M : ℕ → Type 0 = λ n. AreMade files g n q.steps (view t) (view u) in
    let ss : List WordStep = p.steps ++ q.steps in
    let fit = counted.fit in
    record {
      steps = ss;
      made = all_then files g (seat_id s) p.steps q.steps (view s) (view t) (view u) p.made (subst M p.same q.made);
      same = q.same ∙ p.same;
      hit = hit_on a b c (touchings p.steps) (touchings q.steps) (touchings ss) (publications p.steps) (publications q.steps)
          (publications ss) (touchings-append p.steps q.steps) (publications-append p.steps q.steps) counted.hit fit.hit p.hit q.hit;
      filled = filled_on a b c (publications p.steps) (publications q.steps) (publications ss) (publications-append p.steps q.steps)
          counted.filled fit.filled p.filled q.filled;
      evicted = evicted_on a b c (releases p.steps) (releases q.steps) (releases ss) (releases-append p.steps q.steps) counted.evicted
          fit.evicted p.evicted q.evicted;
      moved = λ le. (let same = p.moved le in let L : ℕ → Type 0 = λ n. n ≤ last in q.moved (subst L (sym same) le) ∙ same);
    }
