-- Counts don't fall, deed by deed.
use Rattle.std.proofs.Common.{◌≡◌, ℕ, List, [], ◌∷◌, refl, sym, ap, subst, inl, arith}
use Rattle.std.specs.Prelude.{◌≤◌, Option}
use Rattle.outside.specs.declared.file_ref.FileRange.{FileRange}
use Rattle.outside.specs.Told.{Extended, Extended-none}
use Rattle.pool_model.specs.Content.{Files}
use Rattle.buffer_pool.specs.declared.pool.Pool.{Pool}
use Rattle.buffer_pool.specs.declared.seat.PoolSeat.{PoolSeat}
use Rattle.ledgers.specs.declared.cache_totals.CacheTotals.{CacheTotals}
use Rattle.ledgers.specs.declared.cache_totals.How2.{How2}
use Rattle.ledgers.specs.CacheTotals.{counted, more, noted}
use Rattle.held_ranges.specs.Counts.{AreStepsCounted, ReadsAreCounted, StepsAreCounted, last}
use Rattle.held_ranges.specs.Deeds.{Deed, gets, misses, drops, how_of}
use Rattle.held_ranges.specs.Moments.{Does, Moment, Ran}
use Rattle.scan_inline.specs.Counts.{AreCounted, HaveFit}

-- a count that fits 64 bits didn't fall, and fits them still
abbrev Grows : ℕ → ℕ → Type 0
Grows a b = a ≤ last → (a ≤ b) × (b ≤ last)

record AllGrow (a b : CacheTotals) : Type 0 where
  hit : Grows a.hit b.hit
  filled : Grows a.filled b.filled
  bypass : Grows a.bypass b.bypass
  evicted : Grows a.evicted b.evicted
  moved : Grows a.moved b.moved

grows_same : (a : ℕ) → Grows a a
grows_same a = λ fits. (omega arith, fits)

grows_then : (a b c : ℕ) → Grows a b → Grows b c → Grows a c
grows_then a b c p q = λ fits.
    let x = p fits in
    let y = q x.1 in
    (omega (arith, x.0, y.0), y.1)

no_less : (a n : ℕ) → a ≤ last → a ≤ more a n
no_less a n fits = omega (arith, fits)

no_more : (a n : ℕ) → more a n ≤ last
no_more a n = omega arith

grows_more : (a n : ℕ) → Grows a (more a n)
grows_more a n = λ fits. (no_less a n fits, no_more a n)

all_same : (a : CacheTotals) → AllGrow a a
all_same a =
    record {
      hit = grows_same a.hit;
      filled = grows_same a.filled;
      bypass = grows_same a.bypass;
      evicted = grows_same a.evicted;
      moved = grows_same a.moved;
    }

all_then : (a b c : CacheTotals) → AllGrow a b → AllGrow b c → AllGrow a c
all_then a b c p q =
    record {
      hit = grows_then a.hit b.hit c.hit p.hit q.hit;
      filled = grows_then a.filled b.filled c.filled p.filled q.filled;
      bypass = grows_then a.bypass b.bypass c.bypass p.bypass q.bypass;
      evicted = grows_then a.evicted b.evicted c.evicted p.evicted q.evicted;
      moved = grows_then a.moved b.moved c.moved p.moved q.moved;
    }

all_noted : (how : How2) (evicted moved : ℕ) (a : CacheTotals) → AllGrow a (noted how evicted moved a)
all_noted how evicted moved a =
    record {
      hit = grows_more a.hit (counted how evicted moved).hit;
      filled = grows_more a.filled (counted how evicted moved).filled;
      bypass = grows_more a.bypass (counted how evicted moved).bypass;
      evicted = grows_more a.evicted (counted how evicted moved).evicted;
      moved = grows_more a.moved (counted how evicted moved).moved;
    }

all_kept : (a b : CacheTotals) → b ≡ a → AllGrow a b
all_kept a b e = subst (λ (t : CacheTotals). AllGrow a t) (sym e) (all_same a)

module _ (files : Option Files) {W S : Type 0} (reads : S → Option (List FileRange)) where
  deed_grows : (d : Deed) (m n : Moment W S) → Does files reads d m n → AllGrow m.desk.totals.now n.desk.totals.now
  deed_grows (gets slot key) m n d =
      let got = d.1 in
      subst (λ (t : CacheTotals). AllGrow m.desk.totals.now t) (sym got.counted) (all_noted (how_of d.0.how) d.0.evicted d.0.moved m.desk.totals.now)
  deed_grows (misses key) m n d = all_kept m.desk.totals.now n.desk.totals.now d.0.uncounted
  deed_grows (drops slot key) m n d = all_kept m.desk.totals.now n.desk.totals.now d.3.uncounted

  all_grow : (ds : List Deed) (m n : Moment W S) → Ran files reads m ds n → AllGrow m.desk.totals.now n.desk.totals.now
  all_grow [] m n e = all_kept m.desk.totals.now n.desk.totals.now (ap (λ (x : Moment W S). x.desk.totals.now) e)
  all_grow (d ∷ ds) m n r =
      all_then m.desk.totals.now r.0.desk.totals.now n.desk.totals.now (deed_grows d m r.0 r.1) (all_grow ds r.0 n r.2)

  -- so what ran is counted
  pub ran_counted : (m n : Moment W S) (ds : List Deed) → ReadsAreCounted W files reads → StepsAreCounted W files reads → HaveFit m.desk.totals.now
      → Ran files reads m ds n
      → AreCounted (reads m.desk.store.now) (reads n.desk.store.now) m.desk.totals.now n.desk.totals.now
  ran_counted m n ds law steps fit r =
      let grown = all_grow ds m n r in
      let read = law m n ds r in
      let hit = grown.hit fit.hit in
      let filled = grown.filled fit.filled in
      let bypass = grown.bypass fit.bypass in
      let evicted = grown.evicted fit.evicted in
      let moved = grown.moved fit.moved in
      record {
        hit = hit.0;
        filled = filled.0;
        bypass = bypass.0;
        evicted = evicted.0;
        moved = (steps m n ds r).moved fit.moved;
        fit = record { hit = hit.1; filled = filled.1; bypass = bypass.1; evicted = evicted.1; moved = moved.1 };
        items = read.0;
        gained = read.1;
        grew = read.2;
      }

-- ---- beside a scan

-- what reads nothing counts nothing
pub none_counted : (before after : Option (List FileRange)) (totals : CacheTotals) → HaveFit totals → after ≡ before → AreCounted before after totals totals
none_counted before after totals fit e =
    record {
      hit = omega arith;
      filled = omega arith;
      bypass = omega arith;
      evicted = omega arith;
      moved = refl;
      fit = fit;
      items = [];
      gained = subst (λ (x : Option (List FileRange)). Extended before x []) (sym e) (Extended-none before);
      grew = inl (omega arith);
    }

-- and what is done before changes nothing
pub counted_since : (first before after : Option (List FileRange)) (old new : CacheTotals) → before ≡ first → AreCounted before after old new → AreCounted first after old new
counted_since first before after old new e counted = subst (λ (x : Option (List FileRange)). AreCounted x after old new) e counted

-- what makes no step counts none
pub none_stepped : (files : Option Files) {W : Type 0} (pool : Pool W) (seat : PoolSeat W) (totals : CacheTotals) → AreStepsCounted files pool seat seat totals totals
none_stepped files pool seat totals =
    record { steps = []; made = refl; same = refl; hit = inl (omega arith); filled = inl (omega arith); evicted = inl (omega arith); moved = λ le. refl }
