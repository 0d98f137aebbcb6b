-- Reads are counted, deed by deed.
use Rattle.std.proofs.Common.{◌≡◌, ℕ, ◌+◌, List, [], ◌∷◌, length, refl, sym, ap, ◌∙◌, subst, inl, inr, arith}
use Rattle.std.specs.Prelude.{Option, ◌++◌, ◌⊎◌}
use Rattle.std.proofs.lemmas.Bool.{cases_lt}
use Rattle.std.proofs.lemmas.List.{length-append}
use Rattle.outside.specs.declared.file_ref.FileRange.{FileRange}
use Rattle.outside.specs.Told.{Extended, Extended-none, Extended-then}
use Rattle.pool_model.specs.Content.{Files}
use Rattle.ledgers.specs.declared.cache_totals.CacheTotals.{CacheTotals}
use Rattle.ledgers.specs.CacheTotals.{more, noted}
use Rattle.range_cache.specs.declared.ranged.How.{How}
use Rattle.range_cache.specs.declared.ranged.How.TheVariants.{Hit, Filled, Bypass}
use Rattle.range_cache.specs.Fetches.{Reads}
use Rattle.held_ranges.specs.Counts.{GrewBy, IsCounted, last}
use Rattle.held_ranges.specs.Deeds.{Deed, gets, misses, drops, how_of}
use Rattle.held_ranges.specs.Moments.{Does, Moment, Ran, key_range}

-- a count that stands at its end stays there
record Stays (a b : CacheTotals) : Type 0 where
  filled : a.filled ≡ last → b.filled ≡ last
  bypass : a.bypass ≡ last → b.bypass ≡ last

sum_or_last : (a b : ℕ) → (more a b ≡ a + b) ⊎ (more a b ≡ last)
sum_or_last a b =
    elim (cases_lt (a + b) (last + 1)) [
      | inl below ↦ inl (omega (arith, below))
      | inr past ↦ inr (omega (arith, past))
    ]

last_stays : (a b : ℕ) → a ≡ last → more a b ≡ last
last_stays a b e = omega (arith, e)

record Step (before after : Option (List FileRange)) (a b : CacheTotals) : Type 0 where
  items : List FileRange
  grew : Extended before after items
  counted : GrewBy a b (length items)
  stays : Stays a b

none_read : (before after : Option (List FileRange)) → after ≡ before → Extended before after []
none_read before after e = subst (λ (x : Option (List FileRange)). Extended before x []) (sym e) (Extended-none before)

same_counts : (before after : Option (List FileRange)) (a b : CacheTotals) → after ≡ before → b ≡ a → Step before after a b
same_counts before after a b e f =
    record {
      items = [];
      grew = none_read before after e;
      counted = inl (ap (λ (t : CacheTotals). t.filled + t.bypass) f ∙ omega arith);
      stays = record { filled = λ g. ap (λ (t : CacheTotals). t.filled) f ∙ g; bypass = λ g. ap (λ (t : CacheTotals). t.bypass) f ∙ g };
    }

grows : (f x p y k : ℕ) → x + y ≡ k → (more f x + more p y ≡ f + p + k) ⊎ (more f x ≡ last) ⊎ (more p y ≡ last)
grows f x p y k e =
    elim (sum_or_last f x) [
      | inl a ↦ elim (sum_or_last p y) [
        | inl b ↦ inl (omega (arith, a, b, e))
        | inr b ↦ inr (inr b)
      ]
      | inr a ↦ inr (inl a)
    ]

how_counts : (how : How) (range : FileRange) (before after : Option (List FileRange)) (evicted moved : ℕ) (a : CacheTotals) → Reads before after range how → Step before after a (noted (how_of how) evicted moved a)
how_counts Hit range before after evicted moved a r =
    record { items = []; grew = none_read before after r; counted = grows a.filled 0 a.bypass 0 0 refl; stays = record { filled = last_stays a.filled 0; bypass = last_stays a.bypass 0 } }
how_counts Filled range before after evicted moved a r =
    record { items = range ∷ []; grew = r; counted = grows a.filled 1 a.bypass 0 1 refl; stays = record { filled = last_stays a.filled 1; bypass = last_stays a.bypass 0 } }
how_counts (Bypass why) range before after evicted moved a r =
    record { items = range ∷ []; grew = r; counted = grows a.filled 0 a.bypass 1 1 refl; stays = record { filled = last_stays a.filled 0; bypass = last_stays a.bypass 1 } }

then_grew : (a b c : CacheTotals) (x y n : ℕ) → n ≡ x + y → GrewBy a b x → GrewBy b c y → Stays b c → GrewBy a c n
then_grew a b c x y n e p q s =
    elim q [
      | inl two ↦ elim p [
        | inl one ↦ inl (omega (arith, one, two, e))
        | inr (inl full) ↦ inr (inl (s.filled full))
        | inr (inr full) ↦ inr (inr (s.bypass full))
      ]
      | inr full ↦ inr full
    ]

step_then : (r0 r1 r2 : Option (List FileRange)) (a b c : CacheTotals) → Step r0 r1 a b → Step r1 r2 b c → Step r0 r2 a c
step_then r0 r1 r2 a b c p q =
    record {
      items = p.items ++ q.items;
      grew = Extended-then r0 r1 r2 p.items q.items p.grew q.grew;
      counted = then_grew a b c (length p.items) (length q.items) (length (p.items ++ q.items)) (length-append p.items q.items) p.counted q.counted q.stays;
      stays = record { filled = λ e. q.stays.filled (p.stays.filled e); bypass = λ e. q.stays.bypass (p.stays.bypass e) };
    }

module _ (files : Option Files) {W S : Type 0} (reads : S → Option (List FileRange)) where
  abbrev Stepped : Moment W S → Moment W S → Type 0
  Stepped m n = Step (reads m.desk.store.now) (reads n.desk.store.now) m.desk.totals.now n.desk.totals.now

  deed_counts : (d : Deed) (m n : Moment W S) → Does files reads d m n → Stepped m n
  deed_counts (gets slot key) m n d =
      let got = d.1 in
      let P : CacheTotals → Type 0 = λ t. Step (reads m.desk.store.now) (reads n.desk.store.now) m.desk.totals.now t in
      subst P (sym got.counted) (how_counts d.0.how (key_range key) (reads m.desk.store.now) (reads n.desk.store.now) d.0.evicted d.0.moved m.desk.totals.now got.read)
  deed_counts (misses key) m n d = same_counts (reads m.desk.store.now) (reads n.desk.store.now) m.desk.totals.now n.desk.totals.now d.0.unread d.0.uncounted
  deed_counts (drops slot key) m n d =
      same_counts (reads m.desk.store.now) (reads n.desk.store.now) m.desk.totals.now n.desk.totals.now (ap (λ (s : S). reads s) d.3.unread) d.3.uncounted

  all_count : (ds : List Deed) (m n : Moment W S) → Ran files reads m ds n → Stepped m n
  all_count [] m n e = same_counts (reads m.desk.store.now) (reads n.desk.store.now) m.desk.totals.now n.desk.totals.now (ap (λ (x : Moment W S). reads x.desk.store.now) e) (ap (λ (x : Moment W S). x.desk.totals.now) e)
  all_count (d ∷ ds) m n r =
      step_then (reads m.desk.store.now) (reads r.0.desk.store.now) (reads n.desk.store.now) m.desk.totals.now r.0.desk.totals.now n.desk.totals.now (deed_counts d m r.0 r.1) (all_count ds r.0 n r.2)

  pub reads_counted : (m n : Moment W S) (ds : List Deed) → Ran files reads m ds n → IsCounted reads m n
  reads_counted m n ds r = let s = all_count ds m n r in (s.items, s.grew, s.counted)
