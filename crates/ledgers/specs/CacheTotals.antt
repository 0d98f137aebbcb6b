-- Counts of what happened, each of 64 bits. Source: this project's own.
use Rattle.std.specs.Prelude.{ℕ, ◌+◌, ◌-◌, ◌^◌, min}
use Rattle.ledgers.specs.declared.cache_totals.CacheTotals.{CacheTotals}
use Rattle.ledgers.specs.declared.cache_totals.How2.{How2}
use Rattle.ledgers.specs.declared.cache_totals.How2.TheVariants.{Hit, Filled, Bypass}

-- a sum, which stops at the greatest number
abbrev pub more : ℕ → ℕ → ℕ
more a b = min (a + b) (2 ^ 64 - 1)

-- two counts are one
abbrev pub sums : CacheTotals → CacheTotals → CacheTotals
sums a b =
    record {
      hit = more a.hit b.hit;
      filled = more a.filled b.filled;
      bypass = more a.bypass b.bypass;
      evicted = more a.evicted b.evicted;
      moved = more a.moved b.moved;
    }

-- what one range counts, with the buffers that were evicted and moved for it
abbrev pub counted : How2 → ℕ → ℕ → CacheTotals
counted Hit evicted moved = record { hit = 1; filled = 0; bypass = 0; evicted = evicted; moved = moved }
counted Filled evicted moved = record { hit = 0; filled = 1; bypass = 0; evicted = evicted; moved = moved }
counted Bypass evicted moved = record { hit = 0; filled = 0; bypass = 1; evicted = evicted; moved = moved }

-- one range more was got
abbrev pub noted : How2 → ℕ → ℕ → CacheTotals → CacheTotals
noted how evicted moved totals = sums totals (counted how evicted moved)
