-- How the counts of how ranges were got grow over a scan. Source: this project's own.
use Rattle.std.specs.Prelude.{◌≡◌, ◌≤◌, List, length, Option}
use Rattle.outside.specs.declared.file_ref.FileRange.{FileRange}
use Rattle.outside.specs.Told.{Extended}
use Rattle.ledgers.specs.declared.cache_totals.CacheTotals.{CacheTotals}
use Rattle.held_ranges.specs.Counts.{GrewBy, last}

-- these counts fit 64 bits
pub record HaveFit (totals : CacheTotals) : Type 0 where
  pub hit : totals.hit ≤ last
  pub filled : totals.filled ≤ last
  pub bypass : totals.bypass ≤ last
  pub evicted : totals.evicted ≤ last
  pub moved : totals.moved ≤ last

-- No count fell, and nothing was moved. Where the store tells its reads afterwards, it told them before, and has these ranges more; and
-- fills and bypasses grew by their number, or one of these two counts stands at its end.
pub record AreCounted (before after : Option (List FileRange)) (old new : CacheTotals) : Type 0 where
  pub hit : old.hit ≤ new.hit
  pub filled : old.filled ≤ new.filled
  pub bypass : old.bypass ≤ new.bypass
  pub evicted : old.evicted ≤ new.evicted
  pub moved : new.moved ≡ old.moved
  pub fit : HaveFit new
  pub items : List FileRange
  pub gained : Extended before after items
  pub grew : GrewBy old new (length items)
