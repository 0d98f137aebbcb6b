-- What a run prints: its results, and how the ranges that it read were got. Source: this project's own.
use Rattle.std.specs.Prelude.{ℕ, List, ◌++◌, Option}
use Rattle.outside.specs.declared.file_ref.FileRange.{FileRange}
use Rattle.ledgers.specs.declared.cache_totals.CacheTotals.{CacheTotals}
use Rattle.ledgers.specs.Text.{cache_text}
use Rattle.fragment_plan.specs.declared.fragment.Fragment.{Fragment}
use Rattle.fragment_outcome.specs.declared.outcome.Outcome.{Outcome}
use Rattle.plan_run.specs.Output.{results_text}
use Rattle.scan_inline.specs.Counts.{AreCounted}

-- the results of a plan's fragments, in plan order, and then the line of the cache
abbrev pub run_text : List Fragment → List Outcome → CacheTotals → List ℕ
run_text plan outcomes totals = results_text plan outcomes ++ cache_text totals

-- nothing was counted yet
abbrev pub no_totals : CacheTotals
no_totals = record { hit = 0; filled = 0; bypass = 0; evicted = 0; moved = 0 }

-- The counts of a run, of the store's reads before and after: where the store tells its reads afterwards, fills and bypasses are as many
-- as there are more, unless one of these two counts stands at its last value; and nothing was moved.
abbrev pub AreTotals : Option (List FileRange) → Option (List FileRange) → CacheTotals → Type 0
AreTotals before after totals = AreCounted before after no_totals totals
