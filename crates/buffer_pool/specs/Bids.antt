-- A seat without bids.
use Rattle.std.specs.Prelude.{◌≡◌, ℕ}
use Rattle.pool_rule.specs.declared.view.Hold.TheVariants.{Bid}
use Rattle.pool_rule.specs.declared.view.View.{View}
use Rattle.pool_rule.specs.Seats.{mark_at}

-- the seat has no count on a header that holds nothing
abbrev pub HasNoBid : View → Type 0
HasNoBid v = (header : ℕ) → (mark_at v header).hold ≡ Bid → ⊥
