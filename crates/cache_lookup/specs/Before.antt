-- What a seat has, beside what it had before a call.
use Rattle.std.specs.Prelude.{◌≡◌, ◌≢◌, ℕ, None, IsSomeAnd}
use Rattle.pool_model.specs.declared.buffer.BufferKey.{BufferKey}
use Rattle.pool_rule.specs.declared.view.Claim.{Claim}
use Rattle.pool_rule.specs.declared.view.Claim.TheVariants.{Unclaimed, Fresh, Gone, Carried}
use Rattle.pool_rule.specs.declared.view.Hold.{Hold}
use Rattle.pool_rule.specs.declared.view.Hold.TheVariants.{Free, Bid, Pinned}
use Rattle.pool_rule.specs.declared.view.View.{View}
use Rattle.pool_rule.specs.Seats.{granted_at, mark_at}

-- a claim without the key of a buffer that moves, which a load may tell
abbrev pub bare : Claim → Claim
bare Unclaimed = Unclaimed
bare (Fresh b key done) = Fresh b key done
bare (Gone b) = Gone b
bare (Carried b target key done next) = Carried b target None done next

-- the claims are those that the seat had, but that the key of one on a buffer that moves may have become known
abbrev pub SameClaims : View → View → Type 0
SameClaims start v = (header : ℕ) → bare (mark_at v header).claim ≡ bare (mark_at start header).claim

-- the granted blocks are those that it had
abbrev pub SameGrants : View → View → Type 0
SameGrants start v = (place : ℕ) → granted_at v place ≡ granted_at start place

-- and the pins
abbrev pub SameHolds : View → View → Type 0
SameHolds start v = (header : ℕ) → (mark_at v header).hold ≡ (mark_at start header).hold

-- the seat has what it had
pub record IsAsBefore (start v : View) : Type 0 where
  pub claims : SameClaims start v
  pub grants : SameGrants start v
  pub holds : SameHolds start v

-- the seat has a hold more, on a header on which it had none, and beside it what it had
pub record HasHoldMore (start v : View) (header : ℕ) : Type 0 where
  pub claims : SameClaims start v
  pub grants : SameGrants start v
  pub others : (other : ℕ) → other ≢ header → (mark_at v other).hold ≡ (mark_at start other).hold
  pub was : (mark_at start header).hold ≡ Free

-- no pin of that key: each pin's key is known, and is another
abbrev pub IsNoPinOf : BufferKey → Hold → Type 0
IsNoPinOf key Free = Unit {0}
IsNoPinOf key Bid = Unit {0}
IsNoPinOf key (Pinned b known) = IsSomeAnd known (λ k. k ≢ key)

-- the seat has no pin of the key
abbrev pub HasNoPinOf : BufferKey → View → Type 0
HasNoPinOf key v = (header : ℕ) → IsNoPinOf key (mark_at v header).hold
