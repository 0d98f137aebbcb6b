-- Stripes of which a test says that they end in the file do so.
use Rattle.std.proofs.Common.{◌≡◌, ℕ, ◌≤◌, true, List, nat_le}
use Rattle.std.specs.Prelude.{All}
use Rattle.std.proofs.lemmas.Bool.{leb-true}
use Rattle.std.proofs.lemmas.List.Sums.{AllPass-from_list_all}
use Rattle.orc_tail.specs.declared.stripe.Stripe.{Stripe}
use Rattle.orc_tail.specs.Tail.{stripe_end, stripes_end_by}

pub stripes_end : (len : ℕ) (stripes : List Stripe) → stripes_end_by len stripes ≡ true → All (λ s. stripe_end s ≤ len) stripes
stripes_end len stripes h k d lt = leb-true _ _ (AllPass-from_list_all (λ s. nat_le (stripe_end s) len) stripes h k d lt)
