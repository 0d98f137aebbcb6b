-- Streams that are placed one after the other follow each other.
use Rattle.std.proofs.Common.{ℕ, ◌+◌, ◌≤◌, List, [], ◌∷◌, refl, arith}
use Rattle.std.specs.Prelude.{sum_by}
use Rattle.std.proofs.lemmas.List.Sums.{sum_by-cons}
use Rattle.orc_tail.specs.declared.stream.Stream.{Stream}
use Rattle.orc_tail.specs.StripeFooter.{placed, FollowEachOther}

pub placed_follow : (at limit : ℕ) (streams : List Stream) → at + sum_by (λ s. s.len) streams ≤ limit → FollowEachOther at limit (placed at streams)
placed_follow at limit [] h = tt
placed_follow at limit (s ∷ streams) h =
    let e = sum_by-cons (λ (x : Stream). x.len) s streams in
    (refl, omega arith, placed_follow (at + s.len) limit streams (omega arith))
