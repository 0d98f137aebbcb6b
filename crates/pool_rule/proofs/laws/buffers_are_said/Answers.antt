use Rattle.std.proofs.Common.{◌≡◌, ℕ, subst}
use Rattle.std.specs.Prelude.{Option, Some}
use Rattle.pool_model.specs.declared.buffer.Buffer.{Buffer}
use Rattle.pool_model.specs.Buffer.{Holds}
use Rattle.pool_rule.specs.declared.view.Claim.{Claim}
use Rattle.pool_rule.specs.declared.view.Claim.TheVariants.{Unclaimed}
use Rattle.pool_rule.specs.declared.view.Hold.{Hold}
use Rattle.pool_rule.specs.declared.view.Hold.TheVariants.{Free, Bid, Pinned}
use Rattle.pool_rule.specs.Headers.{ClaimFits, HoldFits, MarkFits}
use Rattle.pool_rule.specs.Laws.{IsPin}
use Rattle.pool_rule.specs.Rule.{view_at}
use Rattle.pool_rule.specs.Seats.{mark_at}
use Rattle.pool_rule.proofs.Learn.{if_value}
use Rattle.pool_rule.proofs.laws.buffers_are_said.Goals as goal

held : (seat : ℕ) (b : Buffer) (x : Hold) → HoldFits seat (Some b) x → Holds seat b.holders → IsPin x
held seat b Free fits h = fits h
held seat b Bid fits h = fits h
held seat b (Pinned block key) fits h = tt

pins : (seat : ℕ) (b : Buffer) (x : Hold) → HoldFits seat (Some b) x → IsPin x → Holds seat b.holders
pins seat b Free fits p = absurd p
pins seat b Bid fits p = absurd p
pins seat b (Pinned block key) fits p = fits.0

claims : (seat : ℕ) (b : Buffer) (x : Claim) → ClaimFits seat (Some b) x → b.claimant ≡ Some seat → x ≡ Unclaimed → ⊥
claims seat b x fits own none = let P : Claim → Type 0 = λ c. ClaimFits seat (Some b) c in subst P none fits own

pub returns : goal.returns
returns c files setup words views log pool h header b inside has =
    let here = h.headers header inside in
    let content = if_value _ _ b has here.content in
    let M : Option Buffer → Type 0 = λ o. (seat : ℕ) → MarkFits seat o (mark_at (view_at views seat) header) in
    let marks = subst M has here.each_seat in
    record {
      cells = content.cells;
      key = λ k is. (if_value _ b.key k is content.key_packs, if_value _ b.key k is content.key_is);
      holders = λ seat. (held seat b _ (marks seat).0, pins seat b _ (marks seat).0);
      claimant = λ seat own none. claims seat b _ (marks seat).1 own none;
    }
