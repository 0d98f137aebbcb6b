-- Laws of causes: over several calls. Source: this project's own.
use Rattle.std.proofs.Common.{ℕ, ◌≤◌, inl, inr, arith}
use Rattle.outside.specs.Cause.{Cause, Rose}

-- what rose in a part rose in the whole
pub Rose-within : (first before after last : ℕ) → first ≤ before → Rose before after → after ≤ last → Rose first last
Rose-within first before after last h (inl rose) k = inl (omega arith)
Rose-within first before after last h (inr stands) k = inr (omega arith)

-- nothing was done
pub Cause-none : (count : ℕ) {Fails : Type 0} → (Fails → ⊥) → Cause count count Fails
Cause-none count none = record { later = omega arith; failed = λ fails. absurd (none fails) }

-- a call that didn't fail, and then another
pub Cause-then : {Fails Fails' : Type 0} (before between after : ℕ) → Cause before between Fails'
    → Cause between after Fails → Cause before after Fails
Cause-then before between after first second = record {
  later = omega (arith, first.later, second.later);
  failed = λ fails. Rose-within before between after after first.later (second.failed fails) (omega arith);
}
