-- A text that is written in two parts, and a count of faults that rises on the way.
use Rattle.std.proofs.Common.{ℕ, ◌+◌, ◌≤◌, List, length, Option, sym, subst, inl, inr, arith}
use Rattle.std.specs.Prelude.{◌++◌, take}
use Rattle.std.proofs.lemmas.List.{length-append, take-append-le}
use Rattle.std.proofs.Math.Seq.{take-append-add}
use Rattle.outside.specs.Cause.{Rose}
use Rattle.outside.specs.Told.{Extended, Extended-then}
use Rattle.data_path.specs.declared.status.Status.{Status}
use Rattle.data_path.specs.declared.status.Status.TheVariants.{WriteFault}
use Rattle.data_path.specs.Steps.{Written}
use Rattle.data_path.specs.Steps.Written.{whole, failed}

pub rose_later : (f g h : ℕ) → f ≤ g → Rose g h → Rose f h
rose_later f g h le rose =
    elim rose [
      | inl more ↦ inl (omega (arith, le, more))
      | inr full ↦ inr full
    ]

module _ (first second : List ℕ) (status : Status) where
  pub both_written : (before between after : Option (List ℕ)) (f g : ℕ) → Extended before between first → Extended between after second
      → Written before after f g (first ++ second) status status
  both_written before between after f g p q = whole (Extended-then before between after first second p q)

  -- the first part failed
  pub first_failed : (before after : Option (List ℕ)) (f g n : ℕ) → n ≤ length first → Extended before after (take n first) → Rose f g
      → Written before after f g (first ++ second) status WriteFault
  first_failed before after f g n within p rose =
      let len = length-append first second in
      failed n (omega (arith, within, len)) (subst (λ (t : List ℕ). Extended before after t) (sym (take-append-le n first second within)) p) rose

  -- the first was written, and the second failed
  pub second_failed : (before between after : Option (List ℕ)) (f g n : ℕ) → Extended before between first → n ≤ length second
      → Extended between after (take n second) → Rose f g → Written before after f g (first ++ second) status WriteFault
  second_failed before between after f g n p within q rose =
      let len = length-append first second in
      failed (length first + n) (omega (arith, within, len))
      (subst (λ (t : List ℕ). Extended before after t) (sym (take-append-add first second n)) (Extended-then before between after first (take n second) p q)) rose
