-- The reads that a reader went by. Source: this project's own.
use Rattle.std.specs.Prelude.{◌≡◌, ℕ, Bool, true, false, cond, List, [], ◌∷◌, ◌++◌, Option, Result, is_ok, refl}
use Rattle.std.proofs.Common.{ap, subst, sym}
use Rattle.outside.specs.declared.file_ref.FileRef.{FileRef}
use Rattle.outside.specs.declared.file_ref.FileRange.{FileRange}
use Rattle.outside.specs.Files.{range_of}
use Rattle.outside.specs.Told.{Extended, Extended-then}

-- A read: its range, and whether it answered Ok.
pub record ReadEntry : Type 0 where
  pub range : FileRange
  pub ok : Bool

-- a read of that range that answered so
abbrev pub read_entry : {T E : Type 0} → FileRef → ℕ → ℕ → Result T E → ReadEntry
read_entry file at len result = record { range = range_of file at len; ok = is_ok result }

-- the ranges of the reads that answered Ok
abbrev pub ranges_read : List ReadEntry → List FileRange
ranges_read [] = []
ranges_read (e ∷ es) = cond e.ok (e.range ∷ ranges_read es) (ranges_read es)

pub ranges_read-append : (front back : List ReadEntry) → ranges_read (front ++ back) ≡ ranges_read front ++ ranges_read back
ranges_read-append [] back = refl
ranges_read-append (e ∷ es) back =
    elim e.ok as (λ ok. cond ok (e.range ∷ ranges_read (es ++ back)) (ranges_read (es ++ back))
    ≡ cond ok (e.range ∷ ranges_read es) (ranges_read es) ++ ranges_read back) [
      | true ↦ ap (λ (xs : List FileRange). e.range ∷ xs) (ranges_read-append es back)
      | false ↦ ranges_read-append es back
    ]

-- a log that grew by some reads, and then by others
pub read_on : (first between last : Option (List FileRange)) (front back : List ReadEntry)
    → Extended first between (ranges_read front) → Extended between last (ranges_read back)
    → Extended first last (ranges_read (front ++ back))
read_on first between last front back p q =
    subst (λ (xs : List FileRange). Extended first last xs) (sym (ranges_read-append front back))
    (Extended-then first between last (ranges_read front) (ranges_read back) p q)
