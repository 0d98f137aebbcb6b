-- What a reader that opens each stream by reading it whole has read. Source: this project's own.
use Rattle.std.specs.Prelude.{◌≡◌, true, false, cond, List, [], ◌∷◌, ◌++◌, Option, refl}
use Rattle.std.proofs.Common.{ap, subst, sym}
use Rattle.outside.specs.declared.file_ref.FileRange.{FileRange}
use Rattle.outside.specs.Feed.{Taken}
use Rattle.outside.specs.Reads.{ReadEntry, ranges_read}
use Rattle.outside.specs.Told.{Extended, Extended-none, Extended-then}
use Rattle.orc_streams.specs.Acts.{Act, reads, opens, takes, closes, read_acts, take_acts}

-- the ranges of the reads that answered Ok, and of the openings, in their order
abbrev pub ranges_in : List Act → List FileRange
ranges_in [] = []
ranges_in (reads e ∷ acts) = cond e.ok (e.range ∷ ranges_in acts) (ranges_in acts)
ranges_in (opens stream range ∷ acts) = range ∷ ranges_in acts
ranges_in (takes t ∷ acts) = ranges_in acts
ranges_in (closes ∷ acts) = ranges_in acts

ranges_in-append : (front back : List Act) → ranges_in (front ++ back) ≡ ranges_in front ++ ranges_in back
ranges_in-append [] back = refl
ranges_in-append (reads e ∷ acts) back =
    elim e.ok as (λ ok. cond ok (e.range ∷ ranges_in (acts ++ back)) (ranges_in (acts ++ back))
    ≡ cond ok (e.range ∷ ranges_in acts) (ranges_in acts) ++ ranges_in back) [
      | true ↦ ap (λ (rs : List FileRange). e.range ∷ rs) (ranges_in-append acts back)
      | false ↦ ranges_in-append acts back
    ]
ranges_in-append (opens stream range ∷ acts) back = ap (λ (rs : List FileRange). range ∷ rs) (ranges_in-append acts back)
ranges_in-append (takes t ∷ acts) back = ranges_in-append acts back
ranges_in-append (closes ∷ acts) back = ranges_in-append acts back

ranges_in-reads : (es : List ReadEntry) → ranges_in (read_acts es) ≡ ranges_read es
ranges_in-reads [] = refl
ranges_in-reads (e ∷ es) =
    elim e.ok as (λ ok. cond ok (e.range ∷ ranges_in (read_acts es)) (ranges_in (read_acts es))
    ≡ cond ok (e.range ∷ ranges_read es) (ranges_read es)) [
      | true ↦ ap (λ (rs : List FileRange). e.range ∷ rs) (ranges_in-reads es)
      | false ↦ ranges_in-reads es
    ]

ranges_in-takes : (ts : List Taken) → ranges_in (take_acts ts) ≡ []
ranges_in-takes [] = refl
ranges_in-takes (t ∷ ts) = ranges_in-takes ts

-- a log that grew by the ranges of some acts, and then by those of others
pub ranges_on : (first between last : Option (List FileRange)) (front back : List Act)
    → Extended first between (ranges_in front) → Extended between last (ranges_in back) → Extended first last (ranges_in (front ++ back))
ranges_on first between last front back p q =
    subst (λ (rs : List FileRange). Extended first last rs) (sym (ranges_in-append front back))
    (Extended-then first between last (ranges_in front) (ranges_in back) p q)

-- by the ranges of reads
pub ranges_of_reads : (first last : Option (List FileRange)) (entries : List ReadEntry) → Extended first last (ranges_read entries)
    → Extended first last (ranges_in (read_acts entries))
ranges_of_reads first last entries p = subst (λ (rs : List FileRange). Extended first last rs) (sym (ranges_in-reads entries)) p

-- by none, since takes read nothing
pub ranges_of_takes : {S : Type 0} (log : S → Option (List FileRange)) (first last : S) (ts : List Taken) → last ≡ first
    → Extended (log first) (log last) (ranges_in (take_acts ts))
ranges_of_takes {S} log first last ts same =
    subst (λ (rs : List FileRange). Extended (log first) (log last) rs) (sym (ranges_in-takes ts))
    (subst (λ (s : S). Extended (log first) (log s) []) (sym same) (Extended-none (log first)))
