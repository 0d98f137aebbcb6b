-- A call that reads: its plan, and that it followed the plan.
--
-- The plan of a call says what the file's bytes make of it: its answer, and the reads that lead there. Where
-- files are told the call followed it, unless a read failed or memory was refused on the way; told or not,
-- the reader went by some list of reads of the file. Source: this project's own.
use Rattle.std.specs.Prelude.{◌≡◌, ℕ, true, false, List, [], ◌∷◌, ◌++◌, Option, Result, Ok, Err}
use Rattle.outside.specs.declared.file_ref.FileRef.{FileRef}
use Rattle.outside.specs.declared.file_ref.FileRange.{FileRange}
use Rattle.outside.specs.Cause.{Cause}
use Rattle.outside.specs.Files.{Files, HasBytes, range_of}
use Rattle.outside.specs.Reads.{ReadEntry}

-- How a call with an error ended: by a fault that what it read decides, since a read failed, or for want of
-- memory.
pub data Ending : Type 0 where
  decided : Ending
  read_failed : Ending
  refused : Ending

-- What the bytes make of a call: its answer, and the reads that lead there.
pub record Plan (Y E : Type 0) : Type 0 where
  pub answer : Result Y E
  pub reads : List FileRange

-- these reads answered Ok
abbrev pub all_read : List FileRange → List ReadEntry
all_read [] = []
all_read (r ∷ rs) = (record { range = r; ok = true }) ∷ all_read rs

-- the read that failed
abbrev pub failed_read : FileRange → ReadEntry
failed_read r = record { range = r; ok = false }

-- The reads end in the first of the plan's that failed.
pub record StopsAt (planned : List FileRange) (entries : List ReadEntry) : Type 0 where
  pub front : List FileRange
  pub last : FileRange
  pub rest : List FileRange
  pub planned_is : planned ≡ front ++ last ∷ rest
  pub entries_are : entries ≡ all_read front ++ failed_read last ∷ []

-- The reads are a front of the plan's.
pub record Fronts (planned : List FileRange) (entries : List ReadEntry) : Type 0 where
  pub front : List FileRange
  pub rest : List FileRange
  pub planned_is : planned ≡ front ++ rest
  pub entries_are : entries ≡ all_read front

-- The plan was followed to its end.
pub record Ends {Y E : Type 0} (plan : Plan Y E) (answer : Result Y E) (entries : List ReadEntry) : Type 0 where
  pub answer_is : plan.answer ≡ answer
  pub entries_are : entries ≡ all_read plan.reads

-- an error of that ending fits the plan
abbrev pub FitsEnding : {Y E : Type 0} → Ending → Plan Y E → Result Y E → List ReadEntry → Type 0
FitsEnding decided plan answer entries = Ends plan answer entries
FitsEnding read_failed plan answer entries = StopsAt plan.reads entries
FitsEnding refused plan answer entries = Fronts plan.reads entries

-- an answer and reads fit the plan
abbrev pub Fits : {Y E : Type 0} → (E → Ending) → Plan Y E → Result Y E → List ReadEntry → Type 0
Fits ending plan (Ok y) entries = Ends plan (Ok y) entries
Fits ending plan (Err e) entries = FitsEnding (ending e) plan (Err e) entries

-- the answer is an error that ended so
abbrev pub EndedBy : {Y E : Type 0} → (E → Ending) → Ending → Result Y E → Type 0
EndedBy ending how (Ok y) = ⊥
EndedBy ending how (Err e) = ending e ≡ how

-- all are reads of that file
abbrev pub OfFile : FileRef → List ReadEntry → Type 0
OfFile file [] = Unit {0}
OfFile file (e ∷ es) = (e.range.file ≡ file.number) × OfFile file es

-- A call over a reader followed its plan for a file.
pub record Followed {S Y E : Type 0} (went : S → List ReadEntry → S → Type 0) (count : S → ℕ) (told : Option Files)
    (file : FileRef) (ending : E → Ending) (plan : List ℕ → Plan Y E) (before after : S) (answer : Result Y E) : Type 0 where
  pub entries : List ReadEntry
  pub by : went before entries after
  pub own : OfFile file entries
  pub fits : (bytes : List ℕ) → HasBytes told file bytes → Fits ending (plan bytes) answer entries
  pub cause : Cause (count before) (count after) (EndedBy ending read_failed answer)

-- the plan that reads nothing
abbrev pub known : {Y E : Type 0} → Result Y E → Plan Y E
known answer = record { answer = answer; reads = [] }

-- the plan of one read, and what follows from it
abbrev pub reading : {Y E : Type 0} → FileRef → ℕ → ℕ → Plan Y E → Plan Y E
reading file at len next = record { answer = next.answer; reads = range_of file at len ∷ next.reads }

-- a plan with that answer and these reads, and then one that depends on its value
abbrev pub joined : {Y Z E : Type 0} → Result Y E → List FileRange → (Y → Plan Z E) → Plan Z E
joined (Ok y) reads next = record { answer = (next y).answer; reads = reads ++ (next y).reads }
joined (Err e) reads next = record { answer = Err e; reads = reads }

-- a plan, and then one that depends on its value
abbrev pub and_then : {Y Z E : Type 0} → Plan Y E → (Y → Plan Z E) → Plan Z E
and_then first next = joined first.answer first.reads next
