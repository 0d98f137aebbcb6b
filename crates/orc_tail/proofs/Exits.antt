-- The exits of a call that reads: after a range, and at what its bytes decide.
use Rattle.std.proofs.Common.{◌≡◌, ℕ, ◌+◌, ◌≤◌, true, List, [], ◌∷◌, Option, Result, Ok, Err, refl, sym, ◌∙◌, ap, subst, inl, inr, ◌⊎◌}
use Rattle.std.specs.Prelude.{slice_range}
use Rattle.outside.specs.declared.failed.Failed.{Failed}
use Rattle.outside.specs.declared.file_ref.FileRef.{FileRef}
use Rattle.outside.specs.Cause.{Rose}
use Rattle.outside.specs.Files.{Files, HasBytes, range_of}
use Rattle.outside.specs.Reads.{ReadEntry}
use Rattle.outside.specs.Followed.{decided, read_failed, refused, failed_read, Followed, known}
use Rattle.outside.specs.FollowedLaws.{Followed-known, Followed-refused, Followed-same, Followed-read, Followed-read_failed}
use Rattle.orc_tail.specs.declared.fault.TailFault.{TailFault}
use Rattle.orc_tail.specs.declared.fault.TailFault.TheVariants as fault
use Rattle.orc_tail.specs.Reading.{Gives, Fails}
use Rattle.orc_tail.specs.Reads.{ending, range_plan}
use Rattle.orc_tail.proofs.Decided.{IsDecided}

-- an error of a call that may take memory
fails_cases : {Y : Type 0} (e : TailFault) (read : Result Y TailFault) → Fails e read → (ending e ≡ refused) ⊎ (read ≡ Err e)
fails_cases fault.NoMemory read h = inl refl
fails_cases fault.TooShort read h = inr h
fails_cases fault.NotOrc read h = inr h
fails_cases (fault.Compressed k) read h = inr h
fails_cases (fault.Wire w) read h = inr h
fails_cases fault.OutOfFile read h = inr h
fails_cases fault.BadTypes read h = inr h
fails_cases fault.TooLarge read h = inr h
fails_cases fault.RootPresent read h = inr h
fails_cases fault.StreamOutOfStripe read h = inr h
fails_cases (fault.Read f) read h = inr h

not_read : (e : TailFault) → ending e ≡ decided → ending e ≡ read_failed → ⊥
not_read e p q = let apart : decided ≡ read_failed = sym p ∙ q in cc

-- what was read decides the answer, and nothing more is read
pub exact_exit : {S Y : Type 0} (went : S → List ReadEntry → S → Type 0) (count : S → ℕ) (told : Option Files) (file : FileRef) (s : S) (answer : Result Y TailFault)
    → went s [] s → IsDecided answer → Followed went count told file ending (λ _. known answer) s s answer
exact_exit went count told file s (Ok y) nowhere is_decided = Followed-known went count told file ending s (Ok y) nowhere (λ none. none)
exact_exit went count told file s (Err e) nowhere is_decided = Followed-known went count told file ending s (Err e) nowhere (not_read e (is_decided.by e refl))

-- the same, of a call that may take memory
pub given_exit : {S Y : Type 0} (went : S → List ReadEntry → S → Type 0) (count : S → ℕ) (told : Option Files) (file : FileRef) (s : S) (read answer : Result Y TailFault)
    → went s [] s → IsDecided read → Gives (λ y. y) answer read → Followed went count told file ending (λ _. known read) s s answer
given_exit went count told file s read (Ok y) nowhere is_decided given =
    subst (λ r. Followed went count told file ending (λ _. known r) s s (Ok y)) (sym given) (Followed-known went count told file ending s (Ok y) nowhere (λ none. none))
given_exit {Y = Y} went count told file s read (Err e) nowhere is_decided given =
    elim (fails_cases e read given) [
      | inl is_refused ↦ Followed-refused went count told file ending (λ _. known read) s e nowhere is_refused
      | inr same ↦ subst (λ r. Followed went count told file ending (λ _. known r) s s (Err e)) (sym same) (exact_exit went count told file s (Err e) nowhere (subst (λ (r : Result Y TailFault). IsDecided r) same is_decided))
    ]

-- memory for a range was refused
pub range_refused : {S : Type 0} (went : S → List ReadEntry → S → Type 0) (count : S → ℕ) (told : Option Files) (file : FileRef) (at len : ℕ) (s : S)
    → went s [] s → Followed went count told file ending (range_plan file at len) s s (Err fault.NoMemory)
range_refused went count told file at len s nowhere = Followed-refused went count told file ending (range_plan file at len) s fault.NoMemory nowhere refl

-- the read of a range failed
pub range_failed : {S : Type 0} (went : S → List ReadEntry → S → Type 0) (count : S → ℕ) (told : Option Files) (file : FileRef) (at len : ℕ) (before after : S) (failed : Failed)
    → went before (failed_read (range_of file at len) ∷ []) after → count before ≤ count after → Rose (count before) (count after)
    → Followed went count told file ending (range_plan file at len) before after (Err (fault.Read failed))
range_failed went count told file at len before after failed by later rose =
    Followed-read_failed went count told file ending at len (λ bytes. known (Ok (slice_range bytes at (at + len)))) before after (fault.Read failed) by refl later rose

-- a range was read
pub range_read : {S : Type 0} (went : S → List ReadEntry → S → Type 0) (count : S → ℕ) (told : Option Files) (file : FileRef) (at len : ℕ) (before after : S) (into : List ℕ)
    → went after [] after → ((rest : List ReadEntry) → went after rest after → went before ((record { range = range_of file at len; ok = true }) ∷ rest) after)
    → count before ≤ count after → ((bytes : List ℕ) → HasBytes told file bytes → into ≡ slice_range bytes at (at + len))
    → Followed went count told file ending (range_plan file at len) before after (Ok into)
range_read went count told file at len before after into nowhere then later bytes_are =
    Followed-read went count told file ending at len (λ bytes. known (Ok (slice_range bytes at (at + len)))) before after after (Ok into) then later
    (Followed-same (λ _. known (Ok into)) (λ bytes. known (Ok (slice_range bytes at (at + len)))) (λ bytes has. ap (λ (xs : List ℕ). known (Ok xs)) (bytes_are bytes has))
    (Followed-known went count told file ending after (Ok into) nowhere (λ none. none)))
