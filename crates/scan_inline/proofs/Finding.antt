-- The file of a name, where files are told.
use Rattle.std.specs.Prelude.{slice_get, length, cond, option_map, IfOk, Result, Ok, Err}
use Rattle.outside.specs.declared.failed.NoMemory.{NoMemory}
use Rattle.std.proofs.Common.{◌≡◌, ℕ, ◌+◌, Bool, true, false, List, [], ◌∷◌, Option, Some, None, refl, sym, ◌∙◌, ap, subst, arith, add-one}
use Rattle.std.specs.Str.{bytes_eq}
use Rattle.outside.specs.declared.file_ref.FileRef.{FileRef}
use Rattle.outside.specs.Files.{File, Files, found_from, file_named, bytes_of, HasBytes, IsFile}
use Rattle.fragment_plan.specs.declared.fragment.Scan.{Scan}
use Rattle.fragment_outcome.specs.declared.outcome.Outcome.{Outcome}
use Rattle.fragment_outcome.specs.declared.failure.Failure.TheVariants as failure
use Rattle.fragment_meaning.specs.ScanOutcome.{failed, IsOutcomeOn, ScanMeans, bytes_at}
use Rattle.fragment_scan.specs.Scanned.{IfDecided}

some_is : {A : Type 0} {x y : A} → Some x ≡ Some y → x ≡ y
some_is p = cc

-- where a file that was found stands in the list
record StandsAt (number : ℕ) (files : Files) (file : FileRef) : Type 0 where
  place : ℕ
  name : List ℕ
  bytes : List ℕ
  number_is : file.number ≡ number + place
  entry_is : slice_get files place ≡ Some (name, bytes)
  len_is : file.len ≡ length bytes

next_entry : (f : File) (fs : Files) (place : ℕ) (entry : Option File) → slice_get fs place ≡ entry → slice_get (f ∷ fs) (place + 1) ≡ entry
next_entry f fs place entry is = rw add-one is

stands_at : (number : ℕ) (name : List ℕ) (files : Files) (file : FileRef) → found_from number name files ≡ Some file → StandsAt number files file
stands_at number name [] file is = absurd (cc)
stands_at number name (f ∷ fs) file is = by_test (bytes_eq f.0 name) number name f fs file is (λ e. stands_at (number + 1) name fs file e)
  where
    by_test : (here : Bool) (number : ℕ) (name : List ℕ) (f : File) (fs : Files) (file : FileRef)
        → cond here (Some (record { number = number; len = length f.1 })) (found_from (number + 1) name fs) ≡ Some file
        → (found_from (number + 1) name fs ≡ Some file → StandsAt (number + 1) fs file) → StandsAt number (f ∷ fs) file
    by_test true number name f fs file is further =
        let same : record { number = number; len = length f.1 } ≡ file = some_is is in
        record {
          place = 0;
          name = f.0;
          bytes = f.1;
          number_is = sym (ap (λ (x : FileRef). x.number) same) ∙ omega arith;
          entry_is = refl;
          len_is = sym (ap (λ (x : FileRef). x.len) same);
        }
    by_test false number name f fs file is further =
        let s = further is in
        record {
          place = s.place + 1;
          name = s.name;
          bytes = s.bytes;
          number_is = s.number_is ∙ omega arith;
          entry_is = next_entry f fs s.place (Some (s.name, s.bytes)) s.entry_is;
          len_is = s.len_is;
        }

placed_at : (files : Files) (file : FileRef) (s : StandsAt 0 files file) → bytes_of (Some files) file.number ≡ Some s.bytes
placed_at files file s =
    let number : file.number ≡ s.place = s.number_is ∙ omega arith in
    ap (λ (n : ℕ). bytes_of (Some files) n) number ∙ ap (λ (e : Option File). option_map (λ (f : File). f.1) e) s.entry_is

-- a file that was found has its bytes
found_has_bytes : (name : List ℕ) (files : Files) (file : FileRef) → file_named name files ≡ Some file → (bytes : List ℕ) × HasBytes (Some files) file bytes
found_has_bytes name files file is =
    let s = stands_at 0 name files file is in
    (s.bytes, record { bytes_are = placed_at files file s; len_is = s.len_is })

-- so it is a file, where files are told
pub found_is_file : (told : Option Files) (name : List ℕ) (file : FileRef) → ((files : Files) → told ≡ Some files → Some file ≡ file_named name files) → IsFile told file
found_is_file None name file is told = absurd (cc)
found_is_file (Some files) name file is told = found_has_bytes name files file (sym (is files refl))

-- so what a scan means is its outcome on the file's bytes
means_there : (files : Files) (scan : Scan) (file : FileRef) (bytes : List ℕ) (o : Outcome) → Some file ≡ file_named scan.file files → HasBytes (Some files) file bytes
    → IsOutcomeOn scan (Some bytes) o → ScanMeans files scan o
means_there files scan file bytes o named has is =
    subst (λ (b : Option (List ℕ)). IsOutcomeOn scan b o) (sym (ap (λ (f : Option FileRef). bytes_at files f) (sym named) ∙ has.bytes_are)) is

pub same_scan : (o : Option Scan) (a b : Scan) → o ≡ Some a → o ≡ Some b → a ≡ b
same_scan o a b is also = some_is (sym is ∙ also)

-- an outcome of a file that was found is what the scan means
pub scanned_means : (files : Option Files) (at : Option Scan) (here : Scan) (file : FileRef) (answer : Result Outcome NoMemory) → at ≡ Some here
    → ((told : Files) → files ≡ Some told → Some file ≡ file_named here.file told)
    → ((scan : Scan) → at ≡ Some scan → (bytes : List ℕ) → HasBytes files file bytes → IfDecided answer (IsOutcomeOn scan (Some bytes)))
    → IfOk answer (λ o. (told : Files) (scan : Scan) → files ≡ Some told → at ≡ Some scan → (o ≡ failed failure.ReadFault → ⊥) → ScanMeans told scan o)
scanned_means files at here file (Err refused) is named means = tt
scanned_means files at here file (Ok o) is named means = λ told scan are scan_is no_fault.
    let found = subst (λ (s : Scan). Some file ≡ file_named s.file told) (same_scan at here scan is scan_is) (named told are) in
    let there = found_has_bytes scan.file told file (sym found) in
    let has = subst (λ (w : Option Files). HasBytes w file there.0) (sym are) there.1 in
    means_there told scan file there.0 o found there.1 (means scan scan_is there.0 has no_fault)
