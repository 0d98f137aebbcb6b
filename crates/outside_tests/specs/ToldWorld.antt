-- The told files are few, have distinct names, and hold bytes.
use Rattle.std.proofs.Common.{◌≡◌, ◌≢◌, ◌<◌, ltb, [], ◌∷◌, Some, All, AllPairs, refl, subst, arith}
use Rattle.std.proofs.lemmas.Bool.{ltb-true, false≢true}
use Rattle.std.proofs.lemmas.Option.{same_Some}
use Rattle.std.proofs.lemmas.List.Elements.{All-cons, All-nil}
use Rattle.std.proofs.lemmas.List.Kept.{AllPairs-cons}
use Rattle.std.proofs.lemmas.List.Sums.{AllPass-from_list_all}
use Rattle.std.proofs.lemmas.Slice.Eq.{bytes_eq-Decides}
use Rattle.outside.specs.Files.{File, Files, AreFiles, IsFile}
use Rattle.outside_tests.specs.ToldFiles.{first_file, second_file, told_files}

abbrev Differ : File → File → Type 0
Differ f g = f.0 ≢ g.0

abbrev HoldsBytes : File → Type 0
HoldsBytes f = All (λ b. b < 256) f.1

first_bytes : HoldsBytes first_file
first_bytes k d lt = ltb-true _ _ (AllPass-from_list_all (λ b. ltb b 256) first_file.1 refl k d lt)

second_bytes : HoldsBytes second_file
second_bytes k d lt = ltb-true _ _ (AllPass-from_list_all (λ b. ltb b 256) second_file.1 refl k d lt)

names_differ : Differ first_file second_file
names_differ same = false≢true ((bytes_eq-Decides first_file.0 second_file.0).1 same)

none_differ : AllPairs Differ []
none_differ i j d before below = absurd (omega (arith, below))

files_are_files : AreFiles told_files
files_are_files = record {
  few = omega arith;
  distinct = AllPairs-cons Differ first_file (second_file ∷ [])
      (All-cons (Differ first_file) second_file [] names_differ (All-nil (Differ first_file)))
      (AllPairs-cons Differ second_file [] (All-nil (Differ second_file)) none_differ);
  bytes = All-cons HoldsBytes first_file (second_file ∷ []) first_bytes
      (All-cons HoldsBytes second_file [] second_bytes (All-nil HoldsBytes));
}

pub told_are_files : (told : Files) → Some told_files ≡ Some told → AreFiles told
told_are_files told e = subst (λ (files : Files). AreFiles files) (same_Some told_files told e) files_are_files

pub second_is_file : IsFile (Some told_files) (record { number = 1; len = 4 })
second_is_file told = (second_file.1, record { bytes_are = refl; len_is = refl })
