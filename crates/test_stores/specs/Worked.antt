-- The files of the world that has the worked file alone. Source: Apache ORC specification v1 for the bytes.
use Rattle.std.proofs.Common.{◌≡◌, ◌≢◌, ℕ, ◌<◌, ltb, List, [], ◌∷◌, Some, All, AllPairs, codes, refl, subst, arith}
use Rattle.std.proofs.lemmas.Bool.{ltb-true}
use Rattle.std.proofs.lemmas.Option.{same_Some}
use Rattle.std.proofs.lemmas.List.Elements.{All-cons, All-nil}
use Rattle.std.proofs.lemmas.List.Kept.{AllPairs-cons}
use Rattle.std.proofs.lemmas.List.Sums.{AllPass-from_list_all}
use Rattle.outside.specs.Files.{File, Files, AreFiles}

-- a file of one LONG column `x` in one stripe of 100 rows, each of them -4: the header, the values, the stripe's footer,
-- the footer with the stripe and the types, the postscript and its length
abbrev pub worked_file : List ℕ
worked_file =
    0x4F ∷ 0x52 ∷ 0x43 ∷ 0x61 ∷ 0x00 ∷ 0x07 ∷ 0x0A ∷ 0x06 ∷ 0x08 ∷ 0x01 ∷ 0x10 ∷ 0x01 ∷ 0x18 ∷ 0x03 ∷ 0x12 ∷ 0x02 ∷
    0x08 ∷ 0x00 ∷ 0x12 ∷ 0x02 ∷ 0x08 ∷ 0x00 ∷ 0x1A ∷ 0x0A ∷ 0x08 ∷ 0x03 ∷ 0x10 ∷ 0x00 ∷ 0x18 ∷ 0x03 ∷ 0x20 ∷ 0x10 ∷
    0x28 ∷ 0x64 ∷ 0x22 ∷ 0x08 ∷ 0x08 ∷ 0x0C ∷ 0x12 ∷ 0x01 ∷ 0x01 ∷ 0x1A ∷ 0x01 ∷ 0x78 ∷ 0x22 ∷ 0x02 ∷ 0x08 ∷ 0x04 ∷
    0x30 ∷ 0x64 ∷ 0x08 ∷ 0x1C ∷ 0x10 ∷ 0x00 ∷ 0x22 ∷ 0x02 ∷ 0x00 ∷ 0x0C ∷ 0x28 ∷ 0x00 ∷ 0x82 ∷ 0xF4 ∷ 0x03 ∷ 0x03 ∷
    0x4F ∷ 0x52 ∷ 0x43 ∷ 0x11 ∷ []

abbrev pub worked_files : Files
worked_files = (codes "t.orc", worked_file) ∷ []

bytes_in_range : All (λ b. b < 256) worked_file
bytes_in_range k d lt = ltb-true _ _ (AllPass-from_list_all (λ b. ltb b 256) worked_file refl k d lt)

abbrev Differ : File → File → Type 0
Differ f g = f.0 ≢ g.0

abbrev HoldsBytes : File → Type 0
HoldsBytes f = All (λ b. b < 256) f.1

none_differ : AllPairs Differ []
none_differ i j d before below = absurd (omega (arith, below))

files_are_files : AreFiles worked_files
files_are_files = record {
  few = omega arith;
  distinct = AllPairs-cons Differ (codes "t.orc", worked_file) [] (All-nil (Differ (codes "t.orc", worked_file))) none_differ;
  bytes = All-cons HoldsBytes (codes "t.orc", worked_file) [] bytes_in_range (All-nil HoldsBytes);
}

-- these files are few, have distinct names, and hold bytes
pub told_are_files : (told : Files) → Some worked_files ≡ Some told → AreFiles told
told_are_files told e = subst (λ (files : Files). AreFiles files) (same_Some worked_files told e) files_are_files
