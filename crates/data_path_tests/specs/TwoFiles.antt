-- The files of the world of two files, each of one LONG column `x` in one stripe of 100 rows. Source: Apache ORC specification v1 for
-- the bytes.
use Rattle.std.proofs.Common.{◌≡◌, ◌≢◌, ℕ, ◌<◌, ltb, List, [], ◌∷◌, Some, All, AllPairs, codes, get_or, ap, refl, subst, arith}
use Rattle.std.proofs.lemmas.Bool.{ltb-true}
use Rattle.std.proofs.lemmas.Option.{same_Some}
use Rattle.std.proofs.lemmas.List.Elements.{All-cons, All-nil}
use Rattle.std.proofs.lemmas.List.Kept.{AllPairs-cons}
use Rattle.std.proofs.lemmas.List.Sums.{AllPass-from_list_all}
use Rattle.outside.specs.Files.{File, Files, AreFiles}

-- 100 rows of -4: the header, the values, the stripe's footer, the footer with the stripe and the types, the postscript and its
-- length
abbrev pub falling_file : List ℕ
falling_file =
    0x4F ∷ 0x52 ∷ 0x43 ∷ 0x61 ∷ 0x00 ∷ 0x07 ∷ 0x0A ∷ 0x06 ∷ 0x08 ∷ 0x01 ∷ 0x10 ∷ 0x01 ∷ 0x18 ∷ 0x03 ∷ 0x12 ∷ 0x02 ∷
    0x08 ∷ 0x00 ∷ 0x12 ∷ 0x02 ∷ 0x08 ∷ 0x00 ∷ 0x1A ∷ 0x0A ∷ 0x08 ∷ 0x03 ∷ 0x10 ∷ 0x00 ∷ 0x18 ∷ 0x03 ∷ 0x20 ∷ 0x10 ∷
    0x28 ∷ 0x64 ∷ 0x22 ∷ 0x08 ∷ 0x08 ∷ 0x0C ∷ 0x12 ∷ 0x01 ∷ 0x01 ∷ 0x1A ∷ 0x01 ∷ 0x78 ∷ 0x22 ∷ 0x02 ∷ 0x08 ∷ 0x04 ∷
    0x30 ∷ 0x64 ∷ 0x08 ∷ 0x1C ∷ 0x10 ∷ 0x00 ∷ 0x22 ∷ 0x02 ∷ 0x00 ∷ 0x0C ∷ 0x28 ∷ 0x00 ∷ 0x82 ∷ 0xF4 ∷ 0x03 ∷ 0x03 ∷
    0x4F ∷ 0x52 ∷ 0x43 ∷ 0x11 ∷ []

-- 100 rows from 50 down to -49
abbrev pub stepping_file : List ℕ
stepping_file =
    0x4F ∷ 0x52 ∷ 0x43 ∷ 0x61 ∷ 0xFF ∷ 0x64 ∷ 0x0A ∷ 0x06 ∷ 0x08 ∷ 0x01 ∷ 0x10 ∷ 0x01 ∷ 0x18 ∷ 0x03 ∷ 0x12 ∷ 0x02 ∷
    0x08 ∷ 0x00 ∷ 0x12 ∷ 0x02 ∷ 0x08 ∷ 0x00 ∷ 0x1A ∷ 0x0A ∷ 0x08 ∷ 0x03 ∷ 0x10 ∷ 0x00 ∷ 0x18 ∷ 0x03 ∷ 0x20 ∷ 0x10 ∷
    0x28 ∷ 0x64 ∷ 0x22 ∷ 0x08 ∷ 0x08 ∷ 0x0C ∷ 0x12 ∷ 0x01 ∷ 0x01 ∷ 0x1A ∷ 0x01 ∷ 0x78 ∷ 0x22 ∷ 0x02 ∷ 0x08 ∷ 0x04 ∷
    0x30 ∷ 0x64 ∷ 0x08 ∷ 0x1C ∷ 0x10 ∷ 0x00 ∷ 0x22 ∷ 0x02 ∷ 0x00 ∷ 0x0C ∷ 0x28 ∷ 0x00 ∷ 0x82 ∷ 0xF4 ∷ 0x03 ∷ 0x03 ∷
    0x4F ∷ 0x52 ∷ 0x43 ∷ 0x11 ∷ []

abbrev pub two_files : Files
two_files = (codes "a.orc", falling_file) ∷ (codes "b.orc", stepping_file) ∷ []

none_pairs : AllPairs (λ (f g : File). f.0 ≢ g.0) []
none_pairs i j d before below = absurd (omega (arith, below))

falling_in_range : All (λ b. b < 256) falling_file
falling_in_range k d lt = ltb-true _ _ (AllPass-from_list_all (λ b. ltb b 256) falling_file refl k d lt)

stepping_in_range : All (λ b. b < 256) stepping_file
stepping_in_range k d lt = ltb-true _ _ (AllPass-from_list_all (λ b. ltb b 256) stepping_file refl k d lt)

names_differ : codes "a.orc" ≢ codes "b.orc"
names_differ e = let first : 97 ≡ 98 = ap (λ (name : List ℕ). get_or name 0 0) e in omega (arith, first)

two_are_files : AreFiles two_files
two_are_files = record {
  few = omega arith;
  distinct = AllPairs-cons (λ (f g : File). f.0 ≢ g.0) (codes "a.orc", falling_file) ((codes "b.orc", stepping_file) ∷ [])
      (All-cons (λ (g : File). codes "a.orc" ≢ g.0) (codes "b.orc", stepping_file) [] names_differ
      (All-nil (λ (g : File). codes "a.orc" ≢ g.0)))
      (AllPairs-cons (λ (f g : File). f.0 ≢ g.0) (codes "b.orc", stepping_file) []
      (All-nil (λ (g : File). codes "b.orc" ≢ g.0)) none_pairs);
  bytes = All-cons (λ (f : File). All (λ b. b < 256) f.1) (codes "a.orc", falling_file)
      ((codes "b.orc", stepping_file) ∷ []) falling_in_range
      (All-cons (λ (f : File). All (λ b. b < 256) f.1) (codes "b.orc", stepping_file) [] stepping_in_range
      (All-nil (λ (f : File). All (λ b. b < 256) f.1)));
}

-- these files are few, have distinct names, and hold bytes
pub told_are_two : (told : Files) → Some two_files ≡ Some told → AreFiles told
told_are_two told e = subst (λ (files : Files). AreFiles files) (same_Some two_files told e) two_are_files
