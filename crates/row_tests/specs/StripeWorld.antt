-- The file of the tests of direct reads. Source: this project's own.
use Rattle.std.proofs.Common.{◌≡◌, ◌≢◌, ◌<◌, ltb, [], ◌∷◌, Some, All, AllPairs, codes, refl, subst, arith}
use Rattle.std.proofs.lemmas.Bool.{ltb-true}
use Rattle.std.proofs.lemmas.Option.{same_Some}
use Rattle.std.proofs.lemmas.List.Elements.{All-cons, All-nil}
use Rattle.std.proofs.lemmas.List.Kept.{AllPairs-cons}
use Rattle.std.proofs.lemmas.List.Sums.{AllPass-from_list_all}
use Rattle.outside.specs.Files.{File, Files, AreFiles}
use Rattle.orc_streams.specs.Readable.{IsReadable}

abbrev pub stripe_file : File
stripe_file = (codes "s", 1 ∷ 2 ∷ 3 ∷ 4 ∷ 5 ∷ 6 ∷ 7 ∷ 8 ∷ [])

abbrev pub stripe_files : Files
stripe_files = stripe_file ∷ []

abbrev Differ : File → File → Type 0
Differ f g = f.0 ≢ g.0

abbrev HoldsBytes : File → Type 0
HoldsBytes f = All (λ b. b < 256) f.1

holds_bytes : HoldsBytes stripe_file
holds_bytes k d lt = ltb-true _ _ (AllPass-from_list_all (λ b. ltb b 256) stripe_file.1 refl k d lt)

none_differ : AllPairs Differ []
none_differ i j d before below = absurd (omega (arith, below))

are_files : AreFiles stripe_files
are_files = record {
  few = omega arith;
  distinct = AllPairs-cons Differ stripe_file [] (All-nil (Differ stripe_file)) none_differ;
  bytes = All-cons HoldsBytes stripe_file [] holds_bytes (All-nil HoldsBytes);
}

-- these files are few, have distinct names, and hold bytes
pub told_are_files : (told : Files) → Some stripe_files ≡ Some told → AreFiles told
told_are_files told e = subst (λ (files : Files). AreFiles files) (same_Some stripe_files told e) are_files

-- the file is one of them, and may be read
pub is_readable : IsReadable (Some stripe_files) (record { number = 0; len = 8 })
is_readable = record {
  number = omega arith;
  len = omega arith;
  is_file = λ told. (stripe_file.1, record { bytes_are = refl; len_is = refl });
}
