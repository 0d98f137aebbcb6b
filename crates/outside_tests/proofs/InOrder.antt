-- The two names stand in their order.
use Rattle.std.proofs.Common.{[], ◌∷◌, AllPairs, codes, refl, arith}
use Rattle.std.proofs.lemmas.List.Elements.{All-cons, All-nil}
use Rattle.std.proofs.lemmas.List.Kept.{AllPairs-cons}
use Rattle.outside.specs.Folder.{AreNames, Before}
use Rattle.outside_tests.specs.TwoNames.{two_names}

no_pairs : AllPairs Before []
no_pairs i j d before below = absurd (omega (arith, below))

pub two_in_order : AreNames two_names
two_in_order = record {
  few = omega arith;
  ordered = AllPairs-cons Before (codes "folder_a.orc") (codes "folder_b.orc" ∷ [])
      (All-cons (Before (codes "folder_a.orc")) (codes "folder_b.orc") [] refl (All-nil (Before (codes "folder_a.orc"))))
      (AllPairs-cons Before (codes "folder_b.orc") [] (All-nil (Before (codes "folder_b.orc"))) no_pairs);
}
