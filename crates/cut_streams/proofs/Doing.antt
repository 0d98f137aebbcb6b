-- Deeds, one after the other: they join, and leave the desk's references as they are.
use Rattle.std.proofs.Common.{List, [], ◌∷◌, refl, sym, ◌∙◌, subst}
use Rattle.std.specs.Prelude.{◌++◌, Option}
use Rattle.outside.specs.declared.file_ref.FileRange.{FileRange}
use Rattle.pool_model.specs.Content.{Files}
use Rattle.held_ranges.specs.declared.desk.Desk.{Desk}
use Rattle.held_ranges.specs.Deeds.{Deed, Keys, gets, misses, drops}
use Rattle.held_ranges.specs.Moments.{Does, Moment, Ran, SameDesk, keys_of}
use Rattle.cut_streams.specs.Went.{Went}

pub same_desk : {W S : Type 0} (d : Desk W S) → SameDesk d d
same_desk d = record { cache = refl; seat = refl; evictor = refl; store = refl; totals = refl; id = refl }

same_then : {W S : Type 0} (a b c : Desk W S) → SameDesk a b → SameDesk b c → SameDesk a c
same_then a b c p q =
    record {
      cache = q.cache ∙ p.cache;
      seat = q.seat ∙ p.seat;
      evictor = q.evictor ∙ p.evictor;
      store = q.store ∙ p.store;
      totals = q.totals ∙ p.totals;
      id = q.id ∙ p.id;
    }

module _ (files : Option Files) {W S : Type 0} (reads : S → Option (List FileRange)) where
  does_same : (d : Deed) (m n : Moment W S) → Does files reads d m n → SameDesk m.desk n.desk
  does_same (gets slot key) m n x = x.1.same
  does_same (misses key) m n x = x.0.same
  does_same (drops slot key) m n x = x.3.same

  pub ran_same : (ds : List Deed) (m n : Moment W S) → Ran files reads m ds n → SameDesk m.desk n.desk
  ran_same [] m n e = subst (λ (x : Moment W S). SameDesk m.desk x.desk) (sym e) (same_desk m.desk)
  ran_same (d ∷ ds) m n x = same_then m.desk x.0.desk n.desk (does_same d m x.0 x.1) (ran_same ds x.0 n x.2)

  pub ran_then : (ds es : List Deed) (m k n : Moment W S) → Ran files reads m ds k → Ran files reads k es n → Ran files reads m (ds ++ es) n
  ran_then [] es m k n e r = subst (λ (x : Moment W S). Ran files reads x es n) e r
  ran_then (d ∷ ds) es m k n r s = (r.0, r.1, ran_then ds es r.0 k n r.2 s)

  pub went : (m n : Moment W S) (So : List Deed → Keys → Type 0) (ds : List Deed) → Ran files reads m ds n → So ds (keys_of n.slots)
      → Went files reads m n So
  went m n So ds ran so = record { deeds = ds; ran = ran; so = so; same = ran_same ds m n ran }

  -- no deed at all
  pub went_nowhere : (m : Moment W S) (So : List Deed → Keys → Type 0) → So [] (keys_of m.slots) → Went files reads m m So
  went_nowhere m So so = went m m So [] refl so

  -- deeds, and then others
  pub went_then : (m k n : Moment W S) (A B C : List Deed → Keys → Type 0)
      → ((ds es : List Deed) → A ds (keys_of k.slots) → B es (keys_of n.slots) → C (ds ++ es) (keys_of n.slots))
      → Went files reads m k A → Went files reads k n B → Went files reads m n C
  went_then m k n A B C then a b =
      went m n C (a.deeds ++ b.deeds) (ran_then a.deeds b.deeds m k n a.ran b.ran) (then a.deeds b.deeds a.so b.so)

  -- the same deeds, in other words
  pub went_as : (m n : Moment W S) (A B : List Deed → Keys → Type 0) → ((ds : List Deed) → A ds (keys_of n.slots) → B ds (keys_of n.slots))
      → Went files reads m n A → Went files reads m n B
  went_as m n A B f a = went m n B a.deeds a.ran (f a.deeds a.so)
