-- Cuts are visited, one after the other.
use Rattle.std.proofs.Common.{◌≡◌, ℕ, ◌+◌, ◌-◌, ◌*◌, ◌<◌, ◌≤◌, suc, inl, inr, Bool, List, [], ◌∷◌, length, refl, sym, ap, ◌∙◌, subst, arith}
use Rattle.std.specs.Prelude.{◌++◌, if◌then◌else◌, Option, Some, None, Result, Ok, Err, slice_set, slice_range, OnOk}
use Rattle.std.proofs.lemmas.List.{append_assoc, get_or-set_same, length-map, length-set}
use Rattle.std.proofs.lemmas.Bool.{cases_lt, lt-ltb, le-ltb}
use Rattle.std.proofs.lemmas.Option.{none-some}
use Rattle.buffer_word.specs.declared.key_word.Key.{Key}
use Rattle.outside.specs.declared.failed.Failed.{Failed}
use Rattle.outside.specs.declared.file_ref.FileRange.{FileRange}
use Rattle.pool_model.specs.Content.{Files}
use Rattle.range_cuts.specs.Cuts.{begun, cut_at, cut_ranges_of, cuts_from, cuts_of}
use Rattle.range_cuts.specs.Laws.{BeginBelow, bytes_of}
use Rattle.held_ranges.specs.Deeds.{Deed, Keys, dropped, drops, key_at, others, room_left, swap_fails, swapped, swaps}
use Rattle.held_ranges.specs.Moments.{Moment, Ran, key_of, keys_of}
use Rattle.cut_streams.specs.Visits.{VisitEachBy, VisitsBy, key_in, left_after, left_by, visits, visits_each}
use Rattle.cut_streams.specs.Went.{Went}
use Rattle.cut_streams.proofs.Doing.{ran_then, went}

is_held : (slot : ℕ) (key : Key) (keys : Keys) → slot < length keys → key_at (swapped slot key keys) slot ≡ Some key
is_held slot key keys h =
    get_or-set_same (room_left slot key keys) slot (Some key) None
    (omega (arith, h, length-map (slice_set keys slot None) (others (Some key)), length-set keys slot None))

module _ (files : Option Files) {W S : Type 0} (reads : S → Option (List FileRange)) where
  -- a range that was got is let go
  pub visited : (slot : ℕ) (key : Key) (m k n : Moment W S) (x : Unit {0}) → slot < length m.slots
      → Ran files reads m (swaps slot key (keys_of m.slots)) k → keys_of k.slots ≡ swapped slot key (keys_of m.slots)
      → Ran files reads k (dropped slot (key_at (keys_of k.slots) slot)) n → keys_of n.slots ≡ slice_set (keys_of k.slots) slot None
      → Went files reads m n (VisitsBy {T = Unit {0}} slot key (keys_of m.slots) (Ok x))
  visited slot key m k n x h got held let_go left =
      let keys : Keys = keys_of m.slots in
      let here : key_at (keys_of k.slots) slot ≡ Some key =
      ap (λ (ks : Keys). key_at ks slot) held ∙ is_held slot key keys (omega (arith, h, length-map m.slots key_of)) in
      let drop : Ran files reads k (drops slot key ∷ []) n = subst (λ (o : Option Key). Ran files reads k (dropped slot o) n) here let_go in
      went files reads m n (VisitsBy {T = Unit {0}} slot key keys (Ok x)) (visits slot key keys)
      (ran_then files reads (swaps slot key keys) (drops slot key ∷ []) m k n got drop)
      (refl, left ∙ ap (λ (ks : Keys). slice_set ks slot None) held)

  pub failed : (slot : ℕ) (key : Key) (m n : Moment W S) (e : Failed)
      → Ran files reads m (swap_fails slot key (keys_of m.slots)) n → keys_of n.slots ≡ room_left slot key (keys_of m.slots)
      → Went files reads m n (VisitsBy {T = Unit {0}} slot key (keys_of m.slots) (Err e))
  failed slot key m n e ran left =
      went files reads m n (VisitsBy {T = Unit {0}} slot key (keys_of m.slots) (Err e)) (swap_fails slot key (keys_of m.slots)) ran (refl, left)

-- ---- from a cut on

abbrev or_none : Option (ℕ × ℕ) → ℕ × ℕ
or_none None = (0, 0)
or_none (Some cut) = cut

-- a cut that there is, by its number
pub cut_is : (at len chunk i : ℕ) (cut : ℕ × ℕ) → cut_ranges_of at len chunk i ≡ Some cut → (i * chunk < len) × (cut ≡ cut_at at len chunk i)
cut_is at len chunk i cut e =
    elim (cases_lt (i * chunk) len) [
      | inl below ↦
          let f : cut_ranges_of at len chunk i ≡ Some (cut_at at len chunk i) =
          ap (λ (b : Bool). if b then Some (cut_at at len chunk i) else None) (lt-ltb (i * chunk) len below) in
          (below, ap or_none (sym e ∙ f))
      | inr past ↦
          let f : cut_ranges_of at len chunk i ≡ None =
          ap (λ (b : Bool). if b then Some (cut_at at len chunk i) else None) (le-ltb (i * chunk) len past) in
          absurd (none-some cut (sym f ∙ e))
    ]

pub no_cut : (at len chunk i : ℕ) → cut_ranges_of at len chunk i ≡ None → len ≤ i * chunk
no_cut at len chunk i e =
    elim (cases_lt (i * chunk) len) [
      | inl below ↦
          let f : cut_ranges_of at len chunk i ≡ Some (cut_at at len chunk i) =
          ap (λ (b : Bool). if b then Some (cut_at at len chunk i) else None) (lt-ltb (i * chunk) len below) in
          absurd (none-some (cut_at at len chunk i) (sym e ∙ f))
      | inr past ↦ past
    ]

pub one_more : (len chunk i : ℕ) → BeginBelow → 1 ≤ chunk → i * chunk < len → begun chunk len - i ≡ suc (begun chunk len - (i + 1))
one_more len chunk i law some below = let b : i < begun chunk len = (law chunk len i some).1 below in omega (arith, b)

pub none_more : (len chunk i : ℕ) → BeginBelow → 1 ≤ chunk → len ≤ i * chunk → begun chunk len - i ≡ 0
none_more len chunk i law some past =
    let no : i < begun chunk len → ⊥ = λ b. (let c : i * chunk < len = (law chunk len i some).0 b in omega (arith, c, past)) in
    omega (arith, no)

-- no cut is left
pub visited_none : (slot file at len chunk i : ℕ) (keys : Keys) (x : Unit {0}) → BeginBelow → 1 ≤ chunk → len ≤ i * chunk
    → VisitEachBy {T = Unit {0}} slot file at len chunk i keys (Ok x) [] keys
visited_none slot file at len chunk i keys x law some past =
    let e : begun chunk len - i ≡ 0 = none_more len chunk i law some past in
    record {
      did = ap (λ (n : ℕ). visits_each slot file (cuts_from at len chunk i n) keys) (sym e);
      leave = ap (λ (n : ℕ). left_after slot file (cuts_from at len chunk i n) keys) (sym e);
    }

module _ (slot file at len chunk i : ℕ) (keys : Keys) where
  -- a cut, and then those behind it
  pub visited_on : (law : BeginBelow) (some : 1 ≤ chunk) (below : i * chunk < len) (result : Result (Unit {0}) Failed) (ds es : List Deed)
      (mid keys' : Keys) → (ds ≡ visits slot (key_in file (cut_at at len chunk i)) keys) → (mid ≡ left_by slot (key_in file (cut_at at len chunk i)) keys)
      → VisitEachBy slot file at len chunk (i + 1) mid result es keys' → VisitEachBy slot file at len chunk i keys result (ds ++ es) keys'
  visited_on law some below (Ok x) ds es mid keys' d m v =
      let n : begun chunk len - i ≡ suc (begun chunk len - (i + 1)) = one_more len chunk i law some below in
      let rest : ℕ = begun chunk len - (i + 1) in
      let cut = cut_at at len chunk i in
      record {
        did = ap (λ (xs : List Deed). xs ++ es) d
            ∙ ap (λ (xs : List Deed). visits slot (key_in file cut) keys ++ xs) (v.did ∙ ap (λ (ks : Keys). visits_each slot file (cuts_from at len chunk (i + 1) rest) ks) m)
            ∙ ap (λ (k : ℕ). visits_each slot file (cuts_from at len chunk i k) keys) (sym n);
        leave = v.leave ∙ ap (λ (ks : Keys). left_after slot file (cuts_from at len chunk (i + 1) rest) ks) m
            ∙ ap (λ (k : ℕ). left_after slot file (cuts_from at len chunk i k) keys) (sym n);
      }
  visited_on law some below (Err e) ds es mid keys' d m v =
      let cut = cut_at at len chunk i in
      let j : i + 1 + v.count ≡ i + suc v.count = omega arith in
      let after : Keys → Keys = λ ks. left_after slot file (cuts_from at len chunk (i + 1) v.count) ks in
      let key : ℕ → Key = λ k. key_in file (cut_at at len chunk k) in
      let more : (i + suc v.count) * chunk < len = subst (λ (k : ℕ). k * chunk < len) j v.more in
      let back : Keys → ℕ → List Deed = λ ks k. visits_each slot file (cuts_from at len chunk (i + 1) v.count) ks ++ swap_fails slot (key k) (after ks) in
      record {
        count = suc v.count;
        more = more;
        did = ap (λ (xs : List Deed). xs ++ es) d
            ∙ ap (λ (xs : List Deed). visits slot (key_in file cut) keys ++ xs)
            (v.did ∙ ap (λ (ks : Keys). back ks (i + 1 + v.count)) m ∙ ap (λ (k : ℕ). back (left_by slot (key_in file cut) keys) k) j)
            ∙ sym (append_assoc (visits slot (key_in file cut) keys)
            (visits_each slot file (cuts_from at len chunk (i + 1) v.count) (left_by slot (key_in file cut) keys))
            (swap_fails slot (key (i + suc v.count)) (after (left_by slot (key_in file cut) keys))));
        leave = v.leave ∙ ap (λ (ks : Keys). room_left slot (key (i + 1 + v.count)) (after ks)) m
            ∙ ap (λ (k : ℕ). room_left slot (key k) (after (left_by slot (key_in file cut) keys))) j;
      }

  -- the first read failed
  pub visited_to : (below : i * chunk < len) (e : Failed) (ds : List Deed) (keys' : Keys)
      → (ds ≡ swap_fails slot (key_in file (cut_at at len chunk i)) keys) → (keys' ≡ room_left slot (key_in file (cut_at at len chunk i)) keys)
      → VisitEachBy {T = Unit {0}} slot file at len chunk i keys (Err e) ds keys'
  visited_to below e ds keys' d k =
      let j : i ≡ i + 0 = omega arith in
      record {
        count = 0;
        more = subst (λ (n : ℕ). n * chunk < len) j below;
        did = d ∙ ap (λ (n : ℕ). swap_fails slot (key_in file (cut_at at len chunk n)) keys) j;
        leave = k ∙ ap (λ (n : ℕ). room_left slot (key_in file (cut_at at len chunk n)) keys) j;
      }

-- the bytes of a cut, and of those behind it
pub bytes_on : (file : List ℕ) (at len chunk i : ℕ) (first rest : List ℕ) → BeginBelow → 1 ≤ chunk → i * chunk < len
    → first ≡ slice_range file (cut_at at len chunk i).0 ((cut_at at len chunk i).0 + (cut_at at len chunk i).1)
    → rest ≡ bytes_of file (cuts_from at len chunk (i + 1) (begun chunk len - (i + 1)))
    → first ++ rest ≡ bytes_of file (cuts_from at len chunk i (begun chunk len - i))
bytes_on file at len chunk i first rest law some below f r =
    let n : begun chunk len - i ≡ suc (begun chunk len - (i + 1)) = one_more len chunk i law some below in
    let cut = cut_at at len chunk i in
    ap (λ (xs : List ℕ). xs ++ rest) f ∙ ap (λ (xs : List ℕ). slice_range file cut.0 (cut.0 + cut.1) ++ xs) r
    ∙ ap (λ (k : ℕ). bytes_of file (cuts_from at len chunk i k)) (sym n)

pub on_ok_map : {T E A B : Type 0} (r : Result T E) → (A → B) → OnOk r A → OnOk r B
on_ok_map (Ok x) f a = f a
on_ok_map (Err e) f a = a

-- all cuts, from the first on
pub all_cuts : (at len chunk : ℕ) → BeginBelow → 1 ≤ chunk → cuts_of at len chunk ≡ cuts_from at len chunk 0 (begun chunk len - 0)
all_cuts at len chunk law some =
    let e : begun chunk 0 ≡ 0 = (let f : begun chunk 0 - 0 ≡ 0 = none_more 0 chunk 0 law some (omega arith) in omega (arith, f)) in
    ap (λ (n : ℕ). cuts_from at len chunk n (begun chunk len - n)) e
