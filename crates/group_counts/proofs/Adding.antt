-- What counting a key more does to a map's entries.
use Rattle.std.proofs.Common.{◌≡◌, ℕ, ◌+◌, min, Bool, true, false, cond, List, [], ◌∷◌, ◌++◌, map, Option, Some, None, is_some, unwrap_or, true≢false, refl, sym, ◌∙◌, ap, arith}
use Rattle.std.specs.declared.cmp.Ordering.{Ordering}
use Rattle.std.specs.declared.cmp.Ordering.TheVariants.{Less, Equal, Greater}
use Rattle.std.specs.Ordering.{match_ordering, is_eq}
use Rattle.std.specs.Cmp.{IsTotalOrder}
use Rattle.std.specs.Map.{keys_of, lookup, set_value}
use Rattle.std.specs.BTreeMap.{insert_entry, is_at}
use Rattle.std.specs.List.{AllByRecursion}
use Rattle.std.specs.List.Sorted.{IsStrictlySortedBy}
use Rattle.std.proofs.lemmas.Map.{lookup-none}
use Rattle.std.proofs.lemmas.Map.Entries.{none_below_head}
use Rattle.std.proofs.lemmas.Map.Keys.{sorted_tail}
use Rattle.group_counts.specs.Tally.{plus, added, added_all}
use Rattle.group_counts.specs.Entries.{renamed}

module _ {K : Type 0} (cmp : K → K → Ordering) where
  -- a key that isn't there is inserted
  pub added-absent : (es : List (K × ℕ)) (k : K) (n : ℕ) → lookup (is_at (cmp k)) es ≡ None → insert_entry cmp es k n ≡ added cmp es k n
  added-absent [] k n none = refl
  added-absent (e ∷ es) k n none = by (cmp k e.0) none (added-absent es k n)
    where
      by : (r : Ordering) → cond (is_eq r) (Some e.1) (lookup (is_at (cmp k)) es) ≡ None
          → (lookup (is_at (cmp k)) es ≡ None → insert_entry cmp es k n ≡ added cmp es k n)
          → match_ordering r ((k, n) ∷ e ∷ es) ((e.0, n) ∷ es) (e ∷ insert_entry cmp es k n) ≡ match_ordering r ((k, n) ∷ e ∷ es) ((e.0, plus e.1 n) ∷ es) (e ∷ added cmp es k n)
      by Less none' h = refl
      by Equal none' h = absurd (true≢false (ap is_some none'))
      by Greater none' h = ap (λ (l : List (K × ℕ)). e ∷ l) (h none')

  -- and the count of one that is there is written
  pub added-present : IsTotalOrder cmp → (es : List (K × ℕ)) (k : K) (n m : ℕ) → IsStrictlySortedBy cmp (keys_of es) → lookup (is_at (cmp k)) es ≡ Some m
      → set_value (is_at (cmp k)) es (plus m n) ≡ added cmp es k n
  added-present o [] k n m sorted found = absurd (true≢false (sym (ap is_some found)))
  added-present o (e ∷ es) k n m sorted found = by (cmp k e.0) (λ is. lookup-none (is_at (cmp k)) (e ∷ es) (none_below_head o k e es sorted is)) found (added-present o es k n m (sorted_tail cmp e.0 (keys_of es) sorted)) refl
    where
      by : (r : Ordering) → (cmp k e.0 ≡ Less → lookup (is_at (cmp k)) (e ∷ es) ≡ None)
          → cond (is_eq r) (Some e.1) (lookup (is_at (cmp k)) es) ≡ Some m
          → (lookup (is_at (cmp k)) es ≡ Some m → set_value (is_at (cmp k)) es (plus m n) ≡ added cmp es k n)
          → cmp k e.0 ≡ r
          → cond (is_eq r) ((e.0, plus m n) ∷ es) (e ∷ set_value (is_at (cmp k)) es (plus m n)) ≡ match_ordering r ((k, n) ∷ e ∷ es) ((e.0, plus e.1 n) ∷ es) (e ∷ added cmp es k n)
      by Less none f h is = absurd (true≢false (sym (ap is_some (sym (none is) ∙ found))))
      by Equal none f h is = ap (λ (o : Option ℕ). (e.0, plus (unwrap_or o 0) n) ∷ es) (sym f)
      by Greater none f h is = ap (λ (l : List (K × ℕ)). e ∷ l) (h f)

  -- counts are added one list after the other
  pub added_all-append : (es fs gs : List (K × ℕ)) → added_all cmp es (fs ++ gs) ≡ added_all cmp (added_all cmp es fs) gs
  added_all-append es [] gs = refl
  added_all-append es (f ∷ fs) gs = added_all-append (added cmp es f.0 f.1) fs gs

-- entries by what their keys show
module _ {J K : Type 0} (f : J → K) (cmp : K → K → Ordering) where
  pub renamed-insert : (es : List (J × ℕ)) (k : J) (v : ℕ) → renamed f (insert_entry (λ a b. cmp (f a) (f b)) es k v) ≡ insert_entry cmp (renamed f es) (f k) v
  renamed-insert [] k v = refl
  renamed-insert (e ∷ es) k v = by (cmp (f k) (f e.0)) (renamed-insert es k v)
    where
      by : (r : Ordering) → renamed f (insert_entry (λ a b. cmp (f a) (f b)) es k v) ≡ insert_entry cmp (renamed f es) (f k) v
          → renamed f (match_ordering r ((k, v) ∷ e ∷ es) ((e.0, v) ∷ es) (e ∷ insert_entry (λ a b. cmp (f a) (f b)) es k v))
          ≡ match_ordering r ((f k, v) ∷ renamed f (e ∷ es)) ((f e.0, v) ∷ renamed f es) ((f e.0, e.1) ∷ insert_entry cmp (renamed f es) (f k) v)
      by Less h = refl
      by Equal h = refl
      by Greater h = ap (λ (l : List (K × ℕ)). (f e.0, e.1) ∷ l) h

  pub renamed-set : (test : K → Bool) (es : List (J × ℕ)) (w : ℕ) → renamed f (set_value (λ k. test (f k)) es w) ≡ set_value test (renamed f es) w
  renamed-set test [] w = refl
  renamed-set test (e ∷ es) w = by (test (f e.0)) (renamed-set test es w)
    where
      by : (b : Bool) → renamed f (set_value (λ k. test (f k)) es w) ≡ set_value test (renamed f es) w
          → renamed f (cond b ((e.0, w) ∷ es) (e ∷ set_value (λ k. test (f k)) es w)) ≡ cond b ((f e.0, w) ∷ renamed f es) ((f e.0, e.1) ∷ set_value test (renamed f es) w)
      by true h = refl
      by false h = ap (λ (l : List (K × ℕ)). (f e.0, e.1) ∷ l) h

  pub renamed-lookup : (test : K → Bool) (es : List (J × ℕ)) → lookup (λ k. test (f k)) es ≡ lookup test (renamed f es)
  renamed-lookup test [] = refl
  renamed-lookup test (e ∷ es) = ap (λ (o : Option ℕ). cond (test (f e.0)) (Some e.1) o) (renamed-lookup test es)

  all : (k : J) (es : List (J × ℕ)) → AllByRecursion (λ y. cmp (f k) (f y) ≡ Less) (keys_of es) → AllByRecursion (λ y. cmp (f k) y ≡ Less) (keys_of (renamed f es))
  all k [] h = h
  all k (e ∷ es) h = (h.0, all k es h.1)

  pub renamed-sorted : (es : List (J × ℕ)) → IsStrictlySortedBy (λ a b. cmp (f a) (f b)) (keys_of es) → IsStrictlySortedBy cmp (keys_of (renamed f es))
  unfolding IsStrictlySortedBy
  renamed-sorted [] s = s
  renamed-sorted (e ∷ es) s = (all e.0 es s.0, renamed-sorted es s.1)

  -- a key is added in the same place
  pub renamed-added : (own : J → J → Ordering) → ((a b : J) → cmp (f a) (f b) ≡ own a b) → (es : List (J × ℕ)) (k : J) (n : ℕ)
      → added cmp (renamed f es) (f k) n ≡ renamed f (added own es k n)
  renamed-added own same [] k n = refl
  renamed-added own same (e ∷ es) k n = by (cmp (f k) (f e.0)) (own k e.0) (same k e.0) (renamed-added own same es k n)
    where
      by : (r s : Ordering) → r ≡ s → added cmp (renamed f es) (f k) n ≡ renamed f (added own es k n)
          → match_ordering r ((f k, n) ∷ renamed f (e ∷ es)) ((f e.0, plus e.1 n) ∷ renamed f es) ((f e.0, e.1) ∷ added cmp (renamed f es) (f k) n)
          ≡ renamed f (match_ordering s ((k, n) ∷ e ∷ es) ((e.0, plus e.1 n) ∷ es) (e ∷ added own es k n))
      by Less Less is h = refl
      by Less Equal is h = absurd cc
      by Less Greater is h = absurd cc
      by Equal Less is h = absurd cc
      by Equal Equal is h = refl
      by Equal Greater is h = absurd cc
      by Greater Less is h = absurd cc
      by Greater Equal is h = absurd cc
      by Greater Greater is h = ap (λ (l : List (K × ℕ)). (f e.0, e.1) ∷ l) h
