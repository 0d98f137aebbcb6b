-- Counts of a list of keys: each key with the sum of its numbers, in order.
use Rattle.std.proofs.Common.{◌≡◌, ℕ, ◌+◌, ◌-◌, ◌^◌, ◌≤◌, ◌<◌, min, Bool, true, false, cond, if◌then◌else◌, List, [], ◌∷◌, Option, Some, None, true≢false, refl, sym, ◌∙◌, ap, arith, zero-add}
use Rattle.std.specs.Option.{unwrap_or}
use Rattle.std.specs.declared.cmp.Ordering.{Ordering}
use Rattle.std.specs.declared.cmp.Ordering.TheVariants.{Less, Equal, Greater}
use Rattle.std.specs.Ordering.{match_ordering, is_eq, eq_by_cmp, ordering_reverse}
use Rattle.std.specs.Cmp.{IsTotalOrder}
use Rattle.std.specs.Map.{keys_of, values_of, lookup}
use Rattle.std.specs.BTreeMap.{is_at}
use Rattle.std.specs.List.{AllByRecursion}
use Rattle.std.specs.List.Sorted.{IsStrictlySortedBy}
use Rattle.std.proofs.lemmas.Cmp.{eq_by_cmp_equiv}
use Rattle.std.proofs.lemmas.Map.{lookup-none}
use Rattle.std.proofs.lemmas.Map.Entries.{none_below_head}
use Rattle.std.proofs.lemmas.Map.Keys.{sorted_tail}
use Rattle.group_counts.specs.Tally.{plus, added, added_all, count_in, total_at, Few, AreCounts}

is_equal : (r : Ordering) → is_eq r ≡ true → r ≡ Equal
is_equal Less h = absurd (true≢false (sym h))
is_equal Equal h = refl
is_equal Greater h = absurd (true≢false (sym h))

-- counts of 64 bits
abbrev AllFew : List ℕ → Type 0
AllFew counts = AllByRecursion Few counts

front : (b : Bool) (n : ℕ) (l : Option ℕ) → Few n → unwrap_or l 0 ≤ 2 ^ 64 - 1 → (b ≡ true → l ≡ None) → unwrap_or (cond b (Some n) l) 0 ≡ min (unwrap_or l 0 + (if b then n else 0)) (2 ^ 64 - 1)
front true n l few le h = rw (h refl) (omega arith)
front false n l few le h = omega arith

put : (b c : Bool) (m n : ℕ) (l : Option ℕ) → Few m → unwrap_or l 0 ≤ 2 ^ 64 - 1 → b ≡ c → unwrap_or (cond b (Some (plus m n)) l) 0 ≡ min (unwrap_or (cond b (Some m) l) 0 + (if c then n else 0)) (2 ^ 64 - 1)
put true true m n l few le h = refl
put false false m n l few le h = omega arith
put true false m n l few le h = absurd (true≢false h)
put false true m n l few le h = absurd (true≢false (sym h))

apart : (b c : Bool) (m n : ℕ) (l x : Option ℕ) → Few m → (b ≡ true → c ≡ true → ⊥) → unwrap_or x 0 ≡ min (unwrap_or l 0 + (if c then n else 0)) (2 ^ 64 - 1)
    → unwrap_or (cond b (Some m) x) 0 ≡ min (unwrap_or (cond b (Some m) l) 0 + (if c then n else 0)) (2 ^ 64 - 1)
apart true true m n l x few h k = absurd (h refl refl)
apart true false m n l x few h k = omega arith
apart false c m n l x few h k = k

module _ {K : Type 0} (cmp : K → K → Ordering) (o : IsTotalOrder cmp) where
  count-few : (es : List (K × ℕ)) (q : K) → AllFew (values_of es) → count_in cmp es q ≤ 2 ^ 64 - 1
  count-few [] q few = omega arith
  count-few (e ∷ es) q few = by (is_eq (cmp q e.0)) (count-few es q few.1)
    where
      by : (b : Bool) → count_in cmp es q ≤ 2 ^ 64 - 1 → unwrap_or (cond b (Some e.1) (lookup (λ x. is_eq (cmp q x)) es)) 0 ≤ 2 ^ 64 - 1
      by true h = few.0
      by false h = h

  added-few : (es : List (K × ℕ)) (k : K) (n : ℕ) → Few n → AllFew (values_of es) → AllFew (values_of (added cmp es k n))
  added-few [] k n few all = (few, all)
  added-few (e ∷ es) k n few all = by (cmp k e.0) (added-few es k n few all.1)
    where
      by : (r : Ordering) → AllFew (values_of (added cmp es k n)) → AllFew (values_of (match_ordering r ((k, n) ∷ e ∷ es) ((e.0, plus e.1 n) ∷ es) (e ∷ added cmp es k n)))
      by Less h = (few, all)
      by Equal h = (omega arith, all.1)
      by Greater h = (all.0, h)

  added-counts : (es : List (K × ℕ)) (k q : K) (n : ℕ) → Few n → AllFew (values_of es) → IsStrictlySortedBy cmp (keys_of es)
      → count_in cmp (added cmp es k n) q ≡ min (count_in cmp es q + (if is_eq (cmp q k) then n else 0)) (2 ^ 64 - 1)
  added-counts [] k q n few all sorted = front (is_eq (cmp q k)) n None few (omega arith) (λ h. refl)
  added-counts (e ∷ es) k q n few all sorted = by (cmp k e.0) refl (added-counts es k q n few all.1 (sorted_tail cmp e.0 (keys_of es) sorted))
    where
      as_k : (x : K) → is_eq (cmp q k) ≡ true → cmp q x ≡ cmp k x
      as_k x h = o.congr q k x (is_equal (cmp q k) h)

      by : (r : Ordering) → cmp k e.0 ≡ r → count_in cmp (added cmp es k n) q ≡ min (count_in cmp es q + (if is_eq (cmp q k) then n else 0)) (2 ^ 64 - 1)
          → count_in cmp (match_ordering r ((k, n) ∷ e ∷ es) ((e.0, plus e.1 n) ∷ es) (e ∷ added cmp es k n)) q ≡ min (count_in cmp (e ∷ es) q + (if is_eq (cmp q k) then n else 0)) (2 ^ 64 - 1)
      by Less is h = front (is_eq (cmp q k)) n (lookup (λ x. is_eq (cmp q x)) (e ∷ es)) few (count-few (e ∷ es) q all) (λ same. lookup-none (is_at (cmp q)) (e ∷ es) (none_below_head o q e es sorted (as_k e.0 same ∙ is)))
      by Equal is h = put (is_eq (cmp q e.0)) (is_eq (cmp q k)) e.1 n (lookup (λ x. is_eq (cmp q x)) es) all.0 (count-few es q all.1)
          (let eqv = eq_by_cmp_equiv o in eqv.symm q e.0 ∙ eqv.congr e.0 k q (eqv.symm e.0 k ∙ ap is_eq is) ∙ eqv.symm k q)
      by Greater is h = apart (is_eq (cmp q e.0)) (is_eq (cmp q k)) e.1 n (lookup (λ x. is_eq (cmp q x)) es) (lookup (λ x. is_eq (cmp q x)) (added cmp es k n)) all.0
          (λ a b. true≢false (sym a ∙ ap is_eq (as_k e.0 b ∙ is))) h

  above : (P : K → Type 0) (es : List (K × ℕ)) (k : K) (n : ℕ) → AllByRecursion P (keys_of es) → P k → AllByRecursion P (keys_of (added cmp es k n))
  above P [] k n all p = (p, all)
  above P (e ∷ es) k n all p = by (cmp k e.0) (above P es k n all.1 p)
    where
      by : (r : Ordering) → AllByRecursion P (keys_of (added cmp es k n)) → AllByRecursion P (keys_of (match_ordering r ((k, n) ∷ e ∷ es) ((e.0, plus e.1 n) ∷ es) (e ∷ added cmp es k n)))
      by Less h = (p, all)
      by Equal h = all
      by Greater h = (all.0, h)

  added-some : (es : List (K × ℕ)) (k : K) (n : ℕ) → 0 < n → AllByRecursion (λ n. 0 < n) (values_of es) → AllByRecursion (λ n. 0 < n) (values_of (added cmp es k n))
  added-some [] k n some all = (some, all)
  added-some (e ∷ es) k n some all = by (cmp k e.0) (added-some es k n some all.1)
    where
      by : (r : Ordering) → AllByRecursion (λ n. 0 < n) (values_of (added cmp es k n)) → AllByRecursion (λ n. 0 < n) (values_of (match_ordering r ((k, n) ∷ e ∷ es) ((e.0, plus e.1 n) ∷ es) (e ∷ added cmp es k n)))
      by Less h = (some, all)
      by Equal h = (let pos_is : 0 < e.1 = all.0 in omega arith, all.1)
      by Greater h = (all.0, h)

  below : (k x : K) (ks : List K) → cmp k x ≡ Less → AllByRecursion (λ y. cmp x y ≡ Less) ks → AllByRecursion (λ y. cmp k y ≡ Less) ks
  below k x [] less all = all
  below k x (y ∷ ks) less all = (o.trans k x y less all.0, below k x ks less all.1)

  sorted_by : (es : List (K × ℕ)) (e : K × ℕ) (k : K) (n : ℕ) (r : Ordering) → cmp k e.0 ≡ r → IsStrictlySortedBy cmp (keys_of (e ∷ es)) → IsStrictlySortedBy cmp (keys_of (added cmp es k n))
      → IsStrictlySortedBy cmp (keys_of (match_ordering r ((k, n) ∷ e ∷ es) ((e.0, plus e.1 n) ∷ es) (e ∷ added cmp es k n)))
  unfolding IsStrictlySortedBy
  sorted_by es e k n Less is s h = ((is, below k e.0 (keys_of es) is s.0), s)
  sorted_by es e k n Equal is s h = s
  sorted_by es e k n Greater is s h = (above (λ y. cmp e.0 y ≡ Less) es k n s.0 (o.antisymm e.0 k ∙ ap ordering_reverse is), h)

  added-sorted : (es : List (K × ℕ)) (k : K) (n : ℕ) → IsStrictlySortedBy cmp (keys_of es) → IsStrictlySortedBy cmp (keys_of (added cmp es k n))
  unfolding IsStrictlySortedBy
  added-sorted [] k n s = (s, s)
  added-sorted (e ∷ es) k n s = sorted_by es e k n (cmp k e.0) refl s (added-sorted es k n s.1)

  -- counts with a list more
  pub all-sorted : (es list : List (K × ℕ)) → IsStrictlySortedBy cmp (keys_of es) → IsStrictlySortedBy cmp (keys_of (added_all cmp es list))
  all-sorted es [] s = s
  all-sorted es (f ∷ list) s = all-sorted (added cmp es f.0 f.1) list (added-sorted es f.0 f.1 s)

  pub all-some : (es list : List (K × ℕ)) → AllByRecursion (λ n. 0 < n) (values_of es) → AllByRecursion (λ n. 0 < n) (values_of list) → AllByRecursion (λ n. 0 < n) (values_of (added_all cmp es list))
  all-some es [] s all = s
  all-some es (f ∷ list) s all = all-some (added cmp es f.0 f.1) list (added-some es f.0 f.1 all.0 s) all.1

  pub all-counts : (es list : List (K × ℕ)) (q : K) → AllFew (values_of es) → AllFew (values_of list) → IsStrictlySortedBy cmp (keys_of es)
      → count_in cmp (added_all cmp es list) q ≡ min (count_in cmp es q + total_at cmp list q) (2 ^ 64 - 1)
  all-counts es [] q few all s = let le : count_in cmp es q ≤ 2 ^ 64 - 1 = count-few es q few in omega arith
  all-counts es (f ∷ list) q few all s =
      let rest = all-counts (added cmp es f.0 f.1) list q (added-few es f.0 f.1 all.0 few) all.1 (added-sorted es f.0 f.1 s) in
      let first = added-counts es f.0 q f.1 all.0 few s in
      omega (arith, rest, first)

nothing_sorted : {K : Type 0} (cmp : K → K → Ordering) → IsStrictlySortedBy cmp []
unfolding IsStrictlySortedBy
nothing_sorted cmp = tt

-- from none on
pub AreCounts-all : {K : Type 0} (cmp : K → K → Ordering) → IsTotalOrder cmp → (list : List (K × ℕ)) → AllFew (values_of list) → AreCounts cmp list (added_all cmp [] list)
AreCounts-all {K} cmp o list few =
    let none : List (K × ℕ) = [] in
    record {
      ordered = all-sorted cmp o none list (nothing_sorted cmp);
      counts = λ k. all-counts cmp o none list k tt few (nothing_sorted cmp) ∙ ap (λ (n : ℕ). min n (2 ^ 64 - 1)) (zero-add (total_at cmp list k));
      some = λ all. all-some cmp o none list tt all;
    }
