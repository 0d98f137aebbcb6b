-- Counts of all kinds, one behind the other.
use Rattle.std.proofs.Common.{◌≡◌, ℕ, ℤ, Bool, true, false, List, [], ◌∷◌, ◌++◌, map, Option, Some, None, refl, sym, ◌∙◌, ap}
use Rattle.std.specs.declared.cmp.Ordering.{Ordering}
use Rattle.std.specs.declared.cmp.Ordering.TheVariants.{Less, Equal, Greater}
use Rattle.std.specs.Ordering.{match_ordering, ordering_then, nat_cmp, int_cmp}
use Rattle.std.specs.Cmp.Lexicographic.{slice_cmp}
use Rattle.orc_values.specs.declared.value.Value.{Value}
use Rattle.orc_values.specs.declared.value.Value.TheVariants as value
use Rattle.group_counts.specs.Order.{value_cmp}
use Rattle.group_counts.specs.Tally.{plus, added, added_all}
use Rattle.group_counts.specs.Entries.{Entries, one, renamed, entries_of, plus_some}
use Rattle.group_counts.proofs.Adding.{renamed-added, added_all-append}

module _ {K : Type 0} (cmp : K → K → Ordering) where
  -- each of these keys is below k
  abbrev pub AllBelow : K → List (K × ℕ) → Type 0
  AllBelow k [] = Unit {0}
  AllBelow k (e ∷ es) = (cmp k e.0 ≡ Greater) × AllBelow k es

  -- each of them is above k
  abbrev pub AllAbove : K → List (K × ℕ) → Type 0
  AllAbove k [] = Unit {0}
  AllAbove k (e ∷ es) = (cmp k e.0 ≡ Less) × AllAbove k es

  pub AllAbove-append : (k : K) (es fs : List (K × ℕ)) → AllAbove k es → AllAbove k fs → AllAbove k (es ++ fs)
  AllAbove-append k [] fs a b = b
  AllAbove-append k (e ∷ es) fs a b = (a.0, AllAbove-append k es fs a.1 b)

  pub AllAbove-renamed : {J : Type 0} (f : J → K) (k : K) (es : List (J × ℕ)) → ((x : J) → cmp k (f x) ≡ Less) → AllAbove k (renamed f es)
  AllAbove-renamed f k [] h = tt
  AllAbove-renamed f k (e ∷ es) h = (h e.0, AllAbove-renamed f k es h)

  pub AllBelow-renamed : {J : Type 0} (f : J → K) (k : K) (es : List (J × ℕ)) → ((x : J) → cmp k (f x) ≡ Greater) → AllBelow k (renamed f es)
  AllBelow-renamed f k [] h = tt
  AllBelow-renamed f k (e ∷ es) h = (h e.0, AllBelow-renamed f k es h)

  -- a key is added behind those below it
  pub added-behind : (es fs : List (K × ℕ)) (k : K) (n : ℕ) → AllBelow k es → added cmp (es ++ fs) k n ≡ es ++ added cmp fs k n
  added-behind [] fs k n h = refl
  added-behind (e ∷ es) fs k n h =
      ap (λ (r : Ordering). match_ordering r ((k, n) ∷ e ∷ (es ++ fs)) ((e.0, plus e.1 n) ∷ (es ++ fs)) (e ∷ added cmp (es ++ fs) k n)) h.0
      ∙ ap (λ (l : List (K × ℕ)). e ∷ l) (added-behind es fs k n h.1)

  -- and in front of those above it
  pub added-front : (es fs : List (K × ℕ)) (k : K) (n : ℕ) → AllAbove k fs → added cmp (es ++ fs) k n ≡ added cmp es k n ++ fs
  added-front [] [] k n h = refl
  added-front [] (f ∷ fs) k n h = ap (λ (r : Ordering). match_ordering r ((k, n) ∷ f ∷ fs) ((f.0, plus f.1 n) ∷ fs) (f ∷ added cmp fs k n)) h.0
  added-front (e ∷ es) fs k n h = by (cmp k e.0) (added-front es fs k n h)
    where
      by : (r : Ordering) → added cmp (es ++ fs) k n ≡ added cmp es k n ++ fs
          → match_ordering r ((k, n) ∷ e ∷ (es ++ fs)) ((e.0, plus e.1 n) ∷ (es ++ fs)) (e ∷ added cmp (es ++ fs) k n)
          ≡ match_ordering r ((k, n) ∷ e ∷ es) ((e.0, plus e.1 n) ∷ es) (e ∷ added cmp es k n) ++ fs
      by Less s = refl
      by Equal s = refl
      by Greater s = ap (λ (l : List (K × ℕ)). e ∷ l) s

then_equal : (r : Ordering) → ordering_then r Equal ≡ r
then_equal Less = refl
then_equal Equal = refl
then_equal Greater = refl

pub int_order : (a b : ℤ) → value_cmp (value.Int a) (value.Int b) ≡ int_cmp a b
int_order a b = then_equal (int_cmp a b)

pub text_order : (a b : List ℕ) → value_cmp (value.Text a) (value.Text b) ≡ slice_cmp nat_cmp a b
text_order a b = refl

-- a part of one value
at_one : (v : Value) (o : Option ℕ) (n : ℕ) (back : Entries) → value_cmp v v ≡ Equal → AllAbove value_cmp v back
    → added value_cmp (one v o ++ back) v n ≡ one v (Some (plus_some o n)) ++ back
at_one v None n back same above = let none : Entries = [] in added-front value_cmp none back v n above
at_one v (Some m) n back same above = ap (λ (r : Ordering). match_ordering r ((v, n) ∷ (v, m) ∷ back) ((v, plus m n) ∷ back) ((v, m) ∷ added value_cmp back v n)) same

one_below : (v w : Value) (o : Option ℕ) → value_cmp v w ≡ Greater → AllBelow value_cmp v (one w o)
one_below v w None h = tt
one_below v w (Some n) h = (h, tt)

one_above : (v w : Value) (o : Option ℕ) → value_cmp v w ≡ Less → AllAbove value_cmp v (one w o)
one_above v w None h = tt
one_above v w (Some n) h = (h, tt)

-- numbers and texts
abbrev last : List (ℤ × ℕ) → List (List ℕ × ℕ) → Entries
last numbers texts = renamed (λ n. value.Int n) numbers ++ renamed (λ t. value.Text t) texts

-- truths, numbers and texts
abbrev from_true : Option ℕ → List (ℤ × ℕ) → List (List ℕ × ℕ) → Entries
from_true trues numbers texts = one (value.Bool true) trues ++ last numbers texts

abbrev from_false : Option ℕ → Option ℕ → List (ℤ × ℕ) → List (List ℕ × ℕ) → Entries
from_false falses trues numbers texts = one (value.Bool false) falses ++ from_true trues numbers texts

last_above : (v : Value) (numbers : List (ℤ × ℕ)) (texts : List (List ℕ × ℕ)) → ((x : ℤ) → value_cmp v (value.Int x) ≡ Less) → ((x : List ℕ) → value_cmp v (value.Text x) ≡ Less)
    → AllAbove value_cmp v (last numbers texts)
last_above v numbers texts a b = AllAbove-append value_cmp v (renamed (λ n. value.Int n) numbers) (renamed (λ t. value.Text t) texts)
    (AllAbove-renamed value_cmp (λ n. value.Int n) v numbers a) (AllAbove-renamed value_cmp (λ t. value.Text t) v texts b)

module _ (nulls falses trues : Option ℕ) (numbers : List (ℤ × ℕ)) (texts : List (List ℕ × ℕ)) (n : ℕ) where
  pub add-null : added value_cmp (entries_of nulls falses trues numbers texts) value.Null n ≡ entries_of (Some (plus_some nulls n)) falses trues numbers texts
  add-null = at_one value.Null nulls n (from_false falses trues numbers texts) refl
      (AllAbove-append value_cmp value.Null (one (value.Bool false) falses) (from_true trues numbers texts) (one_above value.Null (value.Bool false) falses refl)
      (AllAbove-append value_cmp value.Null (one (value.Bool true) trues) (last numbers texts) (one_above value.Null (value.Bool true) trues refl)
      (last_above value.Null numbers texts (λ x. refl) (λ x. refl))))

  pub add-false : added value_cmp (entries_of nulls falses trues numbers texts) (value.Bool false) n ≡ entries_of nulls (Some (plus_some falses n)) trues numbers texts
  add-false =
      added-behind value_cmp (one value.Null nulls) (from_false falses trues numbers texts) (value.Bool false) n (one_below (value.Bool false) value.Null nulls refl)
      ∙ ap (λ (l : Entries). one value.Null nulls ++ l) (at_one (value.Bool false) falses n (from_true trues numbers texts) refl
      (AllAbove-append value_cmp (value.Bool false) (one (value.Bool true) trues) (last numbers texts) (one_above (value.Bool false) (value.Bool true) trues refl) (last_above (value.Bool false) numbers texts (λ x. refl) (λ x. refl))))

  pub add-true : added value_cmp (entries_of nulls falses trues numbers texts) (value.Bool true) n ≡ entries_of nulls falses (Some (plus_some trues n)) numbers texts
  add-true =
      added-behind value_cmp (one value.Null nulls) (from_false falses trues numbers texts) (value.Bool true) n (one_below (value.Bool true) value.Null nulls refl)
      ∙ ap (λ (l : Entries). one value.Null nulls ++ l)
      (added-behind value_cmp (one (value.Bool false) falses) (from_true trues numbers texts) (value.Bool true) n (one_below (value.Bool true) (value.Bool false) falses refl)
      ∙ ap (λ (l : Entries). one (value.Bool false) falses ++ l) (at_one (value.Bool true) trues n (last numbers texts) refl (last_above (value.Bool true) numbers texts (λ x. refl) (λ x. refl))))

  behind_ones : (v : Value) (back : Entries) → value_cmp v value.Null ≡ Greater → value_cmp v (value.Bool false) ≡ Greater → value_cmp v (value.Bool true) ≡ Greater
      → added value_cmp (one value.Null nulls ++ (one (value.Bool false) falses ++ (one (value.Bool true) trues ++ back))) v n
      ≡ one value.Null nulls ++ (one (value.Bool false) falses ++ (one (value.Bool true) trues ++ added value_cmp back v n))
  behind_ones v back a b c =
      added-behind value_cmp (one value.Null nulls) (one (value.Bool false) falses ++ (one (value.Bool true) trues ++ back)) v n (one_below v value.Null nulls a)
      ∙ ap (λ (l : Entries). one value.Null nulls ++ l)
      (added-behind value_cmp (one (value.Bool false) falses) (one (value.Bool true) trues ++ back) v n (one_below v (value.Bool false) falses b)
      ∙ ap (λ (l : Entries). one (value.Bool false) falses ++ l) (added-behind value_cmp (one (value.Bool true) trues) back v n (one_below v (value.Bool true) trues c)))

  pub add-number : (k : ℤ) → added value_cmp (entries_of nulls falses trues numbers texts) (value.Int k) n ≡ entries_of nulls falses trues (added int_cmp numbers k n) texts
  add-number k =
      behind_ones (value.Int k) (last numbers texts) refl refl refl
      ∙ ap (λ (l : Entries). one value.Null nulls ++ (one (value.Bool false) falses ++ (one (value.Bool true) trues ++ l)))
      (added-front value_cmp (renamed (λ n. value.Int n) numbers) (renamed (λ t. value.Text t) texts) (value.Int k) n (AllAbove-renamed value_cmp (λ t. value.Text t) (value.Int k) texts (λ x. refl))
      ∙ ap (λ (l : Entries). l ++ renamed (λ t. value.Text t) texts) (renamed-added (λ n. value.Int n) value_cmp int_cmp int_order numbers k n))

  pub add-text : (k : List ℕ) → added value_cmp (entries_of nulls falses trues numbers texts) (value.Text k) n ≡ entries_of nulls falses trues numbers (added (slice_cmp nat_cmp) texts k n)
  add-text k =
      behind_ones (value.Text k) (last numbers texts) refl refl refl
      ∙ ap (λ (l : Entries). one value.Null nulls ++ (one (value.Bool false) falses ++ (one (value.Bool true) trues ++ l)))
      (added-behind value_cmp (renamed (λ n. value.Int n) numbers) (renamed (λ t. value.Text t) texts) (value.Text k) n (AllBelow-renamed value_cmp (λ n. value.Int n) (value.Text k) numbers (λ x. refl))
      ∙ ap (λ (l : Entries). renamed (λ n. value.Int n) numbers ++ l) (renamed-added (λ t. value.Text t) value_cmp (slice_cmp nat_cmp) text_order texts k n))

-- the counts of all kinds are added kind by kind
pub add-kinds : (s : Entries) (nulls falses trues : Option ℕ) (numbers : List (ℤ × ℕ)) (texts : List (List ℕ × ℕ))
    → added_all value_cmp s (entries_of nulls falses trues numbers texts)
    ≡ added_all value_cmp (added_all value_cmp (added_all value_cmp (added_all value_cmp (added_all value_cmp s (one value.Null nulls)) (one (value.Bool false) falses)) (one (value.Bool true) trues))
    (renamed (λ n. value.Int n) numbers)) (renamed (λ t. value.Text t) texts)
add-kinds s nulls falses trues numbers texts =
    let a = added_all value_cmp s (one value.Null nulls) in
    let b = added_all value_cmp a (one (value.Bool false) falses) in
    let c = added_all value_cmp b (one (value.Bool true) trues) in
    added_all-append value_cmp s (one value.Null nulls) (from_false falses trues numbers texts)
    ∙ added_all-append value_cmp a (one (value.Bool false) falses) (from_true trues numbers texts)
    ∙ added_all-append value_cmp b (one (value.Bool true) trues) (last numbers texts)
    ∙ added_all-append value_cmp c (renamed (λ n. value.Int n) numbers) (renamed (λ t. value.Text t) texts)
