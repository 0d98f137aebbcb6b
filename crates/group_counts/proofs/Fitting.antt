-- Whether counts are numbers of the 64 bits of `i64`.
use Rattle.std.proofs.Common.{◌≡◌, ℕ, ℤ, ◌^◌, Bool, true, false, ◌&&◌, List, [], ◌∷◌, ◌++◌, Option, Some, None, nat_lt, refl, sym, ◌∙◌, ap}
use Rattle.orc_values.specs.declared.value.Value.{Value}
use Rattle.orc_values.specs.declared.value.Value.TheVariants as value
use Rattle.group_counts.specs.Entries.{Entries, one, renamed, entries_of, some_fits, all_fit}

pub and-assoc : (a b c : Bool) → ((a && b) && c) ≡ (a && (b && c))
and-assoc true b c = refl
and-assoc false b c = refl

module _ {K : Type 0} where
  pub all_fit-append : (es fs : List (K × ℕ)) → all_fit (es ++ fs) ≡ (all_fit es && all_fit fs)
  all_fit-append [] fs = refl
  all_fit-append (e ∷ es) fs = ap (λ (b : Bool). nat_lt e.1 (2 ^ 63) && b) (all_fit-append es fs) ∙ sym (and-assoc (nat_lt e.1 (2 ^ 63)) (all_fit es) (all_fit fs))

pub all_fit-renamed : {J K : Type 0} (f : J → K) (es : List (J × ℕ)) → all_fit (renamed f es) ≡ all_fit es
all_fit-renamed f [] = refl
all_fit-renamed f (e ∷ es) = ap (λ (b : Bool). nat_lt e.1 (2 ^ 63) && b) (all_fit-renamed f es)

and-true : (b : Bool) → (b && true) ≡ b
and-true true = refl
and-true false = refl

pub all_fit-one : (v : Value) (o : Option ℕ) → all_fit (one v o) ≡ some_fits o
all_fit-one v None = refl
all_fit-one v (Some n) = and-true (nat_lt n (2 ^ 63))

abbrev last : List (ℤ × ℕ) → List (List ℕ × ℕ) → Entries
last numbers texts = renamed (λ n. value.Int n) numbers ++ renamed (λ t. value.Text t) texts

pub all_fit-entries : (nulls falses trues : Option ℕ) (numbers : List (ℤ × ℕ)) (texts : List (List ℕ × ℕ))
    → all_fit (entries_of nulls falses trues numbers texts) ≡ (some_fits nulls && (some_fits falses && (some_fits trues && (all_fit numbers && all_fit texts))))
all_fit-entries nulls falses trues numbers texts =
    all_fit-append (one value.Null nulls) (one (value.Bool false) falses ++ (one (value.Bool true) trues ++ last numbers texts))
    ∙ ap (λ (b : Bool). b && all_fit (one (value.Bool false) falses ++ (one (value.Bool true) trues ++ last numbers texts))) (all_fit-one value.Null nulls)
    ∙ ap (λ (b : Bool). some_fits nulls && b)
    (all_fit-append (one (value.Bool false) falses) (one (value.Bool true) trues ++ last numbers texts)
    ∙ ap (λ (b : Bool). b && all_fit (one (value.Bool true) trues ++ last numbers texts)) (all_fit-one (value.Bool false) falses)
    ∙ ap (λ (b : Bool). some_fits falses && b)
    (all_fit-append (one (value.Bool true) trues) (last numbers texts)
    ∙ ap (λ (b : Bool). b && all_fit (last numbers texts)) (all_fit-one (value.Bool true) trues)
    ∙ ap (λ (b : Bool). some_fits trues && b)
    (all_fit-append (renamed (λ n. value.Int n) numbers) (renamed (λ t. value.Text t) texts)
    ∙ ap (λ (b : Bool). b && all_fit (renamed (λ t. value.Text t) texts)) (all_fit-renamed (λ n. value.Int n) numbers)
    ∙ ap (λ (b : Bool). all_fit numbers && b) (all_fit-renamed (λ t. value.Text t) texts))))

-- the tests of the kinds, one after the other
pub all_fit-kinds : (nulls falses trues : Option ℕ) (numbers : List (ℤ × ℕ)) (texts : List (List ℕ × ℕ))
    → ((((some_fits nulls && some_fits falses) && some_fits trues) && all_fit numbers) && all_fit texts) ≡ all_fit (entries_of nulls falses trues numbers texts)
all_fit-kinds nulls falses trues numbers texts =
    and-assoc ((some_fits nulls && some_fits falses) && some_fits trues) (all_fit numbers) (all_fit texts)
    ∙ and-assoc (some_fits nulls && some_fits falses) (some_fits trues) (all_fit numbers && all_fit texts)
    ∙ and-assoc (some_fits nulls) (some_fits falses) (some_fits trues && (all_fit numbers && all_fit texts))
    ∙ sym (all_fit-entries nulls falses trues numbers texts)
