-- The counts of values, which stand by the values' kinds (this project's own).
use Rattle.std.specs.Prelude.{ℕ, ◌^◌, ℤ, Bool, true, false, List, [], ◌∷◌, ◌++◌, map, nat_lt, Vec, Option, Some, None}
use Rattle.std.specs.List.{list_all}
use Rattle.orc_values.specs.declared.value.Value.{Value}
use Rattle.orc_values.specs.declared.value.Value.TheVariants as value
use Rattle.group_counts.specs.Tally.{plus}

-- values, each with its count
abbrev pub Entries : Type 0
Entries = List (Value × ℕ)

-- one value with its count, where it has one
abbrev pub one : Value → Option ℕ → Entries
one v None = []
one v (Some n) = (v, n) ∷ []

-- entries by what their keys show
abbrev pub renamed : {K B : Type 0} → (K → B) → List (K × ℕ) → List (B × ℕ)
renamed f es = map (λ e. (f e.0, e.1)) es

-- entries by the bytes of their keys
abbrev pub by_bytes : {A : Type 0} → List (Vec ℕ A × ℕ) → List (List ℕ × ℕ)
by_bytes es = renamed (λ k. k.items) es

-- the counts of all kinds, in the order of values
abbrev pub entries_of : Option ℕ → Option ℕ → Option ℕ → List (ℤ × ℕ) → List (List ℕ × ℕ) → Entries
entries_of nulls falses trues numbers texts =
    one value.Null nulls ++ (one (value.Bool false) falses ++ (one (value.Bool true) trues
    ++ (renamed (λ n. value.Int n) numbers ++ renamed (λ t. value.Text t) texts)))

-- a count with another more, where there may be none yet
abbrev pub plus_some : Option ℕ → ℕ → ℕ
plus_some None n = n
plus_some (Some m) n = plus m n

-- how many keys a kind of one value has
abbrev pub some_length : Option ℕ → ℕ
some_length None = 0
some_length (Some n) = 1

-- whether a count, where there is one, is a number of the 64 bits of `i64`
abbrev pub some_fits : Option ℕ → Bool
some_fits None = true
some_fits (Some n) = nat_lt n (2 ^ 63)

-- whether each count is a number of the 64 bits of `i64`
abbrev pub all_fit : {K : Type 0} → List (K × ℕ) → Bool
all_fit es = list_all (λ e. nat_lt e.1 (2 ^ 63)) es
