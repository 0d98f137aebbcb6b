-- Flags of the rows that have a value: moved to the front, and back.
use Rattle.std.proofs.Common.{◌≡◌, ◌∙◌, ◌&&◌, ℕ, zero, suc, ◌+◌, ◌-◌, ◌<◌, ◌≤◌, Bool, true, false, List, [], ◌∷◌, ◌++◌, length, map, take, drop, set, get_or, Option, if◌then◌else◌, refl, sym, ap, subst, arith}
use Rattle.std.specs.Option.{unwrap_or}
use Rattle.std.proofs.lemmas.List.{append-nil, drop_all, drop_more, drop-set, take-set, take-take, take_more_set, take_all, get_or-take, get_or-set_other, length-map, length-take, length-take-le}
use Rattle.orc_values.specs.declared.value.Value.{Value}
use Rattle.orc_values.specs.declared.value.Value.TheVariants as value
use Rattle.orc_values.specs.declared.column_values.ColumnValues.{ColumnValues}
use Rattle.orc_values.specs.Column.{value_by, entries_in, values_in, column_of, is_present, present_of}
use Rattle.orc_values.specs.ColumnLaws.{column-woven, length-values_in}
use Rattle.orc_values.specs.Woven.{present_count, woven}
use Rattle.orc_values.specs.WovenLaws.{count_more, present_count-le}
use Rattle.batch_masks.specs.Kept.{kept, both, scattered}
use Rattle.batch_masks.specs.KeptLaws.{kept_more}

-- ---- where every row has a value

pub all_kept : {A : Type 0} (present : List Bool) (xs : List A) → length xs ≡ length present → present_count present ≡ length present → kept present xs ≡ xs
all_kept [] [] len all = refl
all_kept [] (x ∷ xs) len all = absurd (omega arith)
all_kept (p ∷ present) [] len all = absurd (omega arith)
all_kept (false ∷ present) (x ∷ xs) len all = absurd (omega (arith, present_count-le present))
all_kept {A} (true ∷ present) (x ∷ xs) len all = ap (λ (l : List A). x ∷ l) (all_kept present xs (omega arith) (omega arith))

pub all_scattered : (present flags : List Bool) → length flags ≡ length present → present_count present ≡ length present → scattered present flags ≡ flags
all_scattered [] [] len all = refl
all_scattered [] (x ∷ flags) len all = absurd (omega arith)
all_scattered (p ∷ present) [] len all = absurd (omega arith)
all_scattered (false ∷ present) (x ∷ flags) len all = absurd (omega (arith, present_count-le present))
all_scattered (true ∷ present) (x ∷ flags) len all = ap (λ (l : List Bool). x ∷ l) (all_scattered present flags (omega arith) (omega arith))

-- ---- to the front

pub count_short : (present : List Bool) (i : ℕ) → present_count (take i present) ≤ i
count_short present i = omega (arith, present_count-le (take i present), length-take i present)

pub gather_more : (present old now : List Bool) (row used next : ℕ) (y : Bool) → row < length present → length old ≡ length present → length now ≡ length present → used ≤ row
    → take used now ≡ kept (take row present) (take row old) → y ≡ get_or old row false → next ≡ used + (if get_or present row false then 1 else 0)
    → take next (set now used y) ≡ kept (take (row + 1) present) (take (row + 1) old)
gather_more present old now row used next y h length_old length_now le front is next_is =
    ap (λ (n : ℕ). take n (set now used y)) next_is
    ∙ by (get_or present row false)
    ∙ sym (kept_more present old row false false (sym length_old) (omega arith))
  where
    by : (p : Bool) → take (used + (if p then 1 else 0)) (set now used y) ≡ kept (take row present) (take row old) ++ (if p then get_or old row false ∷ [] else [])
    by true =
        take_more_set now used y (omega arith)
        ∙ ap (λ (l : List Bool). l ++ y ∷ []) front
        ∙ ap (λ (b : Bool). kept (take row present) (take row old) ++ b ∷ []) is
    by false =
        let e : used + 0 ≡ used = omega arith in
        ap (λ (n : ℕ). take n (set now used y)) e ∙ take-set now used y ∙ front ∙ sym (append-nil (kept (take row present) (take row old)))

pub rest_more : (old now : List Bool) (row used : ℕ) (y : Bool) → used ≤ row → ((k : ℕ) → row ≤ k → get_or now k false ≡ get_or old k false)
    → (k : ℕ) → row + 1 ≤ k → get_or (set now used y) k false ≡ get_or old k false
rest_more old now row used y le rest k h = get_or-set_other now used k y false (λ e. omega (arith, e)) ∙ rest k (omega arith)

-- ---- and back

-- the rows from a place on have their flags, and those in front of it are as they were
pub record Scattering (present old now : List Bool) (row from : ℕ) : Type 0 where
  pub dense : from ≡ present_count (take row present)
  pub same : take row now ≡ take row old
  pub done : drop row now ≡ scattered (drop row present) (drop from (take (present_count present) old))

scattered_set : (present flags : List Bool) (x : Bool) → scattered (true ∷ present) (x ∷ flags) ≡ x ∷ scattered present flags
scattered_set present flags x = refl

scattered_unset : (present flags : List Bool) → scattered (false ∷ present) flags ≡ false ∷ scattered present flags
scattered_unset present flags = refl

fewer : (old now : List Bool) (i : ℕ) → take (i + 1) now ≡ take (i + 1) old → take i now ≡ take i old
fewer old now i h =
    let k : i ≤ i + 1 = omega arith in
    sym (take-take i (i + 1) now k) ∙ ap (λ (l : List Bool). take i l) h ∙ take-take i (i + 1) old k

count_le : (present : List Bool) (i : ℕ) → present_count (take i present) ≤ present_count present
count_le [] zero = omega arith
count_le [] (suc i) = omega arith
count_le (p ∷ present) zero = omega arith
count_le (true ∷ present) (suc i) = omega (arith, count_le present i)
count_le (false ∷ present) (suc i) = omega (arith, count_le present i)

one_or_none : (p : Bool) → (if p then 1 else 0) ≤ 1
one_or_none true = omega arith
one_or_none false = omega arith

and_true : (b : Bool) → (b && true) ≡ b
and_true true = refl
and_true false = refl

and_false : (b : Bool) → (b && false) ≡ false
and_false true = refl
and_false false = refl

module _ (present old now : List Bool) (row next from place : ℕ) (y : Bool) (is : row ≡ next + 1) (within : row ≤ length present) (length_now : length now ≡ length present) (length_old : length old ≡ length present)
    (at : Scattering present old now row from) where
  counted : from ≡ present_count (take next present) + (if get_or present next false then 1 else 0)
  counted = at.dense ∙ ap (λ (n : ℕ). present_count (take n present)) is ∙ count_more present next (omega (arith, is, within))

  pub enough : (if get_or present next false then 1 else 0) ≤ from
  enough = omega (arith, counted)

  pub stands : place ≡ from - (if get_or present next false then 1 else 0) → place < length now
  stands place_is = omega (arith, counted, place_is, count_short present next, is, within, length_now)

  pub scatter_more : place ≡ from - (if get_or present next false then 1 else 0) → y ≡ (get_or now place false && get_or present next false) → Scattering present old (set now next y) next place
  scatter_more place_is y_is =
      let values = take (present_count present) old in
      let at_next : Scattering present old now (next + 1) from = subst (λ (n : ℕ). Scattering present old now n from) is at in
      let dense : place ≡ present_count (take next present) = omega (arith, counted, place_is) in
      let short = count_short present next in
      let few = count_le present (next + 1) in
      let h : next < length present = omega (arith, is, within) in
      let there : place < present_count present → get_or now place false ≡ get_or values place false = λ p.
      sym (get_or-take (next + 1) now place false (omega (arith, dense, short)))
      ∙ ap (λ (l : List Bool). get_or l place false) at_next.same
      ∙ get_or-take (next + 1) old place false (omega (arith, dense, short))
      ∙ sym (get_or-take (present_count present) old place false p) in
      record {
        dense = dense;
        same = take-set now next y ∙ fewer old now next at_next.same;
        done = drop-set now next y (omega (arith, length_now, h)) ∙ by (get_or present next false) y_is place_is (count_more present next h) refl there at_next.done;
      }
    where
      by : (p : Bool) → y ≡ (get_or now place false && p) → place ≡ from - (if p then 1 else 0) → present_count (take (next + 1) present) ≡ present_count (take next present) + (if p then 1 else 0) → get_or present next false ≡ p
          → (place < present_count present → get_or now place false ≡ get_or (take (present_count present) old) place false)
          → drop (next + 1) now ≡ scattered (drop (next + 1) present) (drop from (take (present_count present) old))
          → y ∷ drop (next + 1) now ≡ scattered (drop next present) (drop place (take (present_count present) old))
      by true y_is place_is more set there done =
          let values = take (present_count present) old in
          let h : next < length present = omega (arith, is, within) in
          let from_is : from ≡ present_count (take (next + 1) present) = at.dense ∙ ap (λ (n : ℕ). present_count (take n present)) is in
          let below : place < present_count present = omega (arith, from_is, more, place_is, count_le present (next + 1)) in
          let len : length values ≡ present_count present = length-take-le (present_count present) old (omega (arith, length_old, present_count-le present)) in
          let up : from ≡ place + 1 = omega (arith, from_is, more, place_is) in
          let flag : y ≡ get_or values place false = y_is ∙ and_true (get_or now place false) ∙ there below in
          ap (λ (b : Bool). b ∷ drop (next + 1) now) flag
          ∙ ap (λ (l : List Bool). get_or values place false ∷ l) done
          ∙ ap (λ (n : ℕ). get_or values place false ∷ scattered (drop (next + 1) present) (drop n values)) up
          ∙ sym (scattered_set (drop (next + 1) present) (drop (place + 1) values) (get_or values place false))
          ∙ ap (λ (l : List Bool). scattered (true ∷ drop (next + 1) present) l) (sym (drop_more values place false (omega (arith, below, len))))
          ∙ ap (λ (b : Bool). scattered (b ∷ drop (next + 1) present) (drop place values)) (sym set)
          ∙ ap (λ (l : List Bool). scattered l (drop place values)) (sym (drop_more present next false h))
      by false y_is place_is more set there done =
          let values = take (present_count present) old in
          let h : next < length present = omega (arith, is, within) in
          let stays : from ≡ place = omega (arith, place_is) in
          ap (λ (b : Bool). b ∷ drop (next + 1) now) (y_is ∙ and_false (get_or now place false))
          ∙ ap (λ (l : List Bool). false ∷ l) done
          ∙ ap (λ (n : ℕ). false ∷ scattered (drop (next + 1) present) (drop n values)) stays
          ∙ sym (scattered_unset (drop (next + 1) present) (drop place values))
          ∙ ap (λ (b : Bool). scattered (b ∷ drop (next + 1) present) (drop place values)) (sym set)
          ∙ ap (λ (l : List Bool). scattered l (drop place values)) (sym (drop_more present next false h))

pub scatter_begins : (present old : List Bool) (count : ℕ) → length old ≡ length present → count ≡ present_count present → Scattering present old old (length present) count
scatter_begins present old count len is =
    record {
      dense = is ∙ ap present_count (sym (take_all (length present) present (omega arith)));
      same = refl;
      done = drop_all (length present) old (omega (arith, len)) ∙ ap (λ (l : List Bool). scattered l (drop count (take (present_count present) old))) (sym (drop_all (length present) present (omega arith)));
    }

pub scatter_ends : (present old now : List Bool) (row from count : ℕ) → row ≡ 0 → count ≡ present_count present → Scattering present old now row from → now ≡ scattered present (take count old)
scatter_ends present old now zero from count none is at =
    at.done
    ∙ ap (λ (n : ℕ). scattered present (drop n (take (present_count present) old))) at.dense
    ∙ ap (λ (n : ℕ). scattered present (take n old)) (sym is)
scatter_ends present old now (suc row) from count none is at = absurd (omega (arith, none))

-- ---- a check of the values is a check of the rows

pub checked_rows : (asked : Value → Bool) → asked value.Null ≡ false → (mask present : List Bool) (values : List Value) → length mask ≡ length present → length values ≡ present_count present
    → scattered present (both (kept present mask) (map asked values)) ≡ both mask (map asked (map (value_by (λ v. v)) (woven present values)))
checked_rows asked null [] [] values len count = refl
checked_rows asked null [] (p ∷ present) values len count = absurd (omega arith)
checked_rows asked null (p ∷ mask) [] values len count = absurd (omega arith)
checked_rows asked null (p ∷ mask) (false ∷ present) values len count =
    ap (λ (l : List Bool). false ∷ l) (checked_rows asked null mask present values (omega arith) (omega arith))
    ∙ ap (λ (b : Bool). b ∷ both mask (map asked (map (value_by (λ v. v)) (woven present values)))) (sym (and_false p) ∙ ap (λ (b : Bool). p && b) (sym null))
checked_rows asked null (p ∷ mask) (true ∷ present) [] len count = absurd (omega arith)
checked_rows asked null (p ∷ mask) (true ∷ present) (v ∷ values) len count =
    ap (λ (l : List Bool). (p && asked v) ∷ l) (checked_rows asked null mask present values (omega arith) (omega arith))

pub checked_column : (asked : Value → Bool) → asked value.Null ≡ false → (mask : List Bool) (column : List Value) (values : ColumnValues) → length mask ≡ length column
    → entries_in values ≡ present_count (present_of column) → column_of (present_of column) values ≡ column
    → scattered (present_of column) (both (kept (present_of column) mask) (map asked (values_in values))) ≡ both mask (map asked column)
checked_column asked null mask column values len count rows =
    let present = present_of column in
    checked_rows asked null mask present (values_in values) (len ∙ sym (length-map column is_present)) (length-values_in values ∙ count)
    ∙ ap (λ (l : List Value). both mask (map asked l)) (sym (column-woven present values) ∙ rows)
