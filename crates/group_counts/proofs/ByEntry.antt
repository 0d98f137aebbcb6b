-- Entries of a dictionary that are counted by their numbers.
use Rattle.std.proofs.Common.{◌≡◌, ℕ, ℤ, pos, zero, suc, ◌+◌, ◌-◌, ◌^◌, ◌<◌, ◌≤◌, Bool, true, false, List, [], ◌∷◌, ◌++◌, length, map, get_or, set, take, drop, replicate, if◌then◌else◌, Some, append_assoc, append-nil, refl, sym, ◌∙◌, ap, subst, arith}
use Rattle.std.specs.Prelude.{All, slice_index_or}
use Rattle.std.specs.Int.{w64, cast_unsigned}
use Rattle.std.proofs.lemmas.List.{set-get_or, get_or-map, length-map, length-take, take_more, drop_more}
use Rattle.std.proofs.lemmas.List.Elements.{All-get_or, All-set, All-weaker}
use Rattle.orc_values.specs.declared.value.Value.{Value}
use Rattle.orc_values.specs.declared.value.Value.TheVariants as value
use Rattle.orc_values.specs.Chosen.{places_of, chosen}
use Rattle.orc_values.specs.Column.{value_by}
use Rattle.orc_values.specs.Woven.{present_count, woven}
use Rattle.orc_values.specs.WovenLaws.{woven-all}
use Rattle.group_counts.specs.Order.{value_cmp}
use Rattle.group_counts.specs.Tally.{plus, added, added_all}
use Rattle.group_counts.specs.Entries.{Entries}
use Rattle.group_counts.specs.Slots.{counted}
use Rattle.group_counts.specs.EntryCounts.{entry_counts, flagged}
use Rattle.group_counts.proofs.Adding.{added_all-append}
use Rattle.group_counts.proofs.Moved.{More, value-later, free-more, same-more}

-- a value that is counted once more
counted-more : (v : Value) (n : ℕ) → n < 2 ^ 64 - 1 → More (counted v n) (counted v (n + 1)) v
counted-more v zero lt = free-more v v 0 refl
counted-more v (suc n) lt =
    let some : 0 < suc n = omega arith in
    let e : plus (suc n) 1 ≡ suc n + 1 = omega arith in
    subst (λ (m : ℕ). More (counted v (suc n)) (counted v m) v) e (same-more v v (suc n) some refl)

-- where one entry is counted once more, so are all of them
entries-at : (texts : List (List ℕ)) (counts : List ℕ) (i m : ℕ) (v : Value) → i < length counts → length texts ≡ length counts
    → More (counted (value.Text (get_or texts i [])) (get_or counts i 0)) (counted (value.Text (get_or texts i [])) m) v
    → More (entry_counts texts counts) (entry_counts texts (set counts i m)) v
entries-at texts [] i m v lt len more es = absurd (omega arith)
entries-at [] (count ∷ counts) i m v lt len more es = absurd (omega arith)
entries-at (text ∷ texts) (count ∷ counts) zero m v lt len more es =
    let here = counted (value.Text text) count in
    let there = counted (value.Text text) m in
    let back = entry_counts texts counts in
    added_all-append value_cmp es there back ∙ ap (λ (l : Entries). added_all value_cmp l back) (more es)
    ∙ value-later (added_all value_cmp es here) back v 1
    ∙ ap (λ (l : Entries). added value_cmp l v 1) (sym (added_all-append value_cmp es here back))
entries-at (text ∷ texts) (count ∷ counts) (suc i) m v lt len more es =
    let here = counted (value.Text text) count in
    added_all-append value_cmp es here (entry_counts texts (set counts i m))
    ∙ entries-at texts counts i m v (omega arith) (omega arith) more (added_all value_cmp es here)
    ∙ ap (λ (l : Entries). added value_cmp l v 1) (sym (added_all-append value_cmp es here (entry_counts texts counts)))

-- an entry that is counted once more where a flag is set
pub entry-flagged : (texts : List (List ℕ)) (counts : List ℕ) (i m : ℕ) (p : Bool) → i < length counts → length texts ≡ length counts
    → get_or counts i 0 < 2 ^ 64 - 1 → m ≡ get_or counts i 0 + (if p then 1 else 0) → (es : Entries)
    → added_all value_cmp es (entry_counts texts (set counts i m))
    ≡ (if p then added value_cmp (added_all value_cmp es (entry_counts texts counts)) (value.Text (get_or texts i [])) 1 else added_all value_cmp es (entry_counts texts counts))
entry-flagged texts counts i m true lt len few is es =
    ap (λ (n : ℕ). added_all value_cmp es (entry_counts texts (set counts i n))) is
    ∙ entries-at texts counts i (get_or counts i 0 + 1) (value.Text (get_or texts i [])) lt len (counted-more (value.Text (get_or texts i [])) (get_or counts i 0) few) es
entry-flagged texts counts i m false lt len few is es =
    let same : m ≡ get_or counts i 0 = omega arith in
    ap (λ (n : ℕ). added_all value_cmp es (entry_counts texts (set counts i n))) same
    ∙ ap (λ (l : List ℕ). added_all value_cmp es (entry_counts texts l)) (set-get_or counts i 0)

-- the first of some rows
flagged-first : (es : Entries) (p : Bool) (flags : List Bool) (v : Value) (column : List Value)
    → added_all value_cmp es (flagged (p ∷ flags) (v ∷ column)) ≡ added_all value_cmp (if p then added value_cmp es v 1 else es) (flagged flags column)
flagged-first es true flags v column = refl
flagged-first es false flags v column = refl

-- one row more of those that were counted
pub flagged-row : (es : Entries) (flags : List Bool) (column : List Value) (i : ℕ) → i < length flags → length flags ≡ length column
    → added_all value_cmp es (flagged (drop i flags) (drop i column))
    ≡ added_all value_cmp (if get_or flags i false then added value_cmp es (get_or column i value.Null) 1 else es) (flagged (drop (i + 1) flags) (drop (i + 1) column))
flagged-row es flags column i lt len =
    ap (λ (l : List Bool). added_all value_cmp es (flagged l (drop i column))) (drop_more flags i false lt)
    ∙ ap (λ (l : List Value). added_all value_cmp es (flagged (get_or flags i false ∷ drop (i + 1) flags) l)) (drop_more column i value.Null (omega arith))
    ∙ flagged-first es (get_or flags i false) (drop (i + 1) flags) (get_or column i value.Null) (drop (i + 1) column)

-- the texts of numbers, as values
abbrev pub text_values : List (List ℕ) → List ℤ → List Value
text_values texts numbers = map (λ text. value.Text text) (chosen texts (places_of numbers))

-- the text of a number is its entry
pub chosen-at : (texts : List (List ℕ)) (numbers : List ℤ) (i : ℕ) → i < length numbers
    → get_or (chosen texts (places_of numbers)) i [] ≡ get_or texts (cast_unsigned w64 (get_or numbers i (pos 0))) []
chosen-at texts numbers i lt =
    let none : List ℕ = [] in
    let places : i < length (places_of numbers) = omega (arith, length-map numbers (cast_unsigned w64)) in
    get_or-map (λ (place : ℕ). slice_index_or texts place []) (places_of numbers) i 0 none places
    ∙ ap (λ (place : ℕ). slice_index_or texts place []) (get_or-map (cast_unsigned w64) numbers i (pos 0) 0 lt)

pub length-chosen : (texts : List (List ℕ)) (numbers : List ℤ) → length (chosen texts (places_of numbers)) ≡ length numbers
length-chosen texts numbers =
    length-map (places_of numbers) (λ (place : ℕ). slice_index_or texts place []) ∙ length-map numbers (cast_unsigned w64)

pub length-text_values : (texts : List (List ℕ)) (numbers : List ℤ) → length (text_values texts numbers) ≡ length numbers
length-text_values texts numbers = length-map (chosen texts (places_of numbers)) (λ (text : List ℕ). value.Text text) ∙ length-chosen texts numbers

pub text_values-at : (texts : List (List ℕ)) (numbers : List ℤ) (i : ℕ) → i < length numbers
    → get_or (text_values texts numbers) i value.Null ≡ value.Text (get_or texts (cast_unsigned w64 (get_or numbers i (pos 0))) [])
text_values-at texts numbers i lt =
    let none : List ℕ = [] in
    get_or-map (λ (text : List ℕ). value.Text text) (chosen texts (places_of numbers)) i none value.Null (omega (arith, lt, length-chosen texts numbers))
    ∙ ap (λ (text : List ℕ). value.Text text) (chosen-at texts numbers i lt)

-- each of these numbers is that of an entry
pub place-below : (limit : ℕ) (numbers : List ℤ) (i : ℕ) → All (λ place. place < limit) (places_of numbers) → i < length numbers
    → cast_unsigned w64 (get_or numbers i (pos 0)) < limit
place-below limit numbers i within lt =
    let below : get_or (places_of numbers) i 0 < limit = All-get_or (λ (place : ℕ). place < limit) (places_of numbers) i 0 (omega (arith, lt, length-map numbers (cast_unsigned w64))) within in
    omega (arith, below, get_or-map (cast_unsigned w64) numbers i (pos 0) 0 lt)

-- a row more of texts that are counted by their numbers
pub text-row : (texts : List (List ℕ)) (counts : List ℕ) (numbers : List ℤ) (flags : List Bool) (i place m : ℕ)
    → length flags ≡ length numbers → i < length flags → place ≡ cast_unsigned w64 (get_or numbers i (pos 0)) → place < length counts → length texts ≡ length counts
    → get_or counts place 0 < 2 ^ 64 - 1 → m ≡ get_or counts place 0 + (if get_or flags i false then 1 else 0) → (es : Entries)
    → added_all value_cmp (added_all value_cmp es (entry_counts texts (set counts place m))) (flagged (drop (i + 1) flags) (drop (i + 1) (text_values texts numbers)))
    ≡ added_all value_cmp (added_all value_cmp es (entry_counts texts counts)) (flagged (drop i flags) (drop i (text_values texts numbers)))
text-row texts counts numbers flags i place m rows lt is below len few more es =
    let column = text_values texts numbers in
    let rest = flagged (drop (i + 1) flags) (drop (i + 1) column) in
    let now = added_all value_cmp es (entry_counts texts counts) in
    let value_is : get_or column i value.Null ≡ value.Text (get_or texts place []) =
    text_values-at texts numbers i (omega arith) ∙ ap (λ (n : ℕ). value.Text (get_or texts n [])) (sym is) in
    ap (λ (l : Entries). added_all value_cmp l rest) (entry-flagged texts counts place m (get_or flags i false) below len few more es)
    ∙ ap (λ (v : Value). added_all value_cmp (if get_or flags i false then added value_cmp now v 1 else now) rest) (sym value_is)
    ∙ sym (flagged-row now flags column i lt (omega (arith, length-text_values texts numbers)))

-- no entry is counted more often than there are rows
pub few-more : (counts : List ℕ) (row place : ℕ) (p : Bool) → All (λ count. count ≤ row) counts → place < length counts
    → All (λ count. count ≤ row + 1) (set counts place (get_or counts place 0 + (if p then 1 else 0)))
few-more counts row place p few below =
    let here : get_or counts place 0 ≤ row = All-get_or (λ (count : ℕ). count ≤ row) counts place 0 below few in
    let one : (if p then 1 else 0) ≤ 1 = by p in
    All-set (λ (count : ℕ). count ≤ row + 1) counts place (get_or counts place 0 + (if p then 1 else 0)) (omega arith)
    (All-weaker (λ (count : ℕ). count ≤ row) (λ (count : ℕ). count ≤ row + 1) (λ n h. omega arith) counts few)
  where
    by : (p : Bool) → (if p then 1 else 0) ≤ 1
    by true = omega arith
    by false = omega arith

-- the rows of flags and of the texts that stand
abbrev pub rows_of : List Bool → List (List ℕ) → List Value
rows_of present texts = map (value_by (λ text. value.Text text)) (woven present texts)

row-null : (present : List Bool) (texts : List (List ℕ)) (i : ℕ) → i < length present → get_or present i false ≡ false
    → rows_of (drop i present) texts ≡ value.Null ∷ rows_of (drop (i + 1) present) texts
row-null present texts i lt is =
    ap (λ (l : List Bool). rows_of l texts) (drop_more present i false lt ∙ ap (λ (p : Bool). p ∷ drop (i + 1) present) is)

row-text : (present : List Bool) (texts : List (List ℕ)) (i before : ℕ) → i < length present → get_or present i false ≡ true → before < length texts
    → rows_of (drop i present) (drop before texts) ≡ value.Text (get_or texts before []) ∷ rows_of (drop (i + 1) present) (drop (before + 1) texts)
row-text present texts i before lt is within =
    let none : List ℕ = [] in
    ap (λ (l : List Bool). rows_of l (drop before texts)) (drop_more present i false lt ∙ ap (λ (p : Bool). p ∷ drop (i + 1) present) is)
    ∙ ap (λ (l : List (List ℕ)). rows_of (true ∷ drop (i + 1) present) l) (drop_more texts before none within)

-- null is counted once more where a flag is set
null-flagged : (nulls m : ℕ) (p : Bool) → nulls < 2 ^ 64 - 1 → m ≡ nulls + (if p then 1 else 0) → (es list : Entries)
    → added_all value_cmp (added_all value_cmp es (counted value.Null m)) list
    ≡ (if p then added value_cmp (added_all value_cmp (added_all value_cmp es (counted value.Null nulls)) list) value.Null 1 else added_all value_cmp (added_all value_cmp es (counted value.Null nulls)) list)
null-flagged nulls m true few is es list =
    ap (λ (n : ℕ). added_all value_cmp (added_all value_cmp es (counted value.Null n)) list) is
    ∙ ap (λ (l : Entries). added_all value_cmp l list) (counted-more value.Null nulls few es)
    ∙ value-later (added_all value_cmp es (counted value.Null nulls)) list value.Null 1
null-flagged nulls m false few is es list =
    let same : m ≡ nulls = omega arith in
    ap (λ (n : ℕ). added_all value_cmp (added_all value_cmp es (counted value.Null n)) list) same

-- a row more that is null
pub null-row : (present flags : List Bool) (texts : List (List ℕ)) (i nulls m : ℕ) → length flags ≡ length present → i < length flags → get_or present i false ≡ false
    → nulls < 2 ^ 64 - 1 → m ≡ nulls + (if get_or flags i false then 1 else 0) → (es list : Entries)
    → added_all value_cmp (added_all value_cmp (added_all value_cmp es (counted value.Null m)) list) (flagged (drop (i + 1) flags) (rows_of (drop (i + 1) present) texts))
    ≡ added_all value_cmp (added_all value_cmp (added_all value_cmp es (counted value.Null nulls)) list) (flagged (drop i flags) (rows_of (drop i present) texts))
null-row present flags texts i nulls m rows lt is few more es list =
    let column = rows_of (drop (i + 1) present) texts in
    let now = added_all value_cmp (added_all value_cmp es (counted value.Null nulls)) list in
    ap (λ (l : Entries). added_all value_cmp l (flagged (drop (i + 1) flags) column)) (null-flagged nulls m (get_or flags i false) few more es list)
    ∙ sym (flagged-first now (get_or flags i false) (drop (i + 1) flags) value.Null column)
    ∙ sym (ap (λ (l : List Bool). added_all value_cmp now (flagged l (rows_of (drop i present) texts))) (drop_more flags i false lt)
    ∙ ap (λ (l : List Value). added_all value_cmp now (flagged (get_or flags i false ∷ drop (i + 1) flags) l)) (row-null present texts i (omega arith) is))

-- a row more that has a text
pub some-row : (present flags : List Bool) (texts : List (List ℕ)) (counts : List ℕ) (numbers : List ℤ) (i before place m : ℕ)
    → length flags ≡ length present → i < length flags → get_or present i false ≡ true → before < length numbers
    → place ≡ cast_unsigned w64 (get_or numbers before (pos 0)) → place < length counts → length texts ≡ length counts
    → get_or counts place 0 < 2 ^ 64 - 1 → m ≡ get_or counts place 0 + (if get_or flags i false then 1 else 0) → (es : Entries)
    → added_all value_cmp (added_all value_cmp es (entry_counts texts (set counts place m)))
    (flagged (drop (i + 1) flags) (rows_of (drop (i + 1) present) (drop (before + 1) (chosen texts (places_of numbers)))))
    ≡ added_all value_cmp (added_all value_cmp es (entry_counts texts counts)) (flagged (drop i flags) (rows_of (drop i present) (drop before (chosen texts (places_of numbers)))))
some-row present flags texts counts numbers i before place m rows lt is within place_is below len few more es =
    let all = chosen texts (places_of numbers) in
    let column = rows_of (drop (i + 1) present) (drop (before + 1) all) in
    let now = added_all value_cmp es (entry_counts texts counts) in
    let text_is : get_or all before [] ≡ get_or texts place [] = chosen-at texts numbers before within ∙ ap (λ (n : ℕ). get_or texts n []) (sym place_is) in
    ap (λ (l : Entries). added_all value_cmp l (flagged (drop (i + 1) flags) column)) (entry-flagged texts counts place m (get_or flags i false) below len few more es)
    ∙ sym (flagged-first now (get_or flags i false) (drop (i + 1) flags) (value.Text (get_or texts place [])) column)
    ∙ ap (λ (t : List ℕ). added_all value_cmp now (flagged (get_or flags i false ∷ drop (i + 1) flags) (value.Text t ∷ column))) (sym text_is)
    ∙ sym (ap (λ (l : List Bool). added_all value_cmp now (flagged l (rows_of (drop i present) (drop before all)))) (drop_more flags i false lt)
    ∙ ap (λ (l : List Value). added_all value_cmp now (flagged (get_or flags i false ∷ drop (i + 1) flags) l)) (row-text present all i before (omega arith) is (omega (arith, within, length-chosen texts numbers))))

-- where there is a number for each row, no row is null
some_all : (texts : List (List ℕ)) → map (value_by (λ text. value.Text text)) (map (λ text. Some text) texts) ≡ map (λ text. value.Text text) texts
some_all [] = refl
some_all (text ∷ texts) = ap (λ (l : List Value). value.Text text ∷ l) (some_all texts)

pub rows_of-all : (present : List Bool) (texts : List (List ℕ)) → length texts ≡ length present → length texts ≡ present_count present
    → rows_of present texts ≡ map (λ text. value.Text text) texts
rows_of-all present texts len all =
    ap (map (value_by (λ text. value.Text text))) (woven-all present texts (sym len) (sym all ∙ len)) ∙ some_all texts

-- a row that is present has a number left
pub number-left : (present : List Bool) (i before count : ℕ) → i < length present → get_or present i false ≡ true → present_count (drop i present) ≡ count - before → before ≤ count
    → (before < count) × (present_count (drop (i + 1) present) ≡ count - (before + 1))
number-left present i before count lt is left le =
    let more = ap present_count (drop_more present i false lt ∙ ap (λ (p : Bool). p ∷ drop (i + 1) present) is) in
    (omega (arith, more, left), omega (arith, more, left))

pub numbers-left : (present : List Bool) (i : ℕ) → i < length present → get_or present i false ≡ false → present_count (drop (i + 1) present) ≡ present_count (drop i present)
numbers-left present i lt is =
    let more = ap present_count (drop_more present i false lt ∙ ap (λ (p : Bool). p ∷ drop (i + 1) present) is) in
    omega (arith, more)

pub few-later : (counts : List ℕ) (row : ℕ) → All (λ count. count ≤ row) counts → All (λ count. count ≤ row + 1) counts
few-later counts row few = All-weaker (λ (count : ℕ). count ≤ row) (λ (count : ℕ). count ≤ row + 1) (λ n h. omega arith) counts few

-- entries that were never counted
pub none-counted : (texts : List (List ℕ)) (n : ℕ) → entry_counts texts (replicate n 0) ≡ []
none-counted [] n = refl
none-counted (text ∷ texts) zero = refl
none-counted (text ∷ texts) (suc n) = none-counted texts n

entries-append : (front back : List (List ℕ)) (counts more : List ℕ) → length front ≡ length counts
    → entry_counts (front ++ back) (counts ++ more) ≡ entry_counts front counts ++ entry_counts back more
entries-append [] back [] more len = refl
entries-append [] back (count ∷ counts) more len = absurd (omega arith)
entries-append (text ∷ front) back [] more len = absurd (omega arith)
entries-append (text ∷ front) back (count ∷ counts) more len =
    ap (λ (l : Entries). counted (value.Text text) count ++ l) (entries-append front back counts more (omega arith))
    ∙ sym (append_assoc (counted (value.Text text) count) (entry_counts front counts) (entry_counts back more))

-- one entry more of a dictionary
pub entries-next : (start now new : Entries) (texts : List (List ℕ)) (counts : List ℕ) (i : ℕ) (text : List ℕ) → length counts ≡ length texts → i < length counts
    → get_or texts i [] ≡ text
    → now ≡ added_all value_cmp start (entry_counts (take i texts) (take i counts))
    → new ≡ added_all value_cmp now (counted (value.Text text) (get_or counts i 0))
    → new ≡ added_all value_cmp start (entry_counts (take (i + 1) texts) (take (i + 1) counts))
entries-next start now new texts counts i text len lt here was is =
    let none : List ℕ = [] in
    let next = counted (value.Text text) (get_or counts i 0) in
    let front = entry_counts (take i texts) (take i counts) in
    let fronts : length (take i texts) ≡ length (take i counts) = omega (arith, length-take i texts, length-take i counts) in
    is ∙ ap (λ (l : Entries). added_all value_cmp l next) was
    ∙ sym (ap (λ (l : List (List ℕ)). added_all value_cmp start (entry_counts l (take (i + 1) counts))) (take_more texts i none (omega arith) ∙ ap (λ (t : List ℕ). take i texts ++ t ∷ []) here)
    ∙ ap (λ (l : List ℕ). added_all value_cmp start (entry_counts (take i texts ++ text ∷ []) l)) (take_more counts i 0 lt)
    ∙ ap (added_all value_cmp start) (entries-append (take i texts) (text ∷ []) (take i counts) (get_or counts i 0 ∷ []) fronts ∙ ap (λ (l : Entries). front ++ l) (append-nil next))
    ∙ added_all-append value_cmp start front next)
