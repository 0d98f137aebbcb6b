-- The bytes of a line that is written plainly: none is 0A, and the last isn't 0D.
use Rattle.std.proofs.Common.{◌≡◌, ℕ, ◌≤◌, List, [], ◌∷◌, ◌++◌, length, map, Bool, true, false, not, ◌==◌, ◌&&◌, refl, sym, ap, ◌∙◌, arith, codes, ◌⊎◌, inl, inr, Some}
use Rattle.std.specs.Char.{is_ascii_digit}
use Rattle.std.specs.Fmt.{signed_decimal}
use Rattle.std.specs.List.{list_all}
use Rattle.std.proofs.lemmas.Bool.Decides.{nat_tests}
use Rattle.std.proofs.lemmas.List.Folds.{list_all-append}
use Rattle.orc_values.specs.declared.value.Value.{Value}
use Rattle.orc_values.specs.declared.value.Value.TheVariants as value
use Rattle.plan_words.specs.Lines.{without_return}
use Rattle.plan_words.specs.Names.{is_name_byte, is_name, is_hidden}
use Rattle.fragment_plan.specs.declared.test.Op.{Op}
use Rattle.fragment_plan.specs.declared.test.Op.TheVariants.{Equal, NotEqual, Less, LessOrEqual, Greater, GreaterOrEqual}
use Rattle.fragment_plan.specs.declared.test.Check.{Check}
use Rattle.fragment_plan.specs.declared.test.Check.TheVariants.{Compare, IsNull, IsNotNull}
use Rattle.fragment_plan.specs.declared.test.Test.{Test}
use Rattle.fragment_plan.specs.declared.fragment.Fragment.{Fragment}
use Rattle.fragment_plan.specs.declared.fragment.Work.{Work}
use Rattle.fragment_plan.specs.declared.fragment.Work.TheVariants as work_is
use Rattle.fragment_plan.specs.declared.fragment.FoldKind.{FoldKind}
use Rattle.fragment_plan.specs.declared.fragment.FoldKind.TheVariants as fold
use Rattle.plan_text.specs.Written.{spaced, name_at, joined, list_text, op_text, closed_text, literal_text, check_text, test_text, more_text, tests_text, fold_text, work_text, after_text, line_text}
use Rattle.plan_text.specs.Plain.{named, IsLiteral, IsCheck, AreChecks, places_of, AreEarlier, IsWork}
use Rattle.plan_text.proofs.WordsRead.{both, name_bytes}
use Rattle.plan_text.proofs.LiteralsRead.{IsNumberText, number_text}
use Rattle.plan_text.proofs.PlacesRead.{Cols, named_step, named_grows, placed_is, name_in, places_names, numbers_names}

abbrev pub is_open : ℕ → Bool
is_open b = not (b == 10)

abbrev pub last_stays : List ℕ → Bool
last_stays [] = true
last_stays (b ∷ []) = not (b == 13)
last_stays (b ∷ c ∷ bytes) = last_stays (c ∷ bytes)

pub record Fit (bytes : List ℕ) : Type 0 where
  pub none : list_all is_open bytes ≡ true
  pub last : last_stays bytes ≡ true

last-app : (w rest : List ℕ) → last_stays w ≡ true → last_stays rest ≡ true → last_stays (w ++ rest) ≡ true
last-app [] rest h e = e
last-app (b ∷ []) [] h e = h
last-app (b ∷ []) (c ∷ rest) h e = e
last-app (b ∷ c ∷ w) rest h e = last-app (c ∷ w) rest h e

pub fit_app : (w rest : List ℕ) → Fit w → Fit rest → Fit (w ++ rest)
fit_app w rest a b = record {
  none = list_all-append is_open w rest ∙ rw a.none b.none;
  last = last-app w rest a.last b.last;
}

fit-none : Fit []
fit-none = record { none = refl; last = refl }

pub fit_spaced : (w rest : List ℕ) → Fit w → Fit rest → Fit (spaced w rest)
fit_spaced w rest a b = fit_app (32 ∷ []) (w ++ rest) (record { none = refl; last = refl }) (fit_app w rest a b)

stays-by : (b : ℕ) (t : Bool) → (b == 13) ≡ t → not (b == 13) ≡ true → without_return (b ∷ []) ≡ b ∷ []
stays-by b true t h = let no : false ≡ true = sym (ap not t) ∙ h in absurd cc
stays-by b false t h = rw t refl

pub stays : (bytes : List ℕ) → last_stays bytes ≡ true → without_return bytes ≡ bytes
stays [] h = refl
stays (b ∷ []) h = stays-by b (b == 13) refl h
stays (b ∷ c ∷ bytes) h = ap (λ (ys : List ℕ). b ∷ ys) (stays (c ∷ bytes) h)

-- bytes each of which is neither
abbrev is_plain_byte : ℕ → Bool
is_plain_byte b = is_open b && not (b == 13)

plain-fit : (w : List ℕ) → list_all is_plain_byte w ≡ true → Fit w
plain-fit [] h = fit-none
plain-fit (b ∷ w) h =
    let parts = both (is_plain_byte b) (list_all is_plain_byte w) h in
    let one = both (is_open b) (not (b == 13)) parts.0 in
    fit_app (b ∷ []) w (record { none = rw one.0 refl; last = one.1 }) (plain-fit w parts.1)

weaker : (p q : ℕ → Bool) (w : List ℕ) → ((b : ℕ) → p b ≡ true → q b ≡ true) → list_all p w ≡ true → list_all q w ≡ true
weaker p q [] f h = refl
weaker p q (b ∷ w) f h = let parts = both (p b) (list_all p w) h in rw (f b parts.0) (weaker p q w f parts.1)

name-plain : (b : ℕ) → is_name_byte b ≡ true → is_plain_byte b ≡ true
name-plain b h = grind (arith, nat_tests)

digit-plain : (b : ℕ) → is_ascii_digit b ≡ true → is_plain_byte b ≡ true
digit-plain b h = grind (arith, nat_tests)

pub name_fit : (w : List ℕ) → is_name w ≡ true → Fit w
name_fit w h = plain-fit w (weaker is_name_byte is_plain_byte w name-plain (name_bytes w h))

joined-fit : (names : List (List ℕ)) → list_all is_name names ≡ true → Fit (joined names)
joined-fit [] h = fit-none
joined-fit (name ∷ []) h = name_fit name (both (is_name name) (list_all is_name []) h).0
joined-fit (name ∷ other ∷ names) h =
    let parts = both (is_name name) (list_all is_name (other ∷ names)) h in
    fit_app name (44 ∷ joined (other ∷ names)) (name_fit name parts.0)
    (fit_app (44 ∷ []) (joined (other ∷ names)) (record { none = refl; last = refl }) (joined-fit (other ∷ names) parts.1))

number-head : (b : ℕ) → (is_ascii_digit b ≡ true) ⊎ (b ≡ 45) → is_plain_byte b ≡ true
number-head b (inl h) = digit-plain b h
number-head b (inr e) = rw e refl

number-fit : (w : List ℕ) → IsNumberText w → Fit w
number-fit [] h = absurd h
number-fit (b ∷ ds) h = plain-fit (b ∷ ds) (rw (number-head b h.0) (weaker is_ascii_digit is_plain_byte ds digit-plain h.1))

-- a text: what is put in front of the quote that closes it may be any byte but 0A
last-cons : (b : ℕ) (w : List ℕ) → 1 ≤ length w → last_stays w ≡ true → last_stays (b ∷ w) ≡ true
last-cons b [] some h = absurd (omega (arith, some))
last-cons b (c ∷ w) some h = h

closed-by : (b : ℕ) (bytes : List ℕ) (t : Bool) → (b == 39) ≡ t → is_open b ≡ true → (Fit (closed_text bytes)) × (1 ≤ length (closed_text bytes))
    → (Fit (closed_text (b ∷ bytes))) × (1 ≤ length (closed_text (b ∷ bytes)))
closed-by b bytes true t h later =
    rw t (fit_app (39 ∷ 39 ∷ []) (closed_text bytes) (record { none = refl; last = refl }) later.0, omega arith)
closed-by b bytes false t h later =
    rw t (record { none = rw h later.0.none; last = last-cons b (closed_text bytes) later.1 later.0.last }, omega arith)

closed-fit : (bytes : List ℕ) → list_all is_open bytes ≡ true → (Fit (closed_text bytes)) × (1 ≤ length (closed_text bytes))
closed-fit [] h = (record { none = refl; last = refl }, omega arith)
closed-fit (b ∷ bytes) h =
    let parts = both (is_open b) (list_all is_open bytes) h in
    closed-by b bytes (b == 39) refl parts.0 (closed-fit bytes parts.1)

literal-fit : (v : Value) → IsLiteral v → Fit (literal_text v)
literal-fit value.Null h = absurd h
literal-fit (value.Bool true) h = record { none = refl; last = refl }
literal-fit (value.Bool false) h = record { none = refl; last = refl }
literal-fit (value.Int z) h = number-fit (signed_decimal z) (number_text z h)
literal-fit (value.Text bytes) h = fit_app (39 ∷ []) (closed_text bytes) (record { none = refl; last = refl }) (closed-fit bytes h).0

op-fit : (op : Op) → Fit (op_text op)
op-fit Equal = record { none = refl; last = refl }
op-fit NotEqual = record { none = refl; last = refl }
op-fit Less = record { none = refl; last = refl }
op-fit LessOrEqual = record { none = refl; last = refl }
op-fit Greater = record { none = refl; last = refl }
op-fit GreaterOrEqual = record { none = refl; last = refl }

check-fit : (c : Check) (rest : List ℕ) → IsCheck c → Fit rest → Fit (check_text c rest)
check-fit (Compare op v) rest is f = fit_spaced (op_text op) (spaced (literal_text v) rest) (op-fit op) (fit_spaced (literal_text v) rest (literal-fit v is.0) f)
check-fit IsNull rest is f = fit_spaced (codes "is") (spaced (codes "null") rest) (record { none = refl; last = refl }) (fit_spaced (codes "null") rest (record { none = refl; last = refl }) f)
check-fit IsNotNull rest is f =
    fit_spaced (codes "is") (spaced (codes "not") (spaced (codes "null") rest)) (record { none = refl; last = refl })
    (fit_spaced (codes "not") (spaced (codes "null") rest) (record { none = refl; last = refl }) (fit_spaced (codes "null") rest (record { none = refl; last = refl }) f))

abbrev pub places_in : List Test → List ℕ
places_in list = map (λ test. test.column) list

more-fit : (columns : List (List ℕ)) (n : ℕ) (list : List Test) (m : ℕ) (rest : List ℕ) → Cols columns → m ≤ length columns → named n (places_in list) ≡ Some m
    → AreChecks list → Fit rest → Fit (more_text columns list rest)
more-fit columns n [] m rest cols le e are f = f
more-fit columns n (one ∷ others) m rest cols le e are f =
    let s = named_step n one.column (places_in others) m e in
    let p = placed_is columns n one.column (places_in others) m cols le s in
    fit_spaced (codes "and") (test_text columns one (more_text columns others rest)) (record { none = refl; last = refl })
    (fit_spaced (name_at columns one.column) (check_text one.check (more_text columns others rest)) (name_fit (name_at columns one.column) (name_in columns one.column cols.are p.0))
    (check-fit one.check (more_text columns others rest) are.0 (more-fit columns s.next others m rest cols le s.later are.1 f)))

tests-fit : (columns : List (List ℕ)) (n : ℕ) (list : List Test) (m : ℕ) (rest : List ℕ) → Cols columns → m ≤ length columns → named n (places_in list) ≡ Some m
    → AreChecks list → Fit rest → Fit (tests_text columns list rest)
tests-fit columns n [] m rest cols le e are f = f
tests-fit columns n (one ∷ others) m rest cols le e are f =
    let s = named_step n one.column (places_in others) m e in
    let p = placed_is columns n one.column (places_in others) m cols le s in
    fit_spaced (codes "where") (test_text columns one (more_text columns others rest)) (record { none = refl; last = refl })
    (fit_spaced (name_at columns one.column) (check_text one.check (more_text columns others rest)) (name_fit (name_at columns one.column) (name_in columns one.column cols.are p.0))
    (check-fit one.check (more_text columns others rest) are.0 (more-fit columns s.next others m rest cols le s.later are.1 f)))

fold-fit : (columns : List (List ℕ)) (kind : FoldKind) (m : ℕ) (rest : List ℕ) → Cols columns → m ≤ length columns → named 0 (places_of kind) ≡ Some m → Fit rest
    → Fit (fold_text columns kind rest)
fold-fit columns (fold.Rows places) m rest cols le e f =
    fit_spaced (codes "rows") (spaced (list_text columns places) rest) (record { none = refl; last = refl })
    (fit_spaced (list_text columns places) rest (joined-fit (map (name_at columns) places) (places_names columns 0 places m cols le e)) f)
fold-fit columns fold.Count m rest cols le e f = fit_spaced (codes "count") rest (record { none = refl; last = refl }) f
fold-fit columns (fold.Sum place) m rest cols le e f =
    let p = placed_is columns 0 place [] m cols le (named_step 0 place [] m e) in
    fit_spaced (codes "sum") (spaced (name_at columns place) rest) (record { none = refl; last = refl })
    (fit_spaced (name_at columns place) rest (name_fit (name_at columns place) (name_in columns place cols.are p.0)) f)
fold-fit columns (fold.Group place) m rest cols le e f =
    let p = placed_is columns 0 place [] m cols le (named_step 0 place [] m e) in
    fit_spaced (codes "group") (spaced (name_at columns place) rest) (record { none = refl; last = refl })
    (fit_spaced (name_at columns place) rest (name_fit (name_at columns place) (name_in columns place cols.are p.0)) f)

work-fit : (names : List (List ℕ)) (done : Work) (rest : List ℕ) → list_all is_name names ≡ true → IsWork (length names) done → Fit rest → Fit (work_text names done rest)
work-fit names (work_is.Merge numbers) rest are is f =
    fit_spaced (codes "merge") (spaced (list_text names numbers) rest) (record { none = refl; last = refl })
    (fit_spaced (list_text names numbers) rest (joined-fit (map (name_at names) numbers) (numbers_names names numbers are is.0.below)) f)
work-fit names (work_is.Scan scan) rest are is f =
    let cols : Cols scan.columns = record { are = is.columns_are; distinct = is.distinct; few = is.few } in
    let grows = named_grows is.behind (places_in scan.tests) (length scan.columns) is.tests_name in
    let tested = tests-fit scan.columns is.behind scan.tests (length scan.columns) rest cols (omega arith) is.tests_name is.tests_are f in
    fold-fit scan.columns scan.fold is.behind (spaced (codes "from") (spaced scan.file (tests_text scan.columns scan.tests rest))) cols grows is.fold_names
    (fit_spaced (codes "from") (spaced scan.file (tests_text scan.columns scan.tests rest)) (record { none = refl; last = refl })
    (fit_spaced scan.file (tests_text scan.columns scan.tests rest) (name_fit scan.file (both (is_name scan.file) (not (is_hidden scan.file)) is.file_is).0) tested))

after-fit : (names : List (List ℕ)) (numbers : List ℕ) → list_all is_name names ≡ true → AreEarlier (length names) numbers → Fit (after_text names numbers [])
after-fit names [] are earlier = fit-none
after-fit names (number ∷ numbers) are earlier =
    fit_spaced (codes "after") (spaced (list_text names (number ∷ numbers)) []) (record { none = refl; last = refl })
    (fit_spaced (list_text names (number ∷ numbers)) [] (joined-fit (map (name_at names) (number ∷ numbers)) (numbers_names names (number ∷ numbers) are earlier.below)) fit-none)

pub line_fit : (names : List (List ℕ)) (one : Fragment) → list_all is_name names ≡ true → is_name one.name ≡ true → IsWork (length names) one.work
    → AreEarlier (length names) one.after → Fit (line_text names one)
line_fit names one are name done behind =
    fit_app one.name (work_text names one.work (after_text names one.after [])) (name_fit one.name name)
    (work-fit names one.work (after_text names one.after []) are done (after-fit names one.after are behind))
