-- A column has one list of values, or one fault.
use Rattle.std.proofs.Common.{◌≡◌, ℕ, ◌+◌, ◌<◌, ◌≤◌, Bool, true, false, List, [], ◌∷◌, ◌++◌, length, map, Some, None, ℤ, pos, zero, suc, slice_index_or, append-nil, refl, sym, ◌∙◌, ap, subst, arith, length-append, Contains, sum}
use Rattle.std.specs.Int.{w64, cast_unsigned}
use Rattle.std.specs.Prelude.{◌-◌, replicate}
use Rattle.std.proofs.lemmas.List.{length-map, map-append, replicate-append-replicate}
use Rattle.std.proofs.lemmas.List.Elements.{Contains-append_left}
use Rattle.orc_values.specs.TextsLaws.{sum-cons, length-slices}
use Rattle.outside.specs.declared.run_fault.RunFault.{RunFault}
use Rattle.outside.specs.Runs.{Breaks, IsReaderOf}
use Rattle.outside.specs.RunLaws.{Spells-not-breaks}
use Rattle.orc_rle.specs.BitRun.{BitRun, bit_run}
use Rattle.orc_rle.specs.IntRun1.{IntRun1, int_run1}
use Rattle.orc_rle2.specs.IntRun2.{IntRun2, int_run2}
use Rattle.orc_values.specs.declared.value.Value.{Value}
use Rattle.orc_values.specs.declared.value.Value.TheVariants as value
use Rattle.orc_values.specs.Texts.{slices}
use Rattle.orc_values.specs.Woven.{woven, present_count}
use Rattle.orc_values.specs.WovenLaws.{length-woven, present_count-append}
use Rattle.orc_columns.specs.declared.fault.ColumnFault.{ColumnFault}
use Rattle.orc_columns.specs.declared.fault.ColumnFault.TheVariants.{Run}
use Rattle.orc_columns.specs.declared.fault.StreamName.TheVariants as name
use Rattle.orc_columns.specs.declared.plan.ColumnPlan.{ColumnPlan}
use Rattle.orc_columns.specs.declared.spelling.Spelling.{Spelling}
use Rattle.orc_columns.specs.declared.spelling.Spelling.TheVariants.{Bits, Integers, Texts, Dictionary}
use Rattle.orc_columns.specs.declared.spelling.Version.{Version}
use Rattle.orc_columns.specs.declared.spelling.Version.TheVariants.{One, Two}
use Rattle.orc_columns.specs.Column.{Streams, ArePresent, PresentBreaks, AreNumbers, AreLengths, LengthsFail, broken, negative, past, AreValues, ValuesFail, bits, integers, texts, entries, places, index, places_of, entry_text, IsNegative, IsColumn, encoding, nulls, values, row_value, rows_of}
use Rattle.orc_columns.specs.Laws.{NeverBoth, IsOneList, IsOneFault}
use Rattle.orc_columns.specs.Spelling.{IntRun, int_run}
use Rattle.orc_columns.proofs.Judged.{of_all}
use Rattle.orc_columns.proofs.OneSpelling.{spelled_front, spelled_once, broken_once}

-- the readers of both versions give the runs that stand there
pub both_int_runs : ((signed : Bool) → IsReaderOf (IntRun1 signed) (int_run1 signed))
    → ((signed : Bool) → IsReaderOf (IntRun2 signed) (int_run2 signed))
    → (version : Version) (signed : Bool) → IsReaderOf (IntRun version signed) (int_run version signed)
both_int_runs ones twos One signed = ones signed
both_int_runs ones twos Two signed = twos signed

module _ (bit_run_reads : IsReaderOf BitRun bit_run)
    (int_run_reads : (version : Version) (signed : Bool) → IsReaderOf (IntRun version signed) (int_run version signed)) where
  -- ---- flags

  flags_front : (stream : List ℕ) (xs ys : List Bool) → length xs ≤ length ys → ArePresent stream xs → ArePresent stream ys → (more : List Bool) × (xs ++ more ≡ ys)
  flags_front [] xs ys len a b =
      let n = length xs in
      let m = length ys in
      let all : n + (m - n) ≡ m = omega (arith, len) in
      (replicate (m - n) true, ap (λ (zs : List Bool). zs ++ replicate (m - n) true) a ∙ replicate-append-replicate n (m - n) true ∙ ap (λ (k : ℕ). replicate k true) all ∙ sym b)
  flags_front (byte ∷ bytes) xs ys len (rest, a) (rest', b) = spelled_front BitRun bit_run bit_run_reads (byte ∷ bytes) rest rest' xs ys len a b

  same_of_front : {V : Type 0} (xs ys more : List V) → length xs ≡ length ys → xs ++ more ≡ ys → xs ≡ ys
  same_of_front xs ys [] len e = sym (append-nil xs) ∙ e
  same_of_front {V} xs ys (m ∷ more) len e =
      let all : length (xs ++ (m ∷ more)) ≡ length ys = ap length e in
      absurd (omega (arith, all, length-append xs (m ∷ more), len))

  flags_once : (stream : List ℕ) (xs ys : List Bool) → length xs ≡ length ys → ArePresent stream xs → ArePresent stream ys → xs ≡ ys
  flags_once stream xs ys len a b =
      let on = flags_front stream xs ys (omega (arith, len)) a b in
      same_of_front xs ys on.0 len on.1

  fewer_set : (stream : List ℕ) (xs ys : List Bool) → length xs ≤ length ys → ArePresent stream xs → ArePresent stream ys → present_count xs ≤ present_count ys
  fewer_set stream xs ys len a b =
      let on = flags_front stream xs ys len a b in
      let all : present_count (xs ++ on.0) ≡ present_count ys = ap present_count on.1 in
      omega (arith, all, present_count-append xs on.0)

  flags_not_both : (stream : List ℕ) (flags : List Bool) (rows : ℕ) (fault : RunFault) → ArePresent stream flags → rows ≤ length flags → PresentBreaks stream rows fault → ⊥
  flags_not_both [] flags rows fault a le b = b
  flags_not_both (byte ∷ bytes) flags rows fault (rest, a) le b = Spells-not-breaks BitRun bit_run bit_run_reads (byte ∷ bytes) rest flags rows fault a le b

  flags_fault_once : (stream : List ℕ) (n : ℕ) (f g : RunFault) → PresentBreaks stream n f → PresentBreaks stream n g → f ≡ g
  flags_fault_once [] n f g a b = absurd a
  flags_fault_once (byte ∷ bytes) n f g a b = broken_once BitRun bit_run bit_run_reads (byte ∷ bytes) n n f g a b

  -- ---- numbers

  module _ (version : Version) (signed : Bool) (stream : List ℕ) where
    numbers_front : (xs ys : List ℤ) → length xs ≤ length ys → AreNumbers version signed stream xs → AreNumbers version signed stream ys → (more : List ℤ) × (xs ++ more ≡ ys)
    numbers_front xs ys len a b = spelled_front (IntRun version signed) (int_run version signed) (int_run_reads version signed) stream a.0 b.0 xs ys len a.1 b.1

    numbers_once : (xs ys : List ℤ) → length xs ≡ length ys → AreNumbers version signed stream xs → AreNumbers version signed stream ys → xs ≡ ys
    numbers_once xs ys len a b = spelled_once (IntRun version signed) (int_run version signed) (int_run_reads version signed) stream a.0 b.0 xs ys len a.1 b.1

    numbers_not_both : (xs : List ℤ) (n : ℕ) (fault : RunFault) → AreNumbers version signed stream xs → n ≤ length xs → Breaks (IntRun version signed) (int_run version signed) stream n fault → ⊥
    numbers_not_both xs n fault a le b = Spells-not-breaks (IntRun version signed) (int_run version signed) (int_run_reads version signed) stream a.0 xs n fault a.1 le b

    numbers_fault_once : (n m : ℕ) (f g : RunFault) → Breaks (IntRun version signed) (int_run version signed) stream n f → Breaks (IntRun version signed) (int_run version signed) stream m g → f ≡ g
    numbers_fault_once n m f g a b = broken_once (IntRun version signed) (int_run version signed) (int_run_reads version signed) stream n m f g a b

  -- ---- lengths

  pos_is : (a b : ℕ) → pos a ≡ pos b → a ≡ b
  pos_is a b e = cc

  pos_once : (xs ys : List ℕ) → map pos xs ≡ map pos ys → xs ≡ ys
  pos_once [] [] e = refl
  pos_once [] (y ∷ ys) e = absurd (let no : [] ≡ pos y ∷ map pos ys = e in cc)
  pos_once (x ∷ xs) [] e = absurd (let no : pos x ∷ map pos xs ≡ [] = e in cc)
  pos_once (x ∷ xs) (y ∷ ys) e =
      let head : pos x ≡ pos y = cc in
      let tail : map pos xs ≡ map pos ys = cc in
      ap (λ (z : ℕ). z ∷ xs) (pos_is x y head) ∙ ap (λ (zs : List ℕ). y ∷ zs) (pos_once xs ys tail)

  -- the front of a list of lengths
  pos_front : (xs : List ℕ) (ys : List ℕ) (more : List ℤ) → map pos xs ++ more ≡ map pos ys → sum xs ≤ sum ys
  pos_front [] ys more e = omega arith
  pos_front (x ∷ xs) [] more e = absurd (let no : pos x ∷ (map pos xs ++ more) ≡ [] = e in cc)
  pos_front (x ∷ xs) (y ∷ ys) more e =
      let head : pos x ≡ pos y = cc in
      let tail : map pos xs ++ more ≡ map pos ys = cc in
      let same : x ≡ y = pos_is x y head in
      omega (arith, sum-cons x xs, sum-cons y ys, same, pos_front xs ys more tail)

  none_negative : (lengths : List ℕ) (number : ℤ) → Contains (map pos lengths) number → IsNegative number → ⊥
  none_negative lengths number (k, below, is) minus = at k lengths (omega (arith, below, length-map lengths pos)) is
    where
      at : (k : ℕ) (lengths : List ℕ) → k < length lengths → slice_index_or (map pos lengths) k number ≡ number → ⊥
      at k [] below is = absurd (omega arith)
      at zero (x ∷ lengths) below is = subst IsNegative (sym is) minus
      at (suc k) (x ∷ lengths) below is = at k lengths (omega (arith, below)) is

  length_pos : (lengths : List ℕ) → length (map pos lengths) ≡ length lengths
  length_pos lengths = length-map lengths pos

  lengths_not_both : (version : Version) (stream : List ℕ) (limit n : ℕ) (lengths : List ℕ) (fault : ColumnFault) → AreLengths version stream limit lengths → n ≤ length lengths → LengthsFail version stream limit n fault → ⊥
  lengths_not_both version stream limit n lengths fault are le (broken {fault = f} breaks) =
      numbers_not_both version false stream (map pos lengths) n f are.spelled (omega (arith, le, length_pos lengths)) breaks
  lengths_not_both version stream limit n lengths fault are le (negative numbers number counted spelled has minus) =
      let on = numbers_front version false stream numbers (map pos lengths) (omega (arith, counted, le, length_pos lengths)) spelled are.spelled in
      none_negative lengths number (subst (λ (zs : List ℤ). Contains zs number) on.1 (Contains-append_left numbers on.0 number has)) minus
  lengths_not_both version stream limit n lengths fault are le (past others counted spelled above) =
      let on = numbers_front version false stream (map pos others) (map pos lengths) (omega (arith, counted, le, length_pos lengths, length_pos others)) spelled are.spelled in
      let few : sum others ≤ sum lengths = pos_front others lengths on.0 on.1 in
      let within : sum lengths ≤ limit = are.within in
      omega arith

  lengths_once : (version : Version) (stream : List ℕ) (limit : ℕ) (xs ys : List ℕ) → length xs ≡ length ys → AreLengths version stream limit xs → AreLengths version stream limit ys → xs ≡ ys
  lengths_once version stream limit xs ys len a b = pos_once xs ys (numbers_once version false stream (map pos xs) (map pos ys) (omega (arith, len, length_pos xs, length_pos ys)) a.spelled b.spelled)

  run_is : (f g : RunFault) → f ≡ g → Run name.Length f ≡ Run name.Length g
  run_is f g e = ap (λ (h : RunFault). Run name.Length h) e

  lengths_fault_once : (version : Version) (stream : List ℕ) (limit n : ℕ) (fault other : ColumnFault) → LengthsFail version stream limit n fault → LengthsFail version stream limit n other → fault ≡ other
  lengths_fault_once version stream limit n fault other (broken {fault = f} a) (broken {fault = g} b) = run_is f g (numbers_fault_once version false stream n n f g a b)
  lengths_fault_once version stream limit n fault other (broken {fault = f} a) (negative numbers number counted spelled has minus) = absurd (numbers_not_both version false stream numbers n f spelled (omega (arith, counted)) a)
  lengths_fault_once version stream limit n fault other (broken {fault = f} a) (past lengths counted spelled above) = absurd (numbers_not_both version false stream (map pos lengths) n f spelled (omega (arith, counted, length_pos lengths)) a)
  lengths_fault_once version stream limit n fault other (negative numbers number counted spelled has minus) (broken {fault = f} b) = absurd (numbers_not_both version false stream numbers n f spelled (omega (arith, counted)) b)
  lengths_fault_once version stream limit n fault other (negative numbers number counted spelled has minus) (negative _ _ _ _ _ _) = refl
  lengths_fault_once version stream limit n fault other (negative numbers number counted spelled has minus) (past lengths counted' spelled' above) =
      let same = numbers_once version false stream numbers (map pos lengths) (omega (arith, counted, counted', length_pos lengths)) spelled spelled' in
      absurd (none_negative lengths number (subst (λ (zs : List ℤ). Contains zs number) same has) minus)
  lengths_fault_once version stream limit n fault other (past lengths counted spelled above) (broken {fault = f} b) = absurd (numbers_not_both version false stream (map pos lengths) n f spelled (omega (arith, counted, length_pos lengths)) b)
  lengths_fault_once version stream limit n fault other (past lengths counted spelled above) (negative numbers number counted' spelled' has minus) =
      let same = numbers_once version false stream numbers (map pos lengths) (omega (arith, counted, counted', length_pos lengths)) spelled' spelled in
      absurd (none_negative lengths number (subst (λ (zs : List ℤ). Contains zs number) same has) minus)
  lengths_fault_once version stream limit n fault other (past lengths counted spelled above) (past _ _ _ _) = refl

  -- ---- values that aren't null

  places_len : (lengths : List ℕ) (numbers : List ℤ) (s : Streams) (standing : List Value) → standing ≡ map (entry_text (slices 0 lengths s.dictionary)) (places_of numbers) → length standing ≡ length numbers
  places_len lengths numbers s standing is = ap length is ∙ length-map (places_of numbers) (entry_text (slices 0 lengths s.dictionary)) ∙ length-map numbers (cast_unsigned w64)

  values_not_both : (spelling : Spelling) (size n : ℕ) (s : Streams) (standing : List Value) (fault : ColumnFault) → AreValues spelling size s standing → n ≤ length standing → ValuesFail size s n spelling fault → ⊥
  values_not_both Bits size n s standing fault (found, rest, spelled, is) le (bits {fault = f} breaks) =
      let len : length standing ≡ length found = ap length is ∙ length-map found (λ b. value.Bool b) in
      Spells-not-breaks BitRun bit_run bit_run_reads s.body rest found n f spelled (omega (arith, le, len)) breaks
  values_not_both (Integers version) size n s standing fault (numbers, spelled, is) le (integers {fault = f} breaks) =
      let len : length standing ≡ length numbers = ap length is ∙ length-map numbers (λ n. value.Int n) in
      numbers_not_both version true s.body numbers n f spelled (omega (arith, le, len)) breaks
  values_not_both (Texts version) size n s standing fault (lengths, are, is) le (texts fails) =
      let found = slices 0 lengths s.body in
      let len : length standing ≡ length lengths = ap length is ∙ length-map found (λ t. value.Text t) ∙ length-slices 0 lengths s.body in
      lengths_not_both version s.lengths (length s.body) n lengths fault are (omega (arith, le, len)) fails
  values_not_both (Dictionary version) size n s standing fault (lengths, numbers, sized, are, spelled, below, is) le (entries fails) =
      lengths_not_both version s.lengths (length s.dictionary) size lengths fault are (omega (arith, sized)) fails
  values_not_both (Dictionary version) size n s standing fault (lengths, numbers, sized, are, spelled, below, is) le (places {fault = f} others sized' are' breaks) =
      numbers_not_both version false s.body numbers n f spelled (omega (arith, le, places_len lengths numbers s standing is)) breaks
  values_not_both (Dictionary version) size n s standing fault (lengths, numbers, sized, are, spelled, below, is) le (index others numbers' place sized' are' counted spelled' has above) =
      let on = numbers_front version false s.body numbers' numbers (omega (arith, counted, le, places_len lengths numbers s standing is)) spelled' spelled in
      let all : map (cast_unsigned w64) (numbers' ++ on.0) ≡ places_of numbers' ++ places_of on.0 = map-append (cast_unsigned w64) numbers' on.0 in
      let there : places_of numbers' ++ places_of on.0 ≡ places_of numbers = sym all ∙ ap (λ (zs : List ℤ). places_of zs) on.1 in
      let low : place < size = of_all (λ p. p < size) (places_of numbers) place below (subst (λ (zs : List ℕ). Contains zs place) there (Contains-append_left (places_of numbers') (places_of on.0) place has)) in
      omega (arith, low, above)

  values_once : (spelling : Spelling) (size : ℕ) (s : Streams) (xs ys : List Value) → length xs ≡ length ys → AreValues spelling size s xs → AreValues spelling size s ys → xs ≡ ys
  values_once Bits size s xs ys len (a, rest, spelled, is) (b, rest', spelled', is') =
      let la : length xs ≡ length a = ap length is ∙ length-map a (λ b. value.Bool b) in
      let lb : length ys ≡ length b = ap length is' ∙ length-map b (λ b. value.Bool b) in
      is ∙ ap (λ (zs : List Bool). map (λ b. value.Bool b) zs) (spelled_once BitRun bit_run bit_run_reads s.body rest rest' a b (omega (arith, la, lb, len)) spelled spelled') ∙ sym is'
  values_once (Integers version) size s xs ys len (a, spelled, is) (b, spelled', is') =
      let la : length xs ≡ length a = ap length is ∙ length-map a (λ n. value.Int n) in
      let lb : length ys ≡ length b = ap length is' ∙ length-map b (λ n. value.Int n) in
      is ∙ ap (λ (zs : List ℤ). map (λ n. value.Int n) zs) (numbers_once version true s.body a b (omega (arith, la, lb, len)) spelled spelled') ∙ sym is'
  values_once (Texts version) size s xs ys len (a, are, is) (b, are', is') =
      let la : length xs ≡ length a = ap length is ∙ length-map (slices 0 a s.body) (λ t. value.Text t) ∙ length-slices 0 a s.body in
      let lb : length ys ≡ length b = ap length is' ∙ length-map (slices 0 b s.body) (λ t. value.Text t) ∙ length-slices 0 b s.body in
      is ∙ ap (λ (zs : List ℕ). map (λ t. value.Text t) (slices 0 zs s.body)) (lengths_once version s.lengths (length s.body) a b (omega (arith, la, lb, len)) are are') ∙ sym is'
  values_once (Dictionary version) size s xs ys len (a, n, sized, are, spelled, below, is) (b, m, sized', are', spelled', below', is') =
      let same : a ≡ b = lengths_once version s.lengths (length s.dictionary) a b (sized ∙ sym sized') are are' in
      let numbers : n ≡ m = numbers_once version false s.body n m (omega (arith, len, places_len a n s xs is, places_len b m s ys is')) spelled spelled' in
      is ∙ ap (λ (zs : List ℕ). map (entry_text (slices 0 zs s.dictionary)) (places_of n)) same ∙ ap (λ (zs : List ℤ). map (entry_text (slices 0 b s.dictionary)) (places_of zs)) numbers ∙ sym is'

  body_is : (f g : RunFault) → f ≡ g → Run name.Body f ≡ Run name.Body g
  body_is f g e = ap (λ (h : RunFault). Run name.Body h) e

  values_fault_once : (spelling : Spelling) (size n : ℕ) (s : Streams) (fault other : ColumnFault) → ValuesFail size s n spelling fault → ValuesFail size s n spelling other → fault ≡ other
  values_fault_once Bits size n s fault other (bits {fault = f} a) (bits {fault = g} b) = body_is f g (broken_once BitRun bit_run bit_run_reads s.body n n f g a b)
  values_fault_once (Integers version) size n s fault other (integers {fault = f} a) (integers {fault = g} b) = body_is f g (numbers_fault_once version true s.body n n f g a b)
  values_fault_once (Texts version) size n s fault other (texts a) (texts b) = lengths_fault_once version s.lengths (length s.body) n fault other a b
  values_fault_once (Dictionary version) size n s fault other (entries a) (entries b) = lengths_fault_once version s.lengths (length s.dictionary) size fault other a b
  values_fault_once (Dictionary version) size n s fault other (entries a) (places lengths sized are b) = absurd (lengths_not_both version s.lengths (length s.dictionary) size lengths fault are (omega (arith, sized)) a)
  values_fault_once (Dictionary version) size n s fault other (entries a) (index lengths numbers place sized are counted spelled has above) = absurd (lengths_not_both version s.lengths (length s.dictionary) size lengths fault are (omega (arith, sized)) a)
  values_fault_once (Dictionary version) size n s fault other (places lengths sized are a) (entries b) = absurd (lengths_not_both version s.lengths (length s.dictionary) size lengths other are (omega (arith, sized)) b)
  values_fault_once (Dictionary version) size n s fault other (places {fault = f} lengths sized are a) (places {fault = g} _ _ _ b) = body_is f g (numbers_fault_once version false s.body n n f g a b)
  values_fault_once (Dictionary version) size n s fault other (places {fault = f} lengths sized are a) (index _ numbers place _ _ counted spelled has above) = absurd (numbers_not_both version false s.body numbers n f spelled (omega (arith, counted)) a)
  values_fault_once (Dictionary version) size n s fault other (index lengths numbers place sized are counted spelled has above) (entries b) = absurd (lengths_not_both version s.lengths (length s.dictionary) size lengths other are (omega (arith, sized)) b)
  values_fault_once (Dictionary version) size n s fault other (index lengths numbers place sized are counted spelled has above) (places {fault = g} _ _ _ b) = absurd (numbers_not_both version false s.body numbers n g spelled (omega (arith, counted)) b)
  values_fault_once (Dictionary version) size n s fault other (index lengths numbers place sized are counted spelled has above) (index _ _ _ _ _ _ _ _ _) = refl

  -- ---- columns

  spelling_is : (a b : Spelling) → Some a ≡ Some b → a ≡ b
  spelling_is a b e = cc

  rows_len : (plan : ColumnPlan) (s : Streams) (rows : List Value) (c : IsColumn plan s rows) → length rows ≡ length c.flags
  rows_len plan s rows c = ap length c.rows_are ∙ length-map (woven c.flags c.values) row_value ∙ length-woven c.flags c.values

  pub never_both : NeverBoth
  never_both plan s rows n fault c le (encoding lacks) = absurd (let no : None ≡ Some c.spelling = sym lacks ∙ c.spelled in cc)
  never_both plan s rows n fault c le (nulls {fault = f} spelling spelled breaks) = flags_not_both s.present c.flags n f c.present (omega (arith, le, rows_len plan s rows c)) breaks
  never_both plan s rows n fault c le (values spelling flags spelled len are fails) =
      let same : spelling ≡ c.spelling = spelling_is spelling c.spelling (sym spelled ∙ c.spelled) in
      let few : present_count flags ≤ present_count c.flags = fewer_set s.present flags c.flags (omega (arith, le, len, rows_len plan s rows c)) are c.present in
      values_not_both c.spelling plan.dictionary_size (present_count flags) s c.values fault c.standing (omega (arith, few, c.enough)) (subst (λ (w : Spelling). ValuesFail plan.dictionary_size s (present_count flags) w fault) same fails)

  pub one_list : IsOneList
  one_list plan s xs ys len a b =
      let same : a.spelling ≡ b.spelling = spelling_is a.spelling b.spelling (sym a.spelled ∙ b.spelled) in
      let flags : a.flags ≡ b.flags = flags_once s.present a.flags b.flags (omega (arith, len, rows_len plan s xs a, rows_len plan s ys b)) a.present b.present in
      let count : length a.values ≡ length b.values = a.enough ∙ ap present_count flags ∙ sym b.enough in
      let standing : a.values ≡ b.values = values_once b.spelling plan.dictionary_size s a.values b.values count (subst (λ (w : Spelling). AreValues w plan.dictionary_size s a.values) same a.standing) b.standing in
      a.rows_are ∙ ap (λ (f : List Bool). rows_of f a.values) flags ∙ ap (λ (v : List Value). rows_of b.flags v) standing ∙ sym b.rows_are

  present_is : (f g : RunFault) → f ≡ g → Run name.Present f ≡ Run name.Present g
  present_is f g e = ap (λ (h : RunFault). Run name.Present h) e

  pub one_fault : IsOneFault
  one_fault plan s n fault other (encoding lacks) (encoding _) = refl
  one_fault plan s n fault other (encoding lacks) (nulls spelling spelled b) = absurd (let no : None ≡ Some spelling = sym lacks ∙ spelled in cc)
  one_fault plan s n fault other (encoding lacks) (values spelling flags spelled len are b) = absurd (let no : None ≡ Some spelling = sym lacks ∙ spelled in cc)
  one_fault plan s n fault other (nulls spelling spelled a) (encoding lacks) = absurd (let no : None ≡ Some spelling = sym lacks ∙ spelled in cc)
  one_fault plan s n fault other (nulls {fault = f} spelling spelled a) (nulls {fault = g} _ _ b) = present_is f g (flags_fault_once s.present n f g a b)
  one_fault plan s n fault other (nulls {fault = f} spelling spelled a) (values _ flags _ len are b) = absurd (flags_not_both s.present flags n f are (omega (arith, len)) a)
  one_fault plan s n fault other (values spelling flags spelled len are a) (encoding lacks) = absurd (let no : None ≡ Some spelling = sym lacks ∙ spelled in cc)
  one_fault plan s n fault other (values spelling flags spelled len are a) (nulls {fault = g} _ _ b) = absurd (flags_not_both s.present flags n g are (omega (arith, len)) b)
  one_fault plan s n fault other (values spelling flags spelled len are a) (values spelling' flags' spelled' len' are' b) =
      let same : spelling ≡ spelling' = spelling_is spelling spelling' (sym spelled ∙ spelled') in
      let both : flags ≡ flags' = flags_once s.present flags flags' (len ∙ sym len') are are' in
      let a' : ValuesFail plan.dictionary_size s (present_count flags') spelling' fault = subst (λ (f : List Bool). ValuesFail plan.dictionary_size s (present_count f) spelling' fault) both (subst (λ (w : Spelling). ValuesFail plan.dictionary_size s (present_count flags) w fault) same a) in
      values_fault_once spelling' plan.dictionary_size (present_count flags') s fault other a' b
