-- Where streams stand after one of them was changed, and what is left of them.
use Rattle.std.proofs.Common.{◌≡◌, ◌≢◌, ℕ, zero, suc, ◌+◌, ◌-◌, ◌<◌, ◌≤◌, inl, inr, Bool, true, false, List, [], ◌∷◌, length, refl, sym, ap, ◌∙◌, subst, arith}
use Rattle.std.specs.Prelude.{◌==◌, ◌++◌, if◌then◌else◌, map, take, drop, Option, None, Some, Result, Ok, Err, IfOk, IfSome, MatchResult, option_map, slice_index_or, slice_range, slice_set}
use Rattle.std.proofs.lemmas.Bool.{cases_eq, cases_lt, eq-eqb}
use Rattle.std.proofs.lemmas.List.{drop-drop, drop-take, get_or-set_other, get_or-set_same, length-drop, length-map, length-set, length-take, map-set, set-get_or}
use Rattle.std.proofs.lemmas.Option.{none-some}
use Rattle.std.proofs.Math.Seq.{take-add}
use Rattle.outside.specs.declared.failed.Failed.{Failed}
use Rattle.outside.specs.declared.file_ref.FileRef.{FileRef}
use Rattle.outside.specs.Feed.{Ends, IsFront, Lost, Took, taken_by, taken_of}
use Rattle.outside.specs.Files.{HasBytes, IsFile, bytes_of, range_of}
use Rattle.outside.specs.FeedLaws.{Lost-nothing}
use Rattle.buffer_word.specs.declared.key_word.Key.{Key}
use Rattle.pool_rule.specs.declared.geometry.Geometry.{Geometry}
use Rattle.pool_rule.specs.declared.view.Hold.TheVariants.{Free}
use Rattle.pool_rule.specs.Seats.{mark_at}
use Rattle.buffer_pool.specs.declared.pool.Pool.{Pool}
use Rattle.buffer_pool.specs.declared.seat.PoolSeat.{PoolSeat}
use Rattle.buffer_pool.specs.Pools.{IsSeatOf, view}
use Rattle.held_ranges.specs.declared.held.Held.{Held}
use Rattle.pool_model.specs.Content.{Files, told_bytes}
use Rattle.range_cuts.specs.Cuts.{begun, cuts_from}
use Rattle.held_ranges.specs.Deeds.{Deed, Keys, left_of, others}
use Rattle.held_ranges.specs.Moments.{AreEmpty, IsHeld, IsHolding, Slots, held_header, key_of, keys_of}
use Rattle.cut_streams.specs.declared.cursor.Cursor.{Cursor}
use Rattle.cut_streams.specs.Streams.{TakesBy, closed, next_bytes, opened}
use Rattle.cut_streams.specs.Visits.{IsChunk, got_each, held_after}
use Rattle.io_elevator.specs.Books.{cursor_at}
use Rattle.io_elevator.specs.Sound.{AreCutBy, IsFresh, StreamOf, cursors_of, rest_at, shut}

pub at_set : (streams : List StreamOf) (i : ℕ) (s : StreamOf) → i < length streams → cursor_at (cursors_of (slice_set streams i s)) i ≡ s.cursor
at_set streams i s below =
    let f : StreamOf → Cursor = λ x. x.cursor in
    ap (λ (cs : List Cursor). cursor_at cs i) (map-set f streams i s)
    ∙ get_or-set_same (cursors_of streams) i s.cursor closed (omega (arith, below, length-map streams f))

pub at_other : (streams : List StreamOf) (i other : ℕ) (s : StreamOf) → other ≢ i
    → cursor_at (cursors_of (slice_set streams i s)) other ≡ cursor_at (cursors_of streams) other
at_other streams i other s apart =
    let f : StreamOf → Cursor = λ x. x.cursor in
    ap (λ (cs : List Cursor). cursor_at cs other) (map-set f streams i s) ∙ get_or-set_other (cursors_of streams) i other s.cursor closed apart

pub cursors_set : (streams : List StreamOf) (i : ℕ) (s : StreamOf) → cursors_of (slice_set streams i s) ≡ slice_set (cursors_of streams) i s.cursor
cursors_set streams i s = let f : StreamOf → Cursor = λ x. x.cursor in map-set f streams i s

pub cursor_is : (streams : List StreamOf) (i : ℕ) (s d : StreamOf) → i < length streams → s ≡ slice_index_or streams i d → cursor_at (cursors_of streams) i ≡ s.cursor
cursor_is [] i s d below is = absurd (omega (arith, below))
cursor_is (x ∷ xs) zero s d below is = ap (λ (y : StreamOf). y.cursor) (sym is)
cursor_is (x ∷ xs) (suc i) s d below is = cursor_is xs i s d (omega (arith, below)) is

pub cut_set : (chunk : ℕ) (streams : List StreamOf) (i : ℕ) (s : StreamOf) → AreCutBy chunk streams → s.chunk ≡ chunk → AreCutBy chunk (slice_set streams i s)
cut_set chunk streams i s cut is = λ j d below.
    let inside : j < length streams = omega (arith, below, length-set streams i s) in
    elim (cases_eq j i) [
      | inl same ↦
          let here : i < length streams = omega (arith, same, inside) in
          subst (λ (k : ℕ). (slice_index_or (slice_set streams i s) k d).chunk ≡ chunk) (sym same)
          (ap (λ (x : StreamOf). x.chunk) (get_or-set_same streams i s d here) ∙ is)
      | inr apart ↦ ap (λ (x : StreamOf). x.chunk) (get_or-set_other streams i j s d apart) ∙ cut j d inside
    ]

pub cursors_shut : (streams : List StreamOf) → cursors_of (map shut streams) ≡ map (λ (c : Cursor). closed) (cursors_of streams)
cursors_shut [] = refl
cursors_shut (s ∷ ss) = ap (λ (cs : List Cursor). closed ∷ cs) (cursors_shut ss)

cut_shut_at : (chunk : ℕ) (streams : List StreamOf) (i : ℕ) (d : StreamOf) → i < length (map shut streams) → AreCutBy chunk streams
    → (slice_index_or (map shut streams) i d).chunk ≡ chunk
cut_shut_at chunk [] i d below cut = absurd (omega (arith, below))
cut_shut_at chunk (s ∷ ss) zero d below cut = cut zero d (omega arith)
cut_shut_at chunk (s ∷ ss) (suc i) d below cut = cut_shut_at chunk ss i d (omega (arith, below)) (λ j e less. cut (suc j) e (omega (arith, less)))

pub cut_shut : (chunk : ℕ) (streams : List StreamOf) → AreCutBy chunk streams → AreCutBy chunk (map shut streams)
cut_shut chunk streams cut = λ i d below. cut_shut_at chunk streams i d below cut

-- nothing is left of a stream that was closed
pub closed_at : (cs : List Cursor) (i : ℕ) → cursor_at (map (λ (c : Cursor). closed) cs) i ≡ closed
closed_at [] i = refl
closed_at (c ∷ cs) zero = refl
closed_at (c ∷ cs) (suc i) = closed_at cs i

pub closed_rest : (files : Option Files) (bytes : List ℕ) → rest_at files closed ≡ Some bytes → bytes ≡ []
closed_rest files bytes e = go (bytes_of files 0) e where
  go : (o : Option (List ℕ)) → option_map (λ (file : List ℕ). slice_range file 0 0) o ≡ Some bytes → bytes ≡ []
  go None e = absurd (none-some bytes e)
  go (Some file) e = ap or_nothing (sym e) where
    or_nothing : Option (List ℕ) → List ℕ
    or_nothing None = []
    or_nothing (Some xs) = xs

-- ---- a stream that was opened

pub rest_told : (files : Option Files) (c : Cursor) (bytes : List ℕ) → bytes_of files c.range.file ≡ Some bytes
    → rest_at files c ≡ Some (slice_range bytes (c.range.at + c.taken) (c.range.at + c.range.len))
rest_told files c bytes e =
    ap (λ (o : Option (List ℕ)). option_map (λ (file : List ℕ). slice_range file (c.range.at + c.taken) (c.range.at + c.range.len)) o) e

pub opened_rest : (files : Option Files) (file : FileRef) (at len : ℕ) (c : Cursor) (bytes : List ℕ) → c ≡ opened (range_of file at len) → HasBytes files file bytes
    → rest_at files c ≡ Some (slice_range bytes at (at + len))
opened_rest files file at len c bytes is h =
    let e : at + 0 ≡ at = omega arith in
    ap (λ (x : Cursor). rest_at files x) is ∙ rest_told files (opened (range_of file at len)) bytes h.bytes_are
    ∙ ap (λ (k : ℕ). Some (slice_range bytes k (at + len))) e

abbrev or_no_bytes : Option (List ℕ) → List ℕ
or_no_bytes None = []
or_no_bytes (Some xs) = xs

range_len : (file : List ℕ) (at len : ℕ) → at + len ≤ length file → length (slice_range file (at + 0) (at + len)) ≡ len
range_len file at len fits =
    omega (arith, fits, length-take (at + len - (at + 0)) (drop (at + 0) file), length-drop (at + 0) file)

pub opened_size : (files : Option Files) (file : FileRef) (at len : ℕ) (c : Cursor) (bytes : List ℕ) → c ≡ opened (range_of file at len) → IsFile files file
    → at + len ≤ file.len → rest_at files c ≡ Some bytes → length bytes ≡ len
opened_size None file at len c bytes is f fits e = absurd (none-some bytes (sym (ap (λ (x : Cursor). rest_at None x) is) ∙ e))
opened_size (Some files) file at len c bytes is f fits e =
    let h = f refl in
    let told = rest_told (Some files) (opened (range_of file at len)) h.0 (h.1).bytes_are in
    let same : slice_range h.0 (at + 0) (at + len) ≡ bytes = ap or_no_bytes (sym told ∙ sym (ap (λ (x : Cursor). rest_at (Some files) x) is) ∙ e) in
    sym (ap (λ (xs : List ℕ). length xs) same) ∙ range_len h.0 at len (omega (arith, fits, (h.1).len_is))

-- ---- a stream from which bytes were taken

told_is : (files : Option Files) (number : ℕ) → told_bytes files number ≡ bytes_of files number
told_is None number = refl
told_is (Some files) number = refl

meet : (file : List ℕ) (a b c : ℕ) → a ≤ b → b ≤ c → slice_range file a c ≡ slice_range file a b ++ slice_range file b c
meet file a b c p q =
    let e : a + (b - a) ≡ b = omega (arith, p) in
    let f : (b - a) + (c - b) ≡ c - a = omega (arith, p, q) in
    let g : drop (b - a) (drop a file) ≡ drop b file = drop-drop (b - a) a file ∙ ap (λ (n : ℕ). drop n file) e in
    ap (λ (n : ℕ). take n (drop a file)) (sym f) ∙ take-add (b - a) (c - b) (drop a file)
    ∙ ap (λ (xs : List ℕ). take (b - a) (drop a file) ++ take (c - b) xs) g

took_same : (rest : Option (List ℕ)) → Took rest rest []
took_same None = tt
took_same (Some whole) = refl

took_on : (o : Option (List ℕ)) (a b c : ℕ) (front : List ℕ) → a ≤ b → b ≤ c → ((file : List ℕ) → o ≡ Some file → front ≡ slice_range file a b)
    → Took (option_map (λ (file : List ℕ). slice_range file a c) o) (option_map (λ (file : List ℕ). slice_range file b c) o) front
took_on None a b c front p q is = tt
took_on (Some file) a b c front p q is = meet file a b c p q ∙ ap (λ (xs : List ℕ). xs ++ slice_range file b c) (sym (is file refl))

lost_on : (o : Option (List ℕ)) (a n c : ℕ) → a + n ≤ c → ((file : List ℕ) → o ≡ Some file → 0 < n → c ≤ length file)
    → Lost n (option_map (λ (file : List ℕ). slice_range file a c) o) (option_map (λ (file : List ℕ). slice_range file (a + n) c) o)
lost_on None a n c fits inside = tt
lost_on (Some file) a n c fits inside =
    let e : n + (c - (a + n)) ≡ c - a = omega (arith, fits) in
    let size = length-take (c - a) (drop a file) in
    let less = length-drop a file in (
      elim (cases_lt 0 n) [
        | inl some ↦ (let all = inside file refl some in omega (arith, size, less, all, fits))
        | inr none ↦ omega (arith, none)
      ],
      ap (λ (xs : List ℕ). take (c - (a + n)) xs) (sym (drop-drop n a file)) ∙ sym (drop-take n (c - (a + n)) (drop a file))
          ∙ ap (λ (k : ℕ). drop n (take k (drop a file))) e,
    )

-- no byte comes only at the stream's end
ends_at : (o : Option (List ℕ)) (at taken len room n : ℕ) → (0 < room → n ≡ 0 → len ≤ taken)
    → Ends (option_map (λ (file : List ℕ). slice_range file (at + taken) (at + len)) o) room n
ends_at None at taken len room n over = tt
ends_at (Some file) at taken len room n over = λ some none.
    let e : at + len - (at + taken) ≡ 0 = omega (arith, over some none) in
    ap (λ (k : ℕ). take k (drop (at + taken) file)) e

pub ends_by : (files : Option Files) (c : Cursor) (room : ℕ) (r : Result ℕ Failed)
    → IfOk r (λ n. 0 < room → n ≡ 0 → c.range.len ≤ c.taken) → IfOk r (Ends (rest_at files c) room)
ends_by files c room (Ok n) over = ends_at (bytes_of files c.range.file) c.range.at c.taken c.range.len room n over
ends_by files c room (Err e) over = over

module _ (files : Option Files) (chunk stream : ℕ) (c d : Cursor) (keys keys' : Keys) (ds : List Deed) where
  pub took_by : (r : Result ℕ Failed) (into : List ℕ) → TakesBy chunk stream c keys r d ds keys'
      → IfOk r (λ n. (file : List ℕ) → told_bytes files c.range.file ≡ Some file → take n into ≡ slice_range file (c.range.at + c.taken) (c.range.at + c.taken + n))
      → MatchResult r (λ n. Took (rest_at files c) (rest_at files d) (take n into)) (λ (e : Failed). Took (rest_at files c) (rest_at files d) [])
  took_by (Ok n) into t bytes =
      let sum : c.range.at + c.taken + n ≡ c.range.at + (c.taken + n) = omega arith in
      let is = took_on (bytes_of files c.range.file) (c.range.at + c.taken) (c.range.at + (c.taken + n)) (c.range.at + c.range.len) (take n into)
      (omega arith) (omega (arith, t.0)) (λ file e. bytes file (told_is files c.range.file ∙ e) ∙ ap (λ (k : ℕ). slice_range file (c.range.at + c.taken) k) sum) in
      subst (λ (x : Cursor). Took (rest_at files c) (rest_at files x) (take n into)) (sym t.3) is
  took_by (Err e) into t bytes = subst (λ (x : Cursor). Took (rest_at files c) (rest_at files x) []) (sym t.3) (took_same (rest_at files c))

  lost_here : (r : Result ℕ Failed) → TakesBy chunk stream c keys r d ds keys'
      → ((file : List ℕ) → told_bytes files c.range.file ≡ Some file → 0 < c.range.len → c.range.at + c.range.len ≤ length file)
      → Lost ((taken_by stream r).len + 0) (rest_at files c) (rest_at files d)
  lost_here (Ok n) t inside =
      let plain : n ≡ n + 0 = omega arith in
      let sum : c.range.at + c.taken + n ≡ c.range.at + (c.taken + n) = omega arith in
      let is = lost_on (bytes_of files c.range.file) (c.range.at + c.taken) n (c.range.at + c.range.len) (omega (arith, t.0))
      (λ file e more. inside file (told_is files c.range.file ∙ e) (omega (arith, t.0, more))) in
      let at = subst (λ (k : ℕ). Lost n (rest_at files c) (option_map (λ (file : List ℕ). slice_range file k (c.range.at + c.range.len)) (bytes_of files c.range.file))) sum is in
      subst (λ (k : ℕ). Lost k (rest_at files c) (rest_at files d)) plain (subst (λ (x : Cursor). Lost n (rest_at files c) (rest_at files x)) (sym t.3) at)
  lost_here (Err e) t inside = subst (λ (x : Cursor). Lost (0 + 0) (rest_at files c) (rest_at files x)) (sym t.3) (Lost-nothing (rest_at files c))

len_or : (v : Bool) (n : ℕ) → v ≡ true → (if v then n else 0) + 0 ≡ n + 0
len_or v n e = ap (λ (w : Bool). (if w then n else 0) + 0) e

no_len : (v : Bool) (n : ℕ) → v ≡ false → (if v then n else 0) + 0 ≡ 0
no_len v n e = ap (λ (w : Bool). (if w then n else 0) + 0) e

stream_of_take : (stream : ℕ) (r : Result ℕ Failed) → (taken_by stream r).stream ≡ stream
stream_of_take stream (Ok n) = refl
stream_of_take stream (Err e) = refl

-- each stream lost what was taken of it
pub lost_by : (files : Option Files) (chunk stream : ℕ) (b d : List Cursor) (keys keys' : Keys) (ds : List Deed) (r : Result ℕ Failed)
    → TakesBy chunk stream (cursor_at b stream) keys r (cursor_at d stream) ds keys' → d ≡ slice_set b stream (cursor_at d stream)
    → ((file : List ℕ) → told_bytes files (cursor_at b stream).range.file ≡ Some file → 0 < (cursor_at b stream).range.len
    → (cursor_at b stream).range.at + (cursor_at b stream).range.len ≤ length file)
    → (other : ℕ) → Lost (taken_of other (taken_by stream r ∷ [])) (rest_at files (cursor_at b other)) (rest_at files (cursor_at d other))
lost_by files chunk stream b d keys keys' ds r t set inside other =
    let s = stream_of_take stream r in
    elim (cases_eq stream other) [
      | inl same ↦
          let yes : ((taken_by stream r).stream == other) ≡ true = eq-eqb (taken_by stream r).stream other (s ∙ same) in
          subst (λ (k : ℕ). Lost k (rest_at files (cursor_at b other)) (rest_at files (cursor_at d other))) (sym (len_or ((taken_by stream r).stream == other) (taken_by stream r).len yes))
          (subst (λ (i : ℕ). Lost ((taken_by stream r).len + 0) (rest_at files (cursor_at b i)) (rest_at files (cursor_at d i))) same
          (lost_here files chunk stream (cursor_at b stream) (cursor_at d stream) keys keys' ds r t inside))
      | inr apart ↦
          let no_eq : (stream == other) ≡ false = grind (arith) in
          let none : ((taken_by stream r).stream == other) ≡ false = ap (λ (i : ℕ). i == other) s ∙ no_eq in
          let away : cursor_at d other ≡ cursor_at b other =
          ap (λ (cs : List Cursor). cursor_at cs other) set ∙ get_or-set_other b stream other (cursor_at d stream) closed (λ q. apart (sym q)) in
          subst (λ (k : ℕ). Lost k (rest_at files (cursor_at b other)) (rest_at files (cursor_at d other))) (sym (no_len ((taken_by stream r).stream == other) (taken_by stream r).len none))
          (subst (λ (x : Cursor). Lost 0 (rest_at files (cursor_at b other)) (rest_at files x)) (sym away) (Lost-nothing (rest_at files (cursor_at b other))))
    ]

-- what is lent of a stream is a front of what is left
take_take : (n m : ℕ) (xs : List ℕ) → n ≤ m → take n (take m xs) ≡ take n xs
take_take zero m xs le = refl
take_take (suc n) zero xs le = absurd (omega (arith, le))
take_take (suc n) (suc m) [] le = refl
take_take (suc n) (suc m) (x ∷ xs) le = ap (λ (ys : List ℕ). x ∷ ys) (take_take n m xs (omega (arith, le)))

pub nothing_lent : (o : Option (List ℕ)) → IfSome o (IsFront [])
nothing_lent None = tt
nothing_lent (Some whole) = refl

front_of : (o : Option (List ℕ)) (at taken len : ℕ) (lent : List ℕ) → taken + length lent ≤ len
    → ((file : List ℕ) → o ≡ Some file → lent ≡ slice_range file (at + taken) (at + taken + length lent))
    → IfSome (option_map (λ (file : List ℕ). slice_range file (at + taken) (at + len)) o) (IsFront lent)
front_of None at taken len lent fits are = tt
front_of (Some file) at taken len lent fits are =
    let e : at + taken + length lent - (at + taken) ≡ length lent = omega arith in
    are file refl ∙ ap (λ (n : ℕ). take n (drop (at + taken) file)) e
    ∙ sym (take_take (length lent) (at + len - (at + taken)) (drop (at + taken) file) (omega (arith, fits)))

pub lent_front : (files : Option Files) (c : Cursor) (lent : List ℕ) → c.taken + length lent ≤ c.range.len
    → ((file : List ℕ) → told_bytes files c.range.file ≡ Some file → lent ≡ next_bytes c (length lent) file) → IfSome (rest_at files c) (IsFront lent)
lent_front files c lent fits are =
    front_of (bytes_of files c.range.file) c.range.at c.taken c.range.len lent fits (λ file e. are file (told_is files c.range.file ∙ e))

-- ---- a stream that there isn't

pub at_past : (cs : List Cursor) (i : ℕ) → length cs ≤ i → cursor_at cs i ≡ closed
at_past [] i le = refl
at_past (c ∷ cs) zero le = absurd (omega (arith, le))
at_past (c ∷ cs) (suc i) le = at_past cs i (omega (arith, le))

takes_none : (chunk stream : ℕ) (keys : Keys) → TakesBy chunk stream closed keys (Ok 0) closed [] keys
takes_none chunk stream keys =
    let n : begun chunk 0 - begun chunk 0 ≡ 0 = omega arith in (
      omega arith,
      ap (λ (k : ℕ). got_each stream 0 (cuts_from 0 0 chunk (begun chunk 0) k) keys) (sym n),
      ap (λ (k : ℕ). held_after stream 0 (cuts_from 0 0 chunk (begun chunk 0) k) keys) (sym n),
      refl,
    )

pub takes_past : (chunk stream : ℕ) (cs : List Cursor) (keys : Keys) → length cs ≤ stream
    → TakesBy chunk stream (cursor_at cs stream) keys (Ok 0) (cursor_at cs stream) [] keys
takes_past chunk stream cs keys past =
    subst (λ (x : Cursor). TakesBy chunk stream x keys (Ok 0) x [] keys) (sym (at_past cs stream past)) (takes_none chunk stream keys)

pub set_itself : (cs : List Cursor) (i : ℕ) → cs ≡ slice_set cs i (cursor_at cs i)
set_itself cs i = sym (set-get_or cs i closed)

pub inside_past : (files : Option Files) (cs : List Cursor) (stream : ℕ) → length cs ≤ stream → (file : List ℕ)
    → told_bytes files (cursor_at cs stream).range.file ≡ Some file → 0 < (cursor_at cs stream).range.len
    → (cursor_at cs stream).range.at + (cursor_at cs stream).range.len ≤ length file
inside_past files cs stream past file told more =
    let none : (cursor_at cs stream).range.len ≡ 0 = ap (λ (c : Cursor). c.range.len) (at_past cs stream past) in
    absurd (omega (arith, none, more))

pub takes_as : (chunk chunk' slot : ℕ) (c c' d d' : Cursor) (keys keys' : Keys) (r : Result ℕ Failed) (ds : List Deed) → chunk ≡ chunk' → c ≡ c' → d ≡ d'
    → TakesBy chunk slot c keys r d ds keys' → TakesBy chunk' slot c' keys r d' ds keys'
takes_as chunk chunk' slot c c' d d' keys keys' r ds e f g t =
    subst (λ (k : ℕ). TakesBy k slot c' keys r d' ds keys') e (subst (λ (x : Cursor). TakesBy chunk slot x keys r d' ds keys') f
    (subst (λ (x : Cursor). TakesBy chunk slot c keys r x ds keys') g t))

-- ---- slots that hold nothing

pub all_left : (slots : Slots) (keys : Keys) → AreEmpty slots → length slots ≡ length keys → keys_of slots ≡ left_of None keys
all_left [] [] none same = refl
all_left [] (k ∷ ks) none same = absurd (omega (arith, same))
all_left (s ∷ ss) [] none same = absurd (omega (arith, same))
all_left (s ∷ ss) (k ∷ ks) none same =
    let first : key_of s ≡ others None k = ap key_of (none zero) ∙ sym (no_other k) in
    ap (λ (x : Option Key). x ∷ keys_of ss) first ∙ ap (λ (xs : Keys). others None k ∷ xs) (all_left ss ks (λ i. none (suc i)) (omega (arith, same))) where
      no_other : (k : Option Key) → others None k ≡ None
      no_other None = refl
      no_other (Some key) = refl

-- ---- scratch that is made

more_at : (chunk : ℕ) (xs : List StreamOf) (x : StreamOf) (i : ℕ) (d : StreamOf) → i < length (xs ++ x ∷ []) → AreCutBy chunk xs → x.chunk ≡ chunk
    → (slice_index_or (xs ++ x ∷ []) i d).chunk ≡ chunk
more_at chunk [] x zero d below cut is = is
more_at chunk [] x (suc i) d below cut is = absurd (omega (arith, below))
more_at chunk (y ∷ ys) x zero d below cut is = cut zero d (omega arith)
more_at chunk (y ∷ ys) x (suc i) d below cut is =
    more_at chunk ys x i d (omega (arith, below)) (λ j e less. cut (suc j) e (omega (arith, less))) is

pub cut_more : (chunk : ℕ) (xs : List StreamOf) (x : StreamOf) → AreCutBy chunk xs → x.chunk ≡ chunk → AreCutBy chunk (xs ++ x ∷ [])
cut_more chunk xs x cut is = λ i d below. more_at chunk xs x i d below cut is

pub none_cut : (chunk : ℕ) → AreCutBy chunk []
none_cut chunk = λ i d below. absurd (omega (arith, below))

pub fresh_is : (g : Geometry) (chunk : ℕ) (slots : Slots) (streams : List StreamOf) → IsChunk g chunk → length slots ≡ 65 → AreEmpty slots
    → length streams ≡ 64 → AreCutBy chunk streams → IsFresh g slots streams
fresh_is g chunk slots streams is many empty more cut =
    record { slots_are = many; empty = empty; streams_are = more; cut = subst (λ (k : ℕ). AreCutBy k streams) is.is cut }

pub fresh_cut : (g : Geometry) (chunk : ℕ) (slots : Slots) (streams : List StreamOf) → IsChunk g chunk → IsFresh g slots streams → AreCutBy chunk streams
fresh_cut g chunk slots streams is f = subst (λ (k : ℕ). AreCutBy k streams) (sym is.is) f.cut

pub fresh_holds : {W : Type 0} (pool : Pool W) (seat : PoolSeat W) (slots : Slots) → IsSeatOf pool seat → ((header : ℕ) → (mark_at (view seat) header).hold ≡ Free)
    → AreEmpty slots → IsHolding pool seat slots
fresh_holds pool seat slots of free empty =
    record {
      seat_of = of;
      each = λ slot. subst (λ (h : Option Held). IsHeld pool seat h) (sym (empty slot)) tt;
      only = λ header none. free header;
      apart = λ slot other header a b. absurd (none-some header (sym (ap held_header (empty slot)) ∙ a));
    }
