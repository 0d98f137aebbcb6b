-- What a call did through a desk of its own, by the elevator's references.
use Rattle.std.proofs.Common.{◌≡◌, ℕ, ◌+◌, ◌<◌, ◌≤◌, List, [], ◌∷◌, length, refl, sym, ap, ◌∙◌, subst}
use Rattle.std.specs.Prelude.{Option, None, Some, Result, Ok, Err, is_ok, map, slice_index_or, slice_set}
use Rattle.std.proofs.lemmas.List.{append-nil, length-map}
use Rattle.outside.specs.declared.failed.Failed.{Failed}
use Rattle.outside.specs.declared.file_ref.FileRange.{FileRange}
use Rattle.outside.specs.declared.store.Store.{Ghosts}
use Rattle.outside.specs.Feed.{Lost, taken_by, taken_of}
use Rattle.pool_model.specs.Content.{Files, told_bytes}
use Rattle.orc_streams.specs.Acts.{Act, closes, opens, reads, takes}
use Rattle.held_ranges.specs.declared.desk.Desk.{Desk}
use Rattle.held_ranges.specs.Deeds.{Deed, Keys, drops, drops_each, gets, left_of, misses}
use Rattle.held_ranges.specs.Moments.{AreEmpty, Does, Moment, Ran, SameDesk, Slots, key_of, keys_of, moment}
use Rattle.cut_streams.specs.declared.cursor.Cursor.{Cursor}
use Rattle.cut_streams.specs.Streams.{TakesBy, closed, opened}
use Rattle.cut_streams.specs.Visits.{VisitEachBy}
use Rattle.cut_streams.specs.Went.{Went}
use Rattle.io_elevator.specs.declared.elevator.Elevator.{Elevator}
use Rattle.io_elevator.specs.Books.{Books, ClosesBy, Fits, ReadFits, Suits, cursor_at}
use Rattle.io_elevator.specs.Elevator.{Did, as_named, books_of, desk_of, moment_of}
use Rattle.io_elevator.specs.Laws.{Fed, ran_named, same_desk, same_then}
use Rattle.io_elevator.specs.Sound.{AreCutBy, StreamOf, cursors_of, rest_at}
use Rattle.io_elevator.proofs.Streams.{all_left, at_set, cursor_is, inside_past, lost_by, set_itself, takes_as, takes_past}

pub did_by : {W S : Type 0} {G : Ghosts S W} (files : Option Files) (log : S → Option (List FileRange)) (first last : Elevator W S G) (acts : List Act)
    {d0 d1 : Desk W S} {s0 s1 : Slots} (So : List Deed → Keys → Type 0) → Went files log (moment d0 s0) (moment d1 s1) So
    → d0.cache.now ≡ first.cache.now → as_named (desk_of first) (moment d0 s0) ≡ moment_of first
    → as_named (desk_of first) (moment d1 s1) ≡ as_named (desk_of first) (moment_of last) → SameDesk (desk_of first) (desk_of last)
    → last.scratch.ghost_name ≡ first.scratch.ghost_name → last.chunk ≡ first.chunk
    → ((ds : List Deed) → So ds (keys_of s1) → Fits first.chunk (books_of first) acts ds (books_of last)) → Did files log first acts last
did_by files log first last acts {d0} {d1} {s0} {s1} So w cache begins ends same scratch chunk fits =
    let ran = ran_named files log (desk_of first) w.deeds (moment d0 s0) (moment d1 s1) cache w.ran in
    record {
      same = same;
      scratch = scratch;
      chunk = chunk;
      deeds = w.deeds;
      fits = fits w.deeds w.so;
      ran = subst (λ (m : Moment _ _). Ran files log m w.deeds (as_named (desk_of first) (moment_of last))) begins
          (subst (λ (m : Moment _ _). Ran files log (as_named (desk_of first) (moment d0 s0)) w.deeds m) ends ran);
    }

-- one act
pub fits_one : (chunk : ℕ) (b d : Books) (a : Act) (ds : List Deed) → Suits chunk a b ds d → Fits chunk b (a ∷ []) ds d
fits_one chunk b d a ds s = (ds, [], d, sym (append-nil ds), s, (refl, refl))

pub read_fits : (chunk file at len : ℕ) (keys keys' : Keys) (r : Result (Unit {0}) Failed) (ds : List Deed) → VisitEachBy 64 file at len chunk 0 keys r ds keys'
    → ReadFits chunk (is_ok r) (record { file = file; at = at; len = len }) keys ds keys'
read_fits chunk file at len keys keys' (Ok x) ds v = v
read_fits chunk file at len keys keys' (Err e) ds v = v

pub fits_read : (chunk file at len : ℕ) (b d : Books) (r : Result (Unit {0}) Failed) (ds : List Deed)
    → VisitEachBy 64 file at len chunk 0 b.keys r ds d.keys → d.cursors ≡ b.cursors
    → Fits chunk b (reads (record { range = record { file = file; at = at; len = len }; ok = is_ok r }) ∷ []) ds d
fits_read chunk file at len b d r ds v same =
    let s : Suits chunk (reads (record { range = record { file = file; at = at; len = len }; ok = is_ok r })) b ds d =
    (read_fits chunk file at len b.keys d.keys r ds v, same) in
    fits_one chunk b d (reads (record { range = record { file = file; at = at; len = len }; ok = is_ok r })) ds s

pub fits_open : (chunk stream : ℕ) (range : FileRange) (b d : Books) → d.keys ≡ b.keys → d.cursors ≡ slice_set b.cursors stream (opened range)
    → Fits chunk b (opens stream range ∷ []) [] d
fits_open chunk stream range b d keys cursors =
    let s : Suits chunk (opens stream range) b [] d = (refl, keys, cursors) in
    fits_one chunk b d (opens stream range) [] s

pub fits_close : (chunk : ℕ) (b d : Books) (ds : List Deed) → ds ≡ drops_each None 0 b.keys → d.keys ≡ left_of None b.keys
    → d.cursors ≡ map (λ (c : Cursor). closed) b.cursors → Fits chunk b (closes ∷ []) ds d
fits_close chunk b d ds did keys cursors =
    let s : Suits chunk closes b ds d = (did, keys, cursors) in
    fits_one chunk b d closes ds s

pub fits_take : (chunk stream : ℕ) (b d : Books) (r : Result ℕ Failed) (ds : List Deed)
    → TakesBy chunk stream (cursor_at b.cursors stream) b.keys r (cursor_at d.cursors stream) ds d.keys
    → d.cursors ≡ slice_set b.cursors stream (cursor_at d.cursors stream) → Fits chunk b (takes (taken_by stream r) ∷ []) ds d
fits_take chunk stream b d (Ok n) ds t cursors =
    let s : Suits chunk (takes (taken_by stream (Ok n))) b ds d = (cursor_at d.cursors stream, t, cursors) in
    fits_one chunk b d (takes (taken_by stream (Ok n))) ds s
fits_take chunk stream b d (Err e) ds t cursors =
    let s : Suits chunk (takes (taken_by stream (Err e))) b ds d = (cursor_at d.cursors stream, (refl, (e, t)), cursors) in
    fits_one chunk b d (takes (taken_by stream (Err e))) ds s

-- a take of a stream that there isn't
pub fits_past : (chunk stream : ℕ) (b : Books) → length b.cursors ≤ stream → Fits chunk b (takes (taken_by stream (Ok 0)) ∷ []) [] b
fits_past chunk stream b past =
    fits_take chunk stream b b (Ok 0) [] (takes_past chunk stream b.cursors b.keys past) (set_itself b.cursors stream)

pub lost_past : (files : Option Files) (chunk stream : ℕ) (b : Books) → length b.cursors ≤ stream → (other : ℕ)
    → Lost (taken_of other (taken_by stream (Ok 0) ∷ [])) (rest_at files (cursor_at b.cursors other)) (rest_at files (cursor_at b.cursors other))
lost_past files chunk stream b past =
    lost_by files chunk stream b.cursors b.cursors b.keys b.keys [] (Ok 0) (takes_past chunk stream b.cursors b.keys past)
    (set_itself b.cursors stream) (inside_past files b.cursors stream past)

module _ (files : Option Files) {W S : Type 0} (log : S → Option (List FileRange)) where
  -- the same deeds, in other words
  pub went_as : (m n : Moment W S) (A B : List Deed → Keys → Type 0) → ((ds : List Deed) → A ds (keys_of n.slots) → B ds (keys_of n.slots))
      → Went files log m n A → Went files log m n B
  went_as m n A B f w = record { deeds = w.deeds; ran = w.ran; so = f w.deeds w.so; same = w.same }

  does_same : (d : Deed) (m n : Moment W S) → Does files log d m n → SameDesk m.desk n.desk
  does_same (gets slot key) m n x = x.1.same
  does_same (misses key) m n x = x.0.same
  does_same (drops slot key) m n x = x.3.same

  pub ran_same : (ds : List Deed) (m n : Moment W S) → Ran files log m ds n → SameDesk m.desk n.desk
  ran_same [] m n e = subst (λ (x : Moment W S). SameDesk m.desk x.desk) (sym e) (same_desk m.desk)
  ran_same (d ∷ ds) m n x = same_then m.desk x.0.desk n.desk (does_same d m x.0 x.1) (ran_same ds x.0 n x.2)

  -- a stream of a list was taken from, through its slot
  pub went_at : (m n : Moment W S) (streams : List StreamOf) (slot chunk : ℕ) (old new d : StreamOf) (r : Result ℕ Failed)
      → slot < length streams → AreCutBy chunk streams → old ≡ slice_index_or streams slot d
      → Went files log m n (TakesBy old.chunk slot old.cursor (keys_of m.slots) r new.cursor)
      → Went files log m n (TakesBy chunk slot (cursor_at (cursors_of streams) slot) (keys_of m.slots) r
      (cursor_at (cursors_of (slice_set streams slot new)) slot))
  went_at m n streams slot chunk old new d r below cut is w =
      let by : old.chunk ≡ chunk = ap (λ (s : StreamOf). s.chunk) is ∙ cut slot d below in
      went_as m n _ _
      (λ ds t. takes_as old.chunk chunk slot old.cursor (cursor_at (cursors_of streams) slot) new.cursor
      (cursor_at (cursors_of (slice_set streams slot new)) slot) (keys_of m.slots) (keys_of n.slots) r ds by
      (sym (cursor_is streams slot old d below is)) (sym (at_set streams slot new below)) t)
      w

  -- all slots let go
  pub let_go : (m n : Moment W S) → Ran files log m (drops_each None 0 (keys_of m.slots)) n → AreEmpty n.slots → length n.slots ≡ length m.slots
      → Went files log m n (ClosesBy (keys_of m.slots))
  let_go m n ran none same =
      record {
        deeds = drops_each None 0 (keys_of m.slots);
        ran = ran;
        so = (refl, all_left n.slots (keys_of m.slots) none (same ∙ sym (length-map m.slots key_of)));
        same = ran_same (drops_each None 0 (keys_of m.slots)) m n ran;
      }

module _ {W S : Type 0} {G : Ghosts S W} (files : Option Files) (log : S → Option (List FileRange)) where
  -- a take by a desk of its own
  pub fed_by : (first last : Elevator W S G) (stream : ℕ) (r : Result ℕ Failed) {d0 d1 : Desk W S}
      → (w : Went files log (moment d0 first.scratch.now.slots.items) (moment d1 last.scratch.now.slots.items)
      (TakesBy first.chunk stream (cursor_at (cursors_of first.scratch.now.streams.items) stream) (keys_of first.scratch.now.slots.items) r
      (cursor_at (cursors_of last.scratch.now.streams.items) stream)))
      → d0.cache.now ≡ first.cache.now → as_named (desk_of first) (moment d0 first.scratch.now.slots.items) ≡ moment_of first
      → as_named (desk_of first) (moment d1 last.scratch.now.slots.items) ≡ as_named (desk_of first) (moment_of last)
      → SameDesk (desk_of first) (desk_of last) → last.scratch.ghost_name ≡ first.scratch.ghost_name → last.chunk ≡ first.chunk
      → cursors_of last.scratch.now.streams.items ≡ slice_set (cursors_of first.scratch.now.streams.items) stream
      (cursor_at (cursors_of last.scratch.now.streams.items) stream)
      → ((file : List ℕ) → told_bytes files (cursor_at (cursors_of first.scratch.now.streams.items) stream).range.file ≡ Some file
      → 0 < (cursor_at (cursors_of first.scratch.now.streams.items) stream).range.len
      → (cursor_at (cursors_of first.scratch.now.streams.items) stream).range.at
      + (cursor_at (cursors_of first.scratch.now.streams.items) stream).range.len ≤ length file)
      → Fed files log first (taken_by stream r ∷ []) last
  fed_by first last stream r w cache begins ends same scratch chunk cursors inside =
      let before : List Cursor = cursors_of first.scratch.now.streams.items in
      let after : List Cursor = cursors_of last.scratch.now.streams.items in
      record {
        did = did_by files log first last _ _ w cache begins ends same scratch chunk
            (λ ds t. fits_take first.chunk stream (books_of first) (books_of last) r ds t cursors);
        lost = lost_by files first.chunk stream before after (keys_of first.scratch.now.slots.items)
            (keys_of last.scratch.now.slots.items) w.deeds r w.so cursors inside;
      }
