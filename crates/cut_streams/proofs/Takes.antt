-- A take of a stream: the cut that it begins with, what is then known of the memory, and the bytes.
use Rattle.std.proofs.Common.{◌≡◌, ℕ, ◌+◌, ◌*◌, ◌/◌, ◌%◌, ◌<◌, ◌≤◌, inl, inr, List, [], ◌∷◌, length, refl, sym, ap, ◌∙◌, subst, arith}
use Rattle.std.specs.Prelude.{◌++◌, Option, Some, Result, Ok, Err, OnOk, OnErr, take, drop, slice_range}
use Rattle.std.proofs.lemmas.Bool.{cases_lt}
use Rattle.std.proofs.lemmas.List.{append-nil, append_assoc}
use Rattle.std.proofs.Math.Seq.{take-append_seam}
use Rattle.buffer_word.specs.declared.key_word.Key.{Key}
use Rattle.outside.specs.declared.failed.Failed.{Failed}
use Rattle.outside.specs.declared.file_ref.FileRange.{FileRange}
use Rattle.pool_model.specs.Content.{Files, told_bytes}
use Rattle.buffer_pool.specs.Pools.{IsContentOf, buffer_key}
use Rattle.range_cuts.specs.Cuts.{begun, cut_at, cuts_between, size_of}
use Rattle.held_ranges.specs.Deeds.{Deed, Keys, room_left, swap_fails, swapped, swaps}
use Rattle.held_ranges.specs.Moments.{Moment, Ran, keys_of}
use Rattle.cut_streams.specs.declared.cursor.Cursor.{Cursor}
use Rattle.cut_streams.specs.Streams.{IsReady, IsSound, ReadiesBy, SwapsBy, TakesBy, before_cut, key_behind, moved, next_bytes, next_key, offset_in}
use Rattle.cut_streams.specs.Visits.{got_each, held_after}
use Rattle.cut_streams.specs.Went.{Went}
use Rattle.cut_streams.proofs.Doing.{went}
use Rattle.cut_streams.proofs.Offsets.{begun_at, cut_between, mod_is, none_between, nothing_between, part_is, same_between, size_inside, size_small, stands, take_take}

module _ (chunk slot : ℕ) (c : Cursor) (keys : Keys) where
  -- the next cut, where the stream stands between two
  next_is : 1 ≤ chunk → offset_in chunk c ≡ 0 → key_behind chunk c.range c.taken ≡ next_key chunk c
  next_is some none =
      let q : ℕ = c.taken / chunk in
      let is : c.taken ≡ q * chunk = omega (arith, stands chunk c.taken, none) in
      let a : begun chunk c.taken ≡ q = begun_at chunk q c.taken some is in
      let b : c.taken ≡ begun chunk c.taken * chunk = is ∙ ap (λ (k : ℕ). k * chunk) (sym a) in
      ap (λ (k : ℕ). key_behind chunk c.range k) b

  got_one : 1 ≤ chunk → offset_in chunk c ≡ 0
      → cuts_between c.range.at c.range.len chunk c.taken (c.taken + 1) ≡ cut_at c.range.at c.range.len chunk (begun chunk c.taken) ∷ []
  got_one some none =
      let q : ℕ = c.taken / chunk in
      let is : c.taken ≡ q * chunk = omega (arith, stands chunk c.taken, none) in
      let a : begun chunk c.taken ≡ q = begun_at chunk q c.taken some is in
      cut_between c.range.at c.range.len chunk c.taken some none
      ∙ ap (λ (k : ℕ). cut_at c.range.at c.range.len chunk k ∷ []) (sym a)

  -- it was got, or its read failed
  pub readies : (r : Result (Unit {0}) Failed) (ds : List Deed) (keys' : Keys) → 1 ≤ chunk → offset_in chunk c ≡ 0
      → SwapsBy slot (key_behind chunk c.range c.taken) keys r ds keys' → ReadiesBy chunk slot c keys r ds keys'
  readies (Ok x) ds keys' some none s =
      let e = next_is some none in
      let cuts = got_one some none in (
        s.0 ∙ ap (λ (k : Key). swaps slot k keys) e ∙ sym (append-nil (swaps slot (next_key chunk c) keys))
            ∙ ap (λ (cs : List (ℕ × ℕ)). got_each slot c.range.file cs keys) (sym cuts),
        s.1 ∙ ap (λ (k : Key). swapped slot k keys) e ∙ ap (λ (cs : List (ℕ × ℕ)). held_after slot c.range.file cs keys) (sym cuts),
      )
  readies (Err f) ds keys' some none s =
      let e = next_is some none in
      (s.0 ∙ ap (λ (k : Key). swap_fails slot k keys) e, s.1 ∙ ap (λ (k : Key). room_left slot k keys) e)

  -- the stream stands in it already
  pub is_at_hand : (x : Unit {0}) → 1 ≤ chunk → 0 < offset_in chunk c → ReadiesBy {T = Unit {0}} chunk slot c keys (Ok x) [] keys
  is_at_hand x some more =
      let cuts = none_between c.range.at c.range.len chunk c.taken some more in (
        ap (λ (cs : List (ℕ × ℕ)). got_each slot c.range.file cs keys) (sym cuts),
        ap (λ (cs : List (ℕ × ℕ)). held_after slot c.range.file cs keys) (sym cuts),
      )

  -- bytes of that cut were taken
  pub takes : (x : Unit {0}) (n : ℕ) (d : Cursor) (ds : List Deed) (keys' : Keys) → 1 ≤ chunk → 0 < n
      → offset_in chunk c + n ≤ size_of c.range.len chunk (before_cut chunk c) → c.taken ≤ c.range.len → d ≡ moved c n
      → ReadiesBy {T = Unit {0}} chunk slot c keys (Ok x) ds keys' → TakesBy chunk slot c keys (Ok n) d ds keys'
  takes x n d ds keys' some more fits few is r =
      let small = size_small c.range.len chunk (before_cut chunk c) in
      let inside = size_inside c.range.len chunk (before_cut chunk c) in
      let cuts = same_between c.range.at c.range.len chunk c.taken n some more (omega (arith, fits, small)) in (
        omega (arith, fits, inside, stands chunk c.taken, few),
        r.0 ∙ ap (λ (cs : List (ℕ × ℕ)). got_each slot c.range.file cs keys) cuts,
        r.1 ∙ ap (λ (cs : List (ℕ × ℕ)). held_after slot c.range.file cs keys) cuts,
        is,
      )

  -- or none
  pub takes_nothing : c.taken ≤ c.range.len → TakesBy chunk slot c keys (Ok 0) c [] keys
  takes_nothing few =
      let cuts = nothing_between c.range.at c.range.len chunk c.taken in
      let e : c.taken + 0 ≡ c.taken = omega arith in (
        omega (arith, few),
        ap (λ (cs : List (ℕ × ℕ)). got_each slot c.range.file cs keys) (sym cuts),
        ap (λ (cs : List (ℕ × ℕ)). held_after slot c.range.file cs keys) (sym cuts),
        ap (λ (k : ℕ). record { range = c.range; taken = k }) (sym e),
      )

  -- or the read failed
  pub takes_fail : (f : Failed) (d : Cursor) (ds : List Deed) (keys' : Keys) → c.taken < c.range.len → d ≡ c
      → ReadiesBy {T = Unit {0}} chunk slot c keys (Err f) ds keys' → TakesBy chunk slot c keys (Err f) d ds keys'
  takes_fail f d ds keys' more is r = (more, r.0, r.1, is)

-- a key was got for a slot, or its read failed
pub swapped_by : (files : Option Files) {W S : Type 0} (reads : S → Option (List FileRange)) (m n : Moment W S) (slot : ℕ) (key next : Key)
    (r : Result (Unit {0}) Failed) → key ≡ next → OnOk r (Ran files reads m (swaps slot key (keys_of m.slots)) n)
    → OnOk r (keys_of n.slots ≡ swapped slot key (keys_of m.slots)) → OnErr r (Ran files reads m (swap_fails slot key (keys_of m.slots)) n)
    → OnErr r (keys_of n.slots ≡ room_left slot key (keys_of m.slots)) → Went files reads m n (SwapsBy slot next (keys_of m.slots) r)
swapped_by files reads m n slot key next (Ok x) is got held missed left =
    subst (λ (k : Key). Went files reads m n (SwapsBy {T = Unit {0}} slot k (keys_of m.slots) (Ok x))) is
    (went files reads m n (SwapsBy {T = Unit {0}} slot key (keys_of m.slots) (Ok x)) (swaps slot key (keys_of m.slots)) got (refl, held))
swapped_by files reads m n slot key next (Err e) is got held missed left =
    subst (λ (k : Key). Went files reads m n (SwapsBy {T = Unit {0}} slot k (keys_of m.slots) (Err e))) is
    (went files reads m n (SwapsBy {T = Unit {0}} slot key (keys_of m.slots) (Err e)) (swap_fails slot key (keys_of m.slots)) missed (refl, left))

-- the memory's front is what was read into it
filled : (scratch rest : List ℕ) (room size : ℕ) → length scratch ≡ size → size ≤ room → take size (take room (scratch ++ rest)) ≡ scratch
filled scratch rest room size is fits =
    take_take size room (scratch ++ rest) fits ∙ ap (λ (n : ℕ). take n (scratch ++ rest)) (sym is) ∙ take-append_seam scratch rest

pub ready_got : (files : Option Files) (chunk : ℕ) (c : Cursor) (key : Key) (scratch more most : List ℕ) (room : ℕ) → key ≡ key_behind chunk c.range c.taken
    → offset_in chunk c ≡ 0 → length scratch ≡ key.len → key.len ≤ room → IsContentOf files (buffer_key key) scratch
    → IsReady files chunk c (take room ((scratch ++ more) ++ most))
ready_got files chunk c key scratch more most room is none len fits content =
    let rest : List ℕ = more ++ most in
    let b : c.taken ≡ before_cut chunk c = omega (arith, none) in
    let at : key ≡ key_behind chunk c.range (before_cut chunk c) = is ∙ ap (λ (k : ℕ). key_behind chunk c.range k) b in
    let e : take key.len (take room (scratch ++ rest)) ≡ scratch = filled scratch rest room key.len len fits in
    let P : Key → Type 0 = λ k. IsContentOf files (buffer_key k) (take k.len (take room (scratch ++ rest))) in
    subst (λ (xs : List ℕ). IsReady files chunk c (take room xs)) (sym (append_assoc scratch more most))
    (subst P at (subst (λ (xs : List ℕ). IsContentOf files (buffer_key key) xs) (sym e) content))

pub sound_as : (files : Option Files) (chunk file_len file_len' : ℕ) (c d : Cursor) (bytes bytes' : List ℕ) → file_len' ≡ file_len → d ≡ c → bytes' ≡ bytes
    → IsSound files chunk file_len c bytes → IsSound files chunk file_len' d bytes'
sound_as files chunk file_len file_len' c d bytes bytes' f e b s =
    subst (λ (n : ℕ). IsSound files chunk n d bytes') (sym f) (subst (λ (x : Cursor). IsSound files chunk file_len x bytes') (sym e)
    (subst (λ (xs : List ℕ). IsSound files chunk file_len c xs) (sym b) s))

module _ (files : Option Files) (chunk file_len : ℕ) (c : Cursor) (bytes : List ℕ) where
  -- the stream stands in the same cut, or at its end
  pub sound_after : (n : ℕ) → 1 ≤ chunk → offset_in chunk c + n ≤ size_of c.range.len chunk (before_cut chunk c) → IsSound files chunk file_len c bytes
      → IsReady files chunk c bytes → IsSound files chunk file_len (moved c n) bytes
  sound_after n some fits s ready =
      let small = size_small c.range.len chunk (before_cut chunk c) in
      let inside = size_inside c.range.len chunk (before_cut chunk c) in
      let q : ℕ = c.taken / chunk in
      let p : ℕ = c.taken % chunk in
      let few : c.taken ≤ c.range.len = s.few in
      let is : c.taken ≡ q * chunk + p = stands chunk c.taken in
      let then : c.taken + n ≡ q * chunk + (p + n) = omega (arith, is) in
      record {
        room = s.room;
        few = omega (arith, fits, inside, is, few);
        lies = s.lies;
        ready = λ more. elim (cases_lt (p + n) chunk) [
          | inl below ↦
              let m : (c.taken + n) % chunk ≡ p + n = mod_is chunk q (p + n) (c.taken + n) some then below in
              let b : before_cut chunk c ≡ before_cut chunk (moved c n) = omega (arith, m, is) in
              let P : ℕ → Type 0 = λ k. (file : List ℕ) → told_bytes files c.range.file ≡ Some file
              → take (size_of c.range.len chunk k) bytes ≡ slice_range file (c.range.at + k) (c.range.at + k + size_of c.range.len chunk k) in
              subst P b ready
          | inr past ↦
              let e : (q + 1) * chunk ≡ q * chunk + chunk = omega arith in
              let m : (c.taken + n) % chunk ≡ 0 = mod_is chunk (q + 1) 0 (c.taken + n) some (omega (arith, then, e, past, fits, small)) (omega (arith, some)) in
              absurd (omega (arith, more, m))
        ];
      }

  -- the bytes are the file's
  pub taken_are : (n : ℕ) (into file : List ℕ) → offset_in chunk c + n ≤ size_of c.range.len chunk (before_cut chunk c)
      → take n into ≡ take n (drop (offset_in chunk c) bytes) → IsReady files chunk c bytes → told_bytes files c.range.file ≡ Some file
      → take n into ≡ slice_range file (c.range.at + c.taken) (c.range.at + c.taken + n)
  taken_are n into file fits copied ready told =
      copied ∙ part_is bytes file c.range.at (before_cut chunk c) (offset_in chunk c) n (size_of c.range.len chunk (before_cut chunk c)) c.taken
      (omega (arith, stands chunk c.taken)) fits (ready file told)

-- what is lent of a cut that was begun are the file's bytes
pub lent_are : (files : Option Files) (chunk file_len : ℕ) (c : Cursor) (bytes lent file : List ℕ) → 0 < offset_in chunk c
    → offset_in chunk c + length lent ≡ size_of c.range.len chunk (before_cut chunk c) → lent ≡ take (length lent) (drop (offset_in chunk c) bytes)
    → IsSound files chunk file_len c bytes → told_bytes files c.range.file ≡ Some file → lent ≡ next_bytes c (length lent) file
lent_are files chunk file_len c bytes lent file more is are s told =
    are ∙ part_is bytes file c.range.at (before_cut chunk c) (offset_in chunk c) (length lent) (size_of c.range.len chunk (before_cut chunk c)) c.taken
    (omega (arith, stands chunk c.taken)) (omega (arith, is)) (s.ready more file told)
