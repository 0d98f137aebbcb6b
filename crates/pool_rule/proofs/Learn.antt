-- A load of a header's key word: what the seat learns of the key is the buffer's.
use Rattle.std.proofs.Common.{◌≡◌, ℕ, ◌+◌, ◌-◌, ◌*◌, ◌/◌, ◌%◌, ◌<◌, List, [], ◌++◌, length, get_or, set, refl, sym, ap, ◌∙◌, subst, inl, inr, arith}
use Rattle.std.specs.Prelude.{Option, None, Some, IfSome, IsSome}
use Rattle.std.proofs.lemmas.Bool.{cases_eq}
use Rattle.std.proofs.lemmas.List.{get_or-set_same, get_or-set_other, length-set}
use mathlib.Core.Option.{some}
use lib.ListN.{get_elem?}
use Rattle.pool_model.specs.declared.buffer.Buffer.{Buffer}
use Rattle.pool_model.specs.declared.buffer.BufferKey.{BufferKey}
use Rattle.pool_model.specs.declared.buffer.BufferMode.{BufferMode}
use Rattle.pool_model.specs.declared.buffer.BufferMode.TheVariants.{New, Live, Moving, Evicted}
use Rattle.pool_model.specs.declared.pool.PlainPool.{PlainPool}
use Rattle.pool_model.specs.declared.step.Step.{Step}
use Rattle.pool_model.specs.Buffer.{Holds}
use Rattle.pool_model.specs.Content.{Files}
use Rattle.pool_model.specs.Lawful.{IsLawfulBuffer, HoldersFit, HasKey}
use Rattle.pool_model.specs.Laws.{EveryRunIsLawful}
use Rattle.pool_model.specs.Pool.{buffer_at}
use Rattle.buffer_word.specs.KeyWord.{IsKey, key_word}
use Rattle.pool_rule.specs.declared.geometry.Setup.{Setup}
use Rattle.pool_rule.specs.declared.view.Claim.{Claim}
use Rattle.pool_rule.specs.declared.view.Claim.TheVariants.{Unclaimed, Fresh, Gone, Carried}
use Rattle.pool_rule.specs.declared.view.Access.TheVariants.{Loaded}
use Rattle.pool_rule.specs.declared.view.Hold.{Hold}
use Rattle.pool_rule.specs.declared.view.Hold.TheVariants.{Free, Bid, Pinned}
use Rattle.pool_rule.specs.declared.view.Mark.{Mark}
use Rattle.pool_rule.specs.declared.view.View.{View}
use Rattle.pool_rule.specs.Headers.{HoldFits, ClaimFits, MarkFits, IsKnown, packed, hold_count, state_of}
use Rattle.pool_rule.specs.Layout.{headers_of, header_word}
use Rattle.pool_rule.specs.Rule.{Kept, StandsFor, StandsForBuffer, setting_of, view_at, count_of, marks_of}
use Rattle.pool_rule.specs.Seats.{mark_at, spent, clear_mark, noted, with_key, key_of, known_key, hold_with_key, claim_with_key, mark_with_key}
use Rattle.pool_rule.proofs.Frame.{below, is_view, own}
use Rattle.pool_rule.proofs.Lists.{total-set}
use Rattle.pool_rule.proofs.Quiet.{quiet, header_seen}
use Rattle.pool_rule.proofs.Story.{story_lawful}

-- ---- the key in its word

file_of : (len at file : ℕ) → len < 1048576 → at < 4294967296 → (len + at * 1048576 + file * 4503599627370496) / 4503599627370496 ≡ file
file_of len at file h k = omega arith

at_of : (len at file : ℕ) → len < 1048576 → at < 4294967296 → (len + at * 1048576 + file * 4503599627370496) / 1048576 % 4294967296 ≡ at
at_of len at file h k = omega arith

len_of : (len at file : ℕ) → len < 1048576 → at < 4294967296 → (len + at * 1048576 + file * 4503599627370496) % 1048576 ≡ len
len_of len at file h k = omega arith

pub key_of_word : (k : BufferKey) → IsKey (packed k) → key_of (key_word (packed k)) ≡ k
key_of_word k h =
    let len : k.len - 1 < 1048576 = omega (arith, h.len, h.some_bytes) in
    let f = file_of (k.len - 1) k.at k.file len h.at in
    let a = at_of (k.len - 1) k.at k.file len h.at in
    let l = len_of (k.len - 1) k.at k.file len h.at in
    let e : (k.len - 1 + k.at * 1048576 + k.file * 4503599627370496) % 1048576 + 1 ≡ k.len = omega (arith, l, h.some_bytes) in
    λ i. record { file = f i; at = a i; len = e i }

-- ---- a buffer whose key is known

-- the key of the buffer is that one
abbrev HasKnown : BufferKey → Option Buffer → Type 0
HasKnown key buffer = (b : Buffer) → buffer ≡ Some b → IsSome b.key → b.key ≡ Some key

key_found : (word : ℕ) (k : Option BufferKey) → IsSome k → IfSome k (λ x. IsKey (packed x)) → IfSome k (λ x. word ≡ key_word (packed x)) → k ≡ Some (key_of word)
key_found word None has packs is = cc
key_found word (Some x) has packs is = ap Some (sym (ap key_of is ∙ key_of_word x packs))

known_is : (key : BufferKey) (k value : Option BufferKey) → IsKnown k value → value ≡ Some key → IsKnown (known_key key k) value
known_is key None value old e = e
known_is key (Some x) value old e = old

-- a held buffer has a key
pub held_key : (seat : ℕ) (mode : BufferMode) (holders : List ℕ) (key : Option BufferKey) (done : ℕ) → HoldersFit mode holders → HasKey mode key done → Holds seat holders → IsSome key
held_key seat Live holders key done fits has holds = has
held_key seat Moving holders key done fits has holds = has
held_key seat Evicted holders key done fits has holds = has
held_key seat New holders key done fits has holds =
    let P : List ℕ → Type 0 = λ l. Holds seat l in
    let none : Holds seat [] = subst P fits holds in
    cc

pub moving_key : (mode : BufferMode) (key : Option BufferKey) (done : ℕ) → mode ≡ Moving → HasKey mode key done → IsSome key
moving_key Moving key done e has = has
moving_key Live key done e has = has
moving_key Evicted key done e has = has
moving_key New key done e has = cc

-- ---- the mark with the key

hold_learns : (seat : ℕ) (key : BufferKey) (buffer : Option Buffer) (hold : Hold) → HoldFits seat buffer hold → ((b : Buffer) → buffer ≡ Some b → Holds seat b.holders → b.key ≡ Some key) → HoldFits seat buffer (hold_with_key key hold)
hold_learns seat key buffer Free fits has = fits
hold_learns seat key buffer Bid fits has = fits
hold_learns seat key None (Pinned block k) fits has = fits
hold_learns seat key (Some b) (Pinned block k) fits has = (fits.0, fits.1, known_is key k b.key fits.2 (has b refl fits.0))

claim_learns : (seat : ℕ) (key : BufferKey) (buffer : Option Buffer) (claim : Claim) → ClaimFits seat buffer claim → ((b : Buffer) → buffer ≡ Some b → b.mode ≡ Moving → b.key ≡ Some key) → ClaimFits seat buffer (claim_with_key key claim)
claim_learns seat key buffer Unclaimed fits has = fits
claim_learns seat key buffer (Fresh block k done) fits has = fits
claim_learns seat key buffer (Gone block) fits has = fits
claim_learns seat key None (Carried block target k done next) fits has = fits
claim_learns seat key (Some b) (Carried block target k done next) fits has =
    (fits.0, fits.1, fits.2, fits.3, known_is key k b.key fits.4 (has b refl fits.0), fits.5, fits.6)

same_count : (key : BufferKey) (hold : Hold) → hold_count (hold_with_key key hold) ≡ hold_count hold
same_count key Free = refl
same_count key Bid = refl
same_count key (Pinned block k) = refl

pub if_value : {A : Type 0} (P : A → Type 0) (o : Option A) (x : A) → o ≡ Some x → IfSome o P → P x
if_value P o x e h = let Q : Option _ → Type 0 = λ v. IfSome v P in subst Q e h

module _ (law : EveryRunIsLawful) (files : Option Files) (setup : Setup) (words : List ℕ) (views : List View) (log : List Step) (pool : PlainPool) (h : StandsFor files setup words views log pool) (id : ℕ) (v : View) (at : get_elem? views id ≡ some v) (live : 0 < length v.numbers) (header : ℕ) (inside : header < headers_of setup.geometry) where
  key_here : ℕ
  key_here = get_or words (header_word setup.geometry header + 1) 0

  pub lawful_buffer : (b : Buffer) → buffer_at pool header ≡ Some b → IsLawfulBuffer (setting_of files setup.geometry) (length pool.grants) b
  lawful_buffer b e = if_value _ (buffer_at pool header) b e ((story_lawful law files setup.geometry (length views) log pool h.story).buffers header)

  pub key_is : (b : Buffer) → buffer_at pool header ≡ Some b → IsSome b.key → b.key ≡ Some (key_of (get_or words (header_word setup.geometry header + 1) 0))
  key_is b e has =
      let content = if_value _ (buffer_at pool header) b e (h.headers header inside).content in
      key_found (get_or words (header_word setup.geometry header + 1) 0) b.key has content.key_packs content.key_is

  -- the mark of the seat that learns still fits
  mark_learns : MarkFits id (buffer_at pool header) (mark_with_key (key_of (get_or words (header_word setup.geometry header + 1) 0)) (mark_at v header))
  mark_learns =
      let is = is_view files setup words views log pool h id v at live in
      let P : View → Type 0 = λ u. MarkFits id (buffer_at pool header) (mark_at u header) in
      let fits : MarkFits id (buffer_at pool header) (mark_at v header) = subst P is ((h.headers header inside).each_seat id) in
      let key = key_of (get_or words (header_word setup.geometry header + 1) 0) in (
        hold_learns id key (buffer_at pool header) (mark_at v header).hold fits.0 (λ b e holds. key_is b e (held_key id b.mode b.holders b.key b.done (lawful_buffer b e).holders (lawful_buffer b e).has_key holds)),
        claim_learns id key (buffer_at pool header) (mark_at v header).claim fits.1 (λ b e moves. key_is b e (moving_key b.mode b.key b.done moves (lawful_buffer b e).has_key)),
      )

  learnt_header : (w : View) → mark_at w header ≡ mark_with_key (key_of (get_or words (header_word setup.geometry header + 1) 0)) (mark_at v header) → StandsForBuffer setup.geometry words (set views id w) pool header
  learnt_header w is_mark =
      let below_id = below files setup words views log pool h id v at live in
      let is = is_view files setup words views log pool h id v at live in
      let old = h.headers header inside in
      let change = total-set (λ _ u. hold_count (mark_at u header).hold) views id w spent below_id in
      let was : hold_count (mark_at (view_at views id) header).hold ≡ hold_count (mark_at v header).hold = ap (λ u. hold_count (mark_at u header).hold) is in
      let now : hold_count (mark_at w header).hold ≡ hold_count (mark_at v header).hold =
      ap (λ (m : Mark). hold_count m.hold) is_mark ∙ same_count (key_of (get_or words (header_word setup.geometry header + 1) 0)) (mark_at v header).hold in
      let count : count_of header (set views id w) ≡ count_of header views = omega (arith, change, was, now) in
      record {
        state_is = old.state_is ∙ ap (λ n. state_of n (buffer_at pool header)) (sym count);
        content = old.content;
        each_seat = λ seat.
            elim (cases_eq seat id) [
              | inl same ↦
                  let here : view_at (set views id w) seat ≡ w = ap (λ n. view_at (set views id w) n) same ∙ get_or-set_same views id w spent below_id in
                  let P : ℕ × Mark → Type 0 = λ z. MarkFits z.0 (buffer_at pool header) z.1 in
                  let e : marks_of header (set views id w) seat ≡ mark_with_key (key_of (get_or words (header_word setup.geometry header + 1) 0)) (mark_at v header) = ap (λ u. mark_at u header) here ∙ is_mark in
                  subst P (λ i. (sym same i, sym e i)) mark_learns
              | inr other ↦
                  let P : View → Type 0 = λ u. MarkFits seat (buffer_at pool header) (mark_at u header) in
                  subst P (sym (get_or-set_other views id seat w spent other)) (old.each_seat seat)
            ];
      }

  -- the key word is loaded, and the seat learns the key
  pub learns : let i = header_word setup.geometry header + 1 in let n = get_or words i 0 in Kept files setup (set words i n) (set views id (noted i n n Loaded (with_key header n v)))
  unfolding noted with_key
  learns =
      let i = header_word setup.geometry header + 1 in
      let n = get_or words i 0 in
      let w = noted i n n Loaded (with_key header n v) in
      let long : header < length v.marks = rw ((own files setup words views log pool h id v at live).marks live) inside in (
        log ++ [],
        (
          pool,
          quiet files setup words views log pool h id v at live i n w refl
              (record { numbers = refl; geometry = refl; marks = length-set v.marks header (mark_with_key (key_of n) (mark_at v header)); granted = refl }) refl refl
              (λ other there.
              elim (cases_eq other header) [
                | inl same ↦
                    let P : ℕ → Type 0 = λ k. StandsForBuffer setup.geometry words (set views id w) pool k in
                    subst P (sym same) (learnt_header w (get_or-set_same v.marks header (mark_with_key (key_of n) (mark_at v header)) clear_mark long))
                | inr apart ↦
                    header_seen files setup words views log pool h id v at live w other there (get_or-set_other v.marks header other (mark_with_key (key_of n) (mark_at v header)) clear_mark apart)
              ])
              (λ place. refl),
        ),
      )
