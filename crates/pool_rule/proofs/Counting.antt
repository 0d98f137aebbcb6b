-- A count is added to a header's state: a pin where the buffer is live, else a bid.
use Rattle.std.proofs.Common.{◌≡◌, ◌≢◌, ◌==◌, ℕ, ◌+◌, ◌/◌, ◌%◌, ◌^◌, ◌<◌, ◌≤◌, Bool, true, false, List, [], ◌∷◌, ◌++◌, length, get_or, set, refl, sym, ap, ◌∙◌, subst, arith, eq-eqb, ne_eqb}
use Rattle.std.specs.Prelude.{Option, None, Some, option_map, IfSome, IsSomeAnd, if◌then◌else◌, ◌||◌}
use Rattle.std.specs.List.{list_any}
use Rattle.std.proofs.lemmas.List.{get_or-set_same, get_or-set_other, length-set, set-get_or, append-nil}
use Rattle.std.proofs.lemmas.List.Folds.{list_any-append}
use mathlib.Core.Option.{some}
use lib.ListN.{get_elem?}
use Rattle.buffer_word.specs.declared.state_word.Mode.{Mode}
use Rattle.buffer_word.specs.declared.state_word.Mode.TheVariants as word_mode
use Rattle.buffer_word.specs.Changes.{BidAdds16}
use Rattle.buffer_word.specs.StateWord.{word_of}
use Rattle.pool_model.specs.declared.block.Block.{Block}
use Rattle.pool_model.specs.declared.buffer.Buffer.{Buffer}
use Rattle.pool_model.specs.declared.buffer.BufferMode.{BufferMode}
use Rattle.pool_model.specs.declared.buffer.BufferMode.TheVariants as mode
use Rattle.pool_model.specs.declared.pool.PlainPool.{PlainPool}
use Rattle.pool_model.specs.declared.step.Step.{Step}
use Rattle.pool_model.specs.declared.step.Step.TheVariants.{Pin}
use Rattle.pool_model.specs.Buffer.{Holds, CanPin, pinned}
use Rattle.pool_model.specs.Content.{Files}
use Rattle.pool_model.specs.Lawful.{IsLawfulBuffer}
use Rattle.pool_model.specs.Laws.{EveryRunIsLawful}
use Rattle.pool_model.specs.Pool.{buffer_at, buffer_covers}
use Rattle.pool_model.specs.Step.{Needs, after}
use Rattle.pool_rule.specs.declared.geometry.Geometry.{Geometry}
use Rattle.pool_rule.specs.declared.geometry.Setup.{Setup}
use Rattle.pool_rule.specs.declared.view.Access.TheVariants.{Changed}
use Rattle.pool_rule.specs.declared.view.Claim.{Claim}
use Rattle.pool_rule.specs.declared.view.Claim.TheVariants.{Unclaimed, Fresh, Gone, Carried}
use Rattle.pool_rule.specs.declared.view.Hold.{Hold}
use Rattle.pool_rule.specs.declared.view.Hold.TheVariants.{Free, Bid, Pinned}
use Rattle.pool_rule.specs.declared.view.Mark.{Mark}
use Rattle.pool_rule.specs.declared.view.View.{View}
use Rattle.pool_rule.specs.Headers.{HasContent, HoldFits, ClaimFits, MarkFits, HeldBy, hold_count, mode_of, state_of}
use Rattle.pool_rule.specs.Layout.{headers_of, header_word}
use Rattle.pool_rule.specs.Rule.{Kept, IsStory, StandsFor, setting_of, cells_in, count_of}
use Rattle.pool_rule.specs.Seats.{mark_at, noted, with_step, with_mark}
use Rattle.pool_rule.specs.WordSteps.{block_in, counting}
use Rattle.pool_rule.proofs.Frame.{below, is_view}
use Rattle.pool_rule.proofs.HeaderStep.{header_step}
use Rattle.pool_rule.proofs.Story.{story_lawful, story_same, story_more, mine, theirs}

-- ---- holders

or_true : (a : Bool) → (a || true) ≡ true
or_true true = refl
or_true false = refl

holds_more : (seat id : ℕ) (xs : List ℕ) → Holds seat xs → Holds seat (xs ++ id ∷ [])
holds_more seat id xs h = list_any-append (λ s. s == seat) xs (id ∷ []) ∙ ap (λ b. b || list_any (λ s. s == seat) (id ∷ [])) h

holds_new : (id : ℕ) (xs : List ℕ) → Holds id (xs ++ id ∷ [])
holds_new id xs =
    let one : list_any (λ s. s == id) (id ∷ []) ≡ true = rw (eq-eqb id id refl) refl in
    list_any-append (λ s. s == id) xs (id ∷ []) ∙ (ap (λ b. list_any (λ s. s == id) xs || b) one ∙ or_true (list_any (λ s. s == id) xs))

or_false : (a : Bool) → (a || false) ≡ true → a ≡ true
or_false true e = refl
or_false false e = e

holds_less : (seat id : ℕ) (xs : List ℕ) → seat ≢ id → Holds seat (xs ++ id ∷ []) → Holds seat xs
holds_less seat id xs apart h =
    let none : list_any (λ s. s == seat) (id ∷ []) ≡ false = rw (ne_eqb id seat (λ e. apart (sym e))) refl in
    or_false (list_any (λ s. s == seat) xs) (sym (list_any-append (λ s. s == seat) xs (id ∷ []) ∙ ap (λ b. list_any (λ s. s == seat) xs || b) none) ∙ h)

-- ---- the state word

flags_live : (count order place : ℕ) → word_of count word_mode.Live order place % 16 ≡ 0
flags_live count order place = omega arith

flags_other : (count : ℕ) (m : Mode) (order place : ℕ) → m ≢ word_mode.Live → word_of count m order place % 16 ≢ 0
flags_other count word_mode.Released order place ne e = omega (arith, e)
flags_other count word_mode.New order place ne e = omega (arith, e)
flags_other count word_mode.Live order place ne e = ne refl
flags_other count word_mode.Moving order place ne e = omega (arith, e)
flags_other count word_mode.Evicted order place ne e = omega (arith, e)

place_of_word : (count order place : ℕ) → count < 65536 → order < 16 → word_of count word_mode.Live order place / 2 ^ 24 ≡ place
place_of_word count order place h k = omega (arith, h, k)

order_of_word : (count order place : ℕ) → count < 65536 → order < 16 → word_of count word_mode.Live order place / 2 ^ 20 % 2 ^ 4 ≡ order
order_of_word count order place h k = omega (arith, h, k)

block_of_word : (count : ℕ) (b : Block) → count < 65536 → b.order < 16 → b ≡ block_in (word_of count word_mode.Live b.order b.place)
block_of_word count b h k =
    let p = sym (place_of_word count b.order b.place h k) in
    let o = sym (order_of_word count b.order b.place h k) in
    λ i. record { place = p i; order = o i }

-- a mode other than live
not_live : (m : BufferMode) → m ≢ mode.Live → mode_of m ≢ word_mode.Live
not_live mode.New ne e = cc
not_live mode.Live ne e = ne refl
not_live mode.Moving ne e = cc
not_live mode.Evicted ne e = cc

-- the header has a buffer that isn't live, or none
abbrev NotLive : Option Buffer → Type 0
NotLive None = Unit {0}
NotLive (Some b) = b.mode ≢ mode.Live

-- order and place fit their bits
abbrev pub FitsBits : Option Buffer → Type 0
FitsBits None = Unit {0}
FitsBits (Some b) = (b.block.order < 2 ^ 4) × (b.block.place < 2 ^ 20)

pub bits_fit : (files : Option Files) (g : Geometry) (places : ℕ) (o : Option Buffer) → places ≤ 4096 → IfSome o (IsLawfulBuffer (setting_of files g) places) → FitsBits o
bits_fit files g places None few l = tt
bits_fit files g places (Some b) few l = let fits = l.is_block.order_fits in let inside = l.is_block.inside in (omega (arith, fits), omega (arith, inside, few))

adds_one : BidAdds16 → (count : ℕ) (o : Option Buffer) → count ≤ 64 → FitsBits o → (state_of count o + 16) % 2 ^ 64 ≡ state_of (count + 1) o
adds_one add count None small fits = add count word_mode.Released 0 0 (omega (arith, small)) (omega arith) (omega arith)
adds_one add count (Some b) small fits = add count (mode_of b.mode) b.block.order b.block.place (omega (arith, small)) fits.0 fits.1

flags_not_live : (count : ℕ) (o : Option Buffer) → NotLive o → state_of count o % 16 ≢ 0
flags_not_live count None ne e = omega (arith, e)
flags_not_live count (Some b) ne e = flags_other count (mode_of b.mode) b.block.order b.block.place (not_live b.mode ne) e

-- ---- marks

bid_fits : (seat : ℕ) (o : Option Buffer) (m : Mark) → m.hold ≡ Free → MarkFits seat o m → MarkFits seat o (record { hold = Bid; claim = m.claim })
bid_fits seat o m free fits = let P : Hold → Type 0 = λ x. HoldFits seat o x in (subst P free fits.0, fits.1)

free_fits : (seat : ℕ) (o : Option Buffer) (m : Mark) → m.hold ≡ Free → MarkFits seat o m → HeldBy seat o → ⊥
free_fits seat o m free fits = let P : Hold → Type 0 = λ x. HoldFits seat o x in subst P free fits.0

claim_pinned : (seat id : ℕ) (b : Buffer) (c : Claim) → ClaimFits seat (Some b) c → ClaimFits seat (Some (pinned id b)) c
claim_pinned seat id b Unclaimed fits = fits
claim_pinned seat id b (Fresh k key done) fits = fits
claim_pinned seat id b (Gone k) fits = fits
claim_pinned seat id b (Carried k t key done next) fits = fits

hold_pinned : (seat id : ℕ) (b : Buffer) (x : Hold) → seat ≢ id → HoldFits seat (Some b) x → HoldFits seat (Some (pinned id b)) x
hold_pinned seat id b Free apart fits = λ held. fits (holds_less seat id b.holders apart held)
hold_pinned seat id b Bid apart fits = λ held. fits (holds_less seat id b.holders apart held)
hold_pinned seat id b (Pinned k key) apart fits = (holds_more seat id b.holders fits.0, fits.1, fits.2)

content_pinned : (g : Geometry) (key : ℕ) (cell : ℕ → ℕ) (id : ℕ) (b : Buffer) → HasContent g key cell b → HasContent g key cell (pinned id b)
content_pinned g key cell id b c = record { key_packs = c.key_packs; key_is = c.key_is; cells = c.cells; target_cells = c.target_cells }

pub some_value : {A : Type 0} (P : A → Type 0) (o : Option A) (x : A) → o ≡ Some x → IfSome o P → P x
some_value P o x e h = let Q : Option _ → Type 0 = λ v. IfSome v P in subst Q e h

module _ (law : EveryRunIsLawful) (add : BidAdds16) (files : Option Files) (setup : Setup) (words : List ℕ) (views : List View) (log : List Step) (pool : PlainPool) (h : StandsFor files setup words views log pool) (id : ℕ) (v : View) (at : get_elem? views id ≡ some v) (live : 0 < length v.numbers) (header : ℕ) (inside : header < headers_of setup.geometry) (small : count_of header views ≤ 64) (few : length pool.grants ≤ 4096) (free : (mark_at v header).hold ≡ Free) where
  old_mark : MarkFits id (buffer_at pool header) (mark_at v header)
  old_mark =
      let is = is_view files setup words views log pool h id v at live in
      let P : View → Type 0 = λ u. MarkFits id (buffer_at pool header) (mark_at u header) in
      subst P is ((h.headers header inside).each_seat id)

  fits_bits : FitsBits (buffer_at pool header)
  fits_bits = bits_fit files setup.geometry (length pool.grants) (buffer_at pool header) few ((story_lawful law files setup.geometry (length views) log pool h.story).buffers header)

  free_count : hold_count (mark_at v header).hold ≡ 0
  free_count = ap hold_count free

  abbrev i : ℕ
  i = header_word setup.geometry header

  abbrev n : ℕ
  n = get_or words (header_word setup.geometry header) 0

  -- the word then, for a buffer of the same block and mode
  state_then : (o : Option Buffer) (count : ℕ) → count ≡ count_of header views + 1 → FitsBits o → n ≡ state_of (count_of header views) o → get_or (set words i ((n + 16) % 2 ^ 64)) i 0 ≡ state_of count o
  state_then o count e fits is =
      let wide : i < length words = omega (arith, h.all_words, inside) in
      get_or-set_same words i ((n + 16) % 2 ^ 64) 0 wide ∙ (ap (λ k. (k + 16) % 2 ^ 64) is ∙ (adds_one add (count_of header views) o small fits ∙ ap (λ k. state_of k o) (sym e)))

  abbrev KeptWith : View → Type 0
  KeptWith u = Kept files setup (set words i ((n + 16) % 2 ^ 64)) (set views id (noted i n ((n + 16) % 2 ^ 64) Changed u))

  -- a bid: no step of the pool
  bid_kept : KeptWith (with_mark header (record { hold = Bid; claim = (mark_at v header).claim }) v)
  unfolding noted with_mark
  bid_kept =
      let m : Mark = record { hold = Bid; claim = (mark_at v header).claim } in
      let u = with_mark header m v in
      let w = noted i n ((n + 16) % 2 ^ 64) Changed u in
      let same : record pool { buffers = set pool.buffers header (buffer_at pool header) } ≡ pool = ap (λ (l : List (Option Buffer)). record pool { buffers = l }) (set-get_or pool.buffers header None) in
      let P : PlainPool → Type 0 = λ p. StandsFor files setup (set words i ((n + 16) % 2 ^ 64)) (set views id w) (log ++ []) p in
      let S : PlainPool → Type 0 = λ p. IsStory files setup.geometry (length views) (log ++ []) p in
      let key_same : get_or (set words i ((n + 16) % 2 ^ 64)) (i + 1) 0 ≡ get_or words (i + 1) 0 = get_or-set_other words i (i + 1) ((n + 16) % 2 ^ 64) 0 (λ e. omega (arith, e)) in
      let C : ℕ → Type 0 = λ k. IfSome (buffer_at pool header) (HasContent setup.geometry k (cells_in setup.geometry words)) in (
        log ++ [],
        (
          pool,
          subst P same
              (header_step files setup words views log pool h id v at live header inside i ((n + 16) % 2 ^ 64) w m (buffer_at pool header) []
              (record { numbers = refl; geometry = refl; marks = length-set v.marks header m; granted = refl }) refl (sym (append-nil v.steps)) refl (λ s apart. refl) refl (omega arith) (omega arith) refl
              (subst S (sym same) (story_same files setup.geometry (length views) log pool h.story))
              (λ count e. state_then (buffer_at pool header) count (omega (arith, e, free_count)) fits_bits (h.headers header inside).state_is)
              (subst C (sym key_same) (h.headers header inside).content)
              (bid_fits id (buffer_at pool header) (mark_at v header) free old_mark)
              (λ seat apart x fits. fits)
              (λ k. refl)),
        ),
      )

  -- a pin of a live buffer
  pin_kept : (b : Buffer) → buffer_at pool header ≡ Some b → b.mode ≡ mode.Live → KeptWith (with_step (Pin id header) (with_mark header (record { hold = Pinned (block_in n) None; claim = (mark_at v header).claim }) v))
  unfolding noted with_mark with_step
  pin_kept b has is_live =
      let m : Mark = record { hold = Pinned (block_in n) None; claim = (mark_at v header).claim } in
      let u = with_step (Pin id header) (with_mark header m v) in
      let w = noted i n ((n + 16) % 2 ^ 64) Changed u in
      let is : n ≡ state_of (count_of header views) (Some b) = (h.headers header inside).state_is ∙ ap (state_of (count_of header views)) has in
      let F : Option Buffer → Type 0 = λ o. FitsBits o in
      let fits : FitsBits (Some b) = subst F has fits_bits in
      let M : Option Buffer → Type 0 = λ o. MarkFits id o (mark_at v header) in
      let old : MarkFits id (Some b) (mark_at v header) = subst M has old_mark in
      let word_is : n ≡ word_of (count_of header views) word_mode.Live b.block.order b.block.place = is ∙ ap (λ (k : BufferMode). word_of (count_of header views) (mode_of k) b.block.order b.block.place) is_live in
      let block_is : b.block ≡ block_in n = block_of_word (count_of header views) b.block (omega (arith, small)) fits.0 ∙ ap block_in (sym word_is) in
      let key_same : get_or (set words i ((n + 16) % 2 ^ 64)) (i + 1) 0 ≡ get_or words (i + 1) 0 = get_or-set_other words i (i + 1) ((n + 16) % 2 ^ 64) 0 (λ e. omega (arith, e)) in
      let content : HasContent setup.geometry (get_or words (i + 1) 0) (cells_in setup.geometry words) b = some_value _ (buffer_at pool header) b has (h.headers header inside).content in
      let C : ℕ → Type 0 = λ k. HasContent setup.geometry k (cells_in setup.geometry words) (pinned id b) in
      let N : Option Buffer → Type 0 = λ o. IsSomeAnd o (CanPin id) in
      let needs : Needs (setting_of files setup.geometry) (Pin id header) pool = subst N (sym has) (is_live, free_fits id (Some b) (mark_at v header) free old) in
      let is_after : after (Pin id header) pool ≡ record pool { buffers = set pool.buffers header (Some (pinned id b)) } = ap (λ (o : Option Buffer). record pool { buffers = set pool.buffers header (option_map (pinned id) o) }) has in
      let S : PlainPool → Type 0 = λ p. IsStory files setup.geometry (length views) (log ++ Pin id header ∷ []) p in
      let T : (seat : ℕ) → seat ≢ id → (x : Mark) → MarkFits seat (buffer_at pool header) x → MarkFits seat (Some (pinned id b)) x =
      λ seat apart x f. let X : Option Buffer → Type 0 = λ o. MarkFits seat o x in let g = subst X has f in (hold_pinned seat id b x.hold apart g.0, claim_pinned seat id b x.claim g.1) in (
        log ++ Pin id header ∷ [],
        (
          record pool { buffers = set pool.buffers header (Some (pinned id b)) },
          header_step files setup words views log pool h id v at live header inside i ((n + 16) % 2 ^ 64) w m (Some (pinned id b)) (Pin id header ∷ [])
              (record { numbers = refl; geometry = refl; marks = length-set v.marks header m; granted = refl }) refl refl (mine (Pin id header)) (λ s apart. theirs (Pin id header) s apart) refl (omega arith) (omega arith) refl
              (subst S is_after (story_more files setup.geometry (length views) log pool (Pin id header) h.story needs (below files setup words views log pool h id v at live) (length-set pool.buffers header _) refl))
              (λ count e. state_then (Some (pinned id b)) count (omega (arith, e, free_count)) fits is)
              (subst C (sym key_same) (content_pinned _ _ _ id b content))
              ((holds_new id b.holders, block_is, tt), claim_pinned id id b (mark_at v header).claim old.1)
              T
              (λ k. sym (ap (buffer_covers k header) has)),
        ),
      )

  -- whichever it is, the rule is kept
  pub counts : KeptWith (counting id header n v)
  counts = by_buffer (buffer_at pool header) refl
    where
      as_bid : NotLive (buffer_at pool header) → KeptWith (counting id header n v)
      as_bid ne =
          let other : n % 16 ≢ 0 = λ e. flags_not_live (count_of header views) (buffer_at pool header) ne (sym (ap (λ k. k % 16) (h.headers header inside).state_is) ∙ e) in
          let P : Bool → Type 0 = λ t. KeptWith (if t then with_step (Pin id header) (with_mark header (record { hold = Pinned (block_in n) None; claim = (mark_at v header).claim }) v) else with_mark header (record { hold = Bid; claim = (mark_at v header).claim }) v) in
          subst P (sym (ne_eqb (n % 16) 0 other)) bid_kept

      as_pin : (b : Buffer) → buffer_at pool header ≡ Some b → b.mode ≡ mode.Live → KeptWith (counting id header n v)
      as_pin b has is_live =
          let word_is : n ≡ word_of (count_of header views) word_mode.Live b.block.order b.block.place = (h.headers header inside).state_is ∙ (ap (state_of (count_of header views)) has ∙ ap (λ (k : BufferMode). word_of (count_of header views) (mode_of k) b.block.order b.block.place) is_live) in
          let zero_flags : n % 16 ≡ 0 = ap (λ k. k % 16) word_is ∙ flags_live (count_of header views) b.block.order b.block.place in
          let P : Bool → Type 0 = λ t. KeptWith (if t then with_step (Pin id header) (with_mark header (record { hold = Pinned (block_in n) None; claim = (mark_at v header).claim }) v) else with_mark header (record { hold = Bid; claim = (mark_at v header).claim }) v) in
          subst P (sym (eq-eqb (n % 16) 0 zero_flags)) (pin_kept b has is_live)

      by_mode : (b : Buffer) (m : BufferMode) → buffer_at pool header ≡ Some b → b.mode ≡ m → KeptWith (counting id header n v)
      by_mode b mode.Live has e = as_pin b has e
      by_mode b mode.New has e = as_bid (let Q : Option Buffer → Type 0 = λ o. NotLive o in subst Q (sym has) (λ l. let f : mode.New ≡ mode.Live = sym e ∙ l in cc))
      by_mode b mode.Moving has e = as_bid (let Q : Option Buffer → Type 0 = λ o. NotLive o in subst Q (sym has) (λ l. let f : mode.Moving ≡ mode.Live = sym e ∙ l in cc))
      by_mode b mode.Evicted has e = as_bid (let Q : Option Buffer → Type 0 = λ o. NotLive o in subst Q (sym has) (λ l. let f : mode.Evicted ≡ mode.Live = sym e ∙ l in cc))

      by_buffer : (o : Option Buffer) → buffer_at pool header ≡ o → KeptWith (counting id header n v)
      by_buffer None has = as_bid (let Q : Option Buffer → Type 0 = λ o. NotLive o in subst Q (sym has) tt)
      by_buffer (Some b) has = by_mode b b.mode has refl
