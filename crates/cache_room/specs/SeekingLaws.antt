-- For those who put lists of steps together: which arenas are asked in a list and then another.
use Rattle.std.specs.Prelude.{◌≡◌, ℕ, ◌/◌, List, [], ◌∷◌, ◌++◌, ◌⊎◌, Option, Some, None}
use Rattle.std.specs.Option.{option_or}
use Rattle.std.proofs.Common.{refl, sym, ◌∙◌, ap, subst, inl, inr, arith, eq-eqb}
use Rattle.std.proofs.lemmas.List.{append_assoc, append-nil}
use Rattle.std.proofs.lemmas.Option.{none-some}
use Rattle.pool_model.specs.declared.block.Block.{Block}
use Rattle.pool_rule.specs.declared.geometry.Geometry.{Geometry}
use Rattle.pool_rule.specs.declared.geometry.WordName.TheVariants.{Arena}
use Rattle.pool_rule.specs.declared.word_step.WordStep.{WordStep}
use Rattle.pool_rule.specs.declared.word_step.WordStep.TheVariants.{Granted, Looked, Returned}
use Rattle.pool_rule.specs.WordSteps.{block_in, event_of, found_by}
use Rattle.cache_consult.specs.Leaving.{AreLearnSteps, IsLearnStep, load_key, load_last, load_touches, take_touches}
use Rattle.cache_eviction.specs.Evictions.{HeldSteps, OutSteps}
use Rattle.cache_eviction.specs.Evictions as try
use Rattle.cache_lookup.specs.Trails.{Among, events, last_load, loaded}
use Rattle.cache_lookup.specs.TrailLaws.{among_either}
use Rattle.cache_placement.specs.Asking.{AsksNone, asked_by}
use Rattle.cache_placement.specs.Placements.{IsPlaceStep}
use Rattle.cache_placement.specs.Placements as place
use Rattle.cache_room.specs.Seeking.{AreAskedNext, AreInNeed, AreOwn, AsksOwn, HasNoBlock, IsAskedNext, SeeksRoom}
use Rattle.cache_room.specs.Seeking.{arena_then, found_if, freed_by, last_shown, shown_by}
use Rattle.cache_room.specs.Tried.{releases}
use Rattle.cache_room.specs.TriedLaws.{releases-append}

-- ---- one list and then another

-- what holds where no block came free before holds behind any
none_or : (l m : Option ℕ) (o : Option Block) → (l ≡ None) ⊎ (l ≡ m) → (arena_then l o ≡ None) ⊎ (arena_then l o ≡ arena_then m o)
none_or l m None e = e
none_or l m (Some b) e = inr refl

same_or : (l m : Option ℕ) (arena : ℕ) → (l ≡ None) ⊎ (l ≡ m) → l ≡ Some arena → m ≡ Some arena
same_or l m arena (inl none) is = absurd (none-some arena (sym none ∙ is))
same_or l m arena (inr same) is = sym same ∙ is

own_behind : (ss : List WordStep) (l m : Option ℕ) → (l ≡ None) ⊎ (l ≡ m) → AreOwn l ss → AreOwn m ss
own_behind [] l m e h = tt
own_behind (s ∷ ss) l m e h = (
  (λ arena is. same_or l m arena e (h.0 arena is)),
  own_behind ss (arena_then l (freed_by s)) (arena_then m (freed_by s)) (none_or l m (freed_by s) e) h.1,
)

own_then : (xs ys : List WordStep) (l : Option ℕ) → AreOwn l xs → AreOwn None ys → AreOwn l (xs ++ ys)
own_then [] ys l p q = own_behind ys None l (inl refl) q
own_then (x ∷ xs) ys l p q = (p.0, own_then xs ys (arena_then l (freed_by x)) p.1 q)

next_front : (b : Block) (xs ys : List WordStep) → IsAskedNext b xs → IsAskedNext b (xs ++ ys)
next_front b xs ys h = (h.0, h.1, h.2 ++ ys, ap (λ l. l ++ ys) h.3)

next_then : (xs ys : List WordStep) → AreAskedNext xs → AreAskedNext ys → AreAskedNext (xs ++ ys)
next_then [] ys p q = q
next_then (x ∷ xs) ys p q = ((λ b is. next_front b xs ys (p.0 b is)), next_then xs ys p.1 q)

-- ---- the word that was shown last

or_or : (a b c : Option ℕ) → option_or (option_or a b) c ≡ option_or a (option_or b c)
or_or None b c = refl
or_or (Some x) b c = refl

or_none : (a : Option ℕ) → option_or a None ≡ a
or_none None = refl
or_none (Some x) = refl

pub last_shown-append : (xs ys : List WordStep) → last_shown (xs ++ ys) ≡ option_or (last_shown ys) (last_shown xs)
last_shown-append [] ys = sym (or_none (last_shown ys))
last_shown-append (x ∷ xs) ys =
    ap (λ o. option_or o (shown_by x)) (last_shown-append xs ys) ∙ or_or (last_shown ys) (last_shown xs) (shown_by x)

module _ (g : Geometry) (len : ℕ) where
  -- a word with a block more
  less_or : (l m o : Option ℕ) → (HasNoBlock g len l → HasNoBlock g len m) → HasNoBlock g len (option_or o l)
      → HasNoBlock g len (option_or o m)
  less_or l m None f h = f h
  less_or l m (Some word) f h = h

  -- what holds where one word was shown before holds where another was that has no block
  need_behind : (ss : List WordStep) (l m : Option ℕ) → (HasNoBlock g len l → HasNoBlock g len m) → AreInNeed g len l ss
      → AreInNeed g len m ss
  need_behind [] l m f h = tt
  need_behind (s ∷ ss) l m f h = (
    (λ b is. f (h.0 b is)),
    need_behind ss (option_or (shown_by s) l) (option_or (shown_by s) m) (less_or l m (shown_by s) f) h.1,
  )

  need_then : (xs ys : List WordStep) (l : Option ℕ) → AreInNeed g len l xs → AreInNeed g len (option_or (last_shown xs) l) ys
      → AreInNeed g len l (xs ++ ys)
  need_then [] ys l p q = q
  need_then (x ∷ xs) ys l p q =
      let N : Option ℕ → Type 0 = λ o. AreInNeed g len o ys in (
        p.0,
        need_then xs ys (option_or (shown_by x) l) p.1 (subst N (or_or (last_shown xs) (shown_by x) l) q),
      )

  -- the arena that was asked last had no block
  pub asks_then : (xs ys : List WordStep) → AsksOwn g len xs → HasNoBlock g len (last_shown xs) → AsksOwn g len ys
      → AsksOwn g len (xs ++ ys)
  asks_then xs ys p none q =
      let N : Option ℕ → Type 0 = λ o. AreInNeed g len o ys in
      let behind = need_behind ys None (last_shown xs) (λ h. none) q.need in
      record {
        own = own_then xs ys None p.own q.own;
        next = next_then xs ys p.next q.next;
        need = need_then xs ys None p.need (subst N (sym (or_none (last_shown xs))) behind);
      }

  pub asks_nothing : AsksOwn g len []
  asks_nothing = record { own = tt; next = tt; need = tt }

-- ---- steps that ask none and free none

-- of one step
abbrev IsAside : WordStep → Type 0
IsAside s = (asked_by s ≡ None) × (freed_by s ≡ None)

aside_asks : (s : WordStep) (last : Option ℕ) (arena : ℕ) → IsAside s → asked_by s ≡ Some arena → last ≡ Some arena
aside_asks s last arena aside is = absurd (none-some arena (sym aside.0 ∙ is))

aside_frees : (s : WordStep) (ss : List WordStep) (b : Block) → IsAside s → freed_by s ≡ Some b → IsAskedNext b ss
aside_frees s ss b aside is = absurd (none-some b (sym aside.1 ∙ is))

aside_shows : (s : WordStep) → IsAside s → shown_by s ≡ None
aside_shows s aside = ap (λ o. found_if o (found_by s)) aside.0

module _ (g : Geometry) (len : ℕ) where
  aside_need : (s : WordStep) (last : Option ℕ) (b : Block) → IsAside s → freed_by s ≡ Some b → HasNoBlock g len last
  aside_need s last b aside is = absurd (none-some b (sym aside.1 ∙ is))

  asks_behind : (s : WordStep) (ss : List WordStep) → IsAside s → AsksOwn g len ss → AsksOwn g len (s ∷ ss)
  asks_behind s ss aside h =
      let P : Option Block → Type 0 = λ o. AreOwn (arena_then None o) ss in
      let N : Option ℕ → Type 0 = λ o. AreInNeed g len (option_or o None) ss in
      record {
        own = ((λ arena is. aside_asks s None arena aside is), subst P (sym aside.1) h.own);
        next = ((λ b is. aside_frees s ss b aside is), h.next);
        need = ((λ b is. aside_need s None b aside is), subst N (sym (aside_shows s aside)) h.need);
      }

-- and show none
shows_behind : (s : WordStep) (ss : List WordStep) → IsAside s → last_shown ss ≡ None → last_shown (s ∷ ss) ≡ None
shows_behind s ss aside h = ap (λ o. option_or o (shown_by s)) h ∙ aside_shows s aside

learn_aside : (s : WordStep) → IsLearnStep s → IsAside s
learn_aside s (load_touches header found) = (refl, refl)
learn_aside s (take_touches header found) = (refl, refl)
learn_aside s (load_key header found) = (refl, refl)
learn_aside s (load_last header found) = (refl, refl)

-- a consultation asks no arena
pub consult_asks : (g : Geometry) (len : ℕ) (ss : List WordStep) → AreLearnSteps ss → AsksOwn g len ss
consult_asks g len [] are = asks_nothing g len
consult_asks g len (s ∷ ss) are = asks_behind g len s ss (learn_aside s are.0) (consult_asks g len ss are.1)

pub consult_shows : (ss : List WordStep) → AreLearnSteps ss → last_shown ss ≡ None
consult_shows [] are = refl
consult_shows (s ∷ ss) are = shows_behind s ss (learn_aside s are.0) (consult_shows ss are.1)

-- nor does a try that is refused
pub held_asks : (g : Geometry) (len header : ℕ) (ss : List WordStep) (word : ℕ) → HeldSteps header ss word → AsksOwn g len ss
held_asks g len header ss word (try.shown _ ne) = asks_behind g len _ [] (refl, refl) (asks_nothing g len)
held_asks g len header ss word (try.lost seen _ idle ne) =
    asks_behind g len _ _ (refl, refl) (asks_behind g len _ [] (refl, refl) (asks_nothing g len))

pub held_shows : (header : ℕ) (ss : List WordStep) (word : ℕ) → HeldSteps header ss word → last_shown ss ≡ None
held_shows header ss word (try.shown _ ne) = refl
held_shows header ss word (try.lost seen _ idle ne) = refl

-- ---- a header that is released, and then a placement in its block's arena

place_frees : (s : WordStep) → IsPlaceStep s → freed_by s ≡ None
place_frees s (place.asked arena found) = refl
place_frees s (place.missed word found) = refl
place_frees s (place.granted b found) = refl
place_frees s (place.returned b found) = refl
place_frees s (place.opened header b cells) = refl
place_frees s (place.named header b key found) = refl
place_frees s (place.filled header b key done value found) = refl
place_frees s (place.published header b key found) = refl

module _ (from : ℕ) where
  place_own : (us : List WordStep) → ((s : WordStep) → Among s us → IsPlaceStep s)
      → ((s : WordStep) (arena : ℕ) → Among s us → asked_by s ≡ Some arena → from ≡ arena) → AreOwn (Some from) us
  place_own [] only inside = tt
  place_own (s ∷ us) only inside =
      let P : Option Block → Type 0 = λ o. AreOwn (arena_then (Some from) o) us in (
        (λ arena is. ap Some (inside s arena (inl refl) is)),
        subst P (sym (place_frees s (only s (inl refl))))
            (place_own us (λ t there. only t (inr there)) (λ t arena there is. inside t arena (inr there) is)),
      )

place_need : (g : Geometry) (len : ℕ) (us : List WordStep) (last : Option ℕ) → ((s : WordStep) → Among s us → IsPlaceStep s)
    → AreInNeed g len last us
place_need g len [] last only = tt
place_need g len (s ∷ us) last only = (
  (λ b is. absurd (none-some b (sym (place_frees s (only s (inl refl))) ∙ is))),
  place_need g len us (option_or (shown_by s) last) (λ t there. only t (inr there)),
)

place_next : (us : List WordStep) → ((s : WordStep) → Among s us → IsPlaceStep s) → AreAskedNext us
place_next [] only = tt
place_next (s ∷ us) only = (
  (λ b is. absurd (none-some b (sym (place_frees s (only s (inl refl))) ∙ is))),
  place_next us (λ t there. only t (inr there)),
)

no_arena : {A : Type 0} (arena : ℕ) → None ≡ Some arena → A
no_arena arena is = absurd (none-some arena is)

no_block : {A : Type 0} (b : Block) → None ≡ Some b → A
no_block b is = absurd (none-some b is)

next_of : (b c : Block) (given : ℕ) (us : List WordStep)
    → ((found : ℕ) × (rest : List WordStep) × (us ≡ Looked (Arena (b.place / 64)) found ∷ rest)) → Some b ≡ Some c
    → IsAskedNext c (Returned b given ∷ us)
next_of b c given us asked is =
    let same : b ≡ c = cc in
    let P : Block → Type 0 = λ x. IsAskedNext x (Returned b given ∷ us) in
    subst P same (given, asked.0, asked.1, ap (λ l. Returned b given ∷ l) asked.2)

pub out_asks : (g : Geometry) (len header : ℕ) (ss us : List WordStep) (b : Block) → OutSteps header ss b
    → ((s : WordStep) → Among s us → IsPlaceStep s)
    → ((s : WordStep) (arena : ℕ) → Among s us → asked_by s ≡ Some arena → b.place / 64 ≡ arena)
    → ((found : ℕ) × (rest : List WordStep) × (us ≡ Looked (Arena (b.place / 64)) found ∷ rest)) → AsksOwn g len (ss ++ us)
out_asks g len header ss us b (try.out word released given idle) only inside asked =
    let own = place_own ((block_in word).place / 64) us only inside in
    record {
      own = (
        (λ arena is. no_arena arena is),
        ((λ arena is. no_arena arena is), ((λ arena is. no_arena arena is), ((λ arena is. no_arena arena is), own))),
      );
      next = (
        (λ c is. no_block c is),
        ((λ c is. no_block c is), ((λ c is. next_of (block_in word) c given us asked is), ((λ c is. no_block c is), place_next us only))),
      );
      need = (
        (λ c is. no_block c is),
        ((λ c is. no_block c is), ((λ c is. tt), ((λ c is. no_block c is), place_need g len us None only))),
      );
    }

-- ---- the word of an arena that alone was asked

-- a load of the arena shows its word, and another step shows none
place_shows : (g : Geometry) (from : ℕ) (s : WordStep) → IsPlaceStep s → ((arena : ℕ) → asked_by s ≡ Some arena → from ≡ arena)
    → ((b : Block) (found : ℕ) → s ≡ Granted b found → ⊥) → loaded from (event_of g s) ≡ shown_by s
place_shows g from s (place.asked arena found) inside none = rw (eq-eqb arena from (sym (inside arena refl))) refl
place_shows g from s (place.missed word found) inside none = refl
place_shows g from s (place.granted b found) inside none = absurd (none b found refl)
place_shows g from s (place.returned b found) inside none = refl
place_shows g from s (place.opened header b cells) inside none = refl
place_shows g from s (place.named header b key found) inside none = refl
place_shows g from s (place.filled header b key done value found) inside none = refl
place_shows g from s (place.published header b key found) inside none = refl

pub shown_loads : (g : Geometry) (from : ℕ) (us : List WordStep) → ((s : WordStep) → Among s us → IsPlaceStep s)
    → ((s : WordStep) (arena : ℕ) → Among s us → asked_by s ≡ Some arena → from ≡ arena)
    → ((b : Block) (found : ℕ) → Among (Granted b found) us → ⊥) → last_load from (events g us) ≡ last_shown us
shown_loads g from [] only inside none = refl
shown_loads g from (s ∷ us) only inside none =
    let here = place_shows g from s (only s (inl refl)) (λ arena is. inside s arena (inl refl) is) (λ b found is. none b found (inl is)) in
    let rest = shown_loads g from us (λ t there. only t (inr there)) (λ t arena there is. inside t arena (inr there) is)
    (λ b found there. none b found (inr there)) in
    ap (λ o. option_or o (loaded from (event_of g s))) rest ∙ ap (option_or (last_shown us)) here

-- ---- the whole

-- steps behind that ask none and release none
pub seeks_before : (g : Geometry) (len : ℕ) (ss end : List WordStep) → SeeksRoom g len ss → releases end ≡ 0 → AsksNone end
    → SeeksRoom g len (ss ++ end)
seeks_before g len ss end h none quiet =
    let s = h.sought in
    let sum = releases-append h.more end in
    let more = releases-append s.end end in
    let kept = s.kept in
    record {
      asking = h.asking;
      more = h.more ++ end;
      parts = ap (λ l. l ++ end) h.parts ∙ append_assoc h.asking h.more end;
      kept = h.kept;
      full = elim h.full [ inl zero ↦ inl (omega (arith, sum, zero, none)) | inr full ↦ inr full ];
      sought =
          record {
            trying = s.trying;
            end = s.end ++ end;
            parts = ap (λ l. l ++ end) s.parts ∙ append_assoc s.trying s.end end;
            asks = s.asks;
            kept = omega (arith, more, kept, none);
            last = elim s.last [ inl asks ↦ inl (both asks) | inr tried ↦ inr tried ];
          };
    }
  where
    both : AsksNone h.sought.end → AsksNone (h.sought.end ++ end)
    both asks t there = elim (among_either t h.sought.end end there) [ inl front ↦ asks t front | inr back ↦ quiet t back ]

-- steps that release none, whatever arenas they ask
pub seeks_only : (g : Geometry) (len : ℕ) (ss : List WordStep) → releases ss ≡ 0 → SeeksRoom g len ss
seeks_only g len ss none =
    record {
      asking = ss;
      more = [];
      parts = sym (append-nil ss);
      kept = none;
      full = inl refl;
      sought = record { trying = []; end = []; parts = refl; asks = asks_nothing g len; kept = refl; last = inl (λ s gone. absurd gone) };
    }

pub ruleset seeking = (
  last_shown-append,
  asks_then,
  asks_nothing,
  consult_asks,
  consult_shows,
  held_asks,
  held_shows,
  out_asks,
  shown_loads,
  seeks_before,
  seeks_only,
)
