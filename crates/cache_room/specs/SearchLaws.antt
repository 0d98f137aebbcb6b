-- For those who search headers: steps that try nothing, and searches that are put together.
use Rattle.std.specs.Prelude.{◌≡◌, ℕ, Bool, true, false, List, [], ◌∷◌, ◌++◌, Option, Some}
use Rattle.std.proofs.Common.{refl, sym, ◌∙◌, ap, subst, inl, inr}
use Rattle.std.proofs.lemmas.Bool.{false≢true}
use Rattle.std.proofs.lemmas.List.{append_assoc, append-nil}
use Rattle.lrfu_policy.specs.Policy.{Ranking}
use Rattle.pool_model.specs.Content.{Files}
use Rattle.pool_rule.specs.declared.geometry.Geometry.{Geometry}
use Rattle.pool_rule.specs.declared.view.View.{View}
use Rattle.pool_rule.specs.declared.word_step.WordStep.{WordStep}
use Rattle.pool_rule.specs.declared.word_step.WordStep.TheVariants.{EvictBegun}
use Rattle.pool_rule.specs.Layout.{headers_of}
use Rattle.buffer_pool.specs.Callers.{all_then}
use Rattle.buffer_pool.specs.Made.{AreMade}
use Rattle.cache_consult.specs.Consults.{Consults}
use Rattle.cache_eviction.specs.Order.{AllTried, IsWalkEnd, forgotten, forgotten_by, tried_by, tries}
use Rattle.cache_eviction.specs.OrderLaws.{tries-append}
use Rattle.cache_lookup.specs.Trails.{Among}
use Rattle.cache_lookup.specs.TrailLaws.{among_back, among_either}
use Rattle.cache_placement.specs.declared.why.Placed.{Placed}
use Rattle.cache_placement.specs.declared.why.Placed.TheVariants.{Filled, Bypass}
use Rattle.cache_placement.specs.declared.why.Why.{Why}
use Rattle.cache_placement.specs.declared.why.Why.TheVariants.{NoRoom, Raced, Busy, SetFull, PolicyOut}
use Rattle.cache_placement.specs.Placements.{IsPlaceStep, IsPlacement}
use Rattle.cache_placement.specs.Placements as place
use Rattle.cache_room.specs.Rooms.{unless_full}
use Rattle.cache_room.specs.Searches.{EvictsNone, FullBy, IsRanked, Ranks, Searches, SearchesIf, is_no_room, why_of}

-- ---- a placement tries nothing, forgets nothing and evicts nothing

place_tried : (s : WordStep) → IsPlaceStep s → tried_by s ≡ []
place_tried s (place.asked arena found) = refl
place_tried s (place.missed word found) = refl
place_tried s (place.granted b found) = refl
place_tried s (place.returned b found) = refl
place_tried s (place.opened header b cells) = refl
place_tried s (place.named header b key found) = refl
place_tried s (place.filled header b key done value found) = refl
place_tried s (place.published header b key found) = refl

place_forgot : (s : WordStep) (p : Ranking) → IsPlaceStep s → forgotten_by s p ≡ p
place_forgot s p (place.asked arena found) = refl
place_forgot s p (place.missed word found) = refl
place_forgot s p (place.granted b found) = refl
place_forgot s p (place.returned b found) = refl
place_forgot s p (place.opened header b cells) = refl
place_forgot s p (place.named header b key found) = refl
place_forgot s p (place.filled header b key done value found) = refl
place_forgot s p (place.published header b key found) = refl

pub place_tries : (ss : List WordStep) → ((s : WordStep) → Among s ss → IsPlaceStep s) → tries ss ≡ []
place_tries [] only = refl
place_tries (s ∷ ss) only = ap (λ l. l ++ tries ss) (place_tried s (only s (inl refl))) ∙ place_tries ss (λ t there. only t (inr there))

pub place_forgets : (ss : List WordStep) → ((s : WordStep) → Among s ss → IsPlaceStep s) → (p : Ranking) → forgotten ss p ≡ p
place_forgets [] only p = refl
place_forgets (s ∷ ss) only p = ap (forgotten ss) (place_forgot s p (only s (inl refl))) ∙ place_forgets ss (λ t
    there. only t (inr there)) p

no_evict : (header found : ℕ) → IsPlaceStep (EvictBegun header found) → ⊥
no_evict header found h = elim h [ ]

pub place_evicts : (ss : List WordStep) → ((s : WordStep) → Among s ss → IsPlaceStep s) → EvictsNone ss
place_evicts ss only header found there = no_evict header found (only (EvictBegun header found) there)

pub evicts_both : (xs ys : List WordStep) → EvictsNone xs → EvictsNone ys → EvictsNone (xs ++ ys)
evicts_both xs ys p q header found there = elim (among_either (EvictBegun header found) xs ys there) [
  | inl front ↦ p
      header found front
  | inr rest ↦ q header found rest
]

-- ---- searches

pub searched : (files : Option Files) (g : Geometry) (id first count : ℕ) (full : Bool) (p told now : Ranking)
    (old mid new : View) → Consults files g id (headers_of g) p told old mid
    → (w : IsWalkEnd files g id first count told mid now new) → (full ≡ true → AllTried first count w.ss)
    → Searches files g id first count full p now old new
searched files g id first count full p told now old mid new c w all =
    let P : List ℕ → Type 0 = λ l. (header : ℕ) → Among header (tries w.ss) → Among header l in
    let back = subst P (sym (tries-append c.0 w.ss)) (λ header there. among_back header (tries c.0) (tries w.ss) there) in
    record {
      ss = c.0 ++ w.ss;
      made = all_then files g id c.0 w.ss old mid new c.1 w.made;
      search = record { asking = c.0; trying = w.ss; parts = refl; told = told; consulted = c.2; in_order = w.in_order };
      all = λ is header within. back header (all is header within);
    }

-- nothing was searched
pub unsearched : (files : Option Files) (g : Geometry) (id : ℕ) (full : Bool) (p now : Ranking) (us : List WordStep)
    (old new : View) → now ≡ p → full ≡ false → EvictsNone us → AreMade files g id us old new
    → SearchesIf files g id full p now old new
unsearched files g id full p now us old new same not none made =
    let P : List WordStep → Type 0 = λ l. AreMade files g id l old new in
    record {
      front = us;
      ss = [];
      made = subst P (sym (append-nil us)) made;
      none_at_first = none;
      search = inl (refl, same);
      all = λ is. absurd (false≢true (sym not ∙ is));
    }

pub searched_behind : (files : Option Files) (g : Geometry) (id : ℕ) (full : Bool) (p now : Ranking)
    (us : List WordStep) (old mid new : View) → EvictsNone us → AreMade files g id us old mid
    → Searches files g id 0 (headers_of g) full p now mid new → SearchesIf files g id full p now old new
searched_behind files g id full p now us old mid new none made s =
    record {
      front = us;
      ss = s.ss;
      made = all_then files g id us s.ss old mid new made s.made;
      none_at_first =
          none;
      search = inr s.search;
      all = s.all;
    }

-- an answer that isn't for want of room
pub not_no_room : (placed answer : Placed) → unless_full placed ≡ Some answer → is_no_room answer ≡ false
not_no_room (Filled pin) answer e = let is : Filled pin ≡ answer = cc in ap is_no_room (sym is)
not_no_room (Bypass (NoRoom words)) answer e = absurd (let clash : ⊥ = cc in clash)
not_no_room (Bypass (Raced saw)) answer e = let is : Bypass (Raced saw) ≡ answer = cc in ap is_no_room (sym is)
not_no_room (Bypass (Busy word)) answer e = let is : Bypass (Busy word) ≡ answer = cc in ap is_no_room (sym is)
not_no_room (Bypass (SetFull states)) answer e = let is : Bypass (SetFull states) ≡ answer = cc in ap is_no_room (sym is)
not_no_room (Bypass PolicyOut) answer e = let is : Bypass PolicyOut ≡ answer = cc in ap is_no_room (sym is)

-- ---- the whole

full_by : (g : Geometry) (first : ℕ) (ways headers : List WordStep) (placed : Placed)
    → ((states : List ℕ) → placed ≡ Bypass (SetFull states) → ⊥)
    → (is_no_room placed ≡ true → AllTried 0 (headers_of g) headers) → FullBy g first ways headers (why_of placed)
full_by g first ways headers (Filled pin) not all = tt
full_by g first ways headers (Bypass (NoRoom words)) not all = all refl
full_by g first ways headers (Bypass (Raced saw)) not all = tt
full_by g first ways headers (Bypass (Busy word)) not all = tt
full_by g first ways headers (Bypass (SetFull states)) not all = absurd (not states refl)
full_by g first ways headers (Bypass PolicyOut) not all = tt

none_of : EvictsNone []
none_of header found gone = gone

-- a way was seen free, and no way was searched
pub ranked_free : (files : Option Files) (g : Geometry) (id first : ℕ) (p now : Ranking) (old new : View)
    (placed : Placed) → ((states : List ℕ) → placed ≡ Bypass (SetFull states) → ⊥)
    → SearchesIf files g id (is_no_room placed) p now old new → Ranks files g id first p now old new (why_of placed)
ranked_free files g id first p now old new placed not s = (
  s.front ++ s.ss,
  s.made,
  record {
    front = s.front;
    ways = [];
    mid = [];
    headers = s.ss;
    end = [];
    parts = ap (λ l. s.front ++ l) (sym (append-nil s.ss));
    none_at_first = s.none_at_first;
    none_between = none_of;
    none_at_last = none_of;
    between = p;
    by_way = inl (refl, refl);
    by_header = s.search;
    full = full_by g first [] s.ss placed not s.all;
  },
)

-- one was freed by a search
pub ranked_freed : (files : Option Files) (g : Geometry) (id first : ℕ) (full : Bool) (p q now : Ranking)
    (old mid new : View) (placed : Placed) → ((states : List ℕ) → placed ≡ Bypass (SetFull states) → ⊥)
    → Searches files g id first 8 full p q old mid → SearchesIf files g id (is_no_room placed) q now mid new
    → Ranks files g id first p now old new (why_of placed)
ranked_freed files g id first full p q now old mid new placed not w s = (
  w.ss ++ (s.front ++ s.ss),
  all_then files g id w.ss (s.front ++ s.ss) old mid new w.made s.made,
  record {
    front = [];
    ways = w.ss;
    mid = s.front;
    headers = s.ss;
    end = [];
    parts = ap (λ l. w.ss ++ (s.front ++ l)) (sym (append-nil s.ss));
    none_at_first = none_of;
    none_between = s.none_at_first;
    none_at_last = none_of;
    between = q;
    by_way = inr w.search;
    by_header = s.search;
    full = full_by g first w.ss s.ss placed not s.all;
  },
)

-- none could be freed
pub ranked_full : (files : Option Files) (g : Geometry) (id first : ℕ) (full : Bool) (p now : Ranking)
    (old new : View) (states : List ℕ) → full ≡ true → Searches files g id first 8 full p now old new
    → Ranks files g id first p now old new (Some (SetFull states))
ranked_full files g id first full p now old new states is w = (
  w.ss,
  w.made,
  record {
    front = [];
    ways = w.ss;
    mid = [];
    headers = [];
    end = [];
    parts = sym (append-nil w.ss);
    none_at_first = none_of;
    none_between = none_of;
    none_at_last = none_of;
    between = now;
    by_way = inr w.search;
    by_header = inl (refl, refl);
    full = w.all is;
  },
)

-- steps before and behind that evict none
pub ranked_within : (g : Geometry) (first : ℕ) (p now : Ranking) (why : Option Why) (xs ss ys : List WordStep)
    → EvictsNone xs → EvictsNone ys → IsRanked g first p ss now why → IsRanked g first p (xs ++ (ss ++ ys)) now why
ranked_within g first p now why xs ss ys before behind r =
    let a : ss ++ ys ≡ r.front ++ (r.ways ++ (r.mid ++ (r.headers ++ (r.end ++ ys)))) =
    ap (λ l. l ++ ys) r.parts
    ∙ (append_assoc r.front (r.ways ++ (r.mid ++ (r.headers ++ r.end))) ys
    ∙ ap (λ l. r.front ++ l) (append_assoc r.ways (r.mid ++ (r.headers ++ r.end)) ys
    ∙ ap (λ l. r.ways ++ l) (append_assoc r.mid (r.headers ++ r.end) ys ∙ ap (λ l. r.mid ++ l) (append_assoc r.headers r.end ys)))) in
    record {
      front = xs ++ r.front;
      ways = r.ways;
      mid = r.mid;
      headers = r.headers;
      end = r.end ++ ys;
      parts = ap (λ l. xs ++ l) a ∙ sym (append_assoc xs r.front (r.ways ++ (r.mid ++ (r.headers ++ (r.end ++ ys)))));
      none_at_first = evicts_both xs r.front before r.none_at_first;
      none_between = r.none_between;
      none_at_last = evicts_both r.end ys r.none_at_last behind;
      between = r.between;
      by_way = r.by_way;
      by_header = r.by_header;
      full = r.full;
    }

-- nothing was searched
pub ranked_none : (g : Geometry) (first : ℕ) (p now : Ranking) (why : Option Why) (ss : List WordStep) → now ≡ p
    → EvictsNone ss → FullBy g first [] [] why → IsRanked g first p ss now why
ranked_none g first p now why ss same none full =
    record {
      front = ss;
      ways = [];
      mid = [];
      headers = [];
      end = [];
      parts = sym (append-nil ss);
      none_at_first = none;
      none_between = none_of;
      none_at_last = none_of;
      between = p;
      by_way = inl (refl, refl);
      by_header = inl (refl, same);
      full = full;
    }

pub ruleset searches = (
  place_tries,
  place_forgets,
  place_evicts,
  evicts_both,
  searched,
  unsearched,
  searched_behind,
  not_no_room,
  ranked_free,
  ranked_freed,
  ranked_full,
  ranked_within,
  ranked_none,
)
