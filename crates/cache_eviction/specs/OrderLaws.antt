-- For those who try headers in the policy's order: which is the next, and what one try more makes of a walk.
use Rattle.std.specs.Prelude.{◌≡◌, ◌≢◌, ℕ, ◌+◌, ◌-◌, ◌<◌, Bool, true, false, List, [], ◌∷◌, ◌++◌, ◌⊎◌, length, Option, Some, None}
use Rattle.std.specs.Prelude.{slice_index_or, slice_set}
use Rattle.std.specs.Ordering.{is_gt, is_lt, ordering_reverse}
use Rattle.std.proofs.Common.{refl, sym, ◌∙◌, ap, subst, inl, inr, arith, Ordering, Less, Equal, Greater}
use Rattle.std.proofs.lemmas.Bool.{cases_Bool, cases_eq, false≢true}
use Rattle.std.proofs.lemmas.Cmp.{tied_itself}
use Rattle.std.proofs.lemmas.List.{append_assoc, append-nil, get_or-set_other, get_or-set_same}
use Rattle.lrfu_policy.specs.declared.entry.Entry.{Entry}
use Rattle.lrfu_policy.specs.declared.rank.Rank.{Rank}
use Rattle.lrfu_policy.specs.Laws.{NoneBetween, RanksAreOrdered}
use Rattle.lrfu_policy.specs.Policy.{Ranking, with_entry}
use Rattle.lrfu_policy.specs.Rank.{is_above, rank_at, rank_cmp, rank_with}
use Rattle.lrfu_policy.specs.Victim.{IsLeast}
use Rattle.lrfu_policy.specs.Victim as victim
use Rattle.pool_model.specs.declared.block.Block.{Block}
use Rattle.pool_model.specs.Content.{Files}
use Rattle.pool_rule.specs.declared.geometry.Geometry.{Geometry}
use Rattle.pool_rule.specs.declared.view.View.{View}
use Rattle.pool_rule.specs.declared.word_step.WordStep.{WordStep}
use Rattle.buffer_pool.specs.Callers.{all_then}
use Rattle.buffer_pool.specs.Made.{AreMade}
use Rattle.cache_lookup.specs.Trails.{Among}
use Rattle.cache_lookup.specs.TrailLaws.{among_back, among_either, among_front}
use Rattle.cache_eviction.specs.Evictions.{HeldSteps, OutSteps}
use Rattle.cache_eviction.specs.Evictions as try
use Rattle.cache_eviction.specs.Order.{AllTried, AreNext, IsNext, IsOneTry, IsUpTo, IsVictimWalk, IsWalk, IsWalkEnd, IsWalkOn, IsWithin}
use Rattle.cache_eviction.specs.Order.{Precedes, forgotten, forgotten_by, tried_by, tries}

-- ---- lists and then lists

pub tries-append : (xs ys : List WordStep) → tries (xs ++ ys) ≡ tries xs ++ tries ys
tries-append [] ys = refl
tries-append (x ∷ xs) ys = ap (λ l. tried_by x ++ l) (tries-append xs ys) ∙ sym (append_assoc (tried_by x) (tries xs) (tries ys))

pub forgotten-append : (xs ys : List WordStep) (p : Ranking) → forgotten (xs ++ ys) p ≡ forgotten ys (forgotten xs p)
forgotten-append [] ys p = refl
forgotten-append (x ∷ xs) ys p = forgotten-append xs ys (forgotten_by x p)

pub next_more : (first count : ℕ) (entries : List (Option Entry)) (done hs : List ℕ) (header : ℕ)
    → AreNext first count entries done hs → IsNext first count entries (done ++ hs) header
    → AreNext first count entries done (hs ++ header ∷ [])
next_more first count entries done [] header are next =
    let P : List ℕ → Type 0 = λ l. IsNext first count entries l header in (subst P (append-nil done) next, tt)
next_more first count entries done (h ∷ hs) header are next =
    let P : List ℕ → Type 0 = λ l. IsNext first count entries l header in
    (are.0, next_more first count entries (done ++ h ∷ []) hs header are.1 (subst P (sym (append_assoc done (h ∷ []) hs)) next))

-- ---- one try

held_try : (header : ℕ) (ss : List WordStep) (word : ℕ) (p : Ranking) → HeldSteps header ss word
    → (tries ss ≡ header ∷ []) × (forgotten ss p ≡ p)
held_try header ss word p (try.shown _ ne) = (refl, refl)
held_try header ss word p (try.lost seen _ idle ne) = (refl, refl)

out_try : (header : ℕ) (ss : List WordStep) (b : Block) (p : Ranking) → OutSteps header ss b
    → (tries ss ≡ header ∷ []) × (forgotten ss p ≡ with_entry header None p)
out_try header ss b p (try.out word released given idle) = (refl, refl)

pub one_held : (files : Option Files) (g : Geometry) (id header : ℕ) (p now : Ranking) (ss : List WordStep)
    (word : ℕ) (v w : View) → now ≡ p → HeldSteps header ss word → AreMade files g id ss v w
    → IsOneTry files g id header p now v w
one_held files g id header p now ss word v w same held made =
    let t = held_try header ss word p held in
    record { ss = ss; made = made; one = t.0; policy = same ∙ sym t.1; either = inl same }

pub one_out : (files : Option Files) (g : Geometry) (id header : ℕ) (p now : Ranking) (ss : List WordStep)
    (b : Block) (v w : View) → now ≡ with_entry header None p → OutSteps header ss b → AreMade files g id ss v w
    → IsOneTry files g id header p now v w
one_out files g id header p now ss b v w less went made =
    let t = out_try header ss b p went in
    record { ss = ss; made = made; one = t.0; policy = less ∙ sym t.1; either = inr less }

-- steps behind that try nothing and release nothing
pub one_then : (files : Option Files) (g : Geometry) (id header : ℕ) (p now : Ranking) (us : List WordStep)
    (v u w : View) → IsOneTry files g id header p now v u → tries us ≡ [] → ((q : Ranking) → forgotten us q ≡ q)
    → AreMade files g id us u w → IsOneTry files g id header p now v w
one_then files g id header p now us v u w t none keeps made =
    record {
      ss = t.ss ++ us;
      made = all_then files g id t.ss us v u w t.made made;
      one = tries-append t.ss us ∙ (ap (λ l. tries t.ss ++ l) none ∙ (append-nil (tries t.ss) ∙ t.one));
      policy = t.policy ∙ sym (forgotten-append t.ss us p ∙ keeps (forgotten t.ss p));
      either = t.either;
    }

-- ---- a walk

rank_other : (p : Ranking) (header other : ℕ) → other ≢ header → rank_at (with_entry header None p).entries other ≡ rank_at p.entries other
rank_other p header other apart = ap (rank_with other) (get_or-set_other p.entries header other None None apart)

rank_gone : (p : Ranking) (header : ℕ) → header < length p.entries → rank_at (with_entry header None p).entries header ≡ None
rank_gone p header within = ap (rank_with header) (get_or-set_same p.entries header None None within)

-- one try leaves the other entries, and adds none
one_kept : (p now : Ranking) (header : ℕ) → (now ≡ p) ⊎ (now ≡ with_entry header None p) → (other : ℕ)
    → other ≢ header → rank_at now.entries other ≡ rank_at p.entries other
one_kept p now header (inl same) other apart = ap (λ (x : Ranking). rank_at x.entries other) same
one_kept p now header (inr less) other apart = ap (λ (x : Ranking). rank_at x.entries other) less ∙ rank_other p header other apart

not_some : (r : Rank) → None ≢ Some r
not_some r e = let clash : ⊥ = cc in clash

one_fewer : (p now : Ranking) (header : ℕ) → header < length p.entries → (now ≡ p) ⊎ (now ≡ with_entry header None p)
    → (r : Rank) → rank_at now.entries header ≡ Some r → rank_at p.entries header ≡ Some r
one_fewer p now header within (inl same) r at = sym (ap (λ (x : Ranking). rank_at x.entries header) same) ∙ at
one_fewer p now header within (inr less) r at = absurd (not_some r
    (sym (ap (λ (x : Ranking). rank_at x.entries header) less ∙ rank_gone p header within) ∙ at))

among_one : (x y : ℕ) (xs ys : List ℕ) → ys ≡ xs ++ y ∷ [] → Among x ys → Among x xs ⊎ (y ≡ x)
among_one x y xs ys e there =
    let P : List ℕ → Type 0 = λ l. Among x l in
    elim (among_either x xs (y ∷ []) (subst P e there)) [
      | inl front ↦ inl front
      | inr rest ↦ elim rest [ inl is ↦ inr is | inr gone ↦ absurd gone ]
    ]

one_among : (x y : ℕ) (xs ys : List ℕ) → ys ≡ xs ++ y ∷ [] → Among x xs ⊎ (y ≡ x) → Among x ys
one_among x y xs ys e h =
    let P : List ℕ → Type 0 = λ l. Among x l in
    subst P (sym e) (elim h [ inl front ↦ among_front x xs (y ∷ []) front | inr is ↦ among_back x xs (y ∷ []) (inl is) ])

-- the walk, with the header tried besides
pub record IsWalkMore (files : Option Files) (g : Geometry) (id : ℕ) (first count : ℕ) (p : Ranking) (start : View)
    (marks : List Bool) (now : Ranking) (v : View) (done : List ℕ) (header : ℕ) : Type 0 where
  pub walk : IsWalk files g id first count p start marks now v
  pub more : tries walk.ss ≡ done ++ header ∷ []

module _ (files : Option Files) (g : Geometry) (id first count : ℕ) (p : Ranking) (start : View) (marks : List Bool)
    (now : Ranking) (v : View) where
  pub walk_more : (c : IsWalk files g id first count p start marks now v) (header i : ℕ) (later : Ranking) (w : View)
      → header ≡ first + i → i < length marks → header < length now.entries
      → IsNext first count p.entries (tries c.ss) header → IsOneTry files g id header now later v w
      → IsWalkMore files g id first count p start (slice_set marks i true) later w (tries c.ss) header
  walk_more c header i later w at marks_len within next t =
      let all : tries (c.ss ++ t.ss) ≡ tries c.ss ++ header ∷ [] = tries-append c.ss t.ss ∙ ap (λ l. tries c.ss ++ l) t.one in
      let P : List ℕ → Type 0 = λ l. AreNext first count p.entries [] l in
      record {
        walk = record {
          ss = c.ss ++ t.ss;
          made = all_then files g id c.ss t.ss start v w c.made t.made;
          in_order = record {
            order = subst P (sym all) (next_more first count p.entries [] (tries c.ss) header c.in_order.order next);
            policy = t.policy ∙ (ap (forgotten t.ss) c.in_order.policy ∙ sym (forgotten-append c.ss t.ss p));
          };
          marked = λ j less is.
              one_among (first + j) header (tries c.ss) (tries (c.ss ++ t.ss)) all
              (elim (cases_eq j i) [
                | inl same ↦ inr (omega (arith, at, same))
                | inr apart ↦ inl (c.marked j less (sym (get_or-set_other marks i j true false apart) ∙ is))
              ]);
          unmarked = λ j less is there.
              elim (cases_eq j i) [
                | inl same ↦
                    let Q : ℕ → Type 0 = λ n. slice_index_or (slice_set marks i true) n false ≡ false in
                    false≢true (sym (subst Q same is) ∙ get_or-set_same marks i true false marks_len)
                | inr apart ↦
                    elim (among_one (first + j) header (tries c.ss) (tries (c.ss ++ t.ss)) all there) [
                      | inl front ↦ c.unmarked j less (sym (get_or-set_other marks i j true false apart) ∙ is) front
                      | inr here ↦ apart (omega (arith, at, here))
                    ]
              ];
          kept = λ other away.
              one_kept now later header t.either other
              (λ e. away (one_among other header (tries c.ss) (tries (c.ss ++ t.ss)) all (inr (sym e))))
              ∙ c.kept other (λ front. away (one_among other header (tries c.ss) (tries (c.ss ++ t.ss)) all (inl front)));
          fewer = λ other r is.
              elim (cases_eq other header) [
                | inl same ↦
                    let Q : ℕ → Type 0 = λ n. rank_at later.entries n ≡ Some r in
                    let here = one_fewer now later header within t.either r (subst Q same is) in
                    let R : ℕ → Type 0 = λ n. rank_at now.entries n ≡ Some r in
                    c.fewer other r (subst R (sym same) here)
                | inr apart ↦ c.fewer other r (sym (one_kept now later header t.either other apart) ∙ is)
              ];
        };
        more = all;
      }

  abbrev pub walk_end : IsWalk files g id first count p start marks now v → IsWalkEnd files g id first count p start now v
  walk_end c = record { ss = c.ss; made = c.made; in_order = c.in_order }

-- a walk that ended, and steps behind that try nothing and release nothing
abbrev pub end_then : (files : Option Files) (g : Geometry) (id first count : ℕ) (p : Ranking) (start : View)
    (now : Ranking) (us : List WordStep) (v w : View) → IsWalkEnd files g id first count p start now v
    → tries us ≡ [] → ((q : Ranking) → forgotten us q ≡ q) → AreMade files g id us v w
    → IsWalkEnd files g id first count p start now w
end_then files g id first count p start now us v w c none keeps made =
    let all : tries (c.ss ++ us) ≡ tries c.ss = tries-append c.ss us ∙ (ap (λ l. tries c.ss ++ l) none ∙ append-nil (tries c.ss)) in
    let P : List ℕ → Type 0 = λ l. AreNext first count p.entries [] l in
    record {
      ss = c.ss ++ us;
      made = all_then files g id c.ss us start v w c.made made;
      in_order = record {
        order = subst P (sym all) c.in_order.order;
        policy = c.in_order.policy ∙ sym (forgotten-append c.ss us p ∙ keeps (forgotten c.ss p));
      };
    }

-- ---- victims

above_later : RanksAreOrdered → (after : Option Rank) (r q : Rank) → is_above after r ≡ true
    → is_above (Some r) q ≡ true → is_above after q ≡ true
above_later ranks None r q up more = refl
above_later ranks (Some a) r q up more = is_less (ranks.0.trans a r q (less_of (rank_cmp a r) up) (less_of (rank_cmp r q) more))
  where
    less_of : (o : Ordering) → is_lt o ≡ true → o ≡ Less
    less_of Less e = refl
    less_of Equal e = absurd (false≢true e)
    less_of Greater e = absurd (false≢true e)

    is_less : {o : Ordering} → o ≡ Less → is_lt o ≡ true
    is_less e = ap is_lt e

greater_back : RanksAreOrdered → (q r : Rank) → is_lt (rank_cmp q r) ≡ true → is_gt (rank_cmp r q) ≡ true
greater_back ranks q r less = ap is_gt (ranks.0.antisymm r q) ∙ turned (rank_cmp q r) less
  where
    turned : (o : Ordering) → is_lt o ≡ true → is_gt (ordering_reverse o) ≡ true
    turned Less e = refl
    turned Equal e = absurd (false≢true e)
    turned Greater e = absurd (false≢true e)

not_itself : RanksAreOrdered → (r : Rank) → is_above (Some r) r ≡ true → ⊥
not_itself ranks r up = false≢true (sym (ap is_lt (tied_itself ranks.0 r)) ∙ up)

same_rank : (q r : Rank) → Some q ≡ Some r → q ≡ r
same_rank q r e = let is : q ≡ r = cc in is

module _ (ranks : RanksAreOrdered) (between : NoneBetween) (files : Option Files) (g : Geometry) (id first count : ℕ)
    (p : Ranking) (start : View) (after : Option Rank) (marks : List Bool) (now : Ranking) (v : View)
    (c : IsVictimWalk files g id first count p start after marks now v) where
  -- a header that isn't done has its entry still
  still : (other : ℕ) (q : Rank) → IsWithin first count other → rank_at p.entries other ≡ Some q
      → is_above after q ≡ true → rank_at now.entries other ≡ Some q
  still other q inside is up = c.walk.kept other (c.upto.left other q inside is up) ∙ is

  precedes : (found : Option Rank) (r : Rank) (other header : ℕ) → Precedes found (Some r) other header
      → (q : Rank) × (found ≡ Some q) × (is_lt (rank_cmp q r) ≡ true)
  precedes None r other header h = absurd h
  precedes (Some q) r other header h = (q, refl, h)

  -- the next victim is the next header
  pub victim_next : (r : Rank) → IsLeast (victim.Among first count) now.entries after (Some r)
      → IsNext first count p.entries (tries c.walk.ss) r.header
  victim_next r least =
      let at = c.walk.fewer r.header r least.entry in
      record {
        within = least.among;
        fresh = c.upto.left r.header r least.among at least.above;
        earlier = λ other inside before.
            let P : Option Rank → Type 0 = λ o. Precedes (rank_at p.entries other) o other r.header in
            let q = precedes (rank_at p.entries other) r other r.header (subst P at before) in
            elim (cases_Bool (is_above after q.0)) [
              | inl up ↦
                  absurd (false≢true (sym (least.least other q.0 inside (still other q.0 inside q.1 up) up) ∙ greater_back ranks q.0 r q.2))
              | inr low ↦ c.upto.done other q.0 inside q.1 low
            ];
      }

  -- with it tried, the walk is up to it
  pub upto_more : (r : Rank) (ss : List WordStep) → IsLeast (victim.Among first count) now.entries after (Some r)
      → tries ss ≡ tries c.walk.ss ++ r.header ∷ [] → IsUpTo first count p (Some r) ss
  upto_more r ss least all =
      let at = c.walk.fewer r.header r least.entry in
      record {
        done = λ other q inside is low.
            one_among other r.header (tries c.walk.ss) (tries ss) all
            (elim (cases_eq other r.header) [
              | inl same ↦ inr (sym same)
              | inr apart ↦
                  elim (cases_Bool (is_above after q)) [
                    | inl up ↦
                        absurd (false≢true (sym
                        (between first count now.entries after r least other q inside apart
                        (still other q inside is up) low) ∙ up))
                    | inr before ↦ inl (c.upto.done other q inside is before)
                  ]
            ]);
        left = λ other q inside is up there.
            elim (among_one other r.header (tries c.walk.ss) (tries ss) all there) [
              | inl front ↦ c.upto.left other q inside is (above_later ranks after r q least.above up) front
              | inr here ↦
                  let P : ℕ → Type 0 = λ n. rank_at p.entries n ≡ Some q in
                  let e : r ≡ q = same_rank r q (sym at ∙ subst P (sym here) is) in
                  let Q : Rank → Type 0 = λ x. is_above (Some r) x ≡ true in
                  not_itself ranks r (subst Q (sym e) up)
            ];
      }

  -- where there is none, all victims were tried
  pub all_ranked : IsLeast (victim.Among first count) now.entries after None → IsWalkOn files g id first count p start marks now v
  all_ranked none =
      record {
        walk = c.walk;
        ranked = λ other q inside is.
            elim (cases_Bool (is_above after q)) [
              | inl up ↦ absurd (none other q inside (still other q inside is up) up)
              | inr low ↦ c.upto.done other q inside is low
            ];
      }

-- at the start none was tried
pub walk_begins : (files : Option Files) (g : Geometry) (id first count : ℕ) (p : Ranking) (marks : List Bool)
    (v : View) → ((i : ℕ) → slice_index_or marks i false ≡ false)
    → IsVictimWalk files g id first count p v None marks p v
walk_begins files g id first count p marks v none =
    record {
      walk = record {
        ss = [];
        made = refl;
        in_order = record { order = tt; policy = refl };
        marked = λ i less is. absurd (false≢true (sym (none i) ∙ is));
        unmarked = λ i less is gone. gone;
        kept = λ header away. refl;
        fewer = λ header r is. is;
      };
      upto = record { done = λ header r inside is low. absurd (false≢true (sym low)); left = λ header r inside is up gone. gone };
    }

-- ---- the others

module _ (files : Option Files) (g : Geometry) (id first count : ℕ) (p : Ranking) (start : View) (marks : List Bool)
    (now : Ranking) (v : View) (c : IsWalkOn files g id first count p start marks now v) where
  no_rank : (found : Option Rank) (header : ℕ) → ((r : Rank) → found ≡ Some r → ⊥) → found ≡ None
  no_rank None header unranked = refl
  no_rank (Some r) header unranked = absurd (unranked r refl)

  by_number : (found : Option Rank) (other header : ℕ) → ((r : Rank) → found ≡ Some r → ⊥)
      → Precedes found None other header → other < header
  by_number None other header unranked before = before
  by_number (Some r) other header unranked before = absurd (unranked r refl)

  -- the lowest header that isn't marked is the next
  pub other_next : (header i : ℕ) → header ≡ first + i → i < count → slice_index_or marks i false ≡ false
      → ((j : ℕ) → j < i → slice_index_or marks j false ≡ true)
      → IsNext first count p.entries (tries c.walk.ss) header
  other_next header i at less is lower =
      let fresh : Among header (tries c.walk.ss) → ⊥ =
      λ there. let Q : ℕ → Type 0 = λ n. Among n (tries c.walk.ss) in c.walk.unmarked i less is (subst Q at there) in
      let inside : IsWithin first count header = (omega (arith, at), omega (arith, at, less)) in
      let bare = no_rank (rank_at p.entries header) header (λ r has. fresh (c.ranked header r inside has)) in
      record {
        within = inside;
        fresh = fresh;
        earlier = λ other within before.
            let P : Option Rank → Type 0 = λ o. Precedes (rank_at p.entries other) o other header in
            elim (cases_done (rank_at p.entries other) other (c.ranked other) within (λ r e. e)) [
              | inl there ↦ there
              | inr unranked ↦
                  let low = by_number (rank_at p.entries other) other header unranked (subst P bare before) in
                  let a = within.0 in
                  let b = within.1 in
                  let Q : ℕ → Type 0 = λ n. Among n (tries c.walk.ss) in
                  let e : first + (other - first) ≡ other = omega (arith, a) in
                  subst Q e (c.walk.marked (other - first) (omega (arith, a, b)) (lower (other - first) (omega (arith, low, at, a))))
            ];
      }
    where
      cases_done : (found : Option Rank) (other : ℕ)
          → ((r : Rank) → IsWithin first count other → rank_at p.entries other ≡ Some r
          → Among other (tries c.walk.ss)) → IsWithin first count other
          → ((r : Rank) → found ≡ Some r → rank_at p.entries other ≡ Some r) → Among other (tries c.walk.ss)
          ⊎ ((r : Rank) → found ≡ Some r → ⊥)
      cases_done None other done within is = inr (λ r e. not_some r e)
      cases_done (Some q) other done within is = inl (done q within (is q refl))

  pub on_more : (header : ℕ) (marks' : List Bool) (later : Ranking) (w : View)
      → IsWalkMore files g id first count p start marks' later w (tries c.walk.ss) header
      → IsWalkOn files g id first count p start marks' later w
  on_more header marks' later w m =
      record {
        walk = m.walk;
        ranked = λ other r inside is. one_among other header (tries c.walk.ss) (tries
            m.walk.ss) m.more (inl (c.ranked other r inside is));
      }

  -- where each is marked, all were tried
  pub all_tried : ((i : ℕ) → i < count → slice_index_or marks i false ≡ true) → AllTried first count c.walk.ss
  all_tried are header within =
      let a = within.0 in
      let b = within.1 in
      let Q : ℕ → Type 0 = λ n. Among n (tries c.walk.ss) in
      let e : first + (header - first) ≡ header = omega (arith, a) in
      subst Q e (c.walk.marked (header - first) (omega (arith, a, b)) (are (header - first) (omega (arith, a, b))))

pub ruleset orders = (
  tries-append,
  forgotten-append,
  one_held,
  one_out,
  one_then,
  walk_more,
  walk_end,
  end_then,
  victim_next,
  upto_more,
  all_ranked,
  walk_begins,
  other_next,
  on_more,
  all_tried,
)
