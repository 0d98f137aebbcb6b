-- A history with its waiting, call by call.
use Rattle.std.proofs.Common.{◌≡◌, ◌≢◌, ℕ, zero, suc, ◌+◌, ◌<◌, ◌⊎◌, inl, inr, ⊎_elim, Bool, true, false, not, nat_eq, List, [], ◌∷◌, ◌++◌, length, take, drop, get_or, Some, slice_get, slice_set, refl, sym, ap, ◌∙◌, subst, arith}
use Rattle.std.proofs.lemmas.Option.{slice_get_within}
use Rattle.fragment_plan.specs.declared.fragment.Fragment.{Fragment}
use Rattle.board_history.specs.declared.attempt.Attempt.{Attempt}
use Rattle.board_history.specs.declared.place.Place.{Place}
use Rattle.board_history.specs.declared.event.BoardEvent.TheVariants as event
use Rattle.board_history.specs.declared.status.FragmentStatus.{FragmentStatus}
use Rattle.board_history.specs.declared.status.FragmentStatus.TheVariants.{Absent, Waiting, Running, Finished, GaveUp}
use Rattle.board_history.specs.Order.{is_before, before_by, place_of, is_finishable}
use Rattle.board_history.specs.Legal.{waiting, IsFirstWaiting, IsLastWaiting}
use Rattle.board_history.specs.Laws.{NoneBeforeItself, BeforeGoesOn, OneIsBefore}
use Rattle.board_history.specs.Histories.{HistoryOf, IsSound, after_event, after_both}
use Rattle.board_schedule.specs.Queue.{In, Ordered, placed_among, IsQueue, IsQueueTo}
use Rattle.board_schedule.specs.Schedule.{IsSchedule, Presses}
use Rattle.std.proofs.lemmas.Bool.Decides.{nat_tests}
use Rattle.board_history.specs.Legal.{waits}
use Rattle.board_schedule.proofs.Queues.{placed-cases, placed-new, placed-old, length-placed, ordered-placed, place_stays, queue_offered, queue_left, queue_kept, queue_first, queue_last, less-ordered}

pub split_last : (xs : List Place) (m : ℕ) (x : Place) → m + 1 ≡ length xs → x ≡ get_or xs m x → xs ≡ take m xs ++ x ∷ []
split_last [] m x e r = absurd (omega (arith, e))
split_last (y ∷ []) zero x e r = ap (λ (z : Place). z ∷ []) (sym r)
split_last (y ∷ z ∷ xs) zero x e r = absurd (omega (arith, e))
split_last (y ∷ xs) (suc m) x e r = ap (λ l. y ∷ l) (split_last xs m x (omega (arith, e)) r)

pub split_first : (xs : List Place) (x : Place) → 0 < length xs → x ≡ get_or xs 0 x → xs ≡ x ∷ drop 1 xs
split_first [] x h r = absurd (omega (arith, h))
split_first (y ∷ xs) x h r = ap (λ (z : Place). z ∷ xs) (sym r)

-- as seen by a queue whose list is split
pub queue_split : (plan : List Fragment) (ss : List FragmentStatus) (ps qs : List Place) → IsQueue plan ss ps → ps ≡ qs → IsQueue plan ss qs
queue_split plan ss ps qs queue e = subst (IsQueue plan ss) e queue

module _ (itself : NoneBeforeItself) (far : BeforeGoesOn) (other : OneIsBefore) where
  pub schedule_offered : (h new : HistoryOf) (ps items : List Place) (capacity capacity-2 f : ℕ) (place : Place) → IsSchedule h ps capacity
      → slice_get h.state.statuses f ≡ Some Absent → new ≡ after_event h (event.Offered f) → place ≡ place_of h.plan h.state.statuses f
      → items ≡ placed_among place ps → capacity-2 ≡ capacity → IsSchedule new items capacity-2
  schedule_offered h new ps items capacity capacity-2 f place is absent new-is place-is items-is same =
      subst (λ (k : HistoryOf). IsSchedule k items capacity-2) (sym new-is)
      (record {
        queue = subst (IsQueue h.plan (slice_set h.state.statuses f Waiting)) (sym (items-is ∙ ap (λ (p : Place). placed_among p ps) place-is))
            (queue_offered itself far other h.plan h.state.statuses ps f is.queue absent);
        fits_all = omega (arith, is.fits_all, same);
        some_room = is.some_room;
      })

  pub schedule_replaced : (h new : HistoryOf) (ps front items : List Place) (capacity capacity-2 f : ℕ) (x place : Place) → IsSchedule h ps capacity
      → ps ≡ front ++ x ∷ [] → slice_get h.state.statuses f ≡ Some Absent → new ≡ after_both h (event.Evicted x.fragment) (event.Offered f)
      → place ≡ place_of h.plan h.state.statuses f → items ≡ placed_among place front → capacity-2 ≡ capacity → IsSchedule new items capacity-2
  schedule_replaced h new ps front items capacity capacity-2 f x place is split absent new-is place-is items-is same =
      let queue = queue_split h.plan h.state.statuses ps (front ++ x ∷ []) is.queue split in
      let last = queue_last h.plan h.state.statuses front x queue in
      let left = queue_left itself h.plan h.state.statuses front [] x Absent queue (λ e. cc) refl refl in
      let left-there : IsQueue h.plan (slice_set h.state.statuses x.fragment Absent) front = subst (IsQueue h.plan (slice_set h.state.statuses x.fragment Absent)) (no_more front) left in
      let apart : f ≢ x.fragment = λ e. (let both : Some Absent ≡ Some Waiting = sym absent ∙ (ap (slice_get h.state.statuses) e ∙ last.waits_there) in cc) in
      let still : slice_get (slice_set h.state.statuses x.fragment Absent) f ≡ Some Absent = set_other h.state.statuses x.fragment f Absent apart ∙ absent in
      let place-there = place-is ∙ sym (place_stays h.plan h.state.statuses x.fragment Waiting Absent last.waits_there refl f) in
      subst (λ (k : HistoryOf). IsSchedule k items capacity-2) (sym new-is)
      (record {
        queue = subst (IsQueue h.plan (slice_set (slice_set h.state.statuses x.fragment Absent) f Waiting))
            (sym (items-is ∙ ap (λ (p : Place). placed_among p front) place-there))
            (queue_offered itself far other h.plan (slice_set h.state.statuses x.fragment Absent) front f left-there still);
        fits_all = omega (arith, is.fits_all, same);
        some_room = is.some_room;
      }) where
        no_more : (front : List Place) → front ++ [] ≡ front
        no_more [] = refl
        no_more (y ∷ front) = ap (λ l. y ∷ l) (no_more front)

        set_other : (xs : List FragmentStatus) (i k : ℕ) (v : FragmentStatus) → k ≢ i → slice_get (slice_set xs i v) k ≡ slice_get xs k
        set_other [] i k v apart = refl
        set_other (x ∷ xs) zero zero v apart = absurd (apart refl)
        set_other (x ∷ xs) zero (suc k) v apart = refl
        set_other (x ∷ xs) (suc i) zero v apart = refl
        set_other (x ∷ xs) (suc i) (suc k) v apart = set_other xs i k v (λ h. apart (ap suc h))

  pub schedule_started : (h new : HistoryOf) (ps items : List Place) (capacity capacity-2 : ℕ) (x : Place) (a : Attempt) → IsSchedule h ps capacity
      → ps ≡ x ∷ items → a.fragment ≡ x.fragment → new ≡ after_event h (event.Started a) → capacity-2 ≡ capacity → IsSchedule new items capacity-2
  schedule_started h new ps items capacity capacity-2 x a is split fragment new-is same =
      let queue = queue_split h.plan h.state.statuses ps (x ∷ items) is.queue split in
      subst (λ (k : HistoryOf). IsSchedule k items capacity-2) (sym new-is)
      (record {
        queue = subst (λ n. IsQueue h.plan (slice_set h.state.statuses n (Running a)) items) (sym fragment)
            (queue_left itself h.plan h.state.statuses [] items x (Running a) queue (λ e. cc) refl refl);
        fits_all = omega (arith, is.fits_all, same);
        some_room = is.some_room;
      })

  pub schedule_preempted : (h new : HistoryOf) (ps : List Place) (capacity : ℕ) (v : Attempt) (f : ℕ) → IsSchedule h ps capacity
      → slice_get h.state.statuses v.fragment ≡ Some (Running v) → new ≡ after_event h (event.Preempted v f) → IsSchedule new ps capacity
  schedule_preempted h new ps capacity v f is runs new-is =
      subst (λ (k : HistoryOf). IsSchedule k ps capacity) (sym new-is)
      (record {
        queue = queue_kept itself h.plan h.state.statuses ps v.fragment (Running v) Absent is.queue runs (λ e. cc) (λ e. cc) refl refl refl;
        fits_all = is.fits_all;
        some_room = is.some_room;
      })

-- the first of the places, seen from the waiting
pub first_there : (h : HistoryOf) (ps rest : List Place) (capacity : ℕ) (x : Place) → IsSchedule h ps capacity → ps ≡ x ∷ rest
    → IsFirstWaiting h.plan h.state.statuses x.fragment × (x ≡ place_of h.plan h.state.statuses x.fragment)
first_there h ps rest capacity x is split =
    let queue = queue_split h.plan h.state.statuses ps (x ∷ rest) is.queue split in
    (queue_first h.plan h.state.statuses x rest queue, (queue.each x (inl refl)).0)

-- the last of the places, seen from the waiting
pub last_there : (h : HistoryOf) (ps front : List Place) (capacity : ℕ) (x : Place) → IsSchedule h ps capacity → ps ≡ front ++ x ∷ []
    → IsLastWaiting h.plan h.state.statuses x.fragment × (x ≡ place_of h.plan h.state.statuses x.fragment)
last_there h ps front capacity x is split =
    let queue = queue_split h.plan h.state.statuses ps (front ++ x ∷ []) is.queue split in
    (queue_last h.plan h.state.statuses front x queue, (queue.each x (there front x)).0) where
      there : (front : List Place) (x : Place) → In x (front ++ x ∷ [])
      there [] x = inl refl
      there (y ∷ front) x = inr (there front x)

-- the test of two places tells which fragment precedes
pub precedes_by : (h : HistoryOf) (f : ℕ) (x place : Place) (t : Bool) → place ≡ place_of h.plan h.state.statuses f
    → x ≡ place_of h.plan h.state.statuses x.fragment → is_before place x ≡ t
    → is_before (place_of h.plan h.state.statuses f) (place_of h.plan h.state.statuses x.fragment) ≡ t
precedes_by h f x place t place-is x-is e =
    ap (λ (p : Place). is_before p (place_of h.plan h.state.statuses x.fragment)) (sym place-is) ∙ (ap (is_before place) (sym x-is) ∙ e)

pub within_plan : (h : HistoryOf) (f : ℕ) (status : FragmentStatus) → IsSound (length h.plan) h.executors h.room h.state
    → slice_get h.state.statuses f ≡ Some status → f < length h.plan
within_plan h f status sound e = subst (λ n. f < n) sound.statuses (slice_get_within h.state.statuses f status e)

pub some_there : (n l : ℕ) (t : Bool) → t ≡ nat_eq n 0 → t ≡ false → n ≡ l → 0 < l
some_there n l t e f same = let z : nat_eq n 0 ≡ false = sym e ∙ f in grind (arith, nat_tests)

-- the waiting among the first fragments
drop_waits : (ss : List FragmentStatus) (n : ℕ) (s : FragmentStatus) → slice_get ss n ≡ Some s → waiting (drop n ss) ≡ waits s + waiting (drop (suc n) ss)
drop_waits [] n s e = cc
drop_waits (x ∷ ss) zero s e = let same : x ≡ s = cc in ap (λ y. waits y + waiting ss) same
drop_waits (x ∷ ss) (suc n) s e = drop_waits ss n s e

drop_all : (ss : List FragmentStatus) → waiting (drop (length ss) ss) ≡ 0
drop_all [] = refl
drop_all (x ∷ ss) = drop_all ss

waits_other : (s : FragmentStatus) → s ≢ Waiting → waits s ≡ 0
waits_other Absent other = refl
waits_other Waiting other = absurd (other refl)
waits_other (Running a) other = refl
waits_other Finished other = refl
waits_other GaveUp other = refl

module _ (plan : List Fragment) (ss : List FragmentStatus) where
  pub queue_start : IsQueueTo plan ss 0 []
  queue_start = record { ordered = tt; each = λ p i. absurd i; all = λ f h e. absurd (omega (arith, h)); few = omega arith; count = omega arith }

  pub queue_whole : (n : ℕ) (ps : List Place) → IsQueueTo plan ss n ps → n ≡ length ss → IsQueue plan ss ps
  queue_whole n ps to same = record {
    ordered = to.ordered;
    each = λ p i. ((to.each p i).0, (to.each p i).1);
    all = λ f e. to.all f (let h = slice_get_within ss f Waiting e in omega (arith, h, same)) e;
    count = (let none : waiting (drop n ss) ≡ 0 = ap (λ k. waiting (drop k ss)) same ∙ drop_all ss in omega (arith, none, to.count));
  }

  pub queue_skipped : (n m : ℕ) (ps : List Place) (s : FragmentStatus) → IsQueueTo plan ss n ps → slice_get ss n ≡ Some s → s ≢ Waiting → m ≡ suc n
      → IsQueueTo plan ss m ps
  queue_skipped n m ps s to is other next = record {
    ordered = to.ordered;
    each = λ p i. ((to.each p i).0, (to.each p i).1, (let h = (to.each p i).2 in omega (arith, h, next)));
    all = λ f h e.
        (let either : (f < n) ⊎ (f ≡ n) = grind (arith, h, next) in
        ⊎_elim (λ lower. to.all f lower e)
        (λ same. absurd (other (let both : Some s ≡ Some Waiting = sym is ∙ (ap (slice_get ss) (sym same) ∙ e) in cc))) either);
    few = omega (arith, to.few, next);
    count = (let d = drop_waits ss n s is in let k = waits_other s other in let same : waiting (drop m ss) ≡ waiting (drop (suc n) ss) = ap (λ j. waiting (drop j ss)) next in
        omega (arith, d, k, same, to.count));
  }

  module _ (itself : NoneBeforeItself) (far : BeforeGoesOn) (other : OneIsBefore) where
    pub queue_added : (n m : ℕ) (ps items : List Place) (place : Place) → IsQueueTo plan ss n ps → slice_get ss n ≡ Some Waiting
        → place ≡ place_of plan ss n → items ≡ placed_among place ps → m ≡ suc n → IsQueueTo plan ss m items
    queue_added n m ps items place to is place-is items-is next =
        let new = place_of plan ss n in
        let apart : (q : Place) → In q ps → q.fragment ≢ n = λ q i e. (let low = (to.each q i).2 in absurd (omega (arith, low, e))) in
        subst (IsQueueTo plan ss m) (sym (items-is ∙ ap (λ (p : Place). placed_among p ps) place-is))
        (record {
          ordered = ordered-placed itself far other new ps to.ordered apart;
          each = λ q i.
              ⊎_elim
              (λ e. subst (λ (p : Place). (p ≡ place_of plan ss p.fragment) × (slice_get ss p.fragment ≡ Some Waiting) × (p.fragment < m)) e
              (refl, is, omega (arith, next)))
              (λ old. ((to.each q old).0, (to.each q old).1, (let low = (to.each q old).2 in omega (arith, low, next))))
              (placed-cases new q ps i);
          all = λ f h e.
              (let either : (f < n) ⊎ (f ≡ n) = grind (arith, h, next) in
              ⊎_elim (λ lower. placed-old new (place_of plan ss f) ps (to.all f lower e))
              (λ same. subst (λ k. In (place_of plan ss k) (placed_among new ps)) (sym same) (placed-new new ps)) either);
          few = omega (arith, length-placed new ps, to.few, next);
          count = (let d = drop_waits ss n Waiting is in let same : waiting (drop m ss) ≡ waiting (drop (suc n) ss) = ap (λ j. waiting (drop j ss)) next in
              omega (arith, d, same, length-placed new ps, to.count));
        })

-- where the first of the waiting can't finish, none of them can
pub none_finishes : (h : HistoryOf) (x : Place) (f : ℕ) (a : Attempt) → IsFirstWaiting h.plan h.state.statuses x.fragment
    → x ≡ place_of h.plan h.state.statuses x.fragment → x.blocked ≡ true → Presses h f a → ⊥
none_finishes h x f a first x-is blocked presses =
    let stuck : not (is_finishable h.plan h.state.statuses x.fragment) ≡ true = sym (ap (λ (p : Place). p.blocked) x-is) ∙ blocked in
    ⊎_elim
    (λ same. let able : is_finishable h.plan h.state.statuses x.fragment ≡ true = ap (is_finishable h.plan h.state.statuses) (sym same) ∙ presses.finishable in
    let both : false ≡ true = sym (ap not able) ∙ stuck in cc)
    (λ apart. behind (place_of h.plan h.state.statuses x.fragment) (place_of h.plan h.state.statuses f) stuck (ap not presses.finishable)
    (first.first f presses.waits_there apart))
    (same_or f x.fragment) where
      behind-by : (a b : Bool) (p q : Place) → a ≡ true → b ≡ false → before_by a b p q ≡ true → ⊥
      behind-by false b p q d e f = cc
      behind-by true true p q d e f = cc
      behind-by true false p q d e f = cc

      behind : (p q : Place) → p.blocked ≡ true → q.blocked ≡ false → is_before p q ≡ true → ⊥
      behind p q d e f = behind-by p.blocked q.blocked p q d e f

      same_or : (m n : ℕ) → (m ≡ n) ⊎ (m ≢ n)
      same_or zero zero = inl refl
      same_or zero (suc n) = inr (λ h. absurd (omega arith))
      same_or (suc m) zero = inr (λ h. absurd (omega arith))
      same_or (suc m) (suc n) = ⊎_elim (λ e. inl (ap suc e)) (λ a. inr (λ h. a (omega arith))) (same_or m n)

pub ordered_front : (ps front : List Place) (x : Place) → Ordered ps → ps ≡ front ++ x ∷ [] → Ordered front
ordered_front ps front x o split = subst Ordered (no_more front) (less-ordered front [] x (subst Ordered split o)) where
  no_more : (front : List Place) → front ++ [] ≡ front
  no_more [] = refl
  no_more (y ∷ front) = ap (λ l. y ∷ l) (no_more front)
