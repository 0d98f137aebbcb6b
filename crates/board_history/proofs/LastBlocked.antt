-- Of the attempts that run, the last whose fragment can't finish.
use Rattle.std.proofs.Common.{◌≡◌, ◌≢◌, ℕ, zero, suc, ◌<◌, ◌⊎◌, inl, inr, ⊎_elim, Bool, true, false, if◌then◌else◌, List, [], ◌∷◌, length, Option, Some, None, slice_get, refl, sym, ap, ◌∙◌, subst, arith}
use Rattle.std.proofs.lemmas.Option.{slice_get_within}
use Rattle.fragment_plan.specs.declared.fragment.Fragment.{Fragment}
use Rattle.board_history.specs.declared.attempt.Attempt.{Attempt}
use Rattle.board_history.specs.declared.status.FragmentStatus.{FragmentStatus}
use Rattle.board_history.specs.declared.status.FragmentStatus.TheVariants.{Running}
use Rattle.board_history.specs.Order.{is_finishable, place_of, is_before}
use Rattle.board_history.specs.States.{State}
use Rattle.board_history.specs.Legal.{Precedes, AllFinishable, IsLastBlocked, IsLastBlockedOf}
use Rattle.board_history.specs.Histories.{IsSound}
use Rattle.board_history.specs.Victims.{later, later_of, last_of, Within}
use Rattle.board_history.proofs.Orders.{before_far, before_other}

pub same_or : (m n : ℕ) → (m ≡ n) ⊎ (m ≢ n)
same_or zero zero = inl refl
same_or zero (suc n) = inr (λ h. absurd (omega arith))
same_or (suc m) zero = inr (λ h. absurd (omega arith))
same_or (suc m) (suc n) = ⊎_elim (λ e. inl (ap suc e)) (λ a. inr (λ h. a (omega arith))) (same_or m n)

module _ (plan : List Fragment) (statuses : List FragmentStatus) where
  -- a fragment is another one, or comes before it
  abbrev Reaches : ℕ → ℕ → Type 0
  Reaches f g = (f ≡ g) ⊎ Precedes plan statuses f g

  reaches_by : (f g h : ℕ) → Precedes plan statuses f g → (g ≡ h) ⊎ Precedes plan statuses g h → Precedes plan statuses f h
  reaches_by f g h one (inl e) = subst (λ n. Precedes plan statuses f n) e one
  reaches_by f g h one (inr two) = before_far (place_of plan statuses f) (place_of plan statuses g) (place_of plan statuses h) one two

  reaches_far : (f g h : ℕ) → Reaches f g → Reaches g h → Reaches f h
  reaches_far f g h (inl e) two = subst (λ n. Reaches n h) (sym e) two
  reaches_far f g h (inr one) two = inr (reaches_by f g h one two)

  not_before : (f g : ℕ) → is_before (place_of plan statuses g) (place_of plan statuses f) ≡ false → Reaches f g
  not_before f g e =
      ⊎_elim (λ same. inl same)
      (λ apart. inr (before_other (place_of plan statuses g) (place_of plan statuses f) e (λ h. apart (sym h))))
      (same_or f g)

  abbrev Blocked : Attempt → Type 0
  Blocked a = is_finishable plan statuses a.fragment ≡ false

  abbrev ReachedBy : Attempt → Option Attempt → Type 0
  ReachedBy b r = (w : Attempt) × (r ≡ Some w) × Reaches b.fragment w.fragment

  later_old : (t : Bool) (b a : Attempt) → is_before (place_of plan statuses b.fragment) (place_of plan statuses a.fragment) ≡ t
      → Reaches b.fragment (if t then a else b).fragment
  later_old true b a e = inr e
  later_old false b a e = inl refl

  later_new : (t : Bool) (b a : Attempt) → is_before (place_of plan statuses b.fragment) (place_of plan statuses a.fragment) ≡ t
      → Reaches a.fragment (if t then a else b).fragment
  later_new true b a e = inl refl
  later_new false b a e = not_before a.fragment b.fragment e

  old_by : (t : Bool) (b a : Attempt) → ReachedBy b (if t then Some b else Some (later plan statuses (Some b) a))
  old_by true b a = (b, refl, inl refl)
  old_by false b a = (later plan statuses (Some b) a, refl, later_old (is_before (place_of plan statuses b.fragment) (place_of plan statuses a.fragment)) b a refl)

  step_old : (b : Attempt) (r : Option Attempt) → ReachedBy b (later_of plan statuses (Some b) r)
  step_old b None = (b, refl, inl refl)
  step_old b (Some a) = old_by (is_finishable plan statuses a.fragment) b a

  new_later : (last : Option Attempt) (a : Attempt) → ReachedBy a (Some (later plan statuses last a))
  new_later None a = (a, refl, inl refl)
  new_later (Some b) a =
      (later plan statuses (Some b) a, refl, later_new (is_before (place_of plan statuses b.fragment) (place_of plan statuses a.fragment)) b a refl)

  new_by : (t : Bool) (last : Option Attempt) (a : Attempt) → t ≡ false → ReachedBy a (if t then last else Some (later plan statuses last a))
  new_by true last a e = absurd (cc)
  new_by false last a e = new_later last a

  step_new : (last : Option Attempt) (a : Attempt) → Blocked a → ReachedBy a (later_of plan statuses last (Some a))
  step_new last a blocked = new_by (is_finishable plan statuses a.fragment) last a blocked

  abbrev From : Option Attempt → Option Attempt → Attempt → Type 0
  From last r v = (last ≡ Some v) ⊎ ((r ≡ Some v) × Blocked v)

  from_later : (last : Option Attempt) (a v : Attempt) → Blocked a → later plan statuses last a ≡ v → From last (Some a) v
  from_later None a v blocked e = inr (ap Some e, subst Blocked e blocked)
  from_later (Some b) a v blocked e = from_pick (is_before (place_of plan statuses b.fragment) (place_of plan statuses a.fragment)) b a v blocked e where
    from_pick : (t : Bool) (b a v : Attempt) → Blocked a → (if t then a else b) ≡ v → From (Some b) (Some a) v
    from_pick true b a v blocked e = inr (ap Some e, subst Blocked e blocked)
    from_pick false b a v blocked e = inl (ap Some e)

  from_by : (t : Bool) (last : Option Attempt) (a v : Attempt) → is_finishable plan statuses a.fragment ≡ t
      → (if t then last else Some (later plan statuses last a)) ≡ Some v → From last (Some a) v
  from_by true last a v is e = inl e
  from_by false last a v is e = from_later last a v is (let h : later plan statuses last a ≡ v = cc in h)

  step_from : (last r : Option Attempt) (v : Attempt) → later_of plan statuses last r ≡ Some v → From last r v
  step_from last None v e = inl e
  step_from last (Some a) v e = from_by (is_finishable plan statuses a.fragment) last a v refl e

  -- an attempt is among those that executors run, and blocked
  abbrev Among : List (Option Attempt) → Attempt → Type 0
  Among rs b = (k : ℕ) × (slice_get rs k ≡ Some (Some b)) × Blocked b

  covers_old : (rs : List (Option Attempt)) (b : Attempt) → ReachedBy b (last_of plan statuses (Some b) rs)
  covers_old [] b = (b, refl, inl refl)
  covers_old (r ∷ rs) b =
      let one = step_old b r in
      let two = covers_old rs one.0 in
      (two.0, ap (λ (o : Option Attempt). last_of plan statuses o rs) one.1 ∙ two.1, reaches_far b.fragment one.0.fragment two.0.fragment one.2 two.2)

  covers : (rs : List (Option Attempt)) (last : Option Attempt) (b : Attempt) (k : ℕ) → slice_get rs k ≡ Some (Some b) → Blocked b
      → ReachedBy b (last_of plan statuses last rs)
  covers [] last b k e blocked = cc
  covers (r ∷ rs) last b zero e blocked =
      let is : r ≡ Some b = cc in
      let one = subst (λ (o : Option Attempt). ReachedBy b (later_of plan statuses last o)) (sym is) (step_new last b blocked) in
      let two = covers_old rs one.0 in
      (two.0, ap (λ (o : Option Attempt). last_of plan statuses o rs) one.1 ∙ two.1, reaches_far b.fragment one.0.fragment two.0.fragment one.2 two.2)
  covers (r ∷ rs) last b (suc k) e blocked = covers rs (later_of plan statuses last r) b k e blocked

  comes_from : (rs : List (Option Attempt)) (last : Option Attempt) (v : Attempt) → last_of plan statuses last rs ≡ Some v → (last ≡ Some v) ⊎ Among rs v
  comes_from [] last v e = inl e
  comes_from (r ∷ rs) last v e =
      ⊎_elim
      (λ was. ⊎_elim (λ old. inl old) (λ new. inr (0, ap Some new.0, new.1)) (step_from last r v was))
      (λ later. inr (suc later.0, later.1, later.2))
      (comes_from rs (later_of plan statuses last r) v e)

-- attempts that run are of the plan's fragments
within_from : (n : ℕ) (rs : List (Option Attempt)) → ((k : ℕ) (a : Attempt) → slice_get rs k ≡ Some (Some a) → a.fragment < n) → Within n rs
within_from n [] all = tt
within_from n (None ∷ rs) all = (tt, within_from n rs (λ k a e. all (suc k) a e))
within_from n (Some a ∷ rs) all = (all 0 a refl, within_from n rs (λ k b e. all (suc k) b e))

module _ (plan : List Fragment) (executors room : ℕ) (s : State) (sound : IsSound (length plan) executors room s) where
  pub runners_within : Within (length plan) s.runners
  runners_within =
      within_from (length plan) s.runners
      (λ k a e. subst (λ n. a.fragment < n) sound.statuses (slice_get_within s.statuses a.fragment (Running a) (sound.run k a e).status))

  none_blocked : last_of plan s.statuses None s.runners ≡ None → AllFinishable plan s.statuses
  none_blocked none a runs = by_cases (is_finishable plan s.statuses a.fragment) refl where
    by_cases : (t : Bool) → is_finishable plan s.statuses a.fragment ≡ t → is_finishable plan s.statuses a.fragment ≡ true
    by_cases true e = e
    by_cases false e =
        let found = covers plan s.statuses s.runners None a a.executor (sound.runs a.fragment a runs).runner e in
        let both : None ≡ Some found.0 = sym none ∙ found.1 in absurd (cc)

  one_blocked : (v : Attempt) → last_of plan s.statuses None s.runners ≡ Some v → IsLastBlocked plan s.statuses v
  one_blocked v is =
      ⊎_elim (λ e. let no_one : None ≡ Some v = e in absurd (cc))
      (λ among. record {
        runs = (sound.run among.0 v among.1).status;
        blocked = among.2;
        last = λ b runs blocked apart.
            (let found = covers plan s.statuses s.runners None b b.executor (sound.runs b.fragment b runs).runner blocked in
            let same : found.0 ≡ v = (let both : Some v ≡ Some found.0 = sym is ∙ found.1 in cc) in
            ⊎_elim (λ e. absurd (apart (e ∙ ap (λ (a : Attempt). a.fragment) same)))
            (λ before. subst (λ (a : Attempt). Precedes plan s.statuses b.fragment a.fragment) same before)
            found.2);
      })
      (comes_from plan s.statuses s.runners None v is)

  last_by : (r : Option Attempt) → last_of plan s.statuses None s.runners ≡ r
      → IsLastBlockedOf plan s.statuses r
  last_by None e = none_blocked e
  last_by (Some v) e = one_blocked v e

  pub last_is : (r : Option Attempt) → r ≡ last_of plan s.statuses None s.runners
      → IsLastBlockedOf plan s.statuses r
  last_is r e = last_by r (sym e)
