-- Seats are parted and joined: their numbers are shared out anew, and words and pool stay.
use Rattle.std.proofs.Common.{◌≡◌, ◌≢◌, ℕ, ◌+◌, ◌-◌, ◌<◌, ◌≤◌, Bool, cond, List, [], ◌∷◌, ◌++◌, length, take, drop, get_or, set, replicate, refl, sym, ap, ◌∙◌, subst, inl, inr, arith, eqb}
use Rattle.std.specs.Prelude.{Option, None}
use Rattle.std.specs.List.{count_by}
use Rattle.std.proofs.lemmas.Bool.{cases_eq, cases_lt}
use Rattle.std.proofs.lemmas.List.{get_or-set_same, get_or-set_other, get_or_past, get_or_append_left, get_or_push, length_push, length-set, length-take, length-drop, length-append, length-replicate, get_or-replicate}
use Rattle.std.proofs.lemmas.List.Sums.{sum_by-append, sum_by-take-drop}
use mathlib.Core.Option.{some}
use lib.ListN.{get_elem?}
use Rattle.pool_model.specs.declared.pool.PlainPool.{PlainPool}
use Rattle.pool_model.specs.declared.step.Step.{Step}
use Rattle.pool_model.specs.Content.{Files}
use Rattle.pool_model.specs.Pool.{buffer_at, total}
use Rattle.pool_rule.specs.declared.geometry.Geometry.{Geometry}
use Rattle.pool_rule.specs.declared.geometry.Setup.{Setup}
use Rattle.pool_rule.specs.declared.view.Mark.{Mark}
use Rattle.pool_rule.specs.declared.view.View.{View}
use Rattle.pool_rule.specs.Headers.{hold_count}
use Rattle.pool_rule.specs.Layout.{headers_of, places_of}
use Rattle.pool_rule.specs.Rule.{Kept, IsSeat, AreShared, StandsFor, view_at, has_number, cells_in, count_of, marks_of}
use Rattle.pool_rule.specs.Seats.{HasNothing, mark_at, granted_at, spent, clear_mark, fresh_view, parted, part_of, joined}
use Rattle.pool_rule.proofs.Frame.{below, is_view, own, header_again}
use Rattle.pool_rule.proofs.Lists.{elem_below, elem_is, same_at, total-set, total-snoc}

-- ---- counts of numbers

count_by-append : {A : Type 0} (p : A → Bool) (xs ys : List A) → count_by p (xs ++ ys) ≡ count_by p xs + count_by p ys
count_by-append p xs ys = sum_by-append (λ x. cond (p x) 1 0) xs ys

count_by-split : {A : Type 0} (p : A → Bool) (k : ℕ) (xs : List A) → count_by p (take k xs) + count_by p (drop k xs) ≡ count_by p xs
count_by-split p k xs = sum_by-take-drop (λ x. cond (p x) 1 0) xs k

-- ---- a replicated list

get_or_same : {A : Type 0} (n k : ℕ) (a : A) → get_or (replicate n a) k a ≡ a
get_or_same n k a =
    elim (cases_lt k n) [
      | inl within ↦ get_or-replicate n k a a within
      | inr past ↦ get_or_past (replicate n a) k a (omega (arith, length-replicate n a, past))
    ]

pub fresh_has_nothing : (g : Geometry) (numbers : List ℕ) → HasNothing (fresh_view g numbers)
fresh_has_nothing g numbers =
    record {
      marks = λ header. get_or_same (headers_of g) header clear_mark;
      granted = λ place. get_or_same (places_of g) place None;
    }

-- ---- words and pool stay, and so does what each seat has

module _ (files : Option Files) (setup : Setup) (words : List ℕ) (views : List View) (log : List Step) (pool : PlainPool) (h : StandsFor files setup words views log pool) where
  stands_again : (views' : List View) → length views ≤ length views' → AreShared setup.seats views' → ((seat : ℕ) → IsSeat setup.geometry setup.seats words log seat (view_at views' seat)) → ((seat header : ℕ) → mark_at (view_at views' seat) header ≡ mark_at (view_at views seat) header) → ((header : ℕ) → count_of header views' ≡ count_of header views) → ((seat place : ℕ) → granted_at (view_at views' seat) place ≡ granted_at (view_at views seat) place) → StandsFor files setup words views' log pool
  stands_again views' more numbers seats marks counts granted =
      record {
        story = record {
          steps = h.story.steps;
          leads = h.story.leads;
          headers = h.story.headers;
          places = h.story.places;
          others = λ seat past. h.story.others seat (omega (arith, more, past));
        };
        all_words = h.all_words;
        numbers = numbers;
        seats = seats;
        headers = λ header there.
            header_again setup.geometry _ _ (cells_in setup.geometry words) (count_of header views) (marks_of header views) (buffer_at pool header) _ _ (cells_in setup.geometry words) (count_of header views') (marks_of header views') refl refl (λ j. refl) (counts header) (λ seat. marks seat header) (h.headers header there);
        grants = λ seat place. granted seat place ∙ h.grants seat place;
        bits = h.bits;
      }

  module _ (id : ℕ) (v : View) (at : get_elem? views id ≡ some v) (live : 0 < length v.numbers) where
    -- ---- a seat is parted

    module _ (count : ℕ) (some_left : count < length v.numbers) (some_given : 0 < count) where
      abbrev left : View
      left = parted count v

      abbrev right : View
      right = part_of count v

      abbrev seats_then : List View
      seats_then = set views id (parted count v) ++ part_of count v ∷ []

      here : view_at views id ≡ v
      here = is_view files setup words views log pool h id v at live

      there : id < length views
      there = below files setup words views log pool h id v at live

      mine : IsSeat setup.geometry setup.seats words log id v
      mine = own files setup words views log pool h id v at live

      -- the view of a seat then: the one that was parted, the new one, or as before
      at_old : (n : ℕ) → n < length views → view_at seats_then n ≡ view_at (set views id (parted count v)) n
      at_old n within = get_or_append_left (set views id (parted count v)) (part_of count v ∷ []) spent n (rw length-set within)

      at_new : view_at seats_then (length views) ≡ part_of count v
      at_new = get_or_push (set views id (parted count v)) (part_of count v) spent (length views) (length-set views id (parted count v))

      at_none : (n : ℕ) → length views < n → view_at seats_then n ≡ spent
      at_none n past = get_or_past seats_then n spent (omega (arith, length_push (set views id (parted count v)) (part_of count v), length-set views id (parted count v), past))

      -- what all seats have in common with before
      each_as : {B : Type 0} (F : View → B) → F (parted count v) ≡ F v → F (part_of count v) ≡ F spent → (n : ℕ) → F (view_at seats_then n) ≡ F (view_at views n)
      each_as F of_left of_right n =
          elim (cases_lt n (length views)) [
            | inl within ↦
                ap F (at_old n within) ∙ same_at F views id (parted count v) spent there (of_left ∙ sym (ap F here)) n
            | inr past ↦
                let was : view_at views n ≡ spent = get_or_past views n spent past in
                elim (cases_eq n (length views)) [
                  | inl new ↦ ap F (ap (view_at seats_then) new ∙ at_new) ∙ (of_right ∙ sym (ap F was))
                  | inr beyond ↦ ap F (at_none n (omega (arith, past, beyond))) ∙ sym (ap F was)
                ]
          ]

      total_as : (f : View → ℕ) → f (parted count v) + f (part_of count v) ≡ f v → total (λ _ u. f u) 0 seats_then ≡ total (λ _ u. f u) 0 views
      total_as f e =
          let snoc = total-snoc (λ _ u. f u) (set views id (parted count v)) (part_of count v) in
          let change = total-set (λ _ u. f u) views id (parted count v) spent there in
          let old : f (view_at views id) ≡ f v = ap f here in
          omega (arith, snoc, change, old, e)

      numbers_parted : AreShared setup.seats seats_then
      unfolding parted part_of
      numbers_parted =
          let at_count : ℕ = length v.numbers - count in
          record {
            once = λ n. total_as (has_number n) (count_by-split (λ k. eqb k n) at_count v.numbers) ∙ h.numbers.once n;
            all =
                let l = length-take at_count v.numbers in
                let r = length-drop at_count v.numbers in
                total_as (λ (u : View). length u.numbers) (omega (arith, l, r)) ∙ h.numbers.all;
          }

      seat_left : IsSeat setup.geometry setup.seats words log id (parted count v)
      unfolding parted
      seat_left =
          let l = length-take (length v.numbers - count) v.numbers in
          record {
            nothing = λ none. absurd (omega (arith, l, none, some_left, some_given));
            geometry = λ _. mine.geometry live;
            marks = λ _. mine.marks live;
            granted = λ _. mine.granted live;
            steps = λ _. mine.steps live;
            knows_all = tt;
            knows = tt;
          }

      seat_right : IsSeat setup.geometry setup.seats words log (length views) (part_of count v)
      unfolding part_of
      seat_right =
          let r = length-drop (length v.numbers - count) v.numbers in
          record {
            nothing = λ none. absurd (omega (arith, r, none, some_left, some_given));
            geometry = λ _. mine.geometry live;
            marks = λ _. length-replicate (headers_of v.geometry) clear_mark ∙ ap headers_of (mine.geometry live);
            granted = λ _. length-replicate (places_of v.geometry) None ∙ ap places_of (mine.geometry live);
            steps = λ _. h.story.others (length views) (omega arith);
            knows_all = tt;
            knows = tt;
          }

      seats_parted : (n : ℕ) → IsSeat setup.geometry setup.seats words log n (view_at seats_then n)
      seats_parted n =
          let P : ℕ → View → Type 0 = λ k u. IsSeat setup.geometry setup.seats words log k u in
          elim (cases_lt n (length views)) [
            | inl within ↦
                elim (cases_eq n id) [
                  | inl same ↦
                      let e : view_at seats_then n ≡ parted count v = at_old n within ∙ (ap (view_at (set views id (parted count v))) same ∙ get_or-set_same views id (parted count v) spent there) in
                      let Q : ℕ × View → Type 0 = λ z. P z.0 z.1 in
                      subst Q (λ i. (sym same i, sym e i)) seat_left
                  | inr other ↦
                      let e : view_at seats_then n ≡ view_at views n = at_old n within ∙ get_or-set_other views id n (parted count v) spent other in
                      subst (P n) (sym e) (h.seats n)
                ]
            | inr past ↦
                elim (cases_eq n (length views)) [
                  | inl new ↦
                      let e : view_at seats_then n ≡ part_of count v = ap (view_at seats_then) new ∙ at_new in
                      let Q : ℕ × View → Type 0 = λ z. P z.0 z.1 in
                      subst Q (λ i. (sym new i, sym e i)) seat_right
                  | inr beyond ↦
                      let e : view_at seats_then n ≡ view_at views n = at_none n (omega (arith, past, beyond)) ∙ sym (get_or_past views n spent past) in
                      subst (P n) (sym e) (h.seats n)
                ]
          ]

      pub parts : Kept files setup words (set views id (parted count v) ++ part_of count v ∷ [])
      unfolding parted part_of
      parts =
          let nothing = fresh_has_nothing v.geometry (drop (length v.numbers - count) v.numbers) in (
            log,
            (
              pool,
              stands_again seats_then (omega (arith, length_push (set views id (parted count v)) (part_of count v), length-set views id (parted count v))) numbers_parted seats_parted
                  (λ seat header. each_as (λ u. mark_at u header) refl (nothing.marks header) seat)
                  (λ header. total_as (λ u. hold_count (mark_at u header).hold) (let e : hold_count (mark_at (part_of count v) header).hold ≡ 0 = ap (λ (m : Mark). hold_count m.hold) (nothing.marks header) in omega (arith, e)))
                  (λ seat place. each_as (λ u. granted_at u place) refl (nothing.granted place) seat),
            ),
          )

    -- ---- a seat takes in another, which has nothing

    module _ (other : ℕ) (w : View) (apart : other ≢ id) (at_other : get_elem? (set views id (joined v w)) other ≡ some w) (nothing : HasNothing w) where
      abbrev seats_now : List View
      seats_now = set (set views id (joined v w)) other spent

      is_here : view_at views id ≡ v
      is_here = is_view files setup words views log pool h id v at live

      is_there : id < length views
      is_there = below files setup words views log pool h id v at live

      other_there : other < length (set views id (joined v w))
      other_there = elem_below (set views id (joined v w)) other w at_other

      is_other : view_at (set views id (joined v w)) other ≡ w
      is_other = elem_is (set views id (joined v w)) other w spent at_other

      each_still : {B : Type 0} (F : View → B) → F (joined v w) ≡ F v → F spent ≡ F w → (n : ℕ) → F (view_at seats_now n) ≡ F (view_at views n)
      each_still F of_both of_spent n =
          same_at F (set views id (joined v w)) other spent spent other_there (of_spent ∙ sym (ap F is_other)) n
          ∙ same_at F views id (joined v w) spent is_there (of_both ∙ sym (ap F is_here)) n

      total_still : (f : View → ℕ) → f (joined v w) ≡ f v + f w → f spent ≡ 0 → total (λ _ u. f u) 0 seats_now ≡ total (λ _ u. f u) 0 views
      total_still f both none =
          let first = total-set (λ _ u. f u) views id (joined v w) spent is_there in
          let second = total-set (λ _ u. f u) (set views id (joined v w)) other spent spent other_there in
          let old : f (view_at views id) ≡ f v = ap f is_here in
          let gone : f (view_at (set views id (joined v w)) other) ≡ f w = ap f is_other in
          omega (arith, first, second, old, gone, both, none)

      numbers_joined : AreShared setup.seats seats_now
      unfolding joined
      numbers_joined =
          record {
            once = λ n. total_still (has_number n) (count_by-append (λ k. eqb k n) v.numbers w.numbers) refl ∙ h.numbers.once n;
            all = total_still (λ (u : View). length u.numbers) (length-append v.numbers w.numbers) refl ∙ h.numbers.all;
          }

      seat_both : IsSeat setup.geometry setup.seats words log id (joined v w)
      unfolding joined
      seat_both =
          let mine = own files setup words views log pool h id v at live in
          let l = length-append v.numbers w.numbers in
          record {
            nothing = λ none. absurd (omega (arith, l, none, live));
            geometry = λ _. mine.geometry live;
            marks = λ _. mine.marks live;
            granted = λ _. mine.granted live;
            steps = λ _. mine.steps live;
            knows_all = tt;
            knows = tt;
          }

      seat_spent : (n : ℕ) → IsSeat setup.geometry setup.seats words log n spent
      seat_spent n =
          record {
            nothing = λ none. refl;
            geometry = λ t. absurd (omega (arith, t));
            marks = λ t. absurd (omega (arith, t));
            granted = λ t. absurd (omega (arith, t));
            steps = λ t. absurd (omega (arith, t));
            knows_all = tt;
            knows = tt;
          }

      seats_joined : (n : ℕ) → IsSeat setup.geometry setup.seats words log n (view_at seats_now n)
      seats_joined n =
          let P : View → Type 0 = λ u. IsSeat setup.geometry setup.seats words log n u in
          elim (cases_eq n other) [
            | inl gone ↦
                let e : view_at seats_now n ≡ spent = ap (view_at seats_now) gone ∙ get_or-set_same (set views id (joined v w)) other spent spent other_there in
                subst P (sym e) (seat_spent n)
            | inr stays ↦
                let e : view_at seats_now n ≡ view_at (set views id (joined v w)) n = get_or-set_other (set views id (joined v w)) other n spent spent stays in
                elim (cases_eq n id) [
                  | inl same ↦
                      let f : view_at seats_now n ≡ joined v w = e ∙ (ap (view_at (set views id (joined v w))) same ∙ get_or-set_same views id (joined v w) spent is_there) in
                      let Q : ℕ × View → Type 0 = λ z. IsSeat setup.geometry setup.seats words log z.0 z.1 in
                      subst Q (λ i. (sym same i, sym f i)) seat_both
                  | inr else ↦
                      let f : view_at seats_now n ≡ view_at views n = e ∙ get_or-set_other views id n (joined v w) spent else in
                      subst P (sym f) (h.seats n)
                ]
          ]

      pub joins : Kept files setup words (set (set views id (joined v w)) other spent)
      unfolding joined
      joins = (
        log,
        (
          pool,
          stands_again seats_now (omega (arith, length-set (set views id (joined v w)) other spent, length-set views id (joined v w))) numbers_joined seats_joined
              (λ seat header. each_still (λ u. mark_at u header) refl (sym (nothing.marks header)) seat)
              (λ header. total_still (λ u. hold_count (mark_at u header).hold) (let e : hold_count (mark_at w header).hold ≡ 0 = ap (λ (m : Mark). hold_count m.hold) (nothing.marks header) in omega (arith, e)) refl)
              (λ seat place. each_still (λ u. granted_at u place) refl (sym (nothing.granted place)) seat),
        ),
      )
