-- One seat steps on one word: what stays, and what is left to show.
use Rattle.std.proofs.Common.{◌≡◌, ◌≢◌, ◌==◌, ℕ, ◌+◌, ◌<◌, List, [], ◌++◌, length, get_or, set, refl, sym, ap, ◌∙◌, subst, inl, inr, arith}
use Rattle.std.specs.Prelude.{Option, None, Some, option_map, IfSome}
use Rattle.std.proofs.lemmas.Bool.{cases_eq, cases_lt}
use Rattle.std.proofs.lemmas.List.{get_or-set_same, get_or-set_other, get_or_past, length-set, append-nil}
use Rattle.std.proofs.lemmas.List.Elements.{filter-append}
use mathlib.Core.Option.{some}
use mathlib.Core.Path.{fun_ext}
use lib.ListN.{get_elem?}
use Rattle.pool_model.specs.declared.buffer.Buffer.{Buffer}
use Rattle.pool_model.specs.declared.pool.PlainPool.{PlainPool}
use Rattle.pool_model.specs.declared.step.Step.{Step}
use Rattle.pool_model.specs.Content.{Files}
use Rattle.pool_model.specs.Pool.{total, buffer_at, grant_at}
use Rattle.pool_rule.specs.declared.geometry.Geometry.{Geometry}
use Rattle.pool_rule.specs.declared.geometry.Setup.{Setup}
use Rattle.pool_rule.specs.declared.view.Mark.{Mark}
use Rattle.pool_rule.specs.declared.view.View.{View}
use Rattle.pool_rule.specs.Headers.{IsHeader, hold_count}
use Rattle.pool_rule.specs.Layout.{headers_of, header_word}
use Rattle.std.specs.List.{count_by}
use Rattle.pool_rule.specs.Rule.{seat_of, IsStory, IsSeat, AreShared, AreBits, StandsFor, StandsForBuffer, view_at, has_number, steps_of, own_grant, cells_in, count_of, marks_of}
use Rattle.pool_rule.specs.Seats.{mark_at, granted_at, spent}
use Rattle.pool_rule.proofs.Lists.{elem_below, elem_is, same_at, total-set, total-at, total-two}

-- the view is as the other one but for what a seat has, its known words, its trail and its steps
pub record IsAlike (v w : View) : Type 0 where
  pub numbers : w.numbers ≡ v.numbers
  pub geometry : w.geometry ≡ v.geometry
  pub marks : length w.marks ≡ length v.marks
  pub granted : length w.granted ≡ length v.granted

-- the words of the header are as they were, and so is what each seat has of it
pub header_again : (g : Geometry) (state key : ℕ) (cell : ℕ → ℕ) (count : ℕ) (marks : ℕ → Mark) (buffer : Option Buffer) (state' key' : ℕ) (cell' : ℕ → ℕ) (count' : ℕ) (marks' : ℕ → Mark) → state' ≡ state → key' ≡ key → ((j : ℕ) → cell' j ≡ cell j) → count' ≡ count → ((s : ℕ) → marks' s ≡ marks s) → IsHeader g state key cell count marks buffer → IsHeader g state' key' cell' count' marks' buffer
header_again g state key cell count marks buffer state' key' cell' count' marks' e1 e2 e3 e4 e5 h =
    let P : ℕ × ℕ × (ℕ → ℕ) × ℕ × (ℕ → Mark) → Type 0 = λ z. IsHeader g z.0 z.1 z.2 z.3 z.4 buffer in
    let c : cell' ≡ cell = fun_ext e3 in
    let m : marks' ≡ marks = fun_ext e5 in
    subst P (λ i. (sym e1 i, sym e2 i, sym c i, sym e4 i, sym m i)) h

module _ (files : Option Files) (setup : Setup) (words : List ℕ) (views : List View) (log : List Step) (pool : PlainPool) (h : StandsFor files setup words views log pool) (id : ℕ) (v : View) (at : get_elem? views id ≡ some v) (live : 0 < length v.numbers) where
  abbrev g : Geometry
  g = setup.geometry

  pub below : id < length views
  below = elem_below views id v at

  pub is_view : view_at views id ≡ v
  is_view = elem_is views id v spent at

  -- what is known of the seat that steps
  pub own : IsSeat g setup.seats words log id v
  own = let P : View → Type 0 = λ u. IsSeat g setup.seats words log id u in subst P is_view (h.seats id)

  -- another seat has fewer numbers than there are
  pub lesser : (n : ℕ) → n ≢ id → length (view_at views n).numbers < setup.seats
  lesser n apart =
      let mine : length (view_at views id).numbers ≡ length v.numbers = ap (λ (u : View). length u.numbers) is_view in
      let all = h.numbers.all in
      elim (cases_lt n (length views)) [
        | inl there ↦
            let two = total-two (λ _ (u : View). length u.numbers) views n id spent spent apart there below refl in
            omega (arith, two, mine, all, live)
        | inr past ↦
            let one = total-at (λ _ (u : View). length u.numbers) views id spent below in
            let none : length (view_at views n).numbers ≡ 0 = ap (λ (u : View). length u.numbers) (get_or_past views n spent past) in
            omega (arith, one, mine, all, live, none)
      ]

  others_know : (words' : List ℕ) (seats count : ℕ) (k : Option (List ℕ)) → count < seats → IfSome k (λ ws. count ≡ seats) → IfSome k (λ ws. words' ≡ ws)
  others_know words' seats count None less all = tt
  others_know words' seats count (Some ws) less all = absurd (omega (arith, less, all))

  knows_after : (i n : ℕ) (k : Option (List ℕ)) → IfSome k (λ ws. words ≡ ws) → IfSome (option_map (λ ws. set ws i n) k) (λ ws. set words i n ≡ ws)
  knows_after i n None e = tt
  knows_after i n (Some ws) e = ap (λ xs. set xs i n) e

  if_mapped : (i n count : ℕ) (k : Option (List ℕ)) → IfSome k (λ ws. count ≡ setup.seats) → IfSome (option_map (λ ws. set ws i n) k) (λ ws. count ≡ setup.seats)
  if_mapped i n count None e = tt
  if_mapped i n count (Some ws) e = e

  -- the seats after the step
  module _ (i n : ℕ) (w : View) (like : IsAlike v w) (knows : w.known ≡ option_map (λ ws. set ws i n) v.known) (added : List Step) (steps : w.steps ≡ v.steps ++ added) (mine : steps_of id added ≡ added) (theirs : (s : ℕ) → s ≢ id → steps_of s added ≡ []) where
    own_after : IsSeat g setup.seats (set words i n) (log ++ added) id w
    own_after =
        let count : length w.numbers ≡ length v.numbers = ap length like.numbers in
        let there : 0 < length w.numbers = omega (arith, count, live) in
        record {
          nothing = λ none. absurd (omega (arith, none, there));
          geometry = λ _. like.geometry ∙ own.geometry live;
          marks = λ _. like.marks ∙ own.marks live;
          granted = λ _. like.granted ∙ own.granted live;
          steps = λ _. filter-append (λ s. seat_of s == id) log added ∙ (ap (λ xs. steps_of id log ++ xs) mine ∙ (ap (λ xs. xs ++ added) (own.steps live) ∙ sym steps));
          knows_all = rw (knows, count) (if_mapped i n (length v.numbers) v.known own.knows_all);
          knows = rw knows (knows_after i n v.known own.knows);
        }

    other_after : (s : ℕ) → s ≢ id → IsSeat g setup.seats (set words i n) (log ++ added) s (view_at views s)
    other_after s apart =
        let old = h.seats s in
        record {
          nothing = old.nothing;
          geometry = old.geometry;
          marks = old.marks;
          granted = old.granted;
          steps = λ t. filter-append (λ z. seat_of z == s) log added ∙ (ap (λ xs. steps_of s log ++ xs) (theirs s apart) ∙ (append-nil (steps_of s log) ∙ old.steps t));
          knows_all = old.knows_all;
          knows = others_know (set words i n) setup.seats (length (view_at views s).numbers) (view_at views s).known (lesser s apart) old.knows_all;
        }

    pub seats_after : (s : ℕ) → IsSeat g setup.seats (set words i n) (log ++ added) s (view_at (set views id w) s)
    seats_after s =
        elim (cases_eq s id) [
          | inl same ↦ rw (same, get_or-set_same views id w spent below) own_after
          | inr other ↦ rw (get_or-set_other views id s w spent other) (other_after s other)
        ]

    pub numbers_after : AreShared setup.seats (set views id w)
    numbers_after =
        record {
          once = λ k.
              let change = total-set (λ _ u. has_number k u) views id w spent below in
              let old : has_number k (view_at views id) ≡ has_number k v = ap (has_number k) is_view in
              let new : has_number k w ≡ has_number k v = ap (λ xs. count_by (λ z. z == k) xs) like.numbers in
              let same : total (λ _ u. has_number k u) 0 (set views id w) ≡ total (λ _ u. has_number k u) 0 views = omega (arith, change, old, new) in
              same ∙ h.numbers.once k;
          all =
              let change = total-set (λ _ (u : View). length u.numbers) views id w spent below in
              let old : length (view_at views id).numbers ≡ length v.numbers = ap (λ (u : View). length u.numbers) is_view in
              let new : length w.numbers ≡ length v.numbers = ap length like.numbers in
              omega (arith, change, old, new, h.numbers.all);
        }

    -- the general frame: any word and any view. What is left is the story, the headers, the grants and the bits
    pub stands_after : (pool' : PlainPool) → IsStory files g (length views) (log ++ added) pool' → ((header : ℕ) → header < headers_of g → StandsForBuffer g (set words i n) (set views id w) pool' header) → ((seat place : ℕ) → granted_at (view_at (set views id w) seat) place ≡ own_grant seat (grant_at pool' place)) → AreBits g (set words i n) pool' → StandsFor files setup (set words i n) (set views id w) (log ++ added) pool'
    stands_after pool' story headers grants bits =
        record {
          story = let P : ℕ → Type 0 = λ k. IsStory files g k (log ++ added) pool' in subst P (sym (length-set views id w)) story;
          all_words = length-set words i n ∙ h.all_words;
          numbers = numbers_after;
          seats = seats_after;
          headers = headers;
          grants = grants;
          bits = bits;
        }

    -- a header whose words and cells stay, of which the seat has what it had, stands for the same buffer as before
    pub header_stays : (header : ℕ) → header < headers_of g → mark_at w header ≡ mark_at v header → get_or (set words i n) (header_word g header) 0 ≡ get_or words (header_word g header) 0 → get_or (set words i n) (header_word g header + 1) 0 ≡ get_or words (header_word g header + 1) 0 → ((j : ℕ) → cells_in g (set words i n) j ≡ cells_in g words j) → IsHeader g (get_or (set words i n) (header_word g header) 0) (get_or (set words i n) (header_word g header + 1) 0) (cells_in g (set words i n)) (count_of header (set views id w)) (marks_of header (set views id w)) (buffer_at pool header)
    header_stays header inside mark state key cells =
        let here : mark_at w header ≡ mark_at (view_at views id) header = mark ∙ sym (ap (λ u. mark_at u header) is_view) in
        let change = total-set (λ _ u. hold_count (mark_at u header).hold) views id w spent below in
        let one : hold_count (mark_at w header).hold ≡ hold_count (mark_at (view_at views id) header).hold = ap (λ (m : Mark). hold_count m.hold) here in
        header_again g _ _ (cells_in g words) (count_of header views) (marks_of header views) (buffer_at pool header) _ _ (cells_in g (set words i n)) (count_of header (set views id w)) (marks_of header (set views id w)) state key cells (omega (arith, change, one))
        (same_at (λ u. mark_at u header) views id w spent below here) (h.headers header inside)
