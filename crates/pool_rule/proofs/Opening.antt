-- The rule holds of a new pool: no buffer, no grant, one seat.
use Rattle.std.proofs.Common.{◌≡◌, ℕ, zero, suc, ◌+◌, ◌-◌, ◌*◌, ◌/◌, ◌%◌, ◌<◌, ◌≤◌, Bool, true, false, cond, List, [], ◌∷◌, ◌++◌, length, get_or, replicate, refl, sym, ap, ◌∙◌, subst, inl, inr, arith, eqb, ltb, eq-eqb, ne_eqb, zero-add}
use Rattle.std.specs.Prelude.{Option, None, IfSome}
use Rattle.std.specs.List.{count_by}
use Rattle.std.specs.Int.{bit_at}
use Rattle.std.proofs.lemmas.Bool.{cases_eq, cases_lt, lt-ltb, le-ltb}
use Rattle.std.proofs.lemmas.List.{get_or_past, get_or_append_left, get_or-append_right, length-append, length-replicate, get_or-replicate}
use Rattle.std.proofs.lemmas.List.Sums.{sum_by-append}
use Rattle.std.proofs.lemmas.Nat.Bits.{bit_at-zero}
use Rattle.pool_model.specs.declared.buffer.Buffer.{Buffer}
use Rattle.pool_model.specs.Content.{Files}
use Rattle.pool_model.specs.Pool.{buffer_at, buffer_covers, grant_covers, owners, total}
use Rattle.pool_rule.specs.declared.geometry.Geometry.{Geometry}
use Rattle.pool_rule.specs.declared.geometry.Setup.{Setup}
use Rattle.pool_rule.specs.declared.view.Mark.{Mark}
use Rattle.pool_rule.specs.Headers.{HasContent, MarkFits, hold_count, state_of}
use Rattle.pool_rule.specs.Layout.{headers_of, places_of, block_cells, header_word, word_count}
use Rattle.pool_rule.specs.Rule.{Kept, IsSeat, StandsForBuffer, view_at, has_number, first_pool, first_words, first_view, released_words, own_grant, cells_in, count_of}
use Rattle.pool_rule.specs.Seats.{mark_at, granted_at, spent, clear_mark, numbers_from}
use Rattle.pool_rule.proofs.Seated.{fresh_has_nothing}

-- ---- the words

length-released : (n : ℕ) → length (released_words n) ≡ 4 * n
length-released zero = refl
length-released (suc n) = let e = length-released n in omega (arith, e)

released_at : (n k : ℕ) → k < n → get_or (released_words n) (4 * k) 0 ≡ 8
released_at zero k h = absurd (omega arith)
released_at (suc n) zero h = refl
released_at (suc n) (suc k) h =
    let e : 4 * suc k ≡ suc (suc (suc (suc (4 * k)))) = omega arith in
    ap (λ j. get_or (released_words (suc n)) j 0) e ∙ released_at n k (omega arith)

pub length-first : (g : Geometry) → length (first_words g) ≡ word_count g
length-first g =
    let a = length-replicate {A = ℕ} g.arenas 0 in
    let b = length-released (headers_of g) in
    let cells : ℕ = places_of g * block_cells g in
    let c = length-replicate {A = ℕ} (1 + cells) 0 in
    let inner = length-append (released_words (headers_of g)) (replicate (1 + cells) 0) in
    let outer = length-append (replicate g.arenas 0) (released_words (headers_of g) ++ replicate (1 + cells) 0) in
    omega (arith, a, b, c, inner, outer)

arena_at : (g : Geometry) (i : ℕ) → i < g.arenas → get_or (first_words g) i 0 ≡ 0
arena_at g i h =
    let rest : List ℕ = released_words (headers_of g) ++ replicate (1 + places_of g * block_cells g) 0 in
    let inside : i < length (replicate g.arenas 0) = omega (arith, length-replicate {A = ℕ} g.arenas 0, h) in
    get_or_append_left (replicate g.arenas 0) rest 0 i inside ∙ get_or-replicate g.arenas i 0 0 h

state_at : (g : Geometry) (header : ℕ) → header < headers_of g → get_or (first_words g) (header_word g header) 0 ≡ 8
state_at g header h =
    let cells : List ℕ = replicate (1 + places_of g * block_cells g) 0 in
    let states = released_words (headers_of g) in
    let after = get_or-append_right (replicate g.arenas 0) (states ++ cells) g.arenas (header_word g header) 0 (length-replicate {A = ℕ} g.arenas 0) (omega arith) in
    let at : header_word g header - g.arenas ≡ 4 * header = omega arith in
    let inside : 4 * header < length states = omega (arith, length-released (headers_of g), h) in
    after ∙ (ap (λ j. get_or (states ++ cells) j 0) at ∙ (get_or_append_left states cells 0 (4 * header) inside ∙ released_at (headers_of g) header h))

-- ---- the pool

none_at : {A : Type 0} (n k : ℕ) → get_or (replicate {A = Option A} n None) k None ≡ None
none_at {A = A} n k =
    elim (cases_lt k n) [
      | inl within ↦ get_or-replicate n k None None within
      | inr past ↦ get_or_past (replicate n None) k None (omega (arith, length-replicate {A = Option A} n None, past))
    ]

total-none : {A : Type 0} (f : ℕ → Option A → ℕ) (i n : ℕ) → ((k : ℕ) → f k None ≡ 0) → total f i (replicate n None) ≡ 0
total-none f i zero h = refl
total-none f i (suc n) h = omega (arith, h i, total-none f (i + 1) n h)

nobody : (g : Geometry) (m : ℕ) → owners (first_pool g) m ≡ 0
unfolding owners
nobody g m = omega (arith, total-none (buffer_covers m) 0 (headers_of g) (λ k. refl), total-none (grant_covers m) 0 (places_of g) (λ k. refl))

no_buffer : (seat : ℕ) → MarkFits seat None clear_mark
no_buffer seat = ((λ h. h), (λ h. h))

-- ---- the numbers

pub length-numbers : (first count : ℕ) → length (numbers_from first count) ≡ count
length-numbers first zero = refl
length-numbers first (suc count) = let e = length-numbers (first + 1) count in omega (arith, e)

-- one number more in front
number_more : (first count n : ℕ) (b : Bool) → eqb first n ≡ b → count_by (λ k. eqb k n) (numbers_from first (suc count)) ≡ cond b 1 0 + count_by (λ k. eqb k n) (numbers_from (first + 1) count)
number_more first count n b e =
    let rest : ℕ = count_by (λ k. eqb k n) (numbers_from (first + 1) count) in
    sum_by-append (λ x. cond (eqb x n) 1 0) (first ∷ []) (numbers_from (first + 1) count) ∙ (ap (λ k. k + rest) (zero-add (cond (eqb first n) 1 0)) ∙ ap (λ (c : Bool). cond c 1 0 + rest) e)

number_below : (first count n : ℕ) → n < first → count_by (λ k. eqb k n) (numbers_from first count) ≡ 0
number_below first zero n h = refl
number_below first (suc count) n h =
    let apart : eqb first n ≡ false = ne_eqb first n (λ e. omega (arith, e, h)) in
    let rest = number_below (first + 1) count n (omega (arith, h)) in
    omega (arith, number_more first count n false apart, rest)

number_past : (first count n : ℕ) → first + count ≤ n → count_by (λ k. eqb k n) (numbers_from first count) ≡ 0
number_past first zero n h = refl
number_past first (suc count) n h =
    let apart : eqb first n ≡ false = ne_eqb first n (λ e. omega (arith, e, h)) in
    let rest = number_past (first + 1) count n (omega (arith, h)) in
    omega (arith, number_more first count n false apart, rest)

number_within : (first count n : ℕ) → first ≤ n → n < first + count → count_by (λ k. eqb k n) (numbers_from first count) ≡ 1
number_within first zero n h k = absurd (omega (arith, h, k))
number_within first (suc count) n h k =
    elim (cases_eq first n) [
      | inl same ↦
          let here : eqb first n ≡ true = eq-eqb first n same in
          let rest = number_below (first + 1) count n (omega (arith, same)) in
          omega (arith, number_more first count n true here, rest)
      | inr other ↦
          let apart : eqb first n ≡ false = ne_eqb first n other in
          let rest = number_within (first + 1) count n (omega (arith, h, other)) (omega (arith, k)) in
          omega (arith, number_more first count n false apart, rest)
    ]

number_once : (seats n : ℕ) → count_by (λ k. eqb k n) (numbers_from 0 seats) ≡ cond (ltb n seats) 1 0
number_once seats n =
    elim (cases_lt n seats) [
      | inl within ↦ rw (lt-ltb n seats within) (number_within 0 seats n (omega arith) (omega (arith, within)))
      | inr past ↦ rw (le-ltb n seats past) (number_past 0 seats n (omega (arith, past)))
    ]

-- ---- the rule

module _ (files : Option Files) (setup : Setup) (seats : 0 < setup.seats) where
  abbrev g : Geometry
  g = setup.geometry

  first_seat : IsSeat g setup.seats (first_words g) [] 0 (first_view setup)
  first_seat =
      let count = length-numbers 0 setup.seats in
      record {
        nothing = λ none. absurd (omega (arith, count, none, seats));
        geometry = λ _. refl;
        marks = λ _. length-replicate (headers_of g) clear_mark;
        granted = λ _. length-replicate (places_of g) None;
        steps = λ _. refl;
        knows_all = count;
        knows = refl;
      }

  other_seat : (n : ℕ) → IsSeat g setup.seats (first_words g) [] n spent
  other_seat n =
      record {
        nothing = λ none. refl;
        geometry = λ t. absurd (omega (arith, t));
        marks = λ t. absurd (omega (arith, t));
        granted = λ t. absurd (omega (arith, t));
        steps = λ t. absurd (omega (arith, t));
        knows_all = tt;
        knows = tt;
      }

  each_seat : (n : ℕ) → IsSeat g setup.seats (first_words g) [] n (view_at (first_view setup ∷ []) n)
  each_seat zero = first_seat
  each_seat (suc n) = other_seat (suc n)

  clear_at : (n header : ℕ) → mark_at (view_at (first_view setup ∷ []) n) header ≡ clear_mark
  clear_at zero header = (fresh_has_nothing g (numbers_from 0 setup.seats)).marks header
  clear_at (suc n) header = refl

  none_granted : (n place : ℕ) → granted_at (view_at (first_view setup ∷ []) n) place ≡ None
  none_granted zero place = (fresh_has_nothing g (numbers_from 0 setup.seats)).granted place
  none_granted (suc n) place = refl

  first_header : (header : ℕ) → header < headers_of g → StandsForBuffer g (first_words g) (first_view setup ∷ []) (first_pool g) header
  first_header header inside =
      let none : buffer_at (first_pool g) header ≡ None = none_at (headers_of g) header in
      let count : count_of header (first_view setup ∷ []) ≡ 0 = let e : hold_count (mark_at (first_view setup) header).hold ≡ 0 = ap (λ (m : Mark). hold_count m.hold) (clear_at 0 header) in omega (arith, e) in
      let P : Option Buffer → Type 0 = λ b. IfSome b (λ _. Unit {0}) in
      record {
        state_is = state_at g header inside ∙ (let F : ℕ × Option Buffer → ℕ = λ z. state_of z.0 z.1 in λ i. F (sym count i, sym none i));
        content = let Q : Option Buffer → Type 0 = λ b. IfSome b (λ (x : Buffer). HasContent g (get_or (first_words g) (header_word g header + 1) 0) (cells_in g (first_words g)) x) in subst Q (sym none) tt;
        each_seat = λ seat. let R : Option Buffer × Mark → Type 0 = λ z. MarkFits seat z.0 z.1 in subst R (λ i. (sym none i, sym (clear_at seat header) i)) (no_buffer seat);
      }

  pub opens : Kept files setup (first_words g) (first_view setup ∷ [])
  opens =
      let numbers_count = length-numbers 0 setup.seats in (
        [],
        (
          first_pool g,
          record {
            story = record {
              steps = tt;
              leads = refl;
              headers = length-replicate (headers_of g) None;
              places = length-replicate (places_of g) None;
              others = λ seat past. refl;
            };
            all_words = length-first g;
            numbers = record {
              once = λ n. let e = number_once setup.seats n in e0 (has_number n (first_view setup)) ∙ e;
              all = e0 (length (numbers_from 0 setup.seats)) ∙ numbers_count;
            };
            seats = each_seat;
            headers = first_header;
            grants = λ seat place. none_granted seat place ∙ sym (ap (own_grant seat) (none_at (places_of g) place));
            bits = λ m inside.
                let i : m / 64 < g.arenas = omega (arith, inside) in
                ap (λ w. bit_at w (m % 64)) (arena_at g (m / 64) i) ∙ (bit_at-zero (m % 64) ∙ sym (nobody g m));
          },
        ),
      )
    where
      e0 : (n : ℕ) → n + 0 ≡ n
      e0 n = omega arith
