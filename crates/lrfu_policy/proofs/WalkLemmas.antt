-- A walk from victim to victim ends.
use Rattle.std.proofs.Common.{◌≡◌, ℕ, zero, suc, ◌+◌, ◌<◌, ◌≤◌, inl, inr, Bool, true, false, List, length, slice_set, slice_index_or, Option, Some, None, refl, sym, ap, ◌∙◌, arith}
use Rattle.std.proofs.Common.{Ordering, Less, Equal, Greater}
use Rattle.std.specs.Ordering.{is_lt}
use Rattle.std.proofs.lemmas.Bool.{false≢true, cases_eq}
use Rattle.std.proofs.lemmas.Cmp.{tied_itself}
use Rattle.std.proofs.lemmas.List.{get_or-set_same, get_or-set_other}
use Rattle.lrfu_policy.specs.declared.entry.Entry.{Entry}
use Rattle.lrfu_policy.specs.declared.rank.Rank.{Rank}
use Rattle.lrfu_policy.specs.Rank.{rank_cmp, rank_with, rank_at, is_above}
use Rattle.lrfu_policy.specs.Victim.{IsLeast, Among, is_left, counted, above_count}
use Rattle.lrfu_policy.proofs.OrderLemmas.{ranks_total}

less_from : (o : Ordering) → is_lt o ≡ true → o ≡ Less
less_from Less h = refl
less_from Equal h = absurd (false≢true h)
less_from Greater h = absurd (false≢true h)

-- what is above a higher rank is above a lower one
above_lower : (after : Option Rank) (r q : Rank) → is_above after r ≡ true → is_above (Some r) q ≡ true → is_above after q ≡ true
above_lower None r q low high = refl
above_lower (Some a) r q low high = ap is_lt (ranks_total.trans a r q (less_from (rank_cmp a r) low) (less_from (rank_cmp r q) high))

at_most : (b c : Bool) → (b ≡ true → c ≡ true) → counted b ≤ counted c
at_most false c implies = omega arith
at_most true c implies = omega (arith, ap counted (implies refl))

kept_lower : (after : Option Rank) (r : Rank) (x : Option Rank) → is_above after r ≡ true → counted (is_left (Some r) x) ≤ counted (is_left after x)
kept_lower after r None low = omega arith
kept_lower after r (Some q) low = at_most (is_above (Some r) q) (is_above after q) (above_lower after r q low)

module _ (entries : List (Option Entry)) (after : Option Rank) (r : Rank) (low : is_above after r ≡ true) where
  no_more : (n : ℕ) → above_count entries (Some r) n ≤ above_count entries after n
  no_more zero = omega arith
  no_more (suc n) = omega (arith, no_more n, kept_lower after r (rank_at entries n) low)

  fewer : (n h : ℕ) → h < n → rank_at entries h ≡ Some r → above_count entries (Some r) n < above_count entries after n
  fewer zero h below at = absurd (omega (arith, below))
  fewer (suc n) h below at =
      elim (cases_eq h n) [
        | inl here ↦
            let own : rank_at entries n ≡ Some r = ap (rank_at entries) (sym here) ∙ at in
            let gone = ap (λ x. counted (is_left (Some r) x)) own ∙ ap (λ o. counted (is_lt o)) (tied_itself ranks_total r) in
            let was = ap (λ x. counted (is_left after x)) own ∙ ap counted low in
            omega (arith, no_more n, gone, was)
        | inr earlier ↦ omega (arith, fewer n h (omega (arith, below, earlier)) at, kept_lower after r (rank_at entries n) low)
      ]

pub walk_falls : (first count n : ℕ) (entries : List (Option Entry)) (after : Option Rank) (r : Rank) → first + count ≤ n →
    IsLeast (Among first count) entries after (Some r) → above_count entries (Some r) n < above_count entries after n
walk_falls first count n entries after r most found = fewer entries after r found.above n r.header (omega (arith, found.among.1, most)) found.entry

-- to forget an entry makes it no longer
forgotten_at : (entries : List (Option Entry)) (after : Option Rank) (h k : ℕ) → h < length entries →
    counted (is_left after (rank_at (slice_set entries h None) k)) ≤ counted (is_left after (rank_at entries k))
forgotten_at entries after h k within =
    elim (cases_eq k h) [
      | inl here ↦
          let none = ap (λ (x : ℕ). slice_index_or (slice_set entries h None) x None) here ∙ get_or-set_same entries h None None within in
          omega (arith, ap (λ (e : Option Entry). counted (is_left after (rank_with k e))) none)
      | inr other ↦ omega (arith, ap (λ (e : Option Entry). counted (is_left after (rank_with k e))) (get_or-set_other entries h k None None other))
    ]

pub forget_falls : (entries : List (Option Entry)) (after : Option Rank) (h : ℕ) → h < length entries → (n : ℕ) →
    above_count (slice_set entries h None) after n ≤ above_count entries after n
forget_falls entries after h within zero = omega arith
forget_falls entries after h within (suc n) = omega (arith, forget_falls entries after h within n, forgotten_at entries after h n within)
