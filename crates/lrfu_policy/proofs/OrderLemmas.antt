-- The least of two sets of headers' ranks.
use Rattle.std.proofs.Common.{◌≡◌, ◌≢◌, ℕ, ◌+◌, ◌<◌, arith, ◌⊎◌, inl, inr, Bool, true, false, cond, List, slice_index_or, Option, Some, None, refl, sym, ap, ◌∙◌, subst}
use Rattle.std.proofs.Common.{Ordering, Less, Equal, Greater}
use Rattle.std.specs.Ordering.{is_gt, is_lt, is_eq, nat_cmp, ordering_then, ordering_reverse, MatchOrdering}
use Rattle.std.specs.Cmp.{IsTotalOrder}
use Rattle.std.specs.Option.{is_some}
use Rattle.std.proofs.lemmas.Bool.{false≢true, cases_Bool, cases_eq}
use Rattle.std.proofs.lemmas.Cmp.{nat_cmp_total, on_total, then_total, upto, tied_itself, ranked}
use Rattle.lrfu_policy.specs.declared.entry.Entry.{Entry}
use Rattle.lrfu_policy.specs.declared.rank.Rank.{Rank}
use Rattle.lrfu_policy.specs.Rank.{weight, rank_cmp, rank_with, rank_at, is_above, lesser_of, kept_above}
use Rattle.lrfu_policy.specs.Victim.{IsLeastRank, IsLeast, Among}

pub ranks_total : IsTotalOrder rank_cmp
ranks_total = then_total (on_total weight nat_cmp_total) (then_total (on_total (λ (r : Rank). r.last) nat_cmp_total) (on_total (λ (r : Rank). r.header) nat_cmp_total))

turned : (o : Ordering) → is_gt o ≡ true → is_gt (ordering_reverse o) ≡ false
turned Less h = absurd (false≢true h)
turned Equal h = absurd (false≢true h)
turned Greater h = refl

-- of two ranks, one isn't above the other
back : (a b : Rank) → is_gt (rank_cmp a b) ≡ true → is_gt (rank_cmp b a) ≡ false
back a b h = ap is_gt (ranks_total.antisymm b a) ∙ turned (rank_cmp a b) h

pub itself : (a : Rank) → is_gt (rank_cmp a a) ≡ false
itself a = ap is_gt (tied_itself ranks_total a)

-- what is R is P or Q
module _ (P Q R : ℕ → Type 0) (entries : List (Option Entry)) (after : Option Rank)
    (split : (h : ℕ) → R h → P h ⊎ Q h) (left : (h : ℕ) → P h → R h) (right : (h : ℕ) → Q h → R h) where
  picked : (a b : Rank) (t : Bool) → is_gt (rank_cmp a b) ≡ t → IsLeastRank P entries after a → IsLeastRank Q entries after b →
      IsLeast R entries after (cond t (Some b) (Some a))
  picked a b true t p q = record {
    among = right b.header q.among;
    entry = q.entry;
    above = q.above;
    least = λ h r here at up.
        elim (split h here) [
          | inl l ↦ upto ranks_total b a r (back a b t) (p.least h r l at up)
          | inr m ↦ q.least h r m at up
        ];
  }
  picked a b false t p q = record {
    among = left a.header p.among;
    entry = p.entry;
    above = p.above;
    least = λ h r here at up.
        elim (split h here) [
          | inl l ↦ p.least h r l at up
          | inr m ↦ upto ranks_total a b r t (q.least h r m at up)
        ];
  }

  pub joined : (a b : Option Rank) → IsLeast P entries after a → IsLeast Q entries after b → IsLeast R entries after (lesser_of a b)
  joined None None p q = λ h r here at up.
      elim (split h here) [
        | inl l ↦ p h r l at up
        | inr m ↦ q h r m at up
      ]
  joined None (Some b) p q = record {
    among = right b.header q.among;
    entry = q.entry;
    above = q.above;
    least = λ h r here at up.
        elim (split h here) [
          | inl l ↦ absurd (p h r l at up)
          | inr m ↦ q.least h r m at up
        ];
  }
  joined (Some a) None p q = record {
    among = left a.header p.among;
    entry = p.entry;
    above = p.above;
    least = λ h r here at up.
        elim (split h here) [
          | inl l ↦ p.least h r l at up
          | inr m ↦ absurd (q h r m at up)
        ];
  }
  joined (Some a) (Some b) p q = picked a b (is_gt (rank_cmp a b)) refl p q

-- a rank's header is the one that it is read at
header_with : (h : ℕ) (e : Option Entry) (r : Rank) → rank_with h e ≡ Some r → r.header ≡ h
header_with h None r at = absurd (false≢true (ap is_some at))
header_with h (Some e) r at = sym (ap header_or at) where
  header_or : Option Rank → ℕ
  header_or None = h
  header_or (Some q) = q.header

pub header_at : (entries : List (Option Entry)) (h : ℕ) (r : Rank) → rank_at entries h ≡ Some r → r.header ≡ h
header_at entries h r at = header_with h (slice_index_or entries h None) r at

abbrev rank_or : Rank → Option Rank → Rank
rank_or d None = d
rank_or d (Some r) = r

-- ranks read at one header are one
pub one_rank : (entries : List (Option Entry)) (h k : ℕ) (r q : Rank) → h ≡ k → rank_at entries h ≡ Some r → rank_at entries k ≡ Some q → r ≡ q
one_rank entries h k r q same at here = sym (ap (rank_or r) (sym here ∙ sym (ap (rank_at entries) same) ∙ at))

-- one header's rank
single_by : (entries : List (Option Entry)) (h : ℕ) (after : Option Rank) (r : Rank) (t : Bool) → rank_at entries h ≡ Some r → is_above after r ≡ t →
    IsLeast (λ k. k ≡ h) entries after (cond t (Some r) None)
single_by entries h after r false at low = λ k q here found up. false≢true (sym low ∙ ap (is_above after) (one_rank entries h k r q (sym here) at found) ∙ up)
single_by entries h after r true at up = record {
  among = header_at entries h r at;
  entry = ap (rank_at entries) (header_at entries h r at) ∙ at;
  above = up;
  least = λ k q here found _. subst (λ (x : Rank). is_gt (rank_cmp r x) ≡ false) (one_rank entries h k r q (sym here) at found) (itself r);
}

pub single : (entries : List (Option Entry)) (h : ℕ) (after found : Option Rank) → rank_at entries h ≡ found → IsLeast (λ k. k ≡ h) entries after (kept_above after found)
single entries h after None at = λ k q here is up. false≢true (ap is_some (sym at ∙ sym (ap (rank_at entries) here) ∙ is))
single entries h after (Some r) at = single_by entries h after r (is_above after r) at refl

-- one header more
pub one_more : (entries : List (Option Entry)) (first n : ℕ) (after rest found : Option Rank) →
    IsLeast (Among first n) entries after rest → rank_at entries (first + n) ≡ found →
    IsLeast (Among first (n + 1)) entries after (lesser_of rest (kept_above after found))
one_more entries first n after rest found least at =
    joined (Among first n) (λ k. k ≡ first + n) (Among first (n + 1)) entries after
    (λ h u. elim (cases_eq h (first + n)) [
      | inl same ↦ inr same
      | inr other ↦ inl (u.0, omega (arith, u.1, other))
    ])
    (λ h u. (u.0, omega (arith, u.1))) (λ h u. (omega (arith, u), omega (arith, u)))
    rest (kept_above after found) least (single entries (first + n) after found at)

-- of no headers there is none
pub of_none : (entries : List (Option Entry)) (first : ℕ) (after : Option Rank) → IsLeast (Among first 0) entries after None
of_none entries first after = λ h q u at up. omega (arith, u.0, u.1)

-- the answer is one
last_of : (o p : Ordering) → ordering_then o p ≡ Equal → p ≡ Equal
last_of Less p e = absurd (false≢true (ap is_eq e))
last_of Equal p e = e
last_of Greater p e = absurd (false≢true (ap is_eq e))

both_ways : (o : Ordering) → is_gt o ≡ false → is_gt (ordering_reverse o) ≡ false → o ≡ Equal
both_ways Less a b = absurd (false≢true (sym b))
both_ways Equal a b = refl
both_ways Greater a b = absurd (false≢true (sym a))

same_number : (x y : ℕ) (o : Ordering) → o ≡ nat_cmp x y → o ≡ Equal → x ≡ y
same_number x y o is e = subst (λ (p : Ordering). MatchOrdering p (x < y) (x ≡ y) (y < x)) e (ranked x y o is)

pub one_least : (P : ℕ → Type 0) (entries : List (Option Entry)) (after a b : Option Rank) → IsLeast P entries after a → IsLeast P entries after b → a ≡ b
one_least P entries after None None p q = refl
one_least P entries after None (Some b) p q = absurd (p b.header b q.among q.entry q.above)
one_least P entries after (Some a) None p q = absurd (q a.header a p.among p.entry p.above)
one_least P entries after (Some a) (Some b) p q =
    let o = both_ways (rank_cmp a b) (p.least b.header b q.among q.entry q.above) (ap is_gt (sym (ranks_total.antisymm b a)) ∙ q.least a.header a p.among p.entry p.above) in
    let h = last_of (nat_cmp a.last b.last) (nat_cmp a.header b.header) (last_of (nat_cmp (weight a) (weight b)) _ o) in
    ap (λ (r : Rank). Some r) (one_rank entries a.header b.header a b (same_number a.header b.header (nat_cmp a.header b.header) refl h) p.entry q.entry)

equal_by : (o : Ordering) → is_eq o ≡ true → o ≡ Equal
equal_by Less h = absurd (false≢true h)
equal_by Equal h = refl
equal_by Greater h = absurd (false≢true h)

-- ranks that tie are of one header
pub tied_header : (a b : Rank) → is_eq (rank_cmp a b) ≡ true → a.header ≡ b.header
tied_header a b tie =
    let by_last = last_of (nat_cmp (weight a) (weight b)) _ (equal_by (rank_cmp a b) tie) in
    let by_header = last_of (nat_cmp a.last b.last) (nat_cmp a.header b.header) by_last in
    same_number a.header b.header (nat_cmp a.header b.header) refl by_header

-- a rank that is neither above another nor below it is of the same header
tied : (o : Ordering) → is_lt o ≡ false → is_gt o ≡ false → is_eq o ≡ true
tied Less low high = absurd (false≢true (sym low))
tied Equal low high = refl
tied Greater low high = absurd (false≢true (sym high))

pub none_between : (P : ℕ → Type 0) (entries : List (Option Entry)) (after : Option Rank) (r : Rank) → IsLeast P entries after (Some r) →
    (h : ℕ) (q : Rank) → P h → h ≢ r.header → rank_at entries h ≡ Some q → is_above (Some r) q ≡ false → is_above after q ≡ false
none_between P entries after r found h q here other at low =
    elim (cases_Bool (is_above after q)) [
      | inl up ↦
          let tie = tied_header r q (tied (rank_cmp r q) low (found.least h q here at up)) in
          absurd (other (sym (tie ∙ header_at entries h q at)))
      | inr under ↦ under
    ]
