-- Which headers are under a node, and that its winner is the least of them.
use Rattle.std.proofs.Common.{◌≡◌, ℕ, zero, suc, ◌+◌, ◌-◌, ◌*◌, ◌/◌, ◌<◌, ◌≤◌, ◌⊎◌, inl, inr, Bool, true, false, cond, List, length, slice_index_or, slice_set, take, drop, ◌++◌, Option, Some, None, refl, sym, ap, ◌∙◌, subst, arith}
use Rattle.std.specs.Prelude.{◌≢◌}
use Rattle.std.specs.Ordering.{is_gt}
use Rattle.std.specs.Option.{is_some}
use Rattle.std.proofs.lemmas.Bool.{false≢true, cases_lt, cases_eq, lt-ltb, le-ltb}
use Rattle.std.proofs.lemmas.List.{get_or-set_same, get_or-set_other, length-set, take-append-le, take_all}
use Rattle.lrfu_policy.specs.declared.entry.Entry.{Entry}
use Rattle.lrfu_policy.specs.declared.rank.Rank.{Rank}
use Rattle.lrfu_policy.specs.Rank.{rank_cmp, rank_at, is_above, lesser_of}
use Rattle.lrfu_policy.specs.Victim.{IsLeast}
use Rattle.lrfu_policy.specs.Tournament.{node_in, AreWinnersBut, IsTournament, halved, Under}
use Rattle.lrfu_policy.proofs.OrderLemmas.{joined, itself, header_at, one_rank}

-- what is under a node is under one of its children
split_at : (n node h k : ℕ) → h < n → node < n → halved (h + n) k ≡ node → Under n (2 * node) h ⊎ Under n (2 * node + 1) h
split_at n node h zero below inner e = absurd (omega (arith, below, inner, e))
split_at n node h (suc k) below inner e =
    elim (cases_eq (halved (h + n) k) (2 * node)) [
      | inl even ↦ inl (below, (k, even))
      | inr odd ↦ inr (below, (k, omega (arith, odd, e)))
    ]

pub split_under : (n node h : ℕ) → node < n → Under n node h → Under n (2 * node) h ⊎ Under n (2 * node + 1) h
split_under n node h inner u = split_at n node h u.1.0 u.0 inner u.1.1

pub from_left : (n node h : ℕ) → Under n (2 * node) h → Under n node h
from_left n node h u = (u.0, (suc u.1.0, ap (λ (x : ℕ). x / 2) u.1.1 ∙ omega arith))

pub from_right : (n node h : ℕ) → Under n (2 * node + 1) h → Under n node h
from_right n node h u = (u.0, (suc u.1.0, ap (λ (x : ℕ). x / 2) u.1.1 ∙ omega arith))

halved_less : (x k : ℕ) → halved x k ≤ x
halved_less x zero = omega arith
halved_less x (suc k) = omega (arith, halved_less x k)

-- at a leaf there is its own header alone
leaf_at : (n node h k : ℕ) → h < n → n ≤ node → halved (h + n) k ≡ node → h + n ≡ node
leaf_at n node h zero below leaf e = e
leaf_at n node h (suc k) below leaf e = absurd (omega (arith, below, leaf, e, halved_less (h + n) k))

pub leaf_under : (n node h : ℕ) → n ≤ node → Under n node h → h + n ≡ node
leaf_under n node h leaf u = leaf_at n node h u.1.0 u.0 leaf u.1.1

-- all are under the root
halved_next : (x k : ℕ) → halved (x / 2) k ≡ halved x (suc k)
halved_next x zero = refl
halved_next x (suc k) = ap (λ (y : ℕ). y / 2) (halved_next x k)

to_one : (f x : ℕ) → x ≤ f → 0 < x → (k : ℕ) × (halved x k ≡ 1)
to_one zero x most some = absurd (omega (arith, most, some))
to_one (suc f) x most some =
    elim (cases_eq x 1) [
      | inl one ↦ (zero, one)
      | inr more ↦
          let rest = to_one f (x / 2) (omega (arith, most, some)) (omega (arith, some, more)) in
          (suc rest.0, sym (halved_next x rest.0) ∙ rest.1)
    ]

pub under_root : (n h : ℕ) → h < n → Under n 1 h
under_root n h below = (below, to_one (h + n) (h + n) (omega arith) (omega (arith, below)))

module _ (entries : List (Option Entry)) (winners : List (Option Rank)) where
  inner_is : (node : ℕ) → node < length winners → node_in entries winners node ≡ slice_index_or winners node None
  inner_is node inner = ap (λ (b : Bool). cond b (slice_index_or winners node None) (rank_at entries (node - length winners))) (lt-ltb node (length winners) inner)

  leaf_is : (node : ℕ) → length winners ≤ node → node_in entries winners node ≡ rank_at entries (node - length winners)
  leaf_is node leaf = ap (λ (b : Bool). cond b (slice_index_or winners node None) (rank_at entries (node - length winners))) (le-ltb node (length winners) leaf)

  -- the node's value after a write to another
  other_node : (i j : ℕ) (v : Option Rank) → j ≢ i → node_in entries (slice_set winners i v) j ≡ node_in entries winners j
  other_node i j v other = rw (length-set winners i v) (rw (get_or-set_other winners i j v None other) refl)

  -- one winner is made right: its parent's may be wrong now
  pub mended : (node : ℕ) (v : Option Rank) → 0 < node → node < length winners → AreWinnersBut entries winners node →
      v ≡ lesser_of (node_in entries winners (2 * node)) (node_in entries winners (2 * node + 1)) → AreWinnersBut entries (slice_set winners node v) (node / 2)
  mended node v some inner tree is = λ j from to other.
      let left = other_node node (2 * j) v (λ e. other (omega (arith, e))) in
      let right = other_node node (2 * j + 1) v (λ e. other (omega (arith, e))) in
      let same = ap (λ (x : Option Rank). lesser_of x (node_in entries (slice_set winners node v) (2 * j + 1))) left
      ∙ ap (λ (x : Option Rank). lesser_of (node_in entries winners (2 * j)) x) right in
      elim (cases_eq j node) [
        | inl here ↦ ap (λ (x : ℕ). slice_index_or (slice_set winners node v) x None) here ∙ get_or-set_same winners node v None inner ∙ is
            ∙ ap (λ (x : ℕ). lesser_of (node_in entries winners (2 * x)) (node_in entries winners (2 * x + 1))) (sym here) ∙ sym same
        | inr apart ↦ get_or-set_other winners node j v None apart ∙ tree j from (omega (arith, to, length-set winners node v)) apart ∙ sym same
      ]

  -- the winner was right already: so are all
  pub unchanged : (node : ℕ) → AreWinnersBut entries winners node →
      slice_index_or winners node None ≡ lesser_of (node_in entries winners (2 * node)) (node_in entries winners (2 * node + 1)) → AreWinnersBut entries winners 0
  unchanged node tree is = λ j from to _.
      elim (cases_eq j node) [
        | inl here ↦ ap (λ (x : ℕ). slice_index_or winners x None) here ∙ is
            ∙ ap (λ (x : ℕ). lesser_of (node_in entries winners (2 * x)) (node_in entries winners (2 * x + 1))) (sym here)
        | inr apart ↦ tree j from to apart
      ]

  -- a leaf's rank is the least of those under it
  leaf_least : (node : ℕ) (n h : ℕ) (found : Option Rank) → h + n ≡ node → h < n → n ≤ node → rank_at entries h ≡ found → IsLeast (Under n node) entries None found
  leaf_least node n h None e below leaf at = λ k q u here up.
      let same : k ≡ h = omega (arith, e, leaf_under n node k leaf u) in
      none_some q (sym at ∙ sym (ap (rank_at entries) same) ∙ here) where
        none_some : (q : Rank) → None ≡ Some q → ⊥
        none_some q e = false≢true (ap is_some e)
  leaf_least node n h (Some r) e below leaf at =
      let own = header_at entries h r at in
      record {
        among = (omega (arith, own, below), (zero, omega (arith, own, e)));
        entry = ap (rank_at entries) own ∙ at;
        above = refl;
        least = λ k q u here up.
            let same : h ≡ k = omega (arith, e, leaf_under n node k leaf u) in
            subst (λ (x : Rank). is_gt (rank_cmp r x) ≡ false) (one_rank entries h k r q same at here) (itself r);
      }

  -- each node's value is the least of those under it
  winner_by : (f node n : ℕ) → length winners ≡ n → 2 * n ≤ node + f → 0 < node → node < 2 * n → AreWinnersBut entries winners 0 →
      IsLeast (Under n node) entries None (node_in entries winners node)
  winner_by zero node n same steps some within tree = absurd (omega (arith, steps, within))
  winner_by (suc f) node n same steps some within tree =
      elim (cases_lt node n) [
        | inl inner ↦
            let inside : node < length winners = omega (arith, same, inner) in
            let is = inner_is node inside ∙ tree node some inside (λ e. omega (arith, e, some)) in
            let left = winner_by f (2 * node) n same (omega (arith, steps, some)) (omega (arith, some)) (omega (arith, inner)) tree in
            let right = winner_by f (2 * node + 1) n same (omega (arith, steps, some)) (omega (arith, some)) (omega (arith, inner)) tree in
            subst (λ (x : Option Rank). IsLeast (Under n node) entries None x) (sym is)
            (joined (Under n (2 * node)) (Under n (2 * node + 1)) (Under n node) entries None (λ h. split_under n node h inner) (from_left n node) (from_right n node)
            (node_in entries winners (2 * node)) (node_in entries winners (2 * node + 1)) left right)
        | inr leaf ↦
            let is = leaf_is node (omega (arith, same, leaf)) ∙ ap (λ (x : ℕ). rank_at entries (node - x)) same in
            leaf_least node n (node - n) (node_in entries winners node) (omega (arith, leaf)) (omega (arith, within, leaf)) leaf (sym is)
      ]

  pub winner : (node n : ℕ) → length winners ≡ n → 0 < node → node < n + n → AreWinnersBut entries winners 0 →
      IsLeast (Under n node) entries None (node_in entries winners node)
  winner node n same some within tree = winner_by (2 * n) node n same (omega arith) some (omega (arith, within)) tree

-- what the least of all says of those above a rank
module _ (P : ℕ → Type 0) (entries : List (Option Entry)) (after : Option Rank) where
  pub none_above : IsLeast P entries None None → IsLeast P entries after None
  none_above none = λ h q here at up. none h q here at refl

  pub some_above : (r : Rank) → IsLeast P entries None (Some r) → is_above after r ≡ true → IsLeast P entries after (Some r)
  some_above r found up = record {
    among = found.among;
    entry = found.entry;
    above = up;
    least = λ h q here at _. found.least h q here at refl;
  }

pub leaf_above : (n node : ℕ) (entries : List (Option Entry)) (after : Option Rank) (r : Rank) → n ≤ node → IsLeast (Under n node) entries None (Some r) → is_above after r ≡ false →
    IsLeast (Under n node) entries after None
leaf_above n node entries after r leaf found low = λ h q u at up.
    let same : r.header ≡ h = omega (arith, leaf_under n node h leaf u, leaf_under n node r.header leaf found.among) in
    false≢true (sym low ∙ ap (is_above after) (one_rank entries r.header h r q same found.entry at) ∙ up)

-- the least of some headers is the least of the same told otherwise
pub same_headers : (P Q : ℕ → Type 0) (entries : List (Option Entry)) (after r : Option Rank) → ((h : ℕ) → P h → Q h) → ((h : ℕ) → Q h → P h) →
    IsLeast P entries after r → IsLeast Q entries after r
same_headers P Q entries after None there back least = λ h q here at up. least h q (back h here) at up
same_headers P Q entries after (Some r) there back found = record {
  among = there r.header found.among;
  entry = found.entry;
  above = found.above;
  least = λ h q here at up. found.least h q (back h here) at up;
}

-- a vector that was lent as a slice, and got it back as long as before
pub lent_back : {X : Type 0} (n : ℕ) (xs items : List X) → length xs ≡ n → take n (xs ++ drop (length xs) items) ≡ xs
lent_back n xs items same = take-append-le n xs (drop (length xs) items) (omega (arith, same)) ∙ take_all n xs (omega (arith, same))

pub tournament_back : (n m : ℕ) (entries olds : List (Option Entry)) (winners befores : List (Option Rank)) → length entries ≡ n → length winners ≡ m → IsTournament entries winners →
    IsTournament (take n (entries ++ drop (length entries) olds)) (take m (winners ++ drop (length winners) befores))
tournament_back n m entries olds winners befores e w tree =
    subst (λ (x : List (Option Entry)). IsTournament x (take m (winners ++ drop (length winners) befores))) (sym (lent_back n entries olds e))
    (subst (λ (x : List (Option Rank)). IsTournament entries x) (sym (lent_back m winners befores w)) tree)
