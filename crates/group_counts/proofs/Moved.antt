-- Counts that are added in another order, and those of a small table.
use Rattle.std.proofs.Common.{◌≡◌, ℕ, zero, suc, ◌+◌, ◌-◌, ◌^◌, ◌<◌, min, Bool, true, false, List, [], ◌∷◌, ◌++◌, length, get_or, set, take, true≢false, append_assoc, append-nil, refl, sym, ◌∙◌, ap, subst, arith}
use Rattle.std.specs.declared.cmp.Ordering.{Ordering}
use Rattle.std.specs.declared.cmp.Ordering.TheVariants.{Less, Equal, Greater}
use Rattle.std.specs.Ordering.{match_ordering, is_eq, ordering_reverse, nat_cmp, int_cmp}
use Rattle.std.specs.Cmp.{IsTotalOrder, alike_right, tied_itself}
use Rattle.std.proofs.lemmas.Cmp.{nat_cmp_total, int_cmp_total, nat_list_cmp_total, on_total, then_total}
use Rattle.std.proofs.lemmas.Map.Lookups.{CmpEqualImpliesEq, exact_signed, exact_bytes}
use Rattle.std.proofs.lemmas.List.{take_more}
use Rattle.orc_values.specs.declared.value.Value.{Value}
use Rattle.orc_values.specs.declared.value.Value.TheVariants as value
use Rattle.orc_values.specs.Shown.{shown}
use Rattle.group_counts.specs.declared.seen.Slot.{Slot}
use Rattle.group_counts.specs.Order.{value_cmp, rank, number_in, bytes_in}
use Rattle.group_counts.specs.Tally.{plus, added, added_all}
use Rattle.group_counts.specs.Entries.{Entries}
use Rattle.group_counts.specs.Slots.{counted, slot_entries}
use Rattle.group_counts.proofs.Adding.{added_all-append}
use Rattle.group_counts.proofs.Joined.{int_order}

plus-plus : (a b c : ℕ) → plus (plus a b) c ≡ plus a (plus b c)
plus-plus a b c = omega arith

plus-swap : (a b : ℕ) → plus a b ≡ plus b a
plus-swap a b = omega arith

module _ {K : Type 0} (cmp : K → K → Ordering) where
  step : (es : List (K × ℕ)) (e : K × ℕ) (k : K) (n : ℕ) (r : Ordering) → cmp k e.0 ≡ r
      → added cmp (e ∷ es) k n ≡ match_ordering r ((k, n) ∷ e ∷ es) ((e.0, plus e.1 n) ∷ es) (e ∷ added cmp es k n)
  step es e k n r is = ap (λ (r : Ordering). match_ordering r ((k, n) ∷ e ∷ es) ((e.0, plus e.1 n) ∷ es) (e ∷ added cmp es k n)) is

  module _ (o : IsTotalOrder cmp) where
    -- a key that is added twice
    pub added-twice : (es : List (K × ℕ)) (k : K) (n m : ℕ) → added cmp (added cmp es k n) k m ≡ added cmp es k (plus n m)
    added-twice [] k n m = let none : List (K × ℕ) = [] in step none (k, n) k m Equal (tied_itself o k)
    added-twice (e ∷ es) k n m = by (cmp k e.0) refl (added-twice es k n m)
      where
        by : (r : Ordering) → cmp k e.0 ≡ r → added cmp (added cmp es k n) k m ≡ added cmp es k (plus n m)
            → added cmp (match_ordering r ((k, n) ∷ e ∷ es) ((e.0, plus e.1 n) ∷ es) (e ∷ added cmp es k n)) k m
            ≡ match_ordering r ((k, plus n m) ∷ e ∷ es) ((e.0, plus e.1 (plus n m)) ∷ es) (e ∷ added cmp es k (plus n m))
        by Less is h = step (e ∷ es) (k, n) k m Equal (tied_itself o k)
        by Equal is h = step es (e.0, plus e.1 n) k m Equal is ∙ ap (λ (c : ℕ). (e.0, c) ∷ es) (plus-plus e.1 n m)
        by Greater is h = step (added cmp es k n) e k m Greater is ∙ ap (λ (l : List (K × ℕ)). e ∷ l) h

    greater : (a b : K) → cmp a b ≡ Less → cmp b a ≡ Greater
    greater a b less = o.antisymm b a ∙ ap ordering_reverse less

    less_of : (a b : K) → cmp a b ≡ Greater → cmp b a ≡ Less
    less_of a b is = o.antisymm b a ∙ ap ordering_reverse is

    -- two keys, of which the first is below the second
    swap-less : (es : List (K × ℕ)) (a b : K) (n m : ℕ) → cmp a b ≡ Less → added cmp (added cmp es a n) b m ≡ added cmp (added cmp es b m) a n
    swap-less [] a b n m less =
        let none : List (K × ℕ) = [] in
        step none (a, n) b m Greater (greater a b less) ∙ sym (step none (b, m) a n Less less)
    swap-less (e ∷ es) a b n m less = by (cmp a e.0) refl (swap-less es a b n m less)
      where
        front : (s : Ordering) → cmp a e.0 ≡ Less
            → (a, n) ∷ match_ordering s ((b, m) ∷ e ∷ es) ((e.0, plus e.1 m) ∷ es) (e ∷ added cmp es b m)
            ≡ added cmp (match_ordering s ((b, m) ∷ e ∷ es) ((e.0, plus e.1 m) ∷ es) (e ∷ added cmp es b m)) a n
        front Less is = sym (step (e ∷ es) (b, m) a n Less less)
        front Equal is = sym (step es (e.0, plus e.1 m) a n Less is)
        front Greater is = sym (step (added cmp es b m) e a n Less is)

        by : (r : Ordering) → cmp a e.0 ≡ r → added cmp (added cmp es a n) b m ≡ added cmp (added cmp es b m) a n
            → added cmp (match_ordering r ((a, n) ∷ e ∷ es) ((e.0, plus e.1 n) ∷ es) (e ∷ added cmp es a n)) b m
            ≡ added cmp (added cmp (e ∷ es) b m) a n
        by Less is h = step (e ∷ es) (a, n) b m Greater (greater a b less) ∙ front (cmp b e.0) is
        by Equal is h =
            let above : cmp b e.0 ≡ Greater = sym (alike_right o a e.0 b is) ∙ greater a b less in
            step es (e.0, plus e.1 n) b m Greater above
            ∙ sym (ap (λ (l : List (K × ℕ)). added cmp l a n) (step es e b m Greater above) ∙ step (added cmp es b m) e a n Equal is)
        by Greater is h =
            let above : cmp b e.0 ≡ Greater = greater e.0 b (o.trans e.0 a b (less_of a e.0 is) less) in
            step (added cmp es a n) e b m Greater above ∙ ap (λ (l : List (K × ℕ)). e ∷ l) h
            ∙ sym (ap (λ (l : List (K × ℕ)). added cmp l a n) (step es e b m Greater above) ∙ step (added cmp es b m) e a n Greater is)

    module _ (exact : CmpEqualImpliesEq cmp) where
      swap-same : (es : List (K × ℕ)) (a b : K) (n m : ℕ) → a ≡ b → added cmp (added cmp es a n) b m ≡ added cmp (added cmp es b m) a n
      swap-same es a b n m same =
          ap (λ (k : K). added cmp (added cmp es a n) k m) (sym same) ∙ added-twice es a n m
          ∙ ap (added cmp es a) (plus-swap n m)
          ∙ sym (added-twice es a m n) ∙ ap (λ (k : K). added cmp (added cmp es k m) a n) same

      -- keys are added in any order
      pub added-swap : (es : List (K × ℕ)) (a b : K) (n m : ℕ) → added cmp (added cmp es a n) b m ≡ added cmp (added cmp es b m) a n
      added-swap es a b n m = by (cmp a b) refl
        where
          by : (r : Ordering) → cmp a b ≡ r → added cmp (added cmp es a n) b m ≡ added cmp (added cmp es b m) a n
          by Less is = swap-less es a b n m is
          by Equal is = swap-same es a b n m (exact a b is)
          by Greater is = sym (swap-less es b a m n (less_of a b is))

      -- a key is added before a list or behind it
      pub added-later : (es list : List (K × ℕ)) (k : K) (n : ℕ) → added_all cmp (added cmp es k n) list ≡ added cmp (added_all cmp es list) k n
      added-later es [] k n = refl
      added-later es (f ∷ list) k n =
          ap (λ (l : List (K × ℕ)). added_all cmp l list) (added-swap es k f.0 n f.1) ∙ added-later (added cmp es f.0 f.1) list k n

value_total : IsTotalOrder value_cmp
value_total = then_total (on_total rank nat_cmp_total) (then_total (on_total number_in int_cmp_total) (on_total bytes_in nat_list_cmp_total))

unlike : (v w : Value) → is_eq (value_cmp v w) ≡ false → value_cmp v w ≡ Equal → v ≡ w
unlike v w h e = absurd (true≢false (sym (ap is_eq e) ∙ h))

value_exact : (v w : Value) → value_cmp v w ≡ Equal → v ≡ w
value_exact value.Null value.Null e = refl
value_exact value.Null (value.Bool false) e = unlike value.Null (value.Bool false) refl e
value_exact value.Null (value.Bool true) e = unlike value.Null (value.Bool true) refl e
value_exact value.Null (value.Int b) e = unlike value.Null (value.Int b) refl e
value_exact value.Null (value.Text b) e = unlike value.Null (value.Text b) refl e
value_exact (value.Bool false) value.Null e = unlike (value.Bool false) value.Null refl e
value_exact (value.Bool false) (value.Bool false) e = refl
value_exact (value.Bool false) (value.Bool true) e = unlike (value.Bool false) (value.Bool true) refl e
value_exact (value.Bool false) (value.Int b) e = unlike (value.Bool false) (value.Int b) refl e
value_exact (value.Bool false) (value.Text b) e = unlike (value.Bool false) (value.Text b) refl e
value_exact (value.Bool true) value.Null e = unlike (value.Bool true) value.Null refl e
value_exact (value.Bool true) (value.Bool false) e = unlike (value.Bool true) (value.Bool false) refl e
value_exact (value.Bool true) (value.Bool true) e = refl
value_exact (value.Bool true) (value.Int b) e = unlike (value.Bool true) (value.Int b) refl e
value_exact (value.Bool true) (value.Text b) e = unlike (value.Bool true) (value.Text b) refl e
value_exact (value.Int a) value.Null e = unlike (value.Int a) value.Null refl e
value_exact (value.Int a) (value.Bool false) e = unlike (value.Int a) (value.Bool false) refl e
value_exact (value.Int a) (value.Bool true) e = unlike (value.Int a) (value.Bool true) refl e
value_exact (value.Int a) (value.Int b) e = ap value.Int (exact_signed a b (sym (int_order a b) ∙ e))
value_exact (value.Int a) (value.Text b) e = unlike (value.Int a) (value.Text b) refl e
value_exact (value.Text a) value.Null e = unlike (value.Text a) value.Null refl e
value_exact (value.Text a) (value.Bool false) e = unlike (value.Text a) (value.Bool false) refl e
value_exact (value.Text a) (value.Bool true) e = unlike (value.Text a) (value.Bool true) refl e
value_exact (value.Text a) (value.Int b) e = unlike (value.Text a) (value.Int b) refl e
value_exact (value.Text a) (value.Text b) e = ap value.Text (exact_bytes a b e)

-- a value is added before a list or behind it
pub value-later : (es list : Entries) (v : Value) (n : ℕ) → added_all value_cmp (added value_cmp es v n) list ≡ added value_cmp (added_all value_cmp es list) v n
value-later es list v n = added-later value_cmp value_total value_exact es list v n

-- one slot counts its value once more, and so does the table
abbrev pub More : Entries → Entries → Value → Type 0
More before after v = (es : Entries) → added_all value_cmp es after ≡ added value_cmp (added_all value_cmp es before) v 1

slots-at : (slots : List Slot) (i : ℕ) (d t : Slot) (v : Value) → i < length slots
    → More (counted (shown (get_or slots i d).key) (get_or slots i d).count) (counted (shown t.key) t.count) v
    → More (slot_entries slots) (slot_entries (set slots i t)) v
slots-at [] i d t v lt more es = absurd (omega arith)
slots-at (s ∷ slots) zero d t v lt more es =
    let here = counted (shown s.key) s.count in
    let there = counted (shown t.key) t.count in
    let back = slot_entries slots in
    added_all-append value_cmp es there back ∙ ap (λ (l : Entries). added_all value_cmp l back) (more es)
    ∙ value-later (added_all value_cmp es here) back v 1
    ∙ ap (λ (l : Entries). added value_cmp l v 1) (sym (added_all-append value_cmp es here back))
slots-at (s ∷ slots) (suc i) d t v lt more es =
    let here = counted (shown s.key) s.count in
    added_all-append value_cmp es here (slot_entries (set slots i t))
    ∙ slots-at slots i d t v (omega arith) more (added_all value_cmp es here)
    ∙ ap (λ (l : Entries). added value_cmp l v 1) (sym (added_all-append value_cmp es here (slot_entries slots)))

pub slots-more : (slots : List Slot) (i : ℕ) (s t : Slot) (v : Value) → i < length slots → s ≡ get_or slots i s
    → More (counted (shown s.key) s.count) (counted (shown t.key) t.count) v
    → More (slot_entries slots) (slot_entries (set slots i t)) v
slots-more slots i s t v lt is more =
    slots-at slots i s t v lt (subst (λ (x : Slot). More (counted (shown x.key) x.count) (counted (shown t.key) t.count) v) is more)

-- a slot that is free
pub free-more : (was v : Value) (n : ℕ) → n ≡ 0 → More (counted was n) (counted v 1) v
free-more was v n is es = rw is refl

counted-some : (v : Value) (n : ℕ) → 0 < n → counted v n ≡ (v, n) ∷ []
counted-some v zero some = absurd (omega arith)
counted-some v (suc n) some = refl

-- a slot that has the value
pub same-more : (was v : Value) (n : ℕ) → 0 < n → was ≡ v → More (counted was n) (counted was (plus n 1)) v
same-more was v n some same es =
    let more : 0 < plus n 1 = omega arith in
    ap (added_all value_cmp es) (counted-some was (plus n 1) more)
    ∙ sym (added-twice value_cmp value_total es was n 1)
    ∙ ap (λ (l : Entries). added value_cmp (added_all value_cmp es l) was 1) (sym (counted-some was n some))
    ∙ ap (λ (k : Value). added value_cmp (added_all value_cmp es (counted was n)) k 1) same

slots-append : (front back : List Slot) → slot_entries (front ++ back) ≡ slot_entries front ++ slot_entries back
slots-append [] back = refl
slots-append (s ∷ front) back =
    ap (λ (l : Entries). counted (shown s.key) s.count ++ l) (slots-append front back)
    ∙ sym (append_assoc (counted (shown s.key) s.count) (slot_entries front) (slot_entries back))

-- one slot more of a table
pub slots-next : (start now new : Entries) (slots : List Slot) (i : ℕ) (d : Slot) → i < length slots
    → now ≡ added_all value_cmp start (slot_entries (take i slots))
    → new ≡ added_all value_cmp now (counted (shown (get_or slots i d).key) (get_or slots i d).count)
    → new ≡ added_all value_cmp start (slot_entries (take (i + 1) slots))
slots-next start now new slots i d lt was is =
    let next = counted (shown (get_or slots i d).key) (get_or slots i d).count in
    is ∙ ap (λ (l : Entries). added_all value_cmp l next) was
    ∙ sym (ap (λ (l : List Slot). added_all value_cmp start (slot_entries l)) (take_more slots i d lt)
    ∙ ap (added_all value_cmp start) (slots-append (take i slots) (get_or slots i d ∷ []) ∙ ap (λ (l : Entries). slot_entries (take i slots) ++ l) (append-nil next))
    ∙ added_all-append value_cmp start (slot_entries (take i slots)) next)
