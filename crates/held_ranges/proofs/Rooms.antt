-- What slots hold after they have let go of a key, or of all.
use Rattle.std.proofs.Common.{◌≡◌, ◌≢◌, ℕ, ◌<◌, zero, suc, Bool, true, false, [], ◌∷◌, length, refl, sym, ap, ◌∙◌, subst}
use Rattle.std.specs.Prelude.{Option, Some, None, slice_set, if◌then◌else◌, ◌==◌, ◌&&◌, Result, Ok, Err, OnOk, OnErr}
use Rattle.std.proofs.lemmas.Bool.{eq-eqb}
use Rattle.std.proofs.lemmas.List.{get_or-set_same, length-map}
use Rattle.std.proofs.lemmas.Option.{none-some}
use Rattle.buffer_word.specs.declared.key_word.Key.{Key}
use Rattle.pool_rule.specs.declared.view.Hold.TheVariants.{Free}
use Rattle.buffer_pool.specs.declared.pool.Pool.{Pool}
use Rattle.buffer_pool.specs.declared.seat.PoolSeat.{PoolSeat}
use Rattle.buffer_pool.specs.Pools.{view}
use Rattle.held_ranges.specs.declared.held.Held.{Held}
use Rattle.held_ranges.specs.Deeds.{Keys, key_at, key_eq, left_of, others, room_left}
use Rattle.held_ranges.specs.Moments.{IsHolding, Slots, held_header, key_of, keys_of, slot_at}
use Rattle.held_ranges.proofs.Holding.{hold_at, key_is}

pub left_at : (of : Option Key) (keys : Keys) (slot : ℕ) → key_at (left_of of keys) slot ≡ others of (key_at keys slot)
left_at of [] slot = refl
left_at of (k ∷ ks) zero = refl
left_at of (k ∷ ks) (suc slot) = left_at of ks slot

same_key : (key : Key) → key_eq key key ≡ true
same_key key =
    ap (λ (b : Bool). b && (key.at == key.at) && (key.len == key.len)) (eq-eqb key.file key.file refl)
    ∙ ap (λ (b : Bool). true && b && (key.len == key.len)) (eq-eqb key.at key.at refl)
    ∙ ap (λ (b : Bool). true && true && b) (eq-eqb key.len key.len refl)

others_differ : (key : Key) (held : Option Key) → others (Some key) held ≢ Some key
others_differ key None e = none-some key e
others_differ key (Some k) e = go (key_eq k key) refl e where
  go : (b : Bool) → key_eq k key ≡ b → (if b then None else Some k) ≡ Some key → ⊥
  go true is f = none-some key f
  go false is f =
      let same : k ≡ key = some_key f in
      let one : key_eq key key ≡ false = ap (λ (x : Key). key_eq x key) (sym same) ∙ is in
      true_false (sym (same_key key) ∙ one)
    where
      some_key : Some k ≡ Some key → k ≡ key
      some_key g = cc

      true_false : true ≡ false → ⊥
      true_false g = cc

-- no slot holds the key
pub none_holds : (slot : ℕ) (key : Key) (keys next : Keys) → next ≡ room_left slot key keys → (other : ℕ) → key_at next other ≢ Some key
none_holds slot key keys next e other f =
    others_differ key (key_at (slice_set keys slot None) other)
    (sym (left_at (Some key) (slice_set keys slot None) other) ∙ ap (λ (ks : Keys). key_at ks other) (sym e) ∙ f)

empty_slot : (h : Option Held) → key_of h ≡ None → h ≡ None
empty_slot None e = refl
empty_slot (Some held) e = absurd (none-some held.key (sym e))

-- the slot is empty
pub slot_emptied : (slot : ℕ) (key : Key) (slots next : Slots) → slot < length slots → keys_of next ≡ room_left slot key (keys_of slots) → slot_at next slot ≡ None
slot_emptied slot key slots next below e =
    let len : slot < length (keys_of slots) = subst (λ (n : ℕ). slot < n) (sym (length-map slots key_of)) below in
    let here : key_at (slice_set (keys_of slots) slot None) slot ≡ None = get_or-set_same (keys_of slots) slot None None len in
    empty_slot (slot_at next slot)
    (sym (key_is next slot) ∙ ap (λ (ks : Keys). key_at ks slot) e ∙ left_at (Some key) (slice_set (keys_of slots) slot None) slot ∙ ap (λ (k : Option Key). others (Some key) k) here)

all_left : (k : Option Key) → others None k ≡ None
all_left None = refl
all_left (Some key) = refl

-- all slots are
pub all_emptied : (slots next : Slots) → keys_of next ≡ left_of None (keys_of slots) → (slot : ℕ) → slot_at next slot ≡ None
all_emptied slots next e slot =
    empty_slot (slot_at next slot)
    (sym (key_is next slot) ∙ ap (λ (ks : Keys). key_at ks slot) e ∙ left_at None (keys_of slots) slot ∙ all_left (key_at (keys_of slots) slot))

-- and the seat has no pin
pub nothing_held : {W : Type 0} (pool : Pool W) (seat : PoolSeat W) (slots : Slots) → IsHolding pool seat slots → ((slot : ℕ) → slot_at slots slot ≡ None) → (header : ℕ) → hold_at (view seat) header ≡ Free
nothing_held pool seat slots i empty header = i.only header (λ slot e. none-some header (sym (ap held_header (empty slot)) ∙ e))

-- ---- what is so after an answer

pub ok_map : {T E P Q : Type 0} (r : Result T E) → (P → Q) → OnOk r P → OnOk r Q
ok_map (Ok x) f p = f p
ok_map (Err e) f p = tt

pub err_map : {T E P Q : Type 0} (r : Result T E) → (P → Q) → OnErr r P → OnErr r Q
err_map (Ok x) f p = tt
err_map (Err e) f p = f p
