-- What a seat holds, and what slots hold, over a get and a drop.
use Rattle.std.proofs.Common.{◌≡◌, ◌≢◌, ℕ, ◌<◌, zero, suc, [], ◌∷◌, length, refl, sym, ap, ◌∙◌, subst, inl, inr}
use Rattle.std.specs.Prelude.{Option, Some, None, ◌⊎◌, slice_set}
use Rattle.std.proofs.lemmas.Bool.{cases_eq}
use Rattle.std.proofs.lemmas.List.{get_or-set_same, get_or-set_other}
use Rattle.std.proofs.lemmas.Option.{none-some}
use Rattle.buffer_word.specs.declared.key_word.Key.{Key}
use Rattle.pool_model.specs.declared.block.Block.{Block}
use Rattle.pool_model.specs.declared.buffer.BufferKey.{BufferKey}
use Rattle.pool_rule.specs.declared.view.Hold.{Hold}
use Rattle.pool_rule.specs.declared.view.Hold.TheVariants.{Free, Pinned}
use Rattle.pool_rule.specs.declared.view.View.{View}
use Rattle.pool_rule.specs.Seats.{mark_at}
use Rattle.buffer_pool.specs.declared.pool.Pool.{Pool}
use Rattle.buffer_pool.specs.declared.seat.PoolSeat.{PoolSeat}
use Rattle.buffer_pool.specs.Pools.{IsSeatOf, buffer_key, pin_block, pin_header, pin_key, view}
use Rattle.cache_lookup.specs.Before.{HasNoPinOf, IsNoPinOf}
use Rattle.range_cache.specs.declared.ranged.Grip.{Grip}
use Rattle.range_cache.specs.declared.ranged.Grip.TheVariants as grip
use Rattle.range_cache.specs.Ranges.{IsGripOf, key_of_grip}
use Rattle.held_ranges.specs.declared.held.Held.{Held}
use Rattle.held_ranges.specs.Deeds.{key_at}
use Rattle.held_ranges.specs.Moments.{IsHeld, IsHolding, Slots, grip_header, held_header, key_of, keys_of, slot_at}

abbrev pub hold_at : View → ℕ → Hold
hold_at v header = (mark_at v header).hold

is_or_not : (o : Option ℕ) (n : ℕ) → (o ≡ Some n) ⊎ (o ≢ Some n)
is_or_not None n = inr (λ e. none-some n e)
is_or_not (Some m) n =
    elim (cases_eq m n) [
      | inl e ↦ inl (ap Some e)
      | inr differs ↦ inr (λ e. differs (some_is e))
    ] where
      some_is : Some m ≡ Some n → m ≡ n
      some_is e = cc

-- ---- what slots hold

slot_set : (slots : Slots) (slot : ℕ) (h : Option Held) → slot < length slots → slot_at (slice_set slots slot h) slot ≡ h
slot_set slots slot h below = get_or-set_same slots slot h None below

slot_other : (slots : Slots) (slot other : ℕ) (h : Option Held) → other ≢ slot → slot_at (slice_set slots slot h) other ≡ slot_at slots other
slot_other slots slot other h apart = get_or-set_other slots slot other h None apart

pub key_is : (slots : Slots) (slot : ℕ) → key_at (keys_of slots) slot ≡ key_of (slot_at slots slot)
key_is [] slot = refl
key_is (h ∷ hs) zero = refl
key_is (h ∷ hs) (suc slot) = key_is hs slot

find : (slots : Slots) (header : ℕ) → ((slot : ℕ) × (held_header (slot_at slots slot) ≡ Some header)) ⊎ ((slot : ℕ) → held_header (slot_at slots slot) ≢ Some header)
find [] header = inr (λ slot e. none-some header e)
find (h ∷ hs) header =
    elim (is_or_not (held_header h) header) [
      | inl e ↦ inl (0, e)
      | inr differs ↦ elim (find hs header) [
        | inl there ↦ inl (suc there.0, there.1)
        | inr none ↦ inr (nowhere differs none)
      ]
    ] where
      nowhere : held_header h ≢ Some header → ((slot : ℕ) → held_header (slot_at hs slot) ≢ Some header) → (slot : ℕ) → held_header (slot_at (h ∷ hs) slot) ≢ Some header
      nowhere differs none zero = differs
      nowhere differs none (suc slot) = none slot

module _ {W : Type 0} (pool : Pool W) where
  grip_stays : (old new : PoolSeat W) (g : Grip) → ((header : ℕ) → grip_header g ≡ Some header → hold_at (view new) header ≡ hold_at (view old) header) → IsGripOf pool old g → IsGripOf pool new g
  grip_stays old new (grip.Pin pin) same is = record { header = is.header; block = is.block; key = is.key; fits = is.fits; pinned = same (pin_header pin) refl ∙ is.pinned }
  grip_stays old new (grip.Bypass key) same is = is

  held_stays : (old new : PoolSeat W) (h : Option Held) → ((header : ℕ) → held_header h ≡ Some header → hold_at (view new) header ≡ hold_at (view old) header) → IsHeld pool old h → IsHeld pool new h
  held_stays old new None same is = is
  held_stays old new (Some held) same is = (grip_stays old new held.ranged.held same is.0, is.1)

  not_free : {b : Block} {k : Option BufferKey} → Pinned b k ≢ Free
  not_free e = cc

  grip_pinned : (seat : PoolSeat W) (g : Grip) (header : ℕ) → IsGripOf pool seat g → grip_header g ≡ Some header → hold_at (view seat) header ≢ Free
  grip_pinned seat (grip.Pin pin) header is e free =
      let same : pin_header pin ≡ header = cc in
      let held = subst (λ (n : ℕ). hold_at (view seat) n ≡ Pinned (pin_block pin) (Some (buffer_key (pin_key pin)))) same is.pinned in
      not_free (sym held ∙ free)
  grip_pinned seat (grip.Bypass key) header is e free = none-some header e

  pinned : (seat : PoolSeat W) (h : Option Held) (header : ℕ) → IsHeld pool seat h → held_header h ≡ Some header → hold_at (view seat) header ≢ Free
  pinned seat None header is e free = none-some header e
  pinned seat (Some held) header is e free = grip_pinned seat held.ranged.held header is.0 e free

  -- a slot that held nothing holds a range more, by a hold more or by none
  pub put_holds : (old new : PoolSeat W) (slots : Slots) (slot : ℕ) (h : Option Held) → IsHolding pool old slots → IsSeatOf pool new → slot < length slots → slot_at slots slot ≡ None → IsHeld pool new h → ((header : ℕ) → held_header h ≢ Some header → hold_at (view new) header ≡ hold_at (view old) header) → ((header : ℕ) → held_header h ≡ Some header → hold_at (view old) header ≡ Free) → IsHolding pool new (slice_set slots slot h)
  put_holds old new slots slot h i of below empty is same was =
      let next : Slots = slice_set slots slot h in
      let here : slot_at next slot ≡ h = slot_set slots slot h below in
      let other : (j : ℕ) → j ≢ slot → slot_at next j ≡ slot_at slots j = λ j. slot_other slots slot j h in
      let apart : (j header : ℕ) → held_header (slot_at slots j) ≡ Some header → held_header h ≢ Some header = λ j header e f. pinned old (slot_at slots j) header (i.each j) e (was header f) in
      let none : (header : ℕ) → held_header (slot_at slots slot) ≢ Some header = λ header e. none-some header (sym (ap held_header empty) ∙ e) in
      record {
        seat_of = of;
        each = λ j. elim (cases_eq j slot) [
          | inl e ↦ subst (λ (n : ℕ). IsHeld pool new (slot_at next n)) (sym e) (subst (λ (x : Option Held). IsHeld pool new x) (sym here) is)
          | inr differs ↦ subst (λ (x : Option Held). IsHeld pool new x) (sym (other j differs)) (held_stays old new (slot_at slots j) (λ header e. same header (apart j header e)) (i.each j))
        ];
        only = λ header free.
            let not_here : held_header h ≢ Some header = λ e. free slot (ap held_header here ∙ e) in
            same header not_here ∙ i.only header (λ j e. elim (cases_eq j slot) [
              | inl at ↦ none header (subst (λ (n : ℕ). held_header (slot_at slots n) ≡ Some header) at e)
              | inr differs ↦ free j (ap held_header (other j differs) ∙ e)
            ]);
        apart = λ j k header e f. elim (cases_eq j slot) [
          | inl at ↦ elim (cases_eq k slot) [
            | inl there ↦ at ∙ sym there
            | inr differs ↦ absurd (apart k header (sym (ap held_header (other k differs)) ∙ f) (sym (ap held_header here) ∙ subst (λ (n : ℕ). held_header (slot_at next n) ≡ Some header) at e))
          ]
          | inr differs ↦ elim (cases_eq k slot) [
            | inl there ↦ absurd (apart j header (sym (ap held_header (other j differs)) ∙ e) (sym (ap held_header here) ∙ subst (λ (n : ℕ). held_header (slot_at next n) ≡ Some header) there f))
            | inr nor ↦ i.apart j k header (sym (ap held_header (other j differs)) ∙ e) (sym (ap held_header (other k nor)) ∙ f)
          ]
        ];
      }

  -- a slot lets its range go, and its hold is gone
  pub drop_holds : (old new : PoolSeat W) (slots : Slots) (slot : ℕ) (h : Option Held) → IsHolding pool old slots → IsSeatOf pool new → slot < length slots → slot_at slots slot ≡ h → ((header : ℕ) → held_header h ≢ Some header → hold_at (view new) header ≡ hold_at (view old) header) → ((header : ℕ) → held_header h ≡ Some header → hold_at (view new) header ≡ Free) → IsHolding pool new (slice_set slots slot None)
  drop_holds old new slots slot h i of below was same gone =
      let next : Slots = slice_set slots slot None in
      let here : slot_at next slot ≡ None = slot_set slots slot None below in
      let other : (j : ℕ) → j ≢ slot → slot_at next j ≡ slot_at slots j = λ j. slot_other slots slot j None in
      let none : (header : ℕ) → held_header (slot_at next slot) ≢ Some header = λ header e. none-some header (sym (ap held_header here) ∙ e) in
      record {
        seat_of = of;
        each = λ j. elim (cases_eq j slot) [
          | inl e ↦ subst (λ (n : ℕ). IsHeld pool new (slot_at next n)) (sym e) (subst (λ (x : Option Held). IsHeld pool new x) (sym here) tt)
          | inr differs ↦ subst (λ (x : Option Held). IsHeld pool new x) (sym (other j differs)) (held_stays old new (slot_at slots j)
              (λ header e. same header (λ f. differs (i.apart j slot header e (ap held_header was ∙ f)))) (i.each j))
        ];
        only = λ header free. elim (is_or_not (held_header h) header) [
          | inl e ↦ gone header e
          | inr differs ↦ same header differs ∙ i.only header (λ j e. elim (cases_eq j slot) [
            | inl at ↦ differs (sym (ap held_header was) ∙ subst (λ (n : ℕ). held_header (slot_at slots n) ≡ Some header) at e)
            | inr away ↦ free j (ap held_header (other j away) ∙ e)
          ])
        ];
        apart = λ j k header e f. elim (cases_eq j slot) [
          | inl at ↦ absurd (none header (subst (λ (n : ℕ). held_header (slot_at next n) ≡ Some header) at e))
          | inr differs ↦ elim (cases_eq k slot) [
            | inl there ↦ absurd (none header (subst (λ (n : ℕ). held_header (slot_at next n) ≡ Some header) there f))
            | inr nor ↦ i.apart j k header (sym (ap held_header (other j differs)) ∙ e) (sym (ap held_header (other k nor)) ∙ f)
          ]
        ];
      }

  -- ---- no pin of a key that no slot holds

  abbrev from_buffer : BufferKey → Key
  from_buffer key = record { file = key.file; at = key.at; len = key.len }

  grip_no_pin : (seat : PoolSeat W) (g : Grip) (held key : Key) (header : ℕ) → IsGripOf pool seat g → key_of_grip g ≡ held → held ≢ key → grip_header g ≡ Some header → IsNoPinOf (buffer_key key) (hold_at (view seat) header)
  grip_no_pin seat (grip.Pin pin) held key header is named other e =
      let same : pin_header pin ≡ header = cc in
      let P : Hold → Type 0 = λ h. IsNoPinOf (buffer_key key) h in
      let held = subst (λ (n : ℕ). hold_at (view seat) n ≡ Pinned (pin_block pin) (Some (buffer_key (pin_key pin)))) same is.pinned in
      let apart : buffer_key (pin_key pin) ≢ buffer_key key = λ f. other (sym named ∙ ap from_buffer f) in
      subst P (sym held) apart
  grip_no_pin seat (grip.Bypass k) held key header is named other e = absurd (none-some header e)

  held_no_pin : (seat : PoolSeat W) (h : Option Held) (key : Key) (header : ℕ) → IsHeld pool seat h → key_of h ≢ Some key → held_header h ≡ Some header → IsNoPinOf (buffer_key key) (hold_at (view seat) header)
  held_no_pin seat None key header is other e = absurd (none-some header e)
  held_no_pin seat (Some held) key header is other e = grip_no_pin seat held.ranged.held held.key key header is.0 is.1 (λ f. other (ap Some f)) e

  pub no_pin : (seat : PoolSeat W) (slots : Slots) (key : Key) → IsHolding pool seat slots → ((slot : ℕ) → key_at (keys_of slots) slot ≢ Some key) → HasNoPinOf (buffer_key key) (view seat)
  no_pin seat slots key i new header =
      elim (find slots header) [
        | inl there ↦ held_no_pin seat (slot_at slots there.0) key header (i.each there.0) (λ e. new there.0 (key_is slots there.0 ∙ e)) there.1
        | inr none ↦ subst (λ (h : Hold). IsNoPinOf (buffer_key key) h) (sym (i.only header none)) tt
      ]
