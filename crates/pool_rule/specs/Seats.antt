-- What a seat knows and has, and what its steps make of that. Source: this project's own.
use Rattle.std.specs.Prelude.{◌≡◌, ℕ, ◌+◌, ◌-◌, ◌/◌, ◌%◌, ◌^◌, zero, suc, List, [], ◌∷◌, ◌++◌, length, take, drop}
use Rattle.std.specs.Prelude.{replicate, Option, None, Some, option_map, IfSome, slice_index, slice_index_or, slice_set}
use Rattle.pool_model.specs.declared.buffer.BufferKey.{BufferKey}
use Rattle.pool_model.specs.declared.step.Step.{Step}
use Rattle.pool_rule.specs.declared.geometry.Geometry.{Geometry}
use Rattle.pool_rule.specs.declared.view.Claim.{Claim}
use Rattle.pool_rule.specs.declared.view.Claim.TheVariants.{Unclaimed, Fresh, Gone, Carried}
use Rattle.pool_rule.specs.declared.view.Access.{Access}
use Rattle.pool_rule.specs.declared.view.Event.{Event}
use Rattle.pool_rule.specs.declared.view.Event.TheVariants.{Stepped, Parted, Joined}
use Rattle.pool_rule.specs.declared.view.Hold.{Hold}
use Rattle.pool_rule.specs.declared.view.Hold.TheVariants.{Free, Bid, Pinned}
use Rattle.pool_rule.specs.declared.view.Mark.{Mark}
use Rattle.pool_rule.specs.declared.view.View.{View}
use Rattle.pool_rule.specs.Layout.{headers_of, places_of}

-- ---- what a view has

-- nothing of a header
abbrev pub clear_mark : Mark
clear_mark = record { hold = Free; claim = Unclaimed }

-- what the seat has of a header: past the list's end, nothing
abbrev pub mark_at : View → ℕ → Mark
mark_at v header = slice_index_or v.marks header clear_mark

-- the order of the seat's granted block that begins at a place, if there is one
abbrev pub granted_at : View → ℕ → Option ℕ
granted_at v place = slice_index_or v.granted place None

-- the view of a seat without numbers
abbrev pub spent : View
spent =
    record {
      geometry = record { min_block = 0; arenas = 0; sets = 0 };
      numbers = [];
      marks = [];
      granted = [];
      known = None;
      trail = [];
      steps = [];
    }

-- the view of a seat with these numbers, and nothing else
abbrev pub fresh_view : Geometry → List ℕ → View
fresh_view g numbers =
    record {
      geometry = g;
      numbers = numbers;
      marks = replicate (headers_of g) clear_mark;
      granted = replicate (places_of g) None;
      known = None;
      trail = [];
      steps = [];
    }

-- the numbers from one on, so many of them
abbrev pub numbers_from : ℕ → ℕ → List ℕ
numbers_from first zero = []
numbers_from first (suc count) = first ∷ numbers_from (first + 1) count

-- ---- what a step makes of a view

-- the view whose trail has the event besides
unfoldable pub with_event : Event → View → View
with_event e v = record v { trail = v.trail ++ e ∷ [] }

-- The seat stepped on a word, which was the old one and is the new one: that is in its trail, and if it knows the
-- words it knows this one as it is now.
unfoldable pub noted : ℕ → ℕ → ℕ → Access → View → View
noted word old new access v =
    record v { trail = v.trail ++ Stepped word old new access ∷ []; known = option_map (λ ws. slice_set ws word new) v.known }

-- the words, if they are known, say this of the word
abbrev pub Told : View → ℕ → ℕ → Type 0
Told v word found = IfSome v.known (λ ws. slice_index ws word ≡ found)

-- the seat made that step of the pool
unfoldable pub with_step : Step → View → View
with_step s v = record v { steps = v.steps ++ s ∷ [] }

-- the seat has a block of that order granted at the place, or none
unfoldable pub with_granted : ℕ → Option ℕ → View → View
with_granted place order v = record v { granted = slice_set v.granted place order }

-- the seat has that of a header
unfoldable pub with_mark : ℕ → Mark → View → View
with_mark header m v = record v { marks = slice_set v.marks header m }

-- ---- what a load of a header's key word tells

-- the key of a key word
abbrev pub key_of : ℕ → BufferKey
key_of word = record { file = word / 2 ^ 52; at = word / 2 ^ 20 % 2 ^ 32; len = word % 2 ^ 20 + 1 }

abbrev pub known_key : BufferKey → Option BufferKey → Option BufferKey
known_key key None = Some key
known_key key (Some k) = Some k

-- a pin learns its key
abbrev pub hold_with_key : BufferKey → Hold → Hold
hold_with_key key Free = Free
hold_with_key key Bid = Bid
hold_with_key key (Pinned b k) = Pinned b (known_key key k)

-- a buffer that moves learns its key
abbrev pub claim_with_key : BufferKey → Claim → Claim
claim_with_key key Unclaimed = Unclaimed
claim_with_key key (Fresh b k done) = Fresh b k done
claim_with_key key (Gone b) = Gone b
claim_with_key key (Carried b t k done next) = Carried b t (known_key key k) done next

abbrev pub mark_with_key : BufferKey → Mark → Mark
mark_with_key key m = record { hold = hold_with_key key m.hold; claim = claim_with_key key m.claim }

-- the view after the key word of a header was found
unfoldable pub with_key : ℕ → ℕ → View → View
with_key header word v = record v { marks = slice_set v.marks header (mark_with_key (key_of word) (mark_at v header)) }

-- ---- seats parted and joined

-- the view without its last numbers
unfoldable pub parted : ℕ → View → View
parted count v = record v { numbers = take (length v.numbers - count) v.numbers; known = None; trail = v.trail ++ Parted count ∷ [] }

-- the view of the seat that gets them
unfoldable pub part_of : ℕ → View → View
part_of count v = fresh_view v.geometry (drop (length v.numbers - count) v.numbers)

-- the view with another seat's numbers besides
unfoldable pub joined : View → View → View
joined v other = record v { numbers = v.numbers ++ other.numbers; known = None; trail = v.trail ++ Joined ∷ [] }

-- the seat has nothing of any header, and no block
pub record HasNothing (v : View) : Type 0 where
  pub marks : (header : ℕ) → mark_at v header ≡ clear_mark
  pub granted : (place : ℕ) → granted_at v place ≡ None
