-- Laws of blocks, masks and answers, for those who call `mask`, `find` and `window`.
use Rattle.std.specs.Prelude.{◌≡◌, ℕ, ◌+◌, ◌-◌, ◌*◌, ◌/◌, ◌%◌, ◌^◌, ◌<◌, ◌≤◌, ◌≢◌, ◌↔◌, bit_and}
use Rattle.std.specs.Prelude.{bit_or, count_ones, List, slice_index, Option, Some, None}
use Rattle.std.specs.Int.{w64, bit_at, bit_not}
use Rattle.buddy_arena.specs.Block.{around, IsBlock, covers, IsClear, IsMask}
use Rattle.buddy_arena.specs.Buddy.{IsClearBlock, IsBuddyAnswer, buddy_answer}
use Rattle.buddy_arena.specs.Window.{IsWindow, taken_in}
use Rattle.buddy_arena.specs.Words.{joined}

-- in an arena of whole blocks of the order, the block around each place is one
abbrev pub AroundIsBlock : Type 0
AroundIsBlock = (size count place order : ℕ) → size ≡ count * 2 ^ order → place < size → IsBlock size (around place order) order

-- where blocks up to order 6 begin, counted over all arenas, a block begins in the place's own arena
abbrev pub BlockInArena : Type 0
BlockInArena = (place order : ℕ) → order ≤ 6 → around place order ≡ place → IsBlock 64 (place % 64) order

-- and it covers the places of that arena that it covers there, and none of another arena
abbrev pub CoversInArena : Type 0
CoversInArena = (place order p : ℕ) → order ≤ 6 → around place order ≡ place →
    (p / 64 ≡ place / 64 → covers place order p ≡ covers (place % 64) order (p % 64)) × (p / 64 ≢ place / 64 → covers place order p ≡ 0)

-- a block is a block of each smaller order too
abbrev pub BlockHasSmaller : Type 0
BlockHasSmaller = (size place order smaller : ℕ) → smaller ≤ order → IsBlock size place order → IsBlock size place smaller

-- the answer is a clear block of the order that was asked for
abbrev pub BuddyIsClearBlock : Type 0
BuddyIsClearBlock = (size bits order place : ℕ) → IsBuddyAnswer size bits order (Some place) → IsClearBlock size bits place order

-- the function gives the answer, and there is no other
abbrev pub BuddyIsAnswer : Type 0
BuddyIsAnswer = (size bits order : ℕ) (answer : Option ℕ) → IsBuddyAnswer size bits order answer ↔ (answer ≡ buddy_answer size bits order)

-- there is one window at most
abbrev pub OneWindow : Type 0
OneWindow = (size bits movable order : ℕ) (a b : Option ℕ) → IsWindow size bits movable order a → IsWindow size bits movable order b → a ≡ b

-- a word and a block's mask share no bit exactly where the block is clear
abbrev pub MaskTestsClear : Type 0
MaskTestsClear = (bits mask place order : ℕ) → IsMask mask place order → (bit_and bits mask ≡ 0) ↔ IsClear bits place order

-- to set the mask of a clear block takes the block's places, and no others
abbrev pub SettingTakes : Type 0
SettingTakes = (bits mask place order : ℕ) → IsMask mask place order → IsClear bits place order →
    (p : ℕ) → bit_at (bit_or bits mask) p ≡ bit_at bits p + covers place order p

-- to clear the mask of a block gives the block's places back, and no others
abbrev pub ClearingGives : Type 0
ClearingGives = (bits mask place order : ℕ) → bits < 2 ^ 64 → mask < 2 ^ 64 → IsMask mask place order →
    (p : ℕ) → bit_at (bit_and bits (bit_not w64 mask)) p ≡ bit_at bits p - covers place order p

-- a word and a block's mask share as many bits as the block has taken places
abbrev pub MaskCountsTaken : Type 0
MaskCountsTaken = (bits place order : ℕ) → count_ones (bit_and bits ((2 ^ 2 ^ order - 1) * 2 ^ place)) ≡ taken_in bits place order

-- bit p of several words is bit p % 64 of word p / 64
abbrev pub JoinedBits : Type 0
JoinedBits = (words : List ℕ) → ((i : ℕ) → slice_index words i < 2 ^ 64) →
    (p : ℕ) → bit_at (joined words) p ≡ bit_at (slice_index words (p / 64)) (p % 64)

-- the free blocks of 0xFF0F are those of order 2 at 4, of order 4 at 16 and of order 5 at 32
abbrev pub WorkedAnswers : Type 0
WorkedAnswers =
    (buddy_answer 64 0xFF0F 2 ≡ Some 4) × (buddy_answer 64 0xFF0F 3 ≡ Some 16) × (buddy_answer 64 0xFF0F 5 ≡ Some 32)
    × (buddy_answer 64 0xFF0F 6 ≡ None) × (buddy_answer 64 0 6 ≡ Some 0)
