-- The word of one header of the buffer pool. Source: this project's own format.
-- Bits 0 to 3 are flags, bits 4 to 19 the count, bits 20 to 23 the order, bits 24 to 43 the place; the rest is 0.
use Rattle.std.specs.Prelude.{ℕ, ◌+◌, ◌*◌, ◌%◌, ◌^◌, ◌<◌, ◌≤◌, count_ones}
use Rattle.buffer_word.specs.declared.state_word.Mode.{Mode}
use Rattle.buffer_word.specs.declared.state_word.Mode.TheVariants.{Released, New, Live, Moving, Evicted}
use Rattle.buffer_word.specs.declared.state_word.State.{State}

-- the flag of a mode: one bit, or none for a live buffer
abbrev pub flag_of : Mode → ℕ
flag_of New = 1
flag_of Moving = 2
flag_of Evicted = 4
flag_of Released = 8
flag_of Live = 0

-- the four fields side by side, each at its own bits
abbrev pub word_of : ℕ → Mode → ℕ → ℕ → ℕ
word_of count mode order place = flag_of mode + count * 2 ^ 4 + order * 2 ^ 20 + place * 2 ^ 24

-- the word of a state
abbrev pub state_word : State → ℕ
state_word s = word_of s.count s.mode s.order s.place

-- each field fits its bits
pub record IsPackable (s : State) : Type 0 where
  pub count : s.count < 2 ^ 16
  pub order : s.order < 2 ^ 4
  pub place : s.place < 2 ^ 20

-- more than one of the four flags is set
abbrev pub HasSeveralFlags : ℕ → Type 0
HasSeveralFlags word = 1 < count_ones (word % 2 ^ 4)

-- a bit above the place is set
abbrev pub HasUnusedBits : ℕ → Type 0
HasUnusedBits word = 2 ^ 44 ≤ word
