-- What the pool's changes of a state word do to the state in it. Source: this project's own format.
-- `word_of count mode order place` is the word of a state.
-- The sums are those of 64 bits: `(w + k) % 2 ^ 64` is what adding k leaves, `(w + (2 ^ 64 - k)) % 2 ^ 64` what subtracting k leaves.
use Rattle.std.specs.Prelude.{◌≡◌, ℕ, ◌+◌, ◌-◌, ◌*◌, ◌%◌, ◌^◌, ◌<◌}
use Rattle.buffer_word.specs.declared.state_word.Mode.{Mode}
use Rattle.buffer_word.specs.declared.state_word.Mode.TheVariants.{Released, New, Live, Moving, Evicted}
use Rattle.buffer_word.specs.declared.state_word.State.{State}
use Rattle.buffer_word.specs.declared.key_word.Key.{Key}
use Rattle.buffer_word.specs.StateWord.{word_of, state_word, IsPackable}
use Rattle.buffer_word.specs.KeyWord.{key_word, IsKey}

-- a released header has order 0 and place 0; with count 0 its word is 8
abbrev pub ReleasedIsEight : Type 0
ReleasedIsEight = word_of 0 Released 0 0 ≡ 8

-- opening stores the word of a new buffer without a count
abbrev pub OpenedWord : Type 0
OpenedWord = (order place : ℕ) → word_of 0 New order place ≡ 1 + order * 2 ^ 20 + place * 2 ^ 24

-- publishing adds 15: the buffer is live, with one count more
abbrev pub PublishAdds15 : Type 0
PublishAdds15 = (count order place : ℕ) → count + 1 < 2 ^ 16 → order < 2 ^ 4 → place < 2 ^ 20 →
    (word_of count New order place + 15) % 2 ^ 64 ≡ word_of (count + 1) Live order place

-- a bid or pin adds 16: one count more, and the rest stays
abbrev pub BidAdds16 : Type 0
BidAdds16 = (count : ℕ) (mode : Mode) (order place : ℕ) → count + 1 < 2 ^ 16 → order < 2 ^ 4 → place < 2 ^ 20 →
    (word_of count mode order place + 16) % 2 ^ 64 ≡ word_of (count + 1) mode order place

-- taking a count back subtracts 16: one count less, and the rest stays
abbrev pub TakeBackSubtracts16 : Type 0
TakeBackSubtracts16 = (count : ℕ) (mode : Mode) (order place : ℕ) → count + 1 < 2 ^ 16 → order < 2 ^ 4 → place < 2 ^ 20 →
    (word_of (count + 1) mode order place + (2 ^ 64 - 16)) % 2 ^ 64 ≡ word_of count mode order place

-- beginning to evict a live buffer adds 4
abbrev pub EvictAdds4 : Type 0
EvictAdds4 = (count order place : ℕ) → word_of count Live order place + 4 ≡ word_of count Evicted order place

-- beginning to move a live buffer adds 2
abbrev pub MoveAdds2 : Type 0
MoveAdds2 = (count order place : ℕ) → word_of count Live order place + 2 ≡ word_of count Moving order place

-- cancelling a move subtracts 2: the buffer is live where it was
abbrev pub CancelSubtracts2 : Type 0
CancelSubtracts2 = (count order place : ℕ) → count < 2 ^ 16 → order < 2 ^ 4 → place < 2 ^ 20 →
    (word_of count Moving order place + (2 ^ 64 - 2)) % 2 ^ 64 ≡ word_of count Live order place

-- adding k releases the header of each evicted buffer at that order and place, whatever its count
abbrev pub Releases : ℕ → ℕ → ℕ → Type 0
Releases order place k = (count : ℕ) → count < 2 ^ 16 →
    (word_of count Evicted order place + k) % 2 ^ 64 ≡ word_of count Released 0 0

-- adding k makes each buffer that moves from the place live at the target, whatever its order and count
abbrev pub Settles : ℕ → ℕ → ℕ → Type 0
Settles place target k = (count order : ℕ) → count < 2 ^ 16 → order < 2 ^ 4 →
    (word_of count Moving order place + k) % 2 ^ 64 ≡ word_of count Live order target

-- a word tells its state
abbrev pub WordTellsState : Type 0
WordTellsState = (s t : State) → IsPackable s → IsPackable t → state_word s ≡ state_word t → s ≡ t

-- a word tells its key
abbrev pub WordTellsKey : Type 0
WordTellsKey = (k l : Key) → IsKey k → IsKey l → key_word k ≡ key_word l → k ≡ l
