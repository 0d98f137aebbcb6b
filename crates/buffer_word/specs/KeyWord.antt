-- The word of the range of a file that a buffer holds. Source: this project's own format.
-- Bits 0 to 19 are the length less 1, bits 20 to 51 the place in the file, bits 52 to 63 the file's number.
use Rattle.std.specs.Prelude.{ℕ, ◌+◌, ◌-◌, ◌*◌, ◌^◌, ◌<◌, ◌≤◌}
use Rattle.buffer_word.specs.declared.key_word.Key.{Key}

-- each field fits its bits; a range has at least one byte
pub record IsKey (k : Key) : Type 0 where
  pub file : k.file < 2 ^ 12
  pub at : k.at < 2 ^ 32
  pub some_bytes : 1 ≤ k.len
  pub len : k.len ≤ 2 ^ 20

-- the three fields side by side
abbrev pub key_word : Key → ℕ
key_word k = (k.len - 1) + k.at * 2 ^ 20 + k.file * 2 ^ 52
