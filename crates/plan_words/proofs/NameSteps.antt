-- Names are texts.
use Rattle.std.proofs.Common.{◌≡◌, ℕ, ◌<◌, List, length, true, ◌&&◌, not, ◌==◌, nat_le, arith}
use Rattle.std.specs.List.{list_all}
use Rattle.std.specs.Str.{IsUtf8}
use Rattle.std.proofs.lemmas.Bool.Decides.{nat_tests}
use Rattle.std.proofs.lemmas.List.Elements.{All-weaker}
use Rattle.std.proofs.lemmas.List.Sums.{AllPass-from_list_all}
use Rattle.std.proofs.lemmas.Str.{IsUtf8-from_ascii}
use Rattle.std.proofs.lemmas.Str.Ascii.{IsAscii-from_all}
use Rattle.plan_words.specs.Names.{is_name, is_name_byte}
use Rattle.plan_words.proofs.NumberSteps.{both}

byte_below : (b : ℕ) → is_name_byte b ≡ true → b < 128
byte_below b h = grind (arith, nat_tests)

pub name_bytes : (bytes : List ℕ) → is_name bytes ≡ true → list_all is_name_byte bytes ≡ true
name_bytes bytes h = (both (not (length bytes == 0) && nat_le (length bytes) 64) (list_all is_name_byte bytes) h).1

pub name_is_utf8 : (bytes : List ℕ) → is_name bytes ≡ true → IsUtf8 bytes
name_is_utf8 bytes h =
    IsUtf8-from_ascii bytes (IsAscii-from_all bytes (All-weaker (λ b. is_name_byte b ≡ true) (λ b. b < 128) byte_below bytes
    (AllPass-from_list_all is_name_byte bytes (name_bytes bytes h))))
