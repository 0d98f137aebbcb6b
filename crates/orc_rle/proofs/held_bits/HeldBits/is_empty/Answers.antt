use Rattle.std.proofs.Common.{◌≡◌, ◌==◌, ◌+◌, ◌*◌, ℕ, length, sym, ap, ◌∙◌, arith, length-append}
use Rattle.std.proofs.lemmas.Bool.{eqb-true}
use Rattle.orc_rle.specs.BitRun.{bits_of}
use Rattle.orc_rle.proofs.BitRuns.{length-bits_of}
use Rattle.orc_rle.proofs.held_bits.HeldBits.is_empty.Goals as goal

same_test : (bytes bits : ℕ) → bits ≡ 8 * bytes → (bytes == 0) ≡ (bits == 0)
same_test bytes bits e = grind (arith)

pub returns-then-is_empty : goal.returns-then-is_empty
returns-then-is_empty c =
    let s = c.self.inside in
    let none : length s.first ≡ 0 = eqb-true (length s.first) 0 (sym c.is_empty.ensures ∙ c.if-is_empty.true) in
    let all : length c.args.self.now ≡ length s.first + length (bits_of s.bytes) = ap length (sym c.self.view_is) ∙ length-append s.first (bits_of s.bytes) in
    c.is_empty-then-is_empty.ensures ∙ same_test (length s.bytes) (length c.args.self.now) (omega (arith, length-bits_of s.bytes))
