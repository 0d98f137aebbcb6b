use Rattle.std.proofs.Common.{◌≡◌, ◌+◌, ◌<◌, ◌≤◌, ◌⊎◌, ℕ, Bool, List, [], ◌∷◌, ◌++◌, length, take, refl, sym, ap, ◌∙◌, arith, append_assoc, inl, inr}
use Rattle.std.proofs.Math.Seq.{take-append-add}
use Rattle.std.proofs.lemmas.Bool.{cases_lt}
use Rattle.orc_rle.specs.BitRun.{bits_of}
use Rattle.orc_rle.proofs.held_bits.HeldBits.give.Goals as goal

no_room : (list : List Bool) → length list ≤ 0 → list ≡ []
no_room [] h = refl
no_room (x ∷ list) h = absurd (omega arith)

-- the first byte is left, or no whole byte is given
one_is_none : (left whole : List Bool) (count room : ℕ) → (count < room → left ≡ []) → count + length whole ≤ room → (left ≡ []) ⊎ (whole ≡ [])
one_is_none left whole count room all within = elim (cases_lt count room) [ inl fewer ↦ inl (all fewer) | inr full ↦ inr (no_room whole (omega arith)) ]

in_order : (left whole bits : List Bool) → (left ≡ []) ⊎ (whole ≡ []) → left ++ (whole ++ bits) ≡ whole ++ (left ++ bits)
in_order left whole bits (inl none) = rw none refl
in_order left whole bits (inr none) = rw none refl

taken_thrice : (front whole last : List Bool) (count : ℕ) → take (length front + length whole + count) (front ++ (whole ++ last)) ≡ front ++ (whole ++ take count last)
taken_thrice front whole last count =
    let n : length front + length whole + count ≡ length front + (length whole + count) = omega arith in
    ap (λ (k : ℕ). take k (front ++ (whole ++ last))) n ∙ take-append-add front (whole ++ last) (length whole + count) ∙ ap (λ (l : List Bool). front ++ l) (take-append-add whole last count)

-- what the first byte, whole bytes and the next byte give, one after the other
given_thrice : (first bits front left whole later last after : List Bool) (count : ℕ) → first ≡ front ++ left → bits ≡ whole ++ later → (left ≡ []) ⊎ (whole ≡ []) → left ++ later ≡ take count last ++ after → first ++ bits ≡ take (length front + length whole + count) (front ++ (whole ++ last)) ++ after
given_thrice first bits front left whole later last after count one two none three =
    ap (λ (l : List Bool). l ++ bits) one
    ∙ ap (λ (l : List Bool). (front ++ left) ++ l) two
    ∙ append_assoc front left (whole ++ later)
    ∙ ap (λ (l : List Bool). front ++ l) (in_order left whole later none ∙ ap (λ (l : List Bool). whole ++ l) three ∙ sym (append_assoc whole (take count last) after))
    ∙ sym (append_assoc front (whole ++ take count last) after)
    ∙ ap (λ (l : List Bool). l ++ after) (sym (taken_thrice front whole last count))

pub returns-clause-parts : goal.returns-clause-parts
returns-clause-parts c =
    let s = c.self.inside in
    let begun = c.give-begun in
    let bits = c.give_bits-whole in
    let front = c.split_at_mut-out.result.0.now in
    let whole = c.split_at_mut-out-2.result.0.now in
    let after = c.begin.new.first ++ bits_of c.begin.new.bytes in
    let one : s.first ≡ front ++ begun.new.self = begun.ensures.parts ∙ ap (λ (l : List Bool). l ++ begun.new.self) (sym c.split_at_mut-out.ensures.front) in
    let two : bits_of s.bytes ≡ whole ++ bits_of bits.new.self = bits.ensures.parts ∙ ap (λ (l : List Bool). l ++ bits_of bits.new.self) (sym c.split_at_mut-out-2.ensures.front) in
    let m : length front ≡ begun.result = c.split_at_mut-out.ensures.front_len in
    let n : length whole ≡ bits.result = c.split_at_mut-out-2.ensures.front_len in
    let within : begun.result + length whole ≤ length c.args.out.now = omega (arith, bits.ensures.room, c.split_at_mut-out.ensures.back_len, begun.auto.out, begun.ensures.room) in
    let none = one_is_none begun.new.self whole begun.result (length c.args.out.now) begun.ensures.all within in
    sym c.self.view_is ∙ rw (← m, ← n) (given_thrice s.first (bits_of s.bytes) front begun.new.self whole (bits_of bits.new.self) c.begin.new.out after c.begin.result one two none c.begin.ensures.parts)
