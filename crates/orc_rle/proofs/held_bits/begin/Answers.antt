use Rattle.std.proofs.Common.{◌≡◌, ◌+◌, ◌<◌, ◌≤◌, ℕ, Bool, false, List, [], ◌∷◌, ◌++◌, length, take, eqb, sym, ap, ◌∙◌, arith, append_assoc, length-append}
use Rattle.std.proofs.lemmas.List.{length-take-le}
use Rattle.orc_rle.specs.BitRun.{byte_bits, bits_of}
use Rattle.orc_rle.proofs.held_bits.begin.Goals as goal

-- all bits of the byte are given, or there is no other byte
last_given : (byte room count : ℕ) (given left : List Bool) (bytes all : List ℕ) → byte_bits byte ≡ given ++ left → all ≡ byte ∷ bytes → (8 ≤ room → all ≡ []) → (count < room → left ≡ []) → length given ≤ count → count < room → left ++ bits_of bytes ≡ []
last_given byte room count given left bytes all parts is short every within fewer =
    let len : 8 ≡ length given + length left = ap length parts ∙ length-append given left in
    let none : length left ≡ 0 = ap length (every fewer) in
    let empty : length all ≡ 0 = ap length (short (omega arith)) in
    let some : length all ≡ length (byte ∷ bytes) = ap length is in
    absurd (omega arith)

nonempty : (out : List Bool) → eqb (length out) 0 ≡ false → 0 < length out
nonempty out e = grind (arith)

pub returns-in_default-clause-all : goal.returns-in_default-clause-all
returns-in_default-clause-all c h = ap (λ (l : List Bool). l ++ bits_of c.next.new.self) (c.requires.given h) ∙ ap bits_of c.in_default.ensures.1

pub returns-clause-parts : goal.returns-clause-parts
returns-clause-parts c =
    let given = take c.give.result c.give.new.out in
    let some : 0 < length c.args.out.now = nonempty c.args.out.now (sym c.if-is_empty.ensures) in
    let parts : byte_bits c.in-Some.byte ≡ given ++ c.give.new.self = sym c.new.ensures ∙ c.give.ensures.parts in
    let bytes : c.args.bytes.now ≡ c.in-Some.byte ∷ c.next.new.self = c.in-Some.ensures in
    ap (λ (l : List Bool). l ++ bits_of c.args.bytes.now) (c.requires.given some)
    ∙ ap bits_of bytes
    ∙ ap (λ (l : List Bool). l ++ bits_of c.next.new.self) parts
    ∙ append_assoc given c.give.new.self (bits_of c.next.new.self)

pub returns-clause-all : goal.returns-clause-all
returns-clause-all c h =
    let given = take c.give.result c.give.new.out in
    let parts : byte_bits c.in-Some.byte ≡ given ++ c.give.new.self = sym c.new.ensures ∙ c.give.ensures.parts in
    let bytes : c.args.bytes.now ≡ c.in-Some.byte ∷ c.next.new.self = c.in-Some.ensures in
    let len : length given ≡ c.give.result = length-take-le c.give.result c.give.new.out (omega (arith, c.give.ensures.room, c.give.auto.out)) in
    last_given c.in-Some.byte (length c.args.out.now) c.give.result given c.give.new.self c.next.new.self c.args.bytes.now parts bytes c.requires.short c.give.ensures.all (omega arith) h
