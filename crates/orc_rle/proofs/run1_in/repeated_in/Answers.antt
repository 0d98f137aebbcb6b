use Rattle.std.proofs.Common.{◌≡◌, ◌∷◌, length}
use Rattle.outside.specs.Reading.{byte, mapped}
use Rattle.outside.specs.Varint.{varint}
use Rattle.outside.specs.LendingLaws.{ReadsIn-then, ReadsIn-map}
use Rattle.std.specs.Int.{w8, cast_signed}
use Rattle.orc_integers.specs.InPlaceLaws.{number-read}
use Rattle.orc_integers.specs.Integers.{integer, ramp}
use Rattle.orc_rle.proofs.RunsIn.{byte-read}
use Rattle.orc_rle.proofs.run1_in.repeated_in.Goals as goal

pub returns : goal.returns
returns c =
    let a = c.args in
    let count = length a.into.now in
    let delta = c.in_ok-delta.delta.now in
    let base = c.in_ok-base.base in
    let is : c.write_ramp.new.into ≡ ramp (integer a.signed base) (cast_signed w8 delta) count = rw (c.bits_of.ensures, c.widened.ensures) at c.write_ramp.ensures in
    let parts : a.bytes.now ≡ delta ∷ c.in_ok-delta.rest.now = c.in_ok-delta.ensures.cases.0 in
    rw (is, parts) (ReadsIn-then byte (λ delta. mapped (λ base. ramp (integer a.signed base) (cast_signed w8 delta) count) varint)
    (byte-read delta c.in_ok-delta.rest.now)
    (ReadsIn-map varint (λ base. ramp (integer a.signed base) (cast_signed w8 delta) count) (number-read c.in_ok-base.ensures)))
