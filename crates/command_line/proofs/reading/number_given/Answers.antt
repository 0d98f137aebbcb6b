use Rattle.std.proofs.Common.{◌∙◌, ap, inl, inr, sym}
use Rattle.std.specs.Prelude.{option_map, pos}
use Rattle.std.specs.Str.Parse.{ParsesUnsigned, ExplainsUnsignedError, HasUnsignedDigitsIfOk, signed_digits_value}
use Rattle.clap.specs.Words.{without_minus}
use Rattle.command_line.proofs.Numbers.{number_read}
use Rattle.command_line.proofs.reading.number_given.Goals as goal

pub returns : goal.returns
returns c = elim c.requires [
  | inl absent ↦
      ap (option_map (signed_digits_value 10)) absent.first ∙ sym (ap (option_map pos) (c.get_one.ensures.none absent.read))
  | inr has ↦
      ap (option_map (signed_digits_value 10)) has.given.first
      ∙ number_read _ (λ bs r. ParsesUnsigned 32 10 bs r × ExplainsUnsignedError 10 bs r × HasUnsignedDigitsIfOk bs r) (λ u x g. g.0)
      has.least has.most has.given.text c.get_one.result has.fits has.given.in_range
      (c.get_one.ensures.value (without_minus has.given.text) has.given.read)
]
