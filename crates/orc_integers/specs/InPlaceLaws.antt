-- Numbers that stand in bytes are what the readers of the format read there. Source: this project's own.
use Rattle.std.proofs.Common.{◌≡◌, ℕ, Bool, List, length, map, ℤ, refl, sym, ap, ◌∙◌}
use Rattle.std.proofs.lemmas.List.{length-map}
use Rattle.outside.specs.Reading.{mapped}
use Rattle.outside.specs.Lending.{ReadsIn}
use Rattle.outside.specs.Varint.{varint, varints}
use Rattle.outside.specs.VarintLaws.{varint-whole, varints-whole}
use Rattle.orc_integers.specs.InPlace.{NumberIn, IntegersIn}
use Rattle.orc_integers.specs.Integers.{integer}

pub number-read : {bytes left : List ℕ} {number : ℕ} → NumberIn bytes number left → ReadsIn varint bytes number left
number-read {number = number} at = record { front = at.front; parts = at.parts; reads = λ more. varint-whole at.front more number at.is }

pub integers-read : (signed : Bool) (count : ℕ) {bytes left : List ℕ} (values : List ℤ) → length values ≡ count
    → IntegersIn signed bytes values left → ReadsIn (mapped (map (integer signed)) (varints count)) bytes values left
integers-read signed count values len at = record {
  front = at.front;
  parts = at.parts;
  reads = λ more.
      let is : count ≡ length at.numbers = sym len ∙ ap length at.values_are ∙ length-map at.numbers (integer signed) in
      rw (is, varints-whole more at.are, at.values_are) refl;
}
