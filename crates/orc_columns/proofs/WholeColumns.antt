-- The rows that a reader has given are the column's first.
use Rattle.std.proofs.Common.{ℕ, List, ◌∙◌, ap, arith}
use Rattle.std.specs.Prelude.{map}
use Rattle.orc_values.specs.declared.value.Value.{Value}
use Rattle.orc_columns.specs.declared.value_reader.ValueReader.{ValueReader}
use Rattle.orc_columns.specs.declared.value_reader.ValueReader.TheVariants as reader
use Rattle.orc_columns.specs.Column.{Streams, AreValues, entry_text, places_of}
use Rattle.orc_columns.specs.Laws.{GivesTheColumn}
use Rattle.orc_columns.specs.Midway.{ValuesBetween, spelling_in}
use Rattle.orc_columns.proofs.ReadingRows.{given_are_present}

given_are_values : (size : ℕ) (start : Streams) (given : List Value) (v : ValueReader) (rest : Streams) → ValuesBetween size start given v rest → AreValues (spelling_in v) size start given
given_are_values size start given (reader.Bits b) rest (bits, at, is, left) = (bits, rest.body, (b.held, at), is)
given_are_values size start given (reader.Integers i) rest (numbers, at, is, left) = (numbers, (rest.body, (i.held, at)), is)
given_are_values size start given (reader.Texts t) rest (lengths, at, whole, left, is, others) = (lengths, record { spelled = (rest.lengths, (t.lengths.held, at)); within = omega arith }, is)
given_are_values size start given (reader.Dictionary d) rest (lengths, numbers, sized, are, entries, at, below, is, used, left) =
    (lengths, numbers, sized, are, (rest.body, (d.places.held, at)), below, is ∙ ap (λ (e : List (List ℕ)). map (entry_text e) (places_of numbers)) entries)

pub gives_the_column : GivesTheColumn
gives_the_column r start given rest at = record {
  spelling = spelling_in r.values;
  flags = at.flags;
  values = at.values;
  spelled = at.spelled;
  present = given_are_present r.present.state start.present at.flags r.present.held rest.present at.present;
  enough = at.enough;
  standing = given_are_values r.plan.dictionary_size start at.values r.values rest at.standing;
  rows_are = at.rows_are;
}
