-- What a writer of a generated file's rows makes.
use Rattle.std.proofs.Common.{◌≡◌, ℕ, ◌+◌, ◌*◌, ◌≤◌, ◌<◌, ◌^◌, List, [], ◌∷◌, length, map, Option, Result, Ok, Err, codes, refl, sym, ap, subst, ◌∙◌, arith}
use Rattle.std.proofs.lemmas.List.Elements.{All-weaker}
use Rattle.outside.specs.Told.{Extended}
use Rattle.orc_tail.specs.declared.columns.TopColumn.{TopColumn}
use Rattle.orc_tail.specs.declared.stripe.Stripe.{Stripe}
use Rattle.orc_tail.specs.Tail.{greatest_len, tail}
use Rattle.tail_writer.specs.Columns.{top_columns_from}
use Rattle.table_columns.specs.Shapes.{Shape, written, opaque, file_column}
use Rattle.table_columns.specs.Files.{HasFooter, IsFile}
use Rattle.orc_writer.specs.declared.fault.MakeFault.{MakeFault}
use Rattle.orc_writer.specs.declared.fault.MakeFault.TheVariants.{Write, NoMemory}
use Rattle.orc_writer.specs.declared.column_spec.ColumnSpec.{ColumnSpec}
use Rattle.orc_writer.specs.declared.column_spec.Spelling.TheVariants.{Direct, DirectV2, DictionaryV2}
use Rattle.orc_writer.specs.Given.{AreOfSpecs}
use Rattle.orc_writer.specs.Writing.{Writing, IsMade, Wrote, shapes}
use Rattle.generated_file.specs.Columns.{generated_columns, read_columns, rows_of, spec_of}
use Rattle.generated_file.specs.File.{HasEncodings, IsGenerated, stripe_rows}
use Rattle.generated_file.specs.Making.{HasFirst, WroteGenerated}
use Rattle.generated_file.proofs.Pushed.{from_qty, from_note, from_city, from_even}
use Rattle.generated_file.proofs.Filled.{few_stripes}
use Rattle.generated_file.proofs.Encodings.{encodings_are}

top-next : (c : ColumnSpec) (columns : List ColumnSpec) (s : List Shape) (number : ℕ) (others : List TopColumn) → AreOfSpecs (c ∷ columns) s
    → ((rest : List Shape) → AreOfSpecs columns rest → top_columns_from (number + 1 + 0) (map file_column rest) ≡ others)
    → top_columns_from number (map file_column s) ≡ record { number = number; kind = c.kind; name = c.name } ∷ others
top-next c columns [] number others h more = absurd h
top-next c columns (written column spelling ∷ s) number others h more = rw (h.0.0, h.0.1, h.0.2, more s h.1) refl
top-next c columns (opaque column streams ∷ s) number others h more = absurd h.0

top-none : (s : List Shape) (number : ℕ) → AreOfSpecs [] s → top_columns_from number (map file_column s) ≡ []
top-none [] number h = refl
top-none (shape ∷ s) number h = absurd h

columns-are : (s : List Shape) → AreOfSpecs generated_columns s → top_columns_from 1 (map file_column s) ≡ read_columns
columns-are s h =
    top-next (spec_of (codes "id") 4 DirectV2) from_even s 1 _ h
    (λ s h. top-next (spec_of (codes "even") 0 Direct) from_city s 2 _ h
    (λ s h. top-next (spec_of (codes "city") 7 DictionaryV2) from_note s 3 _ h
    (λ s h. top-next (spec_of (codes "note") 7 DirectV2) from_qty s 4 _ h
    (λ s h. top-next (spec_of (codes "qty") 3 Direct) [] s 5 _ h (λ s h. top-none s 6 h)))))

pub made_is : (number rows : ℕ) (w : Writing) (file : List ℕ) → rows < 2 ^ 32 → HasFirst number rows w → IsMade w file → IsGenerated number rows file
made_is number rows w file fits has made =
    let is : IsFile (shapes w) stripe_rows (rows_of number rows) file =
    subst (λ (n : ℕ). IsFile (shapes w) n (rows_of number rows) file) has.stripes_of (made (rows_of number rows) has.holds) in
    let few = few_stripes file is.stripes _ is.filled (is.has [] [] tt) in
    record {
      shapes = shapes w;
      columns_are = has.columns_are;
      file_is = is;
      encodings = All-weaker (λ (s : Stripe). HasFooter file s (shapes w)) (HasEncodings file) (λ s f. encodings_are file s (shapes w) has.columns_are f) is.stripes is.footers;
      few = few;
      tail_is = λ short. is.tail_is short (omega (arith, few, fits)) ∙ ap (λ (columns : List TopColumn). Ok (record { stripes = is.stripes; columns = columns }))
          (columns-are (shapes w) has.columns_are);
    }

pub wrote_is : (number rows : ℕ) (w : Writing) (before after : Option (List ℕ)) (result : Result (Unit {0}) MakeFault) → rows < 2 ^ 32
    → HasFirst number rows w → Wrote w before after result → WroteGenerated number rows before after result
wrote_is number rows w before after (Ok done) fits has (file, made, more) = (file, made_is number rows w file fits has made, more)
wrote_is number rows w before after (Err (Write failed)) fits has (file, n, made, within, more) =
    (file, n, made_is number rows w file fits has made, within, more)
wrote_is number rows w before after (Err NoMemory) fits has same = same
