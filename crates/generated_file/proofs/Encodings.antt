-- Which encodings a stripe has.
use Rattle.std.proofs.Common.{◌≡◌, ℕ, zero, suc, ◌+◌, ◌≤◌, List, [], ◌∷◌, length, map, drop, Some, Ok, refl, sym, ap, subst, ◌∙◌, arith, slice_get}
use Rattle.std.proofs.lemmas.Option.{same_Some}
use Rattle.orc_tail.specs.declared.encoding.Encoding.{Encoding}
use Rattle.orc_tail.specs.declared.stripe.Stripe.{Stripe}
use Rattle.orc_tail.specs.declared.stripe_footer.StripeFooter.{StripeFooter}
use Rattle.tail_writer.specs.declared.file_column.FileColumn.{FileColumn}
use Rattle.tail_writer.specs.Columns.{next_number}
use Rattle.table_columns.specs.Shapes.{Shape, written, opaque, next_of}
use Rattle.table_columns.specs.Files.{HaveColumns, HasFooter}
use Rattle.orc_writer.specs.declared.column_spec.ColumnSpec.{ColumnSpec}
use Rattle.orc_writer.specs.Given.{AreOfSpecs, number_of}
use Rattle.generated_file.specs.Columns.{generated_columns}
use Rattle.generated_file.specs.File.{HasEncodings}

abbrev kind : Encoding → ℕ
kind e = e.kind

got : (xs : List Encoding) (i : ℕ) (x : Encoding) → slice_get xs i ≡ Some x → drop i xs ≡ x ∷ drop (i + 1) xs
got [] i x e = absurd (let known = e in cc)
got (y ∷ xs) zero x e = ap (λ (z : Encoding). z ∷ xs) (same_Some y x e)
got (y ∷ xs) (suc i) x e =
    let next : suc i + 1 ≡ suc (i + 1) = omega arith in
    got xs i x e ∙ ap (λ (n : ℕ). x ∷ drop n (y ∷ xs)) (sym next)

none_left : (xs : List Encoding) (i : ℕ) → length xs ≡ i → drop i xs ≡ []
none_left [] zero e = refl
none_left [] (suc i) e = refl
none_left (x ∷ xs) zero e = absurd (omega (arith, e))
none_left (x ∷ xs) (suc i) e = none_left xs i (omega (arith, e))

-- the encodings from a column on
kinds_from : (file : List ℕ) (footer : StripeFooter) (number : ℕ) (columns : List ColumnSpec) (s : List Shape) → AreOfSpecs columns s → HaveColumns file footer number s
    → length footer.encodings ≡ next_of number s → map kind (drop number footer.encodings) ≡ map (λ c. number_of c.spelling) columns
kinds_from file footer number [] [] are have counted = ap (λ (l : List Encoding). map kind l) (none_left footer.encodings number counted)
kinds_from file footer number [] (shape ∷ s) are have counted = absurd are
kinds_from file footer number (c ∷ columns) [] are have counted = absurd are
kinds_from file footer number (c ∷ columns) (opaque column streams ∷ s) are have counted = absurd are.0
kinds_from file footer number (c ∷ columns) (written column spelling ∷ s) are have counted =
    let one = have.0 in
    let next : next_number number column ≡ number + 1 = omega (arith, ap length are.0.2) in
    ap (λ (l : List Encoding). map kind l) (got footer.encodings number one.encoding one.listed)
    ∙ ap (λ (n : ℕ). n ∷ map kind (drop (number + 1) footer.encodings)) (one.kind_is ∙ are.0.4)
    ∙ ap (λ (l : List ℕ). number_of c.spelling ∷ l)
    (kinds_from file footer (number + 1) columns s are.1 (subst (λ (n : ℕ). HaveColumns file footer n s) next have.1) (counted ∙ ap (λ (n : ℕ). next_of n s) next))

pub encodings_are : (file : List ℕ) (stripe : Stripe) (s : List Shape) → AreOfSpecs generated_columns s → HasFooter file stripe s → HasEncodings file stripe
encodings_are file stripe s are f = (
  f.footer,
  f.is,
  ap (λ (l : List Encoding). map kind l) (got f.footer.encodings 0 (record { kind = 0; dictionary_size = 0 }) f.root)
      ∙ ap (λ (l : List ℕ). 0 ∷ l) (kinds_from file f.footer 1 generated_columns s are f.have f.counted),
)
