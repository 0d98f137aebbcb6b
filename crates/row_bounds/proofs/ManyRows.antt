-- The rows of a whole file.
use Rattle.std.proofs.Common.{◌≡◌, ℕ, ◌≤◌, Bool, true, false, cond, ltb, List, length, Result, Ok, Err, refl, ap, subst, arith}
use Rattle.std.proofs.lemmas.Bool.{ltb-false}
use Rattle.orc_tail.specs.declared.fault.TailFault.{TailFault}
use Rattle.orc_tail.specs.declared.fault.TailFault.TheVariants.{TooLarge, OutOfFile}
use Rattle.orc_tail.specs.declared.stripe.Stripe.{Stripe}
use Rattle.orc_tail.specs.declared.tail.Tail.{Tail}
use Rattle.orc_tail.specs.Messages.{footer_of}
use Rattle.orc_tail.specs.Reading.{◌>>=◌}
use Rattle.orc_tail.specs.Tail.{greatest_len, most_stripes, footer_span, tail_of_footer, top_columns, stripes_within, stripes_end_by, tail}
use Rattle.row_bounds.specs.Laws.{StripesTogether, FilesAreBounded, TailsAreBounded}

-- what was answered first, where something was answered in the end
went_on : {A B : Type 0} (first : Result A TailFault) (next : A → Result B TailFault) (b : B) → (first >>= next) ≡ Ok b
    → (a : A) × (first ≡ Ok a) × (next a ≡ Ok b)
went_on (Ok a) next b e = (a, refl, e)
went_on {A} {B} (Err fault) next b e = absurd cc

-- ---- a tail's bounds

kept_by : (many within : Bool) (stripes kept : List Stripe) → cond many (Err TooLarge) (cond within (Ok stripes) (Err OutOfFile)) ≡ Ok kept
    → (many ≡ false) × (stripes ≡ kept)
kept_by true within stripes kept e = absurd cc
kept_by false true stripes kept e = (refl, cc)
kept_by false false stripes kept e = absurd cc

few_stripes : (stripes kept : List Stripe) (len : ℕ) → stripes_within len stripes ≡ Ok kept → length kept ≤ most_stripes
unfolding stripes_within
few_stripes stripes kept len e =
    let by = kept_by (ltb most_stripes (length stripes)) (stripes_end_by len stripes) stripes kept e in
    subst (λ (l : List Stripe). length l ≤ most_stripes) by.1 (ltb-false most_stripes (length stripes) by.0)

abbrev answered : Tail → Result Tail TailFault
answered read = Ok read

same_stripes : (x y : Tail) → answered x ≡ answered y → x.stripes ≡ y.stripes
same_stripes x y e = let same : x ≡ y = cc in ap (λ (read : Tail). read.stripes) same

footer_few : (len : ℕ) (footer : List ℕ) (read : Tail) → tail_of_footer len footer ≡ Ok read → length read.stripes ≤ most_stripes
unfolding tail_of_footer
footer_few len footer read e =
    let parts = went_on (footer_of footer) _ read e in
    let columns = went_on (top_columns parts.0.types) _ read parts.2 in
    let stripes = went_on (stripes_within len parts.0.stripes) _ read columns.2 in
    let same = same_stripes (record { stripes = stripes.0; columns = columns.0 }) read stripes.2 in
    subst (λ (l : List Stripe). length l ≤ most_stripes) same (few_stripes parts.0.stripes stripes.0 len stripes.1)

not_large : (large : Bool) (rest : Result Tail TailFault) (read : Tail) → cond large (Err TooLarge) rest ≡ Ok read → (large ≡ false) × (rest ≡ Ok read)
not_large true rest read e = absurd cc
not_large false rest read e = (refl, e)

tail_bounds : (file : List ℕ) (read : Tail) → tail file ≡ Ok read → (length file ≤ greatest_len) × (length read.stripes ≤ most_stripes)
unfolding tail
tail_bounds file read e =
    let small = not_large (ltb greatest_len (length file)) _ read e in
    let span = went_on (footer_span (length file) file) _ read small.1 in
    (ltb-false greatest_len (length file) small.0, footer_few (length file) _ read span.2)

-- ---- the rows

module _ (together : StripesTogether) where
  pub files_are_bounded : FilesAreBounded
  files_are_bounded file columns stripes rows are some len few have =
      let all = together file columns stripes rows are some len have in
      omega (arith, all, few)

  pub tails_are_bounded : TailsAreBounded
  tails_are_bounded file read columns rows are some is have =
      let bounds = tail_bounds file read is in
      files_are_bounded file columns read.stripes rows are some bounds.0 bounds.1 have
