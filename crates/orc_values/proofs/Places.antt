-- Where texts begin and end.
use Rattle.std.proofs.Common.{◌≡◌, ◌∙◌, ℕ, ◌-◌, ◌≤◌, List, [], ◌∷◌, ◌++◌, length, take, drop, slice_range, sym, ap, arith, length-append}
use Rattle.std.proofs.lemmas.List.{take-append-drop, length-take-le, drop_at, take_all}
use Rattle.orc_values.specs.Texts.{texts_from, AreEnds, last_end}
use Rattle.orc_values.specs.TextsLaws.{texts_from-append, texts_from-front}

pub AreEnds-last : (from : ℕ) (ends : List ℕ) (limit : ℕ) → AreEnds from ends limit → AreEnds from ends (last_end from ends)
AreEnds-last from [] limit are = omega arith
AreEnds-last from (end ∷ ends) limit are = (are.0, AreEnds-last end ends limit are.1)

pub last_end-le : (from : ℕ) (ends : List ℕ) (limit : ℕ) → AreEnds from ends limit → last_end from ends ≤ limit
last_end-le from [] limit are = are
last_end-le from (end ∷ ends) limit are = last_end-le end ends limit are.1

pub AreEnds-le : (from : ℕ) (ends : List ℕ) (limit more : ℕ) → limit ≤ more → AreEnds from ends limit → AreEnds from ends more
AreEnds-le from [] limit more h are = omega arith
AreEnds-le from (end ∷ ends) limit more h are = (are.0, AreEnds-le end ends limit more h are.1)

pub AreEnds-append : (from : ℕ) (ends : List ℕ) (end limit : ℕ) → AreEnds from ends (last_end from ends) → last_end from ends ≤ end → end ≤ limit → AreEnds from (ends ++ end ∷ []) limit
AreEnds-append from [] end limit are h k = (h, k)
AreEnds-append from (first ∷ ends) end limit are h k = (are.0, AreEnds-append first ends end limit are.1 h k)

-- the bytes up to the last end, and any behind them
pub texts_kept : (ends bytes more : List ℕ) → AreEnds 0 ends (length bytes) → texts_from 0 ends (take (last_end 0 ends) bytes ++ more) ≡ texts_from 0 ends bytes
texts_kept ends bytes more are =
    let end = last_end 0 ends in
    let front = take end bytes in
    let len : length front ≡ end = length-take-le end bytes (last_end-le 0 ends (length bytes) are) in
    let ends_are : AreEnds 0 ends (length front) = rw len (AreEnds-last 0 ends (length bytes) are) in
    texts_from-front 0 ends front more ends_are
    ∙ sym (texts_from-front 0 ends front (drop end bytes) ends_are)
    ∙ ap (texts_from 0 ends) (take-append-drop end bytes)

pub ends_kept : (ends bytes more : List ℕ) → AreEnds 0 ends (length bytes) → AreEnds 0 ends (length (take (last_end 0 ends) bytes ++ more))
ends_kept ends bytes more are =
    let end = last_end 0 ends in
    let len : length (take end bytes) ≡ end = length-take-le end bytes (last_end-le 0 ends (length bytes) are) in
    AreEnds-le 0 ends end (length (take end bytes ++ more)) (omega (arith, length-append (take end bytes) more, len)) (AreEnds-last 0 ends (length bytes) are)

-- one text more
pub text_added : (ends bytes text : List ℕ) → AreEnds 0 ends (length bytes) →
    texts_from 0 (ends ++ length (take (last_end 0 ends) bytes ++ text) ∷ []) (take (last_end 0 ends) bytes ++ text) ≡ texts_from 0 ends bytes ++ text ∷ []
text_added ends bytes text are =
    let end = last_end 0 ends in
    let front = take end bytes in
    let whole = front ++ text in
    let len : length front ≡ end = length-take-le end bytes (last_end-le 0 ends (length bytes) are) in
    let last : slice_range whole end (length whole) ≡ text =
    ap (take (length whole - end)) (drop_at front text end len) ∙ take_all (length whole - end) text (omega (arith, length-append front text, len)) in
    texts_from-append 0 ends (length whole ∷ []) whole
    ∙ ap (λ (l : List (List ℕ)). l ++ slice_range whole end (length whole) ∷ []) (texts_kept ends bytes text are)
    ∙ ap (λ (l : List ℕ). texts_from 0 ends bytes ++ l ∷ []) last

pub ends_added : (ends bytes text : List ℕ) → AreEnds 0 ends (length bytes) →
    AreEnds 0 (ends ++ length (take (last_end 0 ends) bytes ++ text) ∷ []) (length (take (last_end 0 ends) bytes ++ text))
ends_added ends bytes text are =
    let end = last_end 0 ends in
    let front = take end bytes in
    let len : length front ≡ end = length-take-le end bytes (last_end-le 0 ends (length bytes) are) in
    AreEnds-append 0 ends (length (front ++ text)) (length (front ++ text)) (AreEnds-last 0 ends (length bytes) are) (omega (arith, length-append front text, len)) (omega arith)
