-- A plan is read as it is written.
use Rattle.std.proofs.Common.{◌≡◌, ℕ, suc, ◌<◌, ◌≤◌, List, [], ◌∷◌, ◌++◌, length, position, Bool, true, false, not, ◌==◌, Option, Some, None, Ok, refl, sym, ap, subst, ◌∙◌, arith, eq-eqb, le-ltb, ◌⊎◌, inl, inr, append_assoc, append-nil, length-append}
use Rattle.std.specs.List.{list_all}
use Rattle.std.specs.Str.{bytes_eq}
use Rattle.std.proofs.lemmas.Bool.Decides.{nat_tests}
use Rattle.std.proofs.lemmas.List.{map_push, get_or_at, get_or_append_left}
use Rattle.std.proofs.lemmas.List.Folds.{list_all-append}
use Rattle.plan_words.specs.Pieces.{into_first}
use Rattle.plan_words.specs.Lines.{lines_of, without_return, is_skipped}
use Rattle.plan_words.specs.Names.{is_name_byte, is_name}
use Rattle.fragment_plan.specs.declared.fragment.Fragment.{Fragment}
use Rattle.fragment_plan.specs.Fragments.{fragment_of, names_of}
use Rattle.fragment_plan.specs.Shapes.{shapes_of}
use Rattle.fragment_plan.specs.Plan.{plan_from, plan_of}
use Rattle.plan_text.specs.Written.{name_at, line_text, work_text, after_text, lines_text, plan_text}
use Rattle.plan_text.specs.Plain.{IsDistinct, ArePlain}
use Rattle.plan_text.proofs.WordsRead.{both, name_bytes}
use Rattle.plan_text.proofs.PlacesRead.{next_place, position_first, position_later, from_next}
use Rattle.plan_text.proofs.LinesRead.{fragment_read}
use Rattle.plan_text.proofs.LineBytes.{is_open, line_fit, stays}

-- ---- names of one fragment more

appended-by : {X : Type 0} (p : X → Bool) (x : X) (xs ys : List X) (k : ℕ) (t : Bool) → p x ≡ t
    → ((j : ℕ) → position p xs ≡ Some j → position p (xs ++ ys) ≡ Some j) → position p (x ∷ xs) ≡ Some k → position p (x ∷ (xs ++ ys)) ≡ Some k
appended-by p x xs ys k true t later e = position_first p x (xs ++ ys) t ∙ sym (position_first p x xs t) ∙ e
appended-by p x xs ys k false t later e =
    let j = from_next (position p xs) k (sym (position_later p x xs t) ∙ e) in
    position_later p x (xs ++ ys) t ∙ ap next_place (later j.0 j.1) ∙ ap (λ (m : ℕ). Some m) (sym j.2)

position-append : {X : Type 0} (p : X → Bool) (xs ys : List X) (k : ℕ) → position p xs ≡ Some k → position p (xs ++ ys) ≡ Some k
position-append p [] ys k e = absurd cc
position-append p (x ∷ xs) ys k e = appended-by p x xs ys k (p x) refl (λ j f. position-append p xs ys j f) e

no-next : (o : Option ℕ) → next_place o ≡ None → o ≡ None
no-next None e = refl
no-next (Some n) e = absurd cc

apart : (o : Option ℕ) (n : ℕ) → o ≡ Some n → o ≡ None → ⊥
apart o n e f = cc

new-by : {X : Type 0} (p : X → Bool) (x y : X) (xs : List X) (t : Bool) → p x ≡ t → (position p xs ≡ None → position p (xs ++ y ∷ []) ≡ Some (length xs))
    → position p (x ∷ xs) ≡ None → position p (x ∷ (xs ++ y ∷ [])) ≡ Some (suc (length xs))
new-by p x y xs true t later e = absurd (apart (position p (x ∷ xs)) 0 (position_first p x xs t) e)
new-by p x y xs false t later e =
    position_later p x (xs ++ y ∷ []) t ∙ ap next_place (later (no-next (position p xs) (sym (position_later p x xs t) ∙ e)))
    ∙ ap (λ (m : ℕ). Some m) (omega arith)

position-new : {X : Type 0} (p : X → Bool) (y : X) (xs : List X) → p y ≡ true → position p xs ≡ None → position p (xs ++ y ∷ []) ≡ Some (length xs)
position-new p y [] h e = position_first p y [] h
position-new p y (x ∷ xs) h e = new-by p x y xs (p x) refl (position-new p y xs h) e

same-bytes : (w : List ℕ) → bytes_eq w w ≡ true
same-bytes [] = refl
same-bytes (b ∷ w) = rw (eq-eqb b b refl) (same-bytes w)

distinct-by : (names : List (List ℕ)) (name : List ℕ) (k : ℕ) → IsDistinct names → position (bytes_eq name) names ≡ None → (k < length names) ⊎ (k ≡ length names)
    → position (bytes_eq (name_at (names ++ name ∷ []) k)) (names ++ name ∷ []) ≡ Some k
distinct-by names name k distinct fresh (inl lt) =
    rw (get_or_append_left names (name ∷ []) [] k lt)
    (position-append (bytes_eq (name_at names k)) names (name ∷ []) k (distinct k lt))
distinct-by names name k distinct fresh (inr is) =
    rw (get_or_at names name [] [] k (sym is))
    (position-new (bytes_eq name) name names (same-bytes name) fresh ∙ ap (λ (m : ℕ). Some m) (sym is))

distinct-push : (names : List (List ℕ)) (name : List ℕ) → IsDistinct names → position (bytes_eq name) names ≡ None → IsDistinct (names ++ name ∷ [])
distinct-push names name distinct fresh k h =
    let long = length-append names (name ∷ []) in
    let either : (k < length names) ⊎ (k ≡ length names) = grind (arith, long) in
    distinct-by names name k distinct fresh either

-- what the names of the fragments so far are
record Names (names : List (List ℕ)) : Type 0 where
  are : list_all is_name names ≡ true
  distinct : IsDistinct names

names-push : (names : List (List ℕ)) (name : List ℕ) → Names names → is_name name ≡ true → position (bytes_eq name) names ≡ None → Names (names ++ name ∷ [])
names-push names name so is fresh = record {
  are = list_all-append is_name names (name ∷ []) ∙ rw so.are (rw is refl);
  distinct = distinct-push names name so.distinct fresh;
}

-- ---- lines

open-by : (b : ℕ) (t : Bool) → (b == 10) ≡ t → is_open b ≡ true → (b == 10) ≡ false
open-by b true t h = let no : false ≡ true = sym (ap not t) ∙ h in absurd cc
open-by b false t h = t

first-line : (line rest : List ℕ) → list_all is_open line ≡ true → lines_of (line ++ 10 ∷ rest) ≡ line ∷ lines_of rest
first-line [] rest h = refl
first-line (b ∷ line) rest h =
    let parts = both (is_open b) (list_all is_open line) h in
    rw (open-by b (b == 10) refl parts.0) (ap (into_first b) (first-line line rest parts.1))

no-comment : (b : ℕ) → is_name_byte b ≡ true → (b == 35) ≡ false
no-comment b h = grind (arith, nat_tests)

shown-by : (w rest : List ℕ) → list_all is_name_byte w ≡ true → is_name w ≡ true → is_skipped (w ++ rest) ≡ false
shown-by [] rest h is = let no : false ≡ true = is in absurd cc
shown-by (b ∷ w) rest h is = no-comment b (both (is_name_byte b) (list_all is_name_byte w) h).0

step : (number : ℕ) (before : List Fragment) (text : List ℕ) (lines : List (List ℕ)) (one : Fragment) → without_return text ≡ text → is_skipped text ≡ false
    → fragment_of (names_of before) (shapes_of before) text ≡ Ok one → plan_from number before (text ∷ lines) ≡ plan_from (suc number) (before ++ one ∷ []) lines
step number before text lines one e f g = rw e (rw f (rw g refl))

from-read : (others before : List Fragment) (number : ℕ) → Names (names_of before) → ArePlain before others
    → plan_from number before (lines_of (lines_text before others)) ≡ Ok (before ++ others)
from-read [] before number so are = ap (λ (list : List Fragment). Ok list) (sym (append-nil before))
from-read (one ∷ others) before number so are =
    let is = are.0 in
    let text = line_text (names_of before) one in
    let fit = line_fit (names_of before) one so.are is.name_is is.work_is is.after_is in
    let grown = names-push (names_of before) one.name so is.name_is is.fresh in
    let so' = subst Names (sym (map_push (λ fragment. fragment.name) before one)) grown in
    rw (first-line text (lines_text (before ++ one ∷ []) others) fit.none)
    (step number before text (lines_of (lines_text (before ++ one ∷ []) others)) one (stays text fit.last)
    (shown-by one.name (work_text (names_of before) one.work (after_text (names_of before) one.after [])) (name_bytes one.name is.name_is) is.name_is)
    (fragment_read (names_of before) (shapes_of before) one so.are so.distinct is)
    ∙ from-read others (before ++ one ∷ []) (suc number) so' are.1
    ∙ ap (λ (list : List Fragment). Ok list) (append_assoc before (one ∷ []) others))

none-distinct : IsDistinct []
none-distinct k h = absurd (omega (arith, h))

pub plan_read : (plan : List Fragment) → ArePlain [] plan → length (plan_text plan) ≤ 1048576 → plan_of (plan_text plan) ≡ Ok plan
unfolding plan_of
plan_read plan are short =
    rw (le-ltb 1048576 (length (plan_text plan)) short)
    (from-read plan [] 1 (record { are = refl; distinct = none-distinct }) are)
