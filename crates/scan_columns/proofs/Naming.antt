-- Columns are named one after the other.
use Rattle.std.proofs.Common.{◌≡◌, ℕ, suc, ◌+◌, ◌<◌, ◌≤◌, List, [], ◌∷◌, ◌++◌, length, drop, get_or, Option, Some, None, Result, Ok, Err, refl, sym, ap, ◌∙◌, append_assoc, drop-cons, length-append, arith}
use Rattle.std.proofs.lemmas.List.{append-nil, drop_all}
use Rattle.orc_tail.specs.declared.columns.TopColumn.{TopColumn}
use Rattle.orc_tail.specs.Tail.{column_named}
use Rattle.orc_streams.specs.declared.layout.ReadColumn.{ReadColumn}
use Rattle.fragment_outcome.specs.declared.failure.Failure.{Failure}
use Rattle.fragment_outcome.specs.declared.failure.Failure.TheVariants as failure
use Rattle.fragment_meaning.specs.ScanColumns.{columns_named, with_named}
use Rattle.scan_columns.specs.Found.{read_as, or_missing}

abbrev pub Found : Type 0
Found = Result (List ReadColumn) (List ℕ)

abbrev found_ok : List ReadColumn → Found
found_ok columns = Ok columns

abbrev judged_err : Failure → Result (List ReadColumn) Failure
judged_err why = Err why

abbrev judged_ok : List ReadColumn → Result (List ReadColumn) Failure
judged_ok columns = Ok columns

-- columns in front of those that are found, or the name that is missing
abbrev pub behind : List ReadColumn → Found → Found
behind done (Ok columns) = Ok (done ++ columns)
behind done (Err name) = Err name

-- the columns of so many names were found, and are these
pub record Named (tops : List TopColumn) (names : List (List ℕ)) (count : ℕ) (done : List ReadColumn) : Type 0 where
  pub width : length done ≡ count
  pub are : columns_named tops names ≡ behind done (columns_named tops (drop count names))

none_done : (found : Found) → found ≡ behind [] found
none_done (Ok columns) = refl
none_done (Err name) = refl

pub named_none : (tops : List TopColumn) (names : List (List ℕ)) → Named tops names 0 []
named_none tops names = record { width = refl; are = none_done (columns_named tops names) }

pub behind_next : (name : List ℕ) (found : Option TopColumn) (rest : Found) (done : List ReadColumn) (column : ReadColumn) → read_as name found ≡ Ok column
    → behind done (with_named name found rest) ≡ behind (done ++ column ∷ []) rest
behind_next name None rest done column is = absurd cc
behind_next name (Some top) (Err later) done column is = refl
behind_next name (Some top) (Ok columns) done column is =
    let same : record { number = top.number; kind = top.kind } ≡ column = cc in
    ap (λ (c : ReadColumn). found_ok (done ++ c ∷ columns)) same ∙ ap found_ok (sym (append_assoc done (column ∷ []) columns))

pub missing_stops : (name : List ℕ) (found : Option TopColumn) (rest : Found) (done : List ReadColumn) (why : Failure) → read_as name found ≡ Err why
    → or_missing (behind done (with_named name found rest)) ≡ Err why
missing_stops name None rest done why is = let same : failure.NoColumn name ≡ why = cc in ap judged_err same
missing_stops name (Some top) rest done why is = absurd cc

next_is : (n : ℕ) → suc n ≡ n + 1
next_is n = omega arith

pub left : (names : List (List ℕ)) (count : ℕ) (name : List ℕ) → count < length names → name ≡ get_or names count name → drop count names ≡ name ∷ drop (count + 1) names
left names count name within at = drop-cons names count name within ∙ ap (λ (n : List ℕ). n ∷ drop (suc count) names) (sym at) ∙ ap (λ (k : ℕ). name ∷ drop k names) (next_is count)

-- one column more
pub named_next : (tops : List TopColumn) (names : List (List ℕ)) (count : ℕ) (done : List ReadColumn) (name : List ℕ) (column : ReadColumn) → count < length names
    → name ≡ get_or names count name → read_as name (column_named name tops) ≡ Ok column → Named tops names count done → Named tops names (count + 1) (done ++ column ∷ [])
named_next tops names count done name column within at is so_far = record {
  width = length-append done (column ∷ []) ∙ ap (λ (n : ℕ). n + 1) so_far.width;
  are = so_far.are ∙ ap (λ (left : List (List ℕ)). behind done (columns_named tops left)) (left names count name within at) ∙ behind_next name (column_named name tops) (columns_named tops (drop (count + 1) names)) done column is;
}

pub named_stops : (tops : List TopColumn) (names : List (List ℕ)) (count : ℕ) (done : List ReadColumn) (name : List ℕ) (why : Failure) → count < length names
    → name ≡ get_or names count name → read_as name (column_named name tops) ≡ Err why → Named tops names count done → or_missing (columns_named tops names) ≡ Err why
named_stops tops names count done name why within at is so_far =
    ap or_missing (so_far.are ∙ ap (λ (rest : List (List ℕ)). behind done (columns_named tops rest)) (left names count name within at))
    ∙ missing_stops name (column_named name tops) (columns_named tops (drop (count + 1) names)) done why is

pub named_all : (tops : List TopColumn) (names : List (List ℕ)) (count : ℕ) (done : List ReadColumn) → length names ≤ count → Named tops names count done
    → or_missing (columns_named tops names) ≡ Ok done
named_all tops names count done all so_far =
    ap or_missing (so_far.are ∙ ap (λ (rest : List (List ℕ)). behind done (columns_named tops rest)) (drop_all count names all)) ∙ ap judged_ok (append-nil done)
