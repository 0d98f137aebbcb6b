-- Rows of a batch that pass one test more.
use Rattle.std.proofs.Common.{◌≡◌, ◌&&◌, ℕ, zero, suc, ◌+◌, ◌<◌, Bool, true, false, List, [], ◌∷◌, ◌++◌, length, map, take, get_or, replicate, refl, sym, ◌∙◌, ap}
use Rattle.std.proofs.lemmas.List.{take_more}
use Rattle.orc_values.specs.declared.value.Value.{Value}
use Rattle.fragment_plan.specs.declared.test.Test.{Test}
use Rattle.batch_masks.specs.Checks.{check_holds}
use Rattle.batch_masks.specs.Kept.{both}
use Rattle.batch_masks.specs.Rows.{field, passes, rows_of, rows_from}
use Rattle.batch_masks.specs.RowsLaws.{column_of_rows}
use Rattle.batch_masks.proofs.Masks.{and_assoc}

passes-push : (tests : List Test) (t : Test) (row : List Value) → passes (tests ++ t ∷ []) row ≡ (passes tests row && check_holds t.check (field row t.column))
passes-push [] t row = and-true (check_holds t.check (field row t.column))
  where
    and-true : (b : Bool) → (b && true) ≡ b
    and-true true = refl
    and-true false = refl
passes-push (s ∷ tests) t row =
    ap (λ (b : Bool). check_holds s.check (field row s.column) && b) (passes-push tests t row)
    ∙ sym (and_assoc (check_holds s.check (field row s.column)) (passes tests row) (check_holds t.check (field row t.column)))

rows-push : (tests : List Test) (t : Test) (rows : List (List Value))
    → both (map (passes tests) rows) (map (check_holds t.check) (map (λ row. field row t.column) rows)) ≡ map (passes (tests ++ t ∷ [])) rows
rows-push tests t [] = refl
rows-push tests t (row ∷ rows) =
    ap (λ (b : Bool). b ∷ both (map (passes tests) rows) (map (check_holds t.check) (map (λ row. field row t.column) rows))) (sym (passes-push tests t row))
    ∙ ap (λ (l : List Bool). passes (tests ++ t ∷ []) row ∷ l) (rows-push tests t rows)

-- no test: every row passes
pub passes-none : (k n : ℕ) (columns : List (List Value)) → replicate n true ≡ map (passes []) (rows_from k n columns)
passes-none k zero columns = refl
passes-none k (suc n) columns = ap (λ (l : List Bool). true ∷ l) (passes-none (k + 1) n columns)

-- one test more
pub passes_more : (tests : List Test) (i n : ℕ) (d : Test) (columns : List (List Value)) (mask : List Bool) → i < length tests
    → (get_or tests i d).column < length columns → length (get_or columns (get_or tests i d).column []) ≡ n
    → mask ≡ map (passes (take i tests)) (rows_of n columns)
    → both mask (map (check_holds (get_or tests i d).check) (get_or columns (get_or tests i d).column [])) ≡ map (passes (take (i + 1) tests)) (rows_of n columns)
passes_more tests i n d columns mask lt within len is =
    let t = get_or tests i d in
    ap (λ (l : List Bool). both l (map (check_holds t.check) (get_or columns t.column []))) is
    ∙ ap (λ (l : List Value). both (map (passes (take i tests)) (rows_of n columns)) (map (check_holds t.check) l)) (sym (column_of_rows columns n t.column within len))
    ∙ rows-push (take i tests) t (rows_of n columns)
    ∙ ap (λ (l : List Test). map (passes l) (rows_of n columns)) (sym (take_more tests i d lt))
