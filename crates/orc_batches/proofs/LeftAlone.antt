-- A round of other columns leaves a column's streams as they are.
use Rattle.std.proofs.Common.{◌≡◌, ℕ, List, [], ◌∷◌, ◌++◌, Option, Some, None, inl, inr}
use Rattle.outside.specs.Feed.{Taken}
use Rattle.orc_columns.specs.declared.plan.ColumnPlan.{ColumnPlan}
use Rattle.orc_columns.specs.declared.spelling.Spelling.{Spelling}
use Rattle.orc_columns.specs.declared.spelling.Spelling.TheVariants.{Bits, Integers, Texts, Dictionary}
use Rattle.orc_columns.specs.Column.{Streams}
use Rattle.orc_columns.specs.Draws.{IsOfPlan, AllOfPlan, Tells}
use Rattle.orc_columns.specs.Laws.{IsNoneOf, LeaveAColumn, LeaveAStream}
use Rattle.orc_columns.specs.Spelling.{spelling_of}
use Rattle.orc_columns.specs.Turns.{InTurn, batch_by, batch_streams}
use Rattle.orc_batches.specs.Batches.{ApartFrom, round_of, TellsEach}

is_none_joined : (xs ys : List (Option ℕ)) (which : Option ℕ) → IsNoneOf xs which → IsNoneOf ys which → IsNoneOf (xs ++ ys) which
is_none_joined [] ys which one other = other
is_none_joined (x ∷ xs) ys which one other = (one.0, is_none_joined xs ys which one.1 other)

-- a stream that is none of a column's is none of its batches'
none_of_batch : (q : ColumnPlan) (spelling : Option Spelling) (which : Option ℕ) → ((n : ℕ) → IsOfPlan q n → which ≡ Some n → ⊥) → IsNoneOf (batch_by q spelling) which
none_of_batch q None which out = tt
none_of_batch q (Some Bits) which out = (λ n is w. out n (inl is) w, (λ n is w. out n (inr (inl is)) w, tt))
none_of_batch q (Some (Integers version)) which out = (λ n is w. out n (inl is) w, (λ n is w. out n (inr (inl is)) w, tt))
none_of_batch q (Some (Texts version)) which out =
    (λ n is w. out n (inl is) w, (λ n is w. out n (inr (inr (inl is))) w, (λ n is w. out n (inr (inl is)) w, tt)))
none_of_batch q (Some (Dictionary version)) which out = (λ n is w. out n (inl is) w, (λ n is w. out n (inr (inl is)) w, tt))

-- a column's stream is none of a round of columns that it is apart from
none_of_round : (p : ColumnPlan) (qs : List ColumnPlan) (which : Option ℕ) → ((n : ℕ) → which ≡ Some n → IsOfPlan p n) → ApartFrom p qs → IsNoneOf (round_of qs) which
none_of_round p [] which of apart = tt
none_of_round p (q ∷ qs) which of apart = is_none_joined (batch_streams q) (round_of qs) which
    (none_of_batch q (spelling_of q.kind q.encoding) which (λ n is w. apart.0 n (of n w) is)) (none_of_round p qs which of apart.1)

module _ {F : Type 0} (rest : F → ℕ → Option (List ℕ)) (fed : F → List Taken → F → Type 0) where
  pub round_leaves : LeaveAStream rest fed → (p : ColumnPlan) (qs : List ColumnPlan) (s : Streams) (first last : F) (takes : List Taken) → ApartFrom p qs
      → InTurn (round_of qs) takes → fed first takes last → Tells rest first p s → Tells rest last p s
  round_leaves leave p qs s first last takes apart turns led tells = record {
    present = leave (round_of qs) p.present s.present first last takes (none_of_round p qs p.present (λ n e. inl e) apart) turns led tells.present;
    body = leave (round_of qs) p.body s.body first last takes (none_of_round p qs p.body (λ n e. inr (inl e)) apart) turns led tells.body;
    lengths = leave (round_of qs) p.length s.lengths first last takes (none_of_round p qs p.length (λ n e. inr (inr (inl e))) apart) turns led tells.lengths;
    dictionary = leave (round_of qs) p.dictionary s.dictionary first last takes (none_of_round p qs p.dictionary (λ n e. inr (inr (inr e))) apart) turns led tells.dictionary;
  }

  -- and a column's takes leave the streams of the columns that it is apart from
  pub column_leaves : LeaveAColumn rest fed → (p : ColumnPlan) (qs : List ColumnPlan) (ss : List Streams) (first last : F) (takes : List Taken) → ApartFrom p qs
      → AllOfPlan p takes → fed first takes last → TellsEach rest first qs ss → TellsEach rest last qs ss
  column_leaves leave p [] [] first last takes apart own led tells = tt
  column_leaves leave p [] (s ∷ ss) first last takes apart own led tells = absurd tells
  column_leaves leave p (q ∷ qs) [] first last takes apart own led tells = absurd tells
  column_leaves leave p (q ∷ qs) (s ∷ ss) first last takes apart own led tells =
      (leave p q s first last takes apart.0 own led tells.0, column_leaves leave p qs ss first last takes apart.1 own led tells.1)
