-- Takes leave every stream that they aren't of.
use Rattle.std.proofs.Common.{◌≡◌, ℕ, ◌+◌, ◌==◌, false, List, [], ◌∷◌, ◌++◌, Option, Some, None, refl, ◌∙◌, ap, subst, arith, inl, inr}
use Rattle.outside.specs.Feed.{Taken, Lost, taken_of}
use Rattle.orc_columns.specs.declared.plan.ColumnPlan.{ColumnPlan}
use Rattle.orc_columns.specs.Draws.{IsOfPlan, AllOfPlan, Differ}
use Rattle.orc_columns.specs.Laws.{IsNoneOf, LeaveAColumn, LeaveAStream}
use Rattle.row_flags.specs.Optional.{rest_in, AllIn}
use Rattle.orc_columns.specs.Turns.{InTurn}
use Rattle.orc_columns.proofs.Drawing.{none_lost, none_taken}

not_same : (a b : ℕ) → (b ≡ a → ⊥) → (b == a) ≡ false
not_same a b differ = grind (arith, differ)

none_of_plan : (plan : ColumnPlan) (stream : ℕ) (takes : List Taken) → (IsOfPlan plan stream → ⊥) → AllOfPlan plan takes → taken_of stream takes ≡ 0
none_of_plan plan stream [] out all = refl
none_of_plan plan stream (t ∷ takes) out all =
    let other : (t.stream == stream) ≡ false = not_same stream t.stream (λ e. out (subst (λ (s : ℕ). IsOfPlan plan s) e all.0)) in
    rw other (omega (arith, none_of_plan plan stream takes out all.1))

taken_of-joined : (stream : ℕ) (xs ys : List Taken) → taken_of stream (xs ++ ys) ≡ taken_of stream xs + taken_of stream ys
taken_of-joined stream [] ys = omega arith
taken_of-joined stream (x ∷ xs) ys = omega (arith, taken_of-joined stream xs ys)

none_in : (which : Option ℕ) (stream : ℕ) (takes : List Taken) → Differ which (Some stream) → AllIn which takes → taken_of stream takes ≡ 0
none_in None stream takes differ none = ap (λ (ts : List Taken). taken_of stream ts) none
none_in (Some other) stream takes differ all = none_taken other stream takes (λ e. differ stream (ap (λ (n : ℕ). Some n) e) refl) all

none_in_turn : (streams : List (Option ℕ)) (stream : ℕ) (takes : List Taken) → IsNoneOf streams (Some stream) → InTurn streams takes → taken_of stream takes ≡ 0
none_in_turn [] stream takes out none = ap (λ (ts : List Taken). taken_of stream ts) none
none_in_turn (which ∷ streams) stream takes out (front, back, parts, all, more) =
    ap (λ (ts : List Taken). taken_of stream ts) parts ∙ taken_of-joined stream front back
    ∙ omega (arith, none_in which stream front out.0 all, none_in_turn streams stream back out.1 more)

module _ {F : Type 0} (rest : F → ℕ → Option (List ℕ)) (fed : F → List Taken → F → Type 0)
    (lost : (first last : F) (takes : List Taken) (stream : ℕ) → fed first takes last → Lost (taken_of stream takes) (rest first stream) (rest last stream)) where
  -- a stream of which nothing was taken has the bytes that it had
  kept : (which : Option ℕ) (first last : F) (takes : List Taken) (bytes : List ℕ) → fed first takes last → ((stream : ℕ) → which ≡ Some stream → taken_of stream takes ≡ 0)
      → rest_in rest first which ≡ Some bytes → rest_in rest last which ≡ Some bytes
  kept None first last takes bytes led none told = told
  kept (Some stream) first last takes bytes led none told =
      none_lost (rest first stream) (rest last stream) bytes told (subst (λ (n : ℕ). Lost n (rest first stream) (rest last stream)) (none stream refl) (lost first last takes stream led))

  pub leave_a_column : LeaveAColumn rest fed
  leave_a_column plan other s first last takes apart own led tells =
      let none : (stream : ℕ) → IsOfPlan other stream → taken_of stream takes ≡ 0 = λ stream is. none_of_plan plan stream takes (λ of. apart stream of is) own in
      record {
        present = kept other.present first last takes s.present led (λ n e. none n (inl e)) tells.present;
        body = kept other.body first last takes s.body led (λ n e. none n (inr (inl e))) tells.body;
        lengths = kept other.length first last takes s.lengths led (λ n e. none n (inr (inr (inl e)))) tells.lengths;
        dictionary = kept other.dictionary first last takes s.dictionary led (λ n e. none n (inr (inr (inr e)))) tells.dictionary;
      }

  pub leave_a_stream : LeaveAStream rest fed
  leave_a_stream streams which bytes first last takes out turns led told =
      kept which first last takes bytes led (λ stream is. none_in_turn streams stream takes (subst (λ (w : Option ℕ). IsNoneOf streams w) is out) turns) told
