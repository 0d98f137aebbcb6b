-- The integers of a whole stream, batch by batch.
use Rattle.std.proofs.Common.{◌≡◌, ℕ, ◌+◌, ◌≤◌, List, [], ◌++◌, length, Option, Ok, Err, ℤ, refl, sym, ◌∙◌, ap, arith, length-append}
use Rattle.std.specs.Prelude.{max, All, FitsSigned}
use Rattle.std.proofs.lemmas.List.Elements.{All-nil, All-append}
use Rattle.std.specs.Int.{w64, cast_unsigned}
use Rattle.std.proofs.lemmas.List.Sums.{fold-append}
use Rattle.outside.specs.declared.run_fault.RunFault.{RunFault}
use Rattle.outside.specs.Feed.{Taken}
use Rattle.outside.specs.Reading.{Reader}
use Rattle.orc_columns.specs.declared.numbers.Summary.{Summary}
use Rattle.orc_columns.specs.Numbers.{ReadsNumbers, total_from, bound_from, summary_of}
use Rattle.row_flags.specs.Optional.{FillsIn}
use Rattle.row_flags.specs.FollowingLaws.{fills_none, fills_more, fills_fault}

summary_more : (s t : Summary) (numbers out : List ℤ) → s ≡ summary_of numbers → t.total ≡ total_from s.total out → t.bound ≡ bound_from s.bound out → t ≡ summary_of (numbers ++ out)
summary_more s t numbers out is total bound =
    let total_is : t.total ≡ total_from 0 (numbers ++ out) = total ∙ ap (λ (u : Summary). total_from u.total out) is ∙ sym (fold-append (λ (t : ℕ) (n : ℤ). t + cast_unsigned w64 n) 0 numbers out) in
    let bound_is : t.bound ≡ bound_from 0 (numbers ++ out) = bound ∙ ap (λ (u : Summary). bound_from u.bound out) is ∙ sym (fold-append (λ (b : ℕ) (n : ℤ). max b (cast_unsigned w64 n + 1)) 0 numbers out) in
    let made : ℕ → ℕ → Summary = λ a b. record { total = a; bound = b } in
    ap (λ (a : ℕ). made a t.bound) total_is ∙ ap (λ (b : ℕ). made (total_from 0 (numbers ++ out)) b) bound_is

module _ {F : Type 0} (rest : F → ℕ → Option (List ℕ)) (fed : F → List Taken → F → Type 0) (count : F → ℕ) (Form : List ℕ → List ℤ → Type 0) (read : Reader (List ℤ)) where
  pub reads_none : (stream : Option ℕ) (feed : F) (held : List ℤ) → fed feed [] feed → ReadsNumbers rest fed count Form read stream feed feed held held 0 (Ok (record { total = 0; bound = 0 }))
  reads_none stream feed held nothing = record {
    numbers = [];
    fills = fills_none rest fed count Form read stream feed held nothing;
    summary = (refl, refl, All-nil (FitsSigned w64));
  }

  module _ (joined : (first between last : F) (xs ys : List Taken) → fed first xs between → fed between ys last → fed first (xs ++ ys) last) where
    pub reads_more : (stream : Option ℕ) (first between last : F) (before held after : List ℤ) (n m : ℕ) (s t : Summary) (out : List ℤ)
        → length out ≡ m → t.total ≡ total_from s.total out → t.bound ≡ bound_from s.bound out → All (FitsSigned w64) out
        → ReadsNumbers rest fed count Form read stream first between before held n (Ok s) → FillsIn rest fed count Form read stream between last held after m (Ok out)
        → ReadsNumbers rest fed count Form read stream first last before after (n + m) (Ok t)
    reads_more stream first between last before held after n m s t out len total bound fit one two = record {
      numbers = one.numbers ++ out;
      fills = fills_more rest fed count Form read joined stream first between last before held after n m one.numbers out one.fills two;
      summary = (omega (arith, length-append one.numbers out, one.summary.0, len), summary_more s t one.numbers out one.summary.1 total bound, All-append (FitsSigned w64) one.numbers out one.summary.2 fit);
    }

    pub reads_fault : (stream : Option ℕ) (first between last : F) (before held after : List ℤ) (n m all : ℕ) (s : Summary) (fault : RunFault) → n + m ≤ all
        → ReadsNumbers rest fed count Form read stream first between before held n (Ok s) → FillsIn rest fed count Form read stream between last held after m (Err fault)
        → ReadsNumbers rest fed count Form read stream first last before after all (Err fault)
    reads_fault stream first between last before held after n m all s fault within one two = record {
      numbers = [];
      fills = fills_fault rest fed count Form read joined stream first between last before held after n m all one.numbers fault one.summary.0 within one.fills two;
      summary = tt;
    }
