-- Of a stream without a byte all flags that are left are set.
use Rattle.std.proofs.Common.{◌≡◌, ℕ, ◌+◌, ◌-◌, ◌≤◌, true, List, [], ◌++◌, replicate, Option, Ok, refl, subst, zero, suc, arith}
use Rattle.std.proofs.lemmas.List.{length-replicate}
use Rattle.outside.specs.Feed.{Taken}
use Rattle.orc_values.specs.Woven.{present_count}
use Rattle.row_flags.specs.declared.present.PresentState.TheVariants.{Empty}
use Rattle.row_flags.specs.Decoders.{PresentOf}
use Rattle.row_flags.specs.Flags.{ReadsFlags}
use Rattle.row_flags.proofs.FlagBatches.{all_set_seen}
use Rattle.row_flags.proofs.FlagsFollowing.{flags_more}

all_count : (n : ℕ) → n ≡ present_count (replicate n true)
all_count zero = refl
all_count (suc n) = omega (arith, all_count n)

pub all_left : {F : Type 0} (rest : F → ℕ → Option (List ℕ)) (fed : F → List Taken → F → Type 0) (count : F → ℕ)
    → ((first between last : F) (xs ys : List Taken) → fed first xs between → fed between ys last → fed first (xs ++ ys) last)
    → (old mid : PresentOf) (first last : F) (n all s : ℕ) → fed last [] last → mid.stream ≡ old.stream → mid.state ≡ Empty → n ≤ all
    → ReadsFlags rest fed count old mid first last n (Ok s) → ReadsFlags rest fed count old mid first last all (Ok (s + (all - n)))
all_left rest fed count joined old mid first last n all s nothing same empty within one =
    let m = all - n in
    let two = all_set_seen rest fed count mid.stream mid.state (record { stream = 0; held = mid.held; fault = mid.fault }) mid last m (replicate m true) refl empty nothing refl in
    let whole : ReadsFlags rest fed count old mid first last (n + m) (Ok (s + m)) = flags_more rest fed count joined old mid mid first last last n m s m (replicate m true) same (length-replicate m true) (all_count m) one two in
    let is : n + m ≡ all = omega (arith, within) in
    subst (λ (k : ℕ). ReadsFlags rest fed count old mid first last k (Ok (s + m))) is whole
