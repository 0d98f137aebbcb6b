-- What a call gave of one run.
use Rattle.std.proofs.Common.{◌≡◌, ℕ, ◌<◌, List, [], ◌++◌, length, take, Option, Result, Ok, Err, refl, arith}
use Rattle.std.proofs.lemmas.List.{length-take-le}
use Rattle.outside.specs.declared.run_fault.RunFault.{RunFault}
use Rattle.outside.specs.Feed.{Taken}
use Rattle.outside.specs.Filling.{Fills}
use Rattle.outside.specs.FillingLaws.{Fills-give, Fills-run, Fills-fault}
use Rattle.outside.specs.Reading.{Reader, Reads}
use Rattle.outside.specs.Runs.{IsReaderOf}
use Rattle.orc_integers.specs.Given.{given_then_held, given_of, GivesSomeIfOk}

-- one run was read, and some of its values were given
pub Fills-one : {F V : Type 0} (rest : F → ℕ → Option (List ℕ)) (fed : F → List Taken → F → Type 0) (count : F → ℕ) (stream : ℕ)
    (nothing : (feed : F) → fed feed [] feed)
    (joined : (first between last : F) (xs ys : List Taken) → fed first xs between → fed between ys last → fed first (xs ++ ys) last)
    (Run : List ℕ → List V → Type 0) (read : Reader (List V)) → IsReaderOf Run read → (first last : F) (out held : List V) (asked : ℕ)
    → 0 < asked → length out ≡ asked → (answer : Result ℕ RunFault) → Reads rest fed count stream read first last (given_then_held out held answer)
    → GivesSomeIfOk asked held answer → Fills rest fed count Run read stream first last [] held asked (given_of out answer)
Fills-one rest fed count stream nothing joined Run read reads first last out held asked some len (Ok n) one gives =
    let values : 0 < length (take n out) = omega (arith, length-take-le n out (omega (arith, gives.within)), gives.some) in
    Fills-run rest fed count stream nothing joined Run read reads first first last [] [] (take n out ++ held) (take n out) held asked
    (Fills-give rest fed count stream nothing joined Run read reads first [] [] [] asked refl) one refl values
Fills-one rest fed count stream nothing joined Run read reads first last out held asked some len (Err fault) one gives =
    Fills-fault rest fed count stream nothing joined Run read reads first first last [] [] held asked fault
    (Fills-give rest fed count stream nothing joined Run read reads first [] [] [] asked refl) one some
