-- What is read, by the form of a run.
use Rattle.std.proofs.Common.{◌≡◌, ℕ, ◌-◌, Bool, true, false, cond, eqb, leb, List, [], ◌∷◌, length, get_or, Option, Some, None, Result, Ok, Err, ℤ, refl, arith}
use Rattle.std.proofs.lemmas.Bool.{eq-eqb, ne_eqb, le-leb}
use Rattle.outside.specs.declared.run_fault.RunFault.{RunFault}
use Rattle.outside.specs.declared.run_fault.RunFault.TheVariants.{StreamEnds, PatchOutOfRun}
use Rattle.outside.specs.Feed.{Taken}
use Rattle.outside.specs.Reading.{Reader, Reads, go_on, bind, value, mapped, byte, exactly}
use Rattle.outside.specs.Varint.{varint, varints}
use Rattle.outside.specs.CauseLaws.{Cause-none}
use Rattle.orc_integers.specs.Integers.{ramp}
use Rattle.orc_rle2.specs.IntRun2.{delta_values, magnitudes, packed, varied, or_out_of_run, above_base}
use Rattle.orc_rle2.specs.Widths.{width_of}

pub delta-fixed : (base delta : ℤ) (code count : ℕ) (bytes : List ℕ) → code ≡ 0 → mapped (delta_values base delta code count) (magnitudes code count) bytes ≡ value (ramp base delta count) bytes
delta-fixed base delta code count bytes h = let t : eqb code 0 ≡ true = eq-eqb code 0 h in rw t refl

pub delta-varied : (base delta : ℤ) (code count : ℕ) (bytes : List ℕ) → (code ≡ 0 → ⊥) → mapped (delta_values base delta code count) (magnitudes code count) bytes ≡ mapped (varied base delta count) (packed (width_of code) (count - 2)) bytes
delta-varied base delta code count bytes h = let t : eqb code 0 ≡ false = ne_eqb code 0 h in rw t refl

pub in_run : (base : ℤ) (patched : Option (List ℕ)) (numbers bytes : List ℕ) → patched ≡ Some numbers → or_out_of_run base patched bytes ≡ value (above_base base numbers) bytes
in_run base patched numbers bytes h = rw h refl

pub out_of_run : (base : ℤ) (patched : Option (List ℕ)) (bytes : List ℕ) → patched ≡ None → or_out_of_run base patched bytes ≡ Err PatchOutOfRun
out_of_run base patched bytes h = rw h refl

-- nothing more is read, and the run is refused
pub Reads-out_of_run : {F Y : Type 0} (rest : F → ℕ → Option (List ℕ)) (fed : F → List Taken → F → Type 0) (count : F → ℕ) (stream : ℕ) (nothing : (feed : F) → fed feed [] feed) (feed : F) (read : Reader Y) (fault : RunFault) →
    fault ≡ PatchOutOfRun → ((bytes : List ℕ) → read bytes ≡ Err PatchOutOfRun) → Reads rest fed count stream read feed feed (Err fault)
Reads-out_of_run rest fed count stream nothing feed read fault is broken = rw is record {
  takes = [];
  led = nothing feed;
  own = tt;
  cause = Cause-none (count feed) (λ h. h);
  told = λ bytes e. broken bytes;
}

-- ---- two in one take

two_by : {Y : Type 0} (test : Bool) (next : ℕ → ℕ → Reader Y) (a b : ℕ) (rest : List ℕ) → test ≡ true → next a b rest ≡ go_on (cond test (Ok (a ∷ b ∷ [], rest)) (Err StreamEnds)) (λ got. next (get_or got 0 0) (get_or got 1 0))
two_by true next a b rest e = refl
two_by false next a b rest e = absurd cc

pub two_bytes : {Y : Type 0} (next : ℕ → ℕ → Reader Y) (bytes : List ℕ) → bind byte (λ a. bind byte (next a)) bytes ≡ bind (exactly 2) (λ got. next (get_or got 0 0) (get_or got 1 0)) bytes
two_bytes next [] = refl
two_bytes next (a ∷ []) = refl
two_bytes next (a ∷ b ∷ rest) = two_by (leb 2 (length (a ∷ b ∷ rest))) next a b rest (le-leb 2 (length (a ∷ b ∷ rest)) (omega arith))

second_by : {Y : Type 0} (next : ℕ → ℕ → Reader Y) (a : ℕ) (read : Result (ℕ × List ℕ) RunFault) → go_on read (next a) ≡ go_on (go_on (go_on read (λ b. mapped (λ others. b ∷ others) (value []))) (λ others. value (a ∷ others))) (λ got. next (get_or got 0 0) (get_or got 1 0))
second_by next a (Ok (b, rest)) = refl
second_by next a (Err fault) = refl

first_by : {Y : Type 0} (next : ℕ → ℕ → Reader Y) (read : Result (ℕ × List ℕ) RunFault) → go_on read (λ a. bind varint (next a)) ≡ go_on (go_on read (λ a. mapped (λ others. a ∷ others) (varints 1))) (λ got. next (get_or got 0 0) (get_or got 1 0))
unfolding varints
first_by next (Ok (a, rest)) = second_by next a (varint rest)
first_by next (Err fault) = refl

pub two_varints : {Y : Type 0} (next : ℕ → ℕ → Reader Y) (bytes : List ℕ) → bind varint (λ a. bind varint (next a)) bytes ≡ bind (varints 2) (λ got. next (get_or got 0 0) (get_or got 1 0)) bytes
unfolding varints
two_varints next bytes = first_by next (varint bytes)
