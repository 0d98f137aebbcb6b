-- Lengths of texts, and how many bytes they are together.
use Rattle.std.proofs.Common.{◌≡◌, ℕ, suc, ◌+◌, Bool, false, List, [], ◌∷◌, ◌++◌, length, map, sum, Option, Ok, Err, ℤ, pos, negsuc, unsigned_abs, refl, sym, ◌∙◌, ap, subst, arith, length-append}
use Rattle.std.specs.Prelude.{Result, All, IfErr}
use Rattle.std.specs.Int.{IsNonNegative}
use Rattle.std.proofs.lemmas.List.{map-append, length-map}
use Rattle.std.proofs.lemmas.List.Elements.{Contains-append_right}
use Rattle.std.proofs.lemmas.List.Sums.{sum_by-append}
use Rattle.outside.specs.Feed.{Taken, Lost, taken_of}
use Rattle.outside.specs.Reading.{placed}
use Rattle.outside.specs.Runs.{Between, Breaks}
use Rattle.orc_columns.specs.declared.fault.ColumnFault.{ColumnFault}
use Rattle.orc_columns.specs.declared.fault.ColumnFault.TheVariants.{BadEncoding, Run, NegativeLength, LengthsPastData, IndexOutOfDictionary, Read, NoMemory}
use Rattle.orc_columns.specs.declared.plan.ColumnPlan.{ColumnPlan}
use Rattle.orc_columns.specs.declared.spelling.Version.{Version}
use Rattle.orc_columns.specs.Batches.{LengthsGoOn, LengthsBreak, LengthsRefuse, AreRefused}
use Rattle.orc_columns.specs.Column.{Streams, AreNumbers, broken, negative, past}
use Rattle.orc_columns.specs.Decoders.{IntegersOf}
use Rattle.orc_columns.specs.Draws.{Draws, Decided, IsReadError}
use Rattle.orc_columns.specs.Spelling.{IntRun, int_run}
use Rattle.orc_columns.proofs.Drawing.{Draws-ok, Draws-stops}
use Rattle.orc_columns.specs.Turns.{alone}

pub sum-append : (xs ys : List ℕ) → sum (xs ++ ys) ≡ sum xs + sum ys
sum-append xs ys = sum_by-append (λ (n : ℕ). n) xs ys

not_negative : (x : ℤ) → IsNonNegative x → pos (unsigned_abs x) ≡ x
not_negative (pos n) h = refl
not_negative (negsuc n) h = absurd h

-- numbers that aren't negative are lengths
pub lengths_are : (numbers : List ℤ) → All IsNonNegative numbers → map pos (map unsigned_abs numbers) ≡ numbers
lengths_are [] all = refl
lengths_are (x ∷ numbers) all =
    let first : pos (unsigned_abs x) ≡ x = not_negative x (all 0 (pos 0) (omega arith)) in
    let others : map pos (map unsigned_abs numbers) ≡ numbers = lengths_are numbers (λ k d h. all (suc k) d (omega arith)) in
    ap (λ (y : ℤ). y ∷ map pos (map unsigned_abs numbers)) first ∙ ap (λ (l : List ℤ). x ∷ l) others

-- lengths that were given before, and these
pub joined_lengths : (given : List ℕ) (numbers : List ℤ) → All IsNonNegative numbers → map pos given ++ numbers ≡ map pos (given ++ map unsigned_abs numbers)
joined_lengths given numbers all = ap (λ (l : List ℤ). map pos given ++ l) (sym (lengths_are numbers all)) ∙ sym (map-append pos given (map unsigned_abs numbers))

pub of_sign : (version : Version) (signed : Bool) (start : List ℕ) (given held : List ℤ) (rest : List ℕ) → signed ≡ false → Between (IntRun version false) start given held rest → Between (IntRun version signed) start given held rest
of_sign version signed start given held rest is at = rw is at

pub unsigned_of : (version : Version) (signed : Bool) (start : List ℕ) (given held : List ℤ) (rest : List ℕ) → signed ≡ false → Between (IntRun version signed) start given held rest → Between (IntRun version false) start given held rest
unsigned_of version signed start given held rest is at = rw is at at

-- the lengths of texts go on with these
pub lengths_go : (old new : IntegersOf) (b a : Streams) (numbers : List ℤ) (start given : List ℕ) → old.signed ≡ false → LengthsGoOn old new b a numbers → Between (IntRun old.version false) start (map pos given) old.held b.lengths
    → Between (IntRun old.version false) start (map pos given ++ numbers) new.held a.lengths
lengths_go old new b a numbers start given unsigned on at =
    unsigned_of old.version old.signed start (map pos given ++ numbers) new.held a.lengths unsigned (on.1 start (map pos given) (of_sign old.version old.signed start (map pos given) old.held b.lengths unsigned at))

-- a run of LENGTH is faulty
pub lengths_break : (old : IntegersOf) (n room : ℕ) (b : Streams) (fault : ColumnFault) → old.signed ≡ false → LengthsBreak old n b fault → LengthsRefuse old n room b fault
lengths_break old n room b fault unsigned breaks start given at =
    let here : Breaks (IntRun old.version old.signed) (int_run old.version old.signed) start (length (map pos given) + n) breaks.0 = breaks.2 start (map pos given) (of_sign old.version old.signed start (map pos given) old.held b.lengths unsigned at) in
    let as_unsigned : Breaks (IntRun old.version false) (int_run old.version false) start (length (map pos given) + n) breaks.0 = subst (λ (s : Bool). Breaks (IntRun old.version s) (int_run old.version s) start (length (map pos given) + n) breaks.0) unsigned here in
    let len : length (map pos given) + n ≡ length given + n = omega (arith, length-map given pos) in
    rw breaks.1 (broken (subst (λ (k : ℕ). Breaks (IntRun old.version false) (int_run old.version false) start k breaks.0) len as_unsigned))

-- a length is negative, or they are too many bytes
refused : (old new : IntegersOf) (n room : ℕ) (b a : Streams) (numbers : List ℤ) (fault : ColumnFault) → old.signed ≡ false → length numbers ≡ n → AreRefused numbers room fault → LengthsGoOn old new b a numbers → Decided (LengthsRefuse old n room b) fault
refused old new n room b a numbers BadEncoding unsigned len are on = absurd are
refused old new n room b a numbers (Run name fault) unsigned len are on = absurd are
refused old new n room b a numbers IndexOutOfDictionary unsigned len are on = absurd are
refused old new n room b a numbers (Read failed) unsigned len are on = tt
refused old new n room b a numbers NoMemory unsigned len are on = tt
refused old new n room b a numbers NegativeLength unsigned len are on = λ start given at.
    let all : List ℤ = map pos given ++ numbers in
    negative all are.0 (omega (arith, length-append (map pos given) numbers, length-map given pos)) (a.lengths, (new.held, lengths_go old new b a numbers start given unsigned on at)) (Contains-append_right (map pos given) numbers are.0 are.1) are.2
refused old new n room b a numbers LengthsPastData unsigned len are on = λ start given at.
    let more : List ℕ = map unsigned_abs numbers in
    let spelled : AreNumbers old.version false start (map pos given ++ numbers) = (a.lengths, (new.held, lengths_go old new b a numbers start given unsigned on at)) in
    past (given ++ more) (omega (arith, length-append given more, length-map numbers unsigned_abs)) (subst (λ (l : List ℤ). AreNumbers old.version false start l) (joined_lengths given numbers are.0) spelled) (omega (arith, sum-append given more, are.1))

no_read : (numbers : List ℤ) (room : ℕ) (fault : ColumnFault) → AreRefused numbers room fault → IsReadError fault → ⊥
no_read numbers room (Read failed) are is = are
no_read numbers room NoMemory are is = is
no_read numbers room BadEncoding are is = is
no_read numbers room (Run name fault) are is = is
no_read numbers room NegativeLength are is = is
no_read numbers room LengthsPastData are is = is
no_read numbers room IndexOutOfDictionary are is = is

module _ {F : Type 0} (rest : F → ℕ → Option (List ℕ)) (fed : F → List Taken → F → Type 0) (count : F → ℕ) (plan : ColumnPlan)
    (lost : (first last : F) (takes : List Taken) (stream : ℕ) → fed first takes last → Lost (taken_of stream takes) (rest first stream) (rest last stream))
    (nothing : (feed : F) → fed feed [] feed) (joined : (first between last : F) (xs ys : List Taken) → fed first xs between → fed between ys last → fed first (xs ++ ys) last)
    (old new : IntegersOf) (n room : ℕ) (first last : F) where
  -- lengths that were read are judged
  pub lengths_judged : (numbers : List ℤ) (answer : Result ℕ ColumnFault) → old.signed ≡ false → length numbers ≡ n → IfErr answer (AreRefused numbers room)
      → Draws rest fed count plan (alone plan.length) first last (LengthsGoOn old new) (LengthsBreak old n) (Ok numbers) → Draws rest fed count plan (alone plan.length) first last (LengthsGoOn old new) (LengthsRefuse old n room) (placed numbers answer)
  lengths_judged numbers (Ok total) unsigned len are d =
      Draws-ok rest fed count plan lost nothing joined first last (LengthsGoOn old new) (LengthsGoOn old new) (LengthsBreak old n) (LengthsRefuse old n room) numbers numbers (λ b a tells goes. goes) d
  lengths_judged numbers (Err fault) unsigned len are d =
      Draws-stops rest fed count plan lost nothing joined first last (LengthsGoOn old new) (LengthsGoOn old new) (LengthsBreak old n) (LengthsRefuse old n room) numbers fault (no_read numbers room fault are)
      (λ b a tells goes. refused old new n room b a numbers fault unsigned len are goes) d
