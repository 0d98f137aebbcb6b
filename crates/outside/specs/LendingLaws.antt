-- Laws of reading in place: steps on bytes that are lent, and that a call which passes over them has read them. Source: this
-- project's own.
use Rattle.std.proofs.Common.{◌≡◌, ℕ, ◌+◌, ◌-◌, ◌<◌, ◌≤◌, Bool, true, leb, eqb, cond, List, [], ◌∷◌, ◌++◌, length, take, drop, Option, Some, None, Result, Ok, Err, refl, sym, ap, subst, ◌∙◌, arith, append_assoc, append-nil, length-append, length-drop, drop-drop}
use Rattle.std.specs.Prelude.{IfSome}
use Rattle.std.proofs.Math.Seq.{drop-append-add}
use Rattle.std.proofs.lemmas.List.{take-append-drop}
use Rattle.std.proofs.lemmas.Bool.{eq-eqb, le-leb}
use Rattle.outside.specs.declared.failed.Failed.{Failed}
use Rattle.outside.specs.declared.run_fault.RunFault.{RunFault}
use Rattle.outside.specs.declared.run_fault.RunFault.TheVariants.{StreamEnds, LongVarint, PatchOutOfRun, PatchTooWide, Read}
use Rattle.outside.specs.CauseLaws.{Cause-then}
use Rattle.outside.specs.Feed.{Taken, Lost, IsFront, gave, taken_of}
use Rattle.outside.specs.Reading.{Reader, bind, value, mapped, Faults, Reads, placed}
use Rattle.outside.specs.ReadingLaws.{read_is, AllOf-append}
use Rattle.outside.specs.Runs.{Between, IsReaderOf}
use Rattle.outside.specs.RunLaws.{Between-run}
use Rattle.outside.specs.Filling.{BreaksWith, Fills}
use Rattle.outside.specs.Lending.{ReadsIn, FillsIn, skipped}

-- ---- on bytes

-- nothing is read
pub ReadsIn-value : {Y : Type 0} (y : Y) (bytes : List ℕ) → ReadsIn (value y) bytes y bytes
ReadsIn-value y bytes = record { front = []; parts = refl; reads = λ more. refl }

-- a value is read, and then another by it
pub ReadsIn-then : {X Y : Type 0} (read : Reader X) (next : X → Reader Y) {bytes between left : List ℕ} {x : X} {y : Y}
    → ReadsIn read bytes x between → ReadsIn (next x) between y left → ReadsIn (bind read next) bytes y left
ReadsIn-then read next {bytes} {between} {left} {x} {y} one two = record {
  front = one.front ++ two.front;
  parts = one.parts ∙ ap (λ (l : List ℕ). one.front ++ l) two.parts ∙ sym (append_assoc one.front two.front left);
  reads = λ more. ap (bind read next) (append_assoc one.front two.front more)
      ∙ rw (one.reads (two.front ++ more)) (two.reads more);
}

-- what is read, seen by a function
pub ReadsIn-map : {X Y : Type 0} (read : Reader X) (f : X → Y) {bytes left : List ℕ} {x : X} → ReadsIn read bytes x left
    → ReadsIn (mapped f read) bytes (f x) left
ReadsIn-map read f {x = x} one = ReadsIn-then read (λ x. value (f x)) one (ReadsIn-value (f x) _)

-- two readers that agree
pub ReadsIn-same : {Y : Type 0} (read other : Reader Y) {bytes left : List ℕ} {y : Y} → ((bytes : List ℕ) → read bytes ≡ other bytes)
    → ReadsIn other bytes y left → ReadsIn read bytes y left
ReadsIn-same read other same one = record {
  front = one.front;
  parts = one.parts;
  reads = λ more. same (one.front ++ more) ∙ one.reads more;
}

-- no run
pub FillsIn-none : {V : Type 0} (Run : List ℕ → List V → Type 0) (bytes : List ℕ) → FillsIn Run bytes [] [] bytes
FillsIn-none Run bytes = record {
  front = [];
  parts = refl;
  spells = λ start more earlier at. rw append-nil at;
}

-- runs, and then one more, of which at least one value is given
pub FillsIn-run : {V : Type 0} (Run : List ℕ → List V → Type 0) (read : Reader (List V)) → IsReaderOf Run read
    → (bytes between left : List ℕ) (given values more held : List V) → FillsIn Run bytes given [] between
    → ReadsIn read between values left → values ≡ more ++ held → 0 < length more → FillsIn Run bytes (given ++ more) held left
FillsIn-run Run read reads bytes between left given values more held one two is some = record {
  front = one.front ++ two.front;
  parts = one.parts ∙ ap (λ (l : List ℕ). one.front ++ l) two.parts ∙ sym (append_assoc one.front two.front left);
  spells = λ start after earlier at.
      let run = reads.only (two.front ++ after) after values (two.reads after) in
      let run_is : Run run.0 (more ++ held) = subst (λ v. Run run.0 v) is run.1 in
      let at' : Between Run start earlier [] (one.front ++ (two.front ++ after)) =
      subst (λ (l : List ℕ). Between Run start earlier [] l) (append_assoc one.front two.front after) at in
      rw (← append_assoc earlier given more) (Between-run Run start (two.front ++ after) run.0 after (earlier ++ given) more held
      (one.spells start (two.front ++ after) earlier at') run_is run.2 some);
}

-- ---- on a feed

-- nothing is said of what was passed over, and this is what is left
abbrev left_with : List ℕ → Result (Unit {0} × List ℕ) RunFault
left_with rest = Ok (tt, rest)

-- what one take of a stream took of it
taken_one : (stream len : ℕ) → taken_of stream (gave stream len ∷ []) ≡ len
taken_one stream len = let e : eqb stream stream ≡ true = eq-eqb stream stream refl in rw e (omega arith)

-- what is passed over, where there are so many bytes
pub skipped-is : (count : ℕ) (bytes : List ℕ) → count ≤ length bytes → skipped count bytes ≡ Ok (tt, drop count bytes)
skipped-is count bytes h = let e : leb count (length bytes) ≡ true = le-leb count (length bytes) h in rw e refl

pub skipped-none : (bytes : List ℕ) → skipped 0 bytes ≡ value tt bytes
skipped-none bytes = skipped-is 0 bytes (omega arith)

skipped_by : (test : Bool) (xs ys : List ℕ) → xs ≡ ys
    → cond test (left_with xs) (Err StreamEnds) ≡ cond test (left_with ys) (Err StreamEnds)
skipped_by test xs ys e = ap (λ (l : List ℕ). cond test (left_with l) (Err StreamEnds)) e

-- some bytes, and then the others
pub skipped-more : (count len : ℕ) (bytes : List ℕ) → len ≤ count → len ≤ length bytes
    → skipped count bytes ≡ skipped (count - len) (drop len bytes)
skipped-more count len bytes h k =
    let test : leb (count - len) (length (drop len bytes)) ≡ leb count (length bytes) = grind (arith, length-drop len bytes) in
    let is : len + (count - len) ≡ count = omega arith in
    let behind : drop count bytes ≡ drop (count - len) (drop len bytes) =
    ap (λ (n : ℕ). drop n bytes) (sym is) ∙ sym (drop-drop (count - len) len bytes) in
    rw test (skipped_by (leb count (length bytes)) (drop count bytes) (drop (count - len) (drop len bytes)) behind)

Lost-told : (n : ℕ) (before after : Option (List ℕ)) (whole : List ℕ) → before ≡ Some whole → Lost n before after
    → (n ≤ length whole) × (after ≡ Some (drop n whole))
Lost-told n None after whole e lost = absurd cc
Lost-told n (Some bytes) None whole e lost = absurd lost
Lost-told n (Some bytes) (Some rest) whole e lost =
    let same : bytes ≡ whole = cc in
    let left : rest ≡ drop n whole = lost.1 ∙ ap (drop n) same in
    (omega (arith, lost.0, ap length same), ap (λ (l : List ℕ). Some l) left)

-- a front of what was told, and how the whole goes on
front_told : (before : Option (List ℕ)) (lent whole : List ℕ) → before ≡ Some whole → IfSome before (IsFront lent)
    → whole ≡ lent ++ drop (length lent) whole
front_told None lent whole e front = absurd cc
front_told (Some bytes) lent whole e front =
    let same : bytes ≡ whole = cc in
    let is : lent ≡ take (length lent) whole = rw same at front in
    sym (ap (λ (l : List ℕ). l ++ drop (length lent) whole) is ∙ take-append-drop (length lent) whole)

-- what a call that passed over a front of told bytes did
passed_over : (front left lent whole : List ℕ) → lent ≡ front ++ left → whole ≡ lent ++ drop (length lent) whole
    → (more : List ℕ) × (whole ≡ front ++ more) × (skipped (length lent - length left) whole ≡ Ok (tt, more))
passed_over front left lent whole parts is =
    let more = left ++ drop (length lent) whole in
    let whole_is : whole ≡ front ++ more = is ∙ ap (λ (l : List ℕ). l ++ drop (length lent) whole) parts
    ∙ append_assoc front left (drop (length lent) whole) in
    let count : length lent - length left ≡ length front = omega (arith, ap length parts, length-append front left) in
    let fits : length front ≤ length whole = omega (arith, ap length whole_is, length-append front more) in
    let behind : drop (length front) whole ≡ more = ap (drop (length front)) whole_is ∙ drop_front front more in
    (more, whole_is, rw (count, ← behind) (skipped-is (length front) whole fits))
  where
    drop_front : (xs ys : List ℕ) → drop (length xs) (xs ++ ys) ≡ ys
    drop_front xs ys =
        let e : length xs + 0 ≡ length xs = omega arith in
        ap (λ (n : ℕ). drop n (xs ++ ys)) (sym e) ∙ drop-append-add xs ys 0

-- a call that reads what is there finds no fault but that of the feed
no_fault : {Y : Type 0} (fault : RunFault) (read : Result (Y × List ℕ) RunFault) (p : Y × List ℕ) → read ≡ Ok p → Faults fault read
    → (failed : Failed) × (fault ≡ Read failed)
no_fault (Read failed) read p is faults = (failed, refl)
no_fault StreamEnds read p is faults = absurd cc
no_fault LongVarint read p is faults = absurd cc
no_fault PatchOutOfRun read p is faults = absurd cc
no_fault PatchTooWide read p is faults = absurd cc

-- what was left where bytes were passed over is one
left_is : (xs ys : List ℕ) → left_with xs ≡ left_with ys → xs ≡ ys
left_is xs ys e = ap (λ (p : Unit {0} × List ℕ). p.1) (read_is (tt, xs) (tt, ys) e)

-- the runs break, where the feed failed
failed_breaks : {V : Type 0} (Run : List ℕ → List V → Type 0) (read : Reader (List V)) (start : List ℕ) (count : ℕ) (fault : RunFault)
    → ((failed : Failed) × (fault ≡ Read failed)) → BreaksWith Run read start count fault
failed_breaks Run read start count fault (failed, is) = rw is tt

failed_faults : {Y : Type 0} (fault : RunFault) (read : Result (Y × List ℕ) RunFault) → ((failed : Failed) × (fault ≡ Read failed))
    → Faults fault read
failed_faults fault read (failed, is) = rw is tt

module _ {F : Type 0} (rest : F → ℕ → Option (List ℕ)) (fed : F → List Taken → F → Type 0) (count : F → ℕ) (stream : ℕ)
    (joined : (first between last : F) (xs ys : List Taken) → fed first xs between → fed between ys last → fed first (xs ++ ys) last) where
  -- a take passed over so many bytes, and then the rest was read
  pub Reads-lost : {Y : Type 0} (first between last : F) (read other : Reader Y) (len : ℕ) (answer : Result Y RunFault)
      → fed first (gave stream len ∷ []) between → count first ≤ count between
      → Lost (taken_of stream (gave stream len ∷ [])) (rest first stream) (rest between stream)
      → ((whole : List ℕ) → len ≤ length whole → read whole ≡ other (drop len whole))
      → Reads rest fed count stream other between last answer → Reads rest fed count stream read first last answer
  Reads-lost first between last read other len answer led later lost same two = record {
    takes = gave stream len ∷ two.takes;
    led = joined first between last (gave stream len ∷ []) two.takes led two.led;
    own = (refl, two.own);
    cause = Cause-then {Fails' = ⊥} (count first) (count between) (count last) (record { later = later; failed = λ h. absurd h }) two.cause;
    told = λ bytes e.
        let g = Lost-told len (rest first stream) (rest between stream) bytes e (rw (taken_one stream len) at lost) in
        rw (same bytes g.0) (two.told (drop len bytes) g.1);
  }

  -- A value was read of the bytes that a feed lent, and these were passed over.
  pub Reads-in : {T Y : Type 0} (first last : F) (read : Reader Y) (lent left : List ℕ) (y : Y) (result : Result T RunFault)
      → IfSome (rest first stream) (IsFront lent) → ReadsIn read lent y left
      → Reads rest fed count stream (skipped (length lent - length left)) first last (placed tt result)
      → Reads rest fed count stream read first last (placed y result)
  Reads-in first last read lent left y (Ok done) front one skip = record {
    takes = skip.takes;
    led = skip.led;
    own = skip.own;
    cause = record { later = skip.cause.later; failed = λ h. absurd h };
    told = λ bytes e.
        let p = passed_over one.front left lent bytes one.parts (front_told (rest first stream) lent bytes e front) in
        let g = skip.told bytes e in
        let same : g.0 ≡ p.0 = left_is g.0 p.0 (sym g.2 ∙ p.2) in
        (p.0, g.1 ∙ ap (λ (l : List ℕ). Some l) same, ap read p.1 ∙ one.reads p.0);
  }
  Reads-in first last read lent left y (Err fault) front one skip = record {
    takes = skip.takes;
    led = skip.led;
    own = skip.own;
    cause = record { later = skip.cause.later; failed = skip.cause.failed };
    told = λ bytes e.
        let p = passed_over one.front left lent bytes one.parts (front_told (rest first stream) lent bytes e front) in
        failed_faults fault (read bytes) (no_fault fault _ (tt, p.0) p.2 (skip.told bytes e));
  }

  -- Values were given, and then runs gave values in the bytes that a feed lent, and these were passed over.
  pub Fills-in : {T V : Type 0} (Run : List ℕ → List V → Type 0) (read : Reader (List V)) (first between last : F)
      (before given more held : List V) (asked : ℕ) (lent left : List ℕ) (result : Result T RunFault)
      → Fills rest fed count Run read stream first between before [] asked (Ok given)
      → IfSome (rest between stream) (IsFront lent) → FillsIn Run lent more held left
      → Reads rest fed count stream (skipped (length lent - length left)) between last (placed tt result)
      → Fills rest fed count Run read stream first last before held asked (placed (given ++ more) result)
  Fills-in Run read first between last before given more held asked lent left (Ok done) one front in_place skip = record {
    takes = one.takes ++ skip.takes;
    led = joined first between last one.takes skip.takes one.led skip.led;
    own = AllOf-append stream one.takes skip.takes one.own skip.own;
    cause = Cause-then (count first) (count between) (count last) one.cause (record { later = skip.cause.later; failed = λ h. absurd h });
    told = λ bytes e.
        let f = one.told bytes e in
        let p = passed_over in_place.front left lent f.0 in_place.parts (front_told (rest between stream) lent f.0 f.1 front) in
        let g = skip.told f.0 f.1 in
        let same : g.0 ≡ p.0 = left_is g.0 p.0 (sym g.2 ∙ p.2) in (
          p.0,
          g.1 ∙ ap (λ (l : List ℕ). Some l) same,
          λ start earlier at.
              let at' = subst (λ (l : List ℕ). Between Run start (earlier ++ given) [] l) p.1 (f.2 start earlier at) in
              rw (← append_assoc earlier given more) (in_place.spells start p.0 (earlier ++ given) at'),
        );
  }
  Fills-in Run read first between last before given more held asked lent left (Err fault) one front in_place skip = record {
    takes = one.takes ++ skip.takes;
    led = joined first between last one.takes skip.takes one.led skip.led;
    own = AllOf-append stream one.takes skip.takes one.own skip.own;
    cause = Cause-then (count first) (count between) (count last) one.cause
        (record { later = skip.cause.later; failed = skip.cause.failed });
    told = λ bytes e.
        let f = one.told bytes e in
        let p = passed_over in_place.front left lent f.0 in_place.parts (front_told (rest between stream) lent f.0 f.1 front) in
        let failed = no_fault fault _ (tt, p.0) p.2 (skip.told f.0 f.1) in
        λ start earlier at. failed_breaks Run read start (length earlier + asked) fault failed;
  }

  -- values were given, and then others by a call that was asked for what was still open
  pub Fills-then : {V : Type 0} (Run : List ℕ → List V → Type 0) (read : Reader (List V)) (first between last : F)
      (before given values held : List V) (asked more : ℕ) → length given + more ≡ asked
      → Fills rest fed count Run read stream first between before [] asked (Ok given)
      → Fills rest fed count Run read stream between last [] held more (Ok values)
      → Fills rest fed count Run read stream first last before held asked (Ok (given ++ values))
  Fills-then {V} Run read first between last before given values held asked more is one two = record {
    takes = one.takes ++ two.takes;
    led = joined first between last one.takes two.takes one.led two.led;
    own = AllOf-append stream one.takes two.takes one.own two.own;
    cause = Cause-then (count first) (count between) (count last) one.cause two.cause;
    told = λ bytes e.
        let f = one.told bytes e in
        let g = two.told f.0 f.1 in (
          g.0,
          g.1,
          λ start earlier at.
              subst (λ (l : List V). Between Run start l held g.0) (append_assoc earlier given values)
              (g.2 start (earlier ++ given) (f.2 start earlier at)),
        );
  }

  -- values were given, and then the call for what was still open met a fault
  pub Fills-broken : {V : Type 0} (Run : List ℕ → List V → Type 0) (read : Reader (List V)) (first between last : F)
      (before given held : List V) (asked more : ℕ) (fault : RunFault) → length given + more ≡ asked
      → Fills rest fed count Run read stream first between before [] asked (Ok given)
      → Fills rest fed count Run read stream between last [] held more (Err fault)
      → Fills rest fed count Run read stream first last before held asked (Err fault)
  Fills-broken Run read first between last before given held asked more fault is one two = record {
    takes = one.takes ++ two.takes;
    led = joined first between last one.takes two.takes one.led two.led;
    own = AllOf-append stream one.takes two.takes one.own two.own;
    cause = Cause-then (count first) (count between) (count last) one.cause
        (record { later = two.cause.later; failed = two.cause.failed });
    told = λ bytes e.
        let f = one.told bytes e in
        λ start earlier at.
        let all : length (earlier ++ given) + more ≡ length earlier + asked = omega (arith, is, length-append earlier given) in
        subst (λ (n : ℕ). BreaksWith Run read start n fault) all (two.told f.0 f.1 start (earlier ++ given) (f.2 start earlier at));
  }
