-- Reading a stream that may be empty, and filling from it.
use Rattle.std.proofs.Common.{◌≡◌, ℕ, ◌+◌, ◌<◌, Bool, true, false, List, [], ◌∷◌, ◌++◌, length, Option, Some, None, Result, Ok, Err, refl, sym, ap, subst, ◌∙◌, arith, append_assoc, length-append}
use Rattle.outside.specs.declared.run_fault.RunFault.{RunFault}
use Rattle.outside.specs.declared.run_fault.RunFault.TheVariants.{StreamEnds, LongVarint, PatchOutOfRun, PatchTooWide, Read}
use Rattle.outside.specs.Feed.{Taken}
use Rattle.outside.specs.Filling.{BreaksWith, Fills}
use Rattle.outside.specs.Reading.{Reader, go_on, bind, value, mapped, IsReadFault, Faults, Reads, byte}
use Rattle.outside.specs.Runs.{IsReaderOf}
use Rattle.outside.specs.CauseLaws.{Cause-then}
use Rattle.outside.specs.FillingLaws.{Fills-give, Fills-run}
use Rattle.outside.specs.ReadingLaws.{read_is}
use Rattle.outside.specs.ReadingLaws.{AllOf-append, Reads-value, Reads-then, Reads-same, Reads-map, Reads-fault}
use Rattle.orc_rle.specs.EmptyStream.{unless_empty, found, NeedsByte, FillsUnlessEmpty}

abbrev read_of : {X : Type 0} → X × List ℕ → Result (X × List ℕ) RunFault
read_of p = Ok p

-- ---- the reader

-- what follows the first byte, if there was one
abbrev pub after_first : {Y : Type 0} → (ℕ → Reader Y) → Option ℕ → Reader (Option Y)
after_first next None = value None
after_first next (Some first) = mapped Some (next first)

pub unless_empty-bind : {Y : Type 0} (next : ℕ → Reader Y) (bytes : List ℕ) → unless_empty (bind byte next) bytes ≡ bind (unless_empty byte) (after_first next) bytes
unless_empty-bind next [] = refl
unless_empty-bind next (first ∷ rest) = refl

abbrev map_some : {X Y : Type 0} → (X → Y) → Option X → Option Y
map_some f None = None
map_some f (Some x) = Some (f x)

some_of_mapped : {X Y : Type 0} (f : X → Y) (read : Result (X × List ℕ) RunFault) → go_on (go_on read (λ x. value (f x))) (λ y. value (Some y)) ≡ go_on (go_on read (λ x. value (Some x))) (λ o. value (map_some f o))
some_of_mapped f (Ok (x, rest)) = refl
some_of_mapped f (Err fault) = refl

unless_empty-mapped : {X Y : Type 0} (f : X → Y) (read : Reader X) (bytes : List ℕ) → unless_empty (mapped f read) bytes ≡ mapped (map_some f) (unless_empty read) bytes
unless_empty-mapped f read [] = refl
unless_empty-mapped f read (first ∷ rest) = some_of_mapped f (read (first ∷ rest))

-- ---- what was read of it

read_some : {Y : Type 0} (read : Result (Y × List ℕ) RunFault) (y : Y) (rest : List ℕ) → go_on read (λ x. value (Some x)) ≡ read_of (Some y, rest) → read ≡ Ok (y, rest)
read_some {Y} (Ok (x, after)) y rest e =
    let pair = read_is (Some x, after) (Some y, rest) e in
    let front : Some x ≡ Some y = ap (λ (p : Option Y × List ℕ). p.0) pair in
    let one : x ≡ y = cc in
    let back : after ≡ rest = ap (λ (p : Option Y × List ℕ). p.1) pair in
    rw (one, back) refl
read_some (Err fault) y rest e = absurd (let no : Err fault ≡ read_of (Some y, rest) = e in cc)

none_some : {Y : Type 0} (y : Y) (a b : List ℕ) → read_of (None, a) ≡ read_of (Some y, b) → ⊥
none_some {Y} y a b e = let no : None ≡ Some y = ap (λ (p : Option Y × List ℕ). p.0) (read_is (None, a) (Some y, b) e) in absurd cc

some_read : {Y : Type 0} (read : Reader Y) (bytes : List ℕ) (y : Y) (rest : List ℕ) → unless_empty read bytes ≡ Ok (Some y, rest) → read bytes ≡ Ok (y, rest)
some_read read [] y rest e = absurd (none_some y [] rest e)
some_read read (first ∷ bytes) y rest e = read_some (read (first ∷ bytes)) y rest e

some_left : {Y : Type 0} (read : Reader Y) (bytes : List ℕ) (y : Y) (rest : List ℕ) → unless_empty read bytes ≡ Ok (Some y, rest) → bytes ≡ [] → ⊥
some_left read [] y rest e none = none_some y [] rest e
some_left read (first ∷ bytes) y rest e none = absurd cc

read_none : {Y : Type 0} (read : Result (Y × List ℕ) RunFault) (rest : List ℕ) → go_on read (λ x. value (Some x)) ≡ read_of (None, rest) → ⊥
read_none {Y} (Ok (x, after)) rest e = none_some x rest after (sym e)
read_none {Y} (Err fault) rest e = let no : Err fault ≡ read_of {X = Option Y} (None, rest) = e in absurd cc

none_left : {Y : Type 0} (read : Reader Y) (bytes rest : List ℕ) → unless_empty read bytes ≡ Ok (None, rest) → (bytes ≡ []) × (rest ≡ bytes)
none_left {Y} read [] rest e = (refl, sym (ap (λ (p : Option Y × List ℕ). p.1) (read_is {X = Option Y} (None, []) (None, rest) e)))
none_left read (first ∷ bytes) rest e = absurd (read_none (read (first ∷ bytes)) rest e)

read_fault : {Y : Type 0} (read : Result (Y × List ℕ) RunFault) (fault : RunFault) → go_on read (λ x. value (Some x)) ≡ Err fault → read ≡ Err fault
read_fault (Ok (x, after)) fault e = absurd (let no : read_of (Some x, after) ≡ Err fault = e in cc)
read_fault (Err other) fault e = let same : other ≡ fault = cc in ap Err same

fault_read : {Y : Type 0} (read : Reader Y) (bytes : List ℕ) (fault : RunFault) → unless_empty read bytes ≡ Err fault → (read bytes ≡ Err fault) × (bytes ≡ [] → ⊥)
fault_read {Y} read [] fault e = absurd (let no : read_of {X = Option Y} (None, []) ≡ Err fault = e in cc)
fault_read read (first ∷ bytes) fault e = (read_fault (read (first ∷ bytes)) fault e, λ none. absurd cc)

faults_read : {Y : Type 0} (read : Reader Y) (bytes : List ℕ) (fault : RunFault) → Faults fault (unless_empty read bytes) → Faults fault (read bytes) × (bytes ≡ [] → IsReadFault fault)
faults_read read bytes (Read failed) e = (tt, λ none. tt)
faults_read read bytes StreamEnds e = let r = fault_read read bytes StreamEnds e in (r.0, r.1)
faults_read read bytes LongVarint e = let r = fault_read read bytes LongVarint e in (r.0, r.1)
faults_read read bytes PatchOutOfRun e = let r = fault_read read bytes PatchOutOfRun e in (r.0, r.1)
faults_read read bytes PatchTooWide e = let r = fault_read read bytes PatchTooWide e in (r.0, r.1)

-- ---- calls

module _ {F : Type 0} (rest : F → ℕ → Option (List ℕ)) (fed : F → List Taken → F → Type 0) (count : F → ℕ) (stream : ℕ)
    (nothing : (feed : F) → fed feed [] feed)
    (joined : (first between last : F) (xs ys : List Taken) → fed first xs between → fed between ys last → fed first (xs ++ ys) last) where
  -- nothing was left to read
  pub Reads-none : {Y : Type 0} (first last : F) (next : ℕ → Reader Y) → Reads rest fed count stream (unless_empty byte) first last (Ok None) → Reads rest fed count stream (unless_empty (bind byte next)) first last (Ok None)
  Reads-none first last next one =
      Reads-same rest fed count stream nothing joined first last (unless_empty (bind byte next)) (bind (unless_empty byte) (after_first next)) (Ok None) (unless_empty-bind next)
      (Reads-then rest fed count stream nothing joined first last last (unless_empty byte) (after_first next) None (Ok None) one (Reads-value rest fed count stream nothing joined last None))

  -- no first byte was read
  pub Reads-no_first : {Y : Type 0} (first last : F) (next : ℕ → Reader Y) (fault : RunFault) → Reads rest fed count stream (unless_empty byte) first last (Err fault) → Reads rest fed count stream (unless_empty (bind byte next)) first last (Err fault)
  Reads-no_first first last next fault one =
      Reads-same rest fed count stream nothing joined first last (unless_empty (bind byte next)) (bind (unless_empty byte) (after_first next)) (Err fault) (unless_empty-bind next)
      (Reads-fault rest fed count stream nothing joined first last (unless_empty byte) (after_first next) fault one)

  -- a first byte was read, and then what follows it
  pub Reads-first : {Y : Type 0} (first between last : F) (next : ℕ → Reader Y) (byte_read : ℕ) (y : Y) → Reads rest fed count stream (unless_empty byte) first between (Ok (Some byte_read)) → Reads rest fed count stream (next byte_read) between last (Ok y) → Reads rest fed count stream (unless_empty (bind byte next)) first last (Ok (Some y))
  Reads-first first between last next byte_read y one two =
      Reads-same rest fed count stream nothing joined first last (unless_empty (bind byte next)) (bind (unless_empty byte) (after_first next)) (Ok (Some y)) (unless_empty-bind next)
      (Reads-then rest fed count stream nothing joined first between last (unless_empty byte) (after_first next) (Some byte_read) (Ok (Some y)) one
      (Reads-map rest fed count stream nothing joined between last (next byte_read) Some y two))

  -- a first byte was read, and then what follows it was not
  pub Reads-first_fault : {Y : Type 0} (first between last : F) (next : ℕ → Reader Y) (byte_read : ℕ) (fault : RunFault) → Reads rest fed count stream (unless_empty byte) first between (Ok (Some byte_read)) → Reads rest fed count stream (next byte_read) between last (Err fault) → Reads rest fed count stream (unless_empty (bind byte next)) first last (Err fault)
  Reads-first_fault first between last next byte_read fault one two =
      Reads-same rest fed count stream nothing joined first last (unless_empty (bind byte next)) (bind (unless_empty byte) (after_first next)) (Err fault) (unless_empty-bind next)
      (Reads-then rest fed count stream nothing joined first between last (unless_empty byte) (after_first next) (Some byte_read) (Err fault) one
      (Reads-fault rest fed count stream nothing joined between last (next byte_read) (λ y. value (Some y)) fault two))

  -- what was found, seen by a function
  pub Reads-found : {X Y : Type 0} (first last : F) (read : Reader X) (f : X → Y) (x : X) (result : Result Bool RunFault) → Reads rest fed count stream (unless_empty read) first last (found x result) → Reads rest fed count stream (unless_empty (mapped f read)) first last (found (f x) result)
  Reads-found first last read f x (Ok true) one =
      Reads-same rest fed count stream nothing joined first last (unless_empty (mapped f read)) (mapped (map_some f) (unless_empty read)) (Ok (Some (f x))) (unless_empty-mapped f read)
      (Reads-map rest fed count stream nothing joined first last (unless_empty read) (map_some f) (Some x) one)
  Reads-found first last read f x (Ok false) one =
      Reads-same rest fed count stream nothing joined first last (unless_empty (mapped f read)) (mapped (map_some f) (unless_empty read)) (Ok None) (unless_empty-mapped f read)
      (Reads-map rest fed count stream nothing joined first last (unless_empty read) (map_some f) None one)
  Reads-found first last read f x (Err fault) one =
      Reads-same rest fed count stream nothing joined first last (unless_empty (mapped f read)) (mapped (map_some f) (unless_empty read)) (Err fault) (unless_empty-mapped f read)
      (Reads-fault rest fed count stream nothing joined first last (unless_empty read) (λ o. value (map_some f o)) fault one)

  -- one was found, so it was read
  pub Reads-some : {Y : Type 0} (first last : F) (read : Reader Y) (y : Y) → Reads rest fed count stream (unless_empty read) first last (Ok (Some y)) → Reads rest fed count stream read first last (Ok y)
  Reads-some first last read y one = record {
    takes = one.takes;
    led = one.led;
    own = one.own;
    cause = record { later = one.cause.later; failed = λ h. absurd h };
    told = λ bytes e. let g = one.told bytes e in (g.0, g.1, some_read read bytes y g.0 g.2);
  }

  pub Reads-broke : {Y : Type 0} (first last : F) (read : Reader Y) (fault : RunFault) → Reads rest fed count stream (unless_empty read) first last (Err fault) → Reads rest fed count stream read first last (Err fault)
  Reads-broke first last read fault one = record {
    takes = one.takes;
    led = one.led;
    own = one.own;
    cause = record { later = one.cause.later; failed = one.cause.failed };
    told = λ bytes e. let g = faults_read read bytes fault (one.told bytes e) in g.0;
  }

  module _ {V : Type 0} (Run : List ℕ → List V → Type 0) (read : Reader (List V)) (reads : IsReaderOf Run read) where
    -- one call, and then another
    pub Fills-then : (first between last : F) (before held later given more : List V) (asked room : ℕ) → Fills rest fed count Run read stream first between before held asked (Ok given) → Fills rest fed count Run read stream between last held later room (Ok more) → Fills rest fed count Run read stream first last before later asked (Ok (given ++ more))
    Fills-then first between last before held later given more asked room one two = record {
      takes = one.takes ++ two.takes;
      led = joined first between last one.takes two.takes one.led two.led;
      own = AllOf-append stream one.takes two.takes one.own two.own;
      cause = Cause-then (count first) (count between) (count last) one.cause two.cause;
      told = λ bytes e.
          let g = one.told bytes e in
          let r = two.told g.0 g.1 in (
            r.0,
            r.1,
            λ start earlier at. rw (← append_assoc earlier given more) (r.2 start (earlier ++ given) (g.2 start earlier at)),
          );
    }

    pub Fills-then_fault : (first between last : F) (before held later given : List V) (asked room : ℕ) (fault : RunFault) → Fills rest fed count Run read stream first between before held asked (Ok given) → Fills rest fed count Run read stream between last held later room (Err fault) → asked ≡ length given + room → Fills rest fed count Run read stream first last before later asked (Err fault)
    Fills-then_fault first between last before held later given asked room fault one two is = record {
      takes = one.takes ++ two.takes;
      led = joined first between last one.takes two.takes one.led two.led;
      own = AllOf-append stream one.takes two.takes one.own two.own;
      cause = Cause-then (count first) (count between) (count last) one.cause (record { later = two.cause.later; failed = two.cause.failed });
      told = λ bytes e.
          let g = one.told bytes e in
          λ start earlier at.
          let all : length (earlier ++ given) + room ≡ length earlier + asked = omega (arith, length-append earlier given) in
          subst (λ (n : ℕ). BreaksWith Run read start n fault) all (two.told g.0 g.1 start (earlier ++ given) (g.2 start earlier at));
    }

    -- a run was found, and some of it is given
    pub Fills-found : (first last : F) (values more held : List V) (asked : ℕ) → Reads rest fed count stream (unless_empty read) first last (Ok (Some values)) → values ≡ more ++ held → 0 < length more → Fills rest fed count Run read stream first last [] held asked (Ok more)
    Fills-found first last values more held asked one is some =
        Fills-run rest fed count stream nothing joined Run read reads first first last [] [] values more held asked
        (Fills-give rest fed count stream nothing joined Run read reads first [] [] [] asked refl)
        (Reads-some first last read values one) is some

    -- a decoder that needs no byte, or whose stream has one, fills as ever
    pub Fills-some : (first last : F) (before held : List V) (asked : ℕ) (values : List V) → Fills rest fed count Run read stream first last before held asked (Ok values) → ((bytes : List ℕ) → rest first stream ≡ Some bytes → NeedsByte before asked bytes → ⊥) → FillsUnlessEmpty rest fed count Run read stream first last before held asked values (Ok true)
    Fills-some first last before held asked values one some = record { fills = one; empty = some }

    pub Fills-broke : (first last : F) (before held : List V) (asked : ℕ) (values : List V) (fault : RunFault) → Fills rest fed count Run read stream first last before held asked (Err fault) → ((bytes : List ℕ) → rest first stream ≡ Some bytes → NeedsByte before asked bytes → IsReadFault fault) → FillsUnlessEmpty rest fed count Run read stream first last before held asked values (Err fault)
    Fills-broke first last before held asked values fault one some = record { fills = one; empty = some }

    -- no byte was found
    pub Fills-none : (first last : F) (held : List V) (asked : ℕ) (values : List V) → Reads rest fed count stream (unless_empty read) first last (Ok None) → held ≡ [] → 0 < asked → FillsUnlessEmpty rest fed count Run read stream first last [] held asked values (Ok false)
    Fills-none first last held asked values one same some = record {
      fills = record {
        takes = one.takes;
        led = one.led;
        own = one.own;
        later = one.cause.later;
        same = same;
        told = λ bytes e.
            let g = one.told bytes e in
            let n = none_left read bytes g.0 g.2 in
            ((refl, some, n.0), g.1 ∙ ap Some n.1);
      };
      empty = λ bytes e needs. tt;
    }

    -- a run was found, so there was a byte
    pub found_some : (first last : F) (values : List V) (asked : ℕ) → Reads rest fed count stream (unless_empty read) first last (Ok (Some values)) → (bytes : List ℕ) → rest first stream ≡ Some bytes → NeedsByte {V = V} [] asked bytes → ⊥
    found_some first last values asked one bytes e needs = let g = one.told bytes e in some_left read bytes values g.0 g.2 needs.2

    pub found_fault : (first last : F) (fault : RunFault) (asked : ℕ) → Reads rest fed count stream (unless_empty read) first last (Err fault) → (bytes : List ℕ) → rest first stream ≡ Some bytes → NeedsByte {V = V} [] asked bytes → IsReadFault fault
    found_fault first last fault asked one bytes e needs = let g = faults_read read bytes fault (one.told bytes e) in g.1 needs.2
