-- Laws of readers: what was read, and then what is read by it, on lists and as calls on a feed. Source: this project's own.
use Rattle.std.proofs.Common.{◌≡◌, ℕ, ◌<◌, ◌≤◌, List, [], ◌∷◌, ◌++◌, Option, Some, None, Result, Ok, Err, refl}
use Rattle.outside.specs.declared.failed.Failed.{Failed}
use Rattle.outside.specs.declared.run_fault.RunFault.{RunFault}
use Rattle.outside.specs.declared.run_fault.RunFault.TheVariants.{StreamEnds, LongVarint, PatchOutOfRun, PatchTooWide, Read}
use Rattle.outside.specs.Cause.{Cause}
use Rattle.outside.specs.CauseLaws.{Cause-none, Cause-then}
use Rattle.outside.specs.Feed.{Taken, AllOf, Took, Ends, gave}
use Rattle.outside.specs.Reading.{Reader, go_on, bind, value, mapped, IsReadFault, Faults, Reads, placed}

-- a value and the bytes after it, as what was read
abbrev pub read_of : {X : Type 0} → X × List ℕ → Result (X × List ℕ) RunFault
read_of p = Ok p

-- what was read is one
pub read_is : {X : Type 0} (x y : X × List ℕ) → read_of x ≡ read_of y → x ≡ y
read_is x y e = cc

-- what was read first, where something was read in the end
pub went_on : {X Y : Type 0} (read : Result (X × List ℕ) RunFault) (next : X → Reader Y) (y : Y) (rest : List ℕ)
    → go_on read next ≡ Ok (y, rest)
    → (x : X) × (after : List ℕ) × (read ≡ Ok (x, after)) × (next x after ≡ Ok (y, rest))
went_on (Ok (x, after)) next y rest e = (x, after, refl, e)
went_on (Err fault) next y rest e = absurd (let no : Err fault ≡ read_of (y, rest) = e in cc)

-- takes of one stream, joined
pub AllOf-append : (stream : ℕ) (xs ys : List Taken) → AllOf stream xs → AllOf stream ys → AllOf stream (xs ++ ys)
AllOf-append stream [] ys p q = q
AllOf-append stream (x ∷ xs) ys p q = (p.0, AllOf-append stream xs ys p.1 q)

Faults-go_on : {X Y : Type 0} (fault : RunFault) (read : Result (X × List ℕ) RunFault) (next : X → Reader Y)
    → Faults fault read → Faults fault (go_on read next)
Faults-go_on (Read e) read next h = tt
Faults-go_on StreamEnds read next h = rw h refl
Faults-go_on LongVarint read next h = rw h refl
Faults-go_on PatchOutOfRun read next h = rw h refl
Faults-go_on PatchTooWide read next h = rw h refl

Faults-is : {Y : Type 0} (fault : RunFault) (read : Result (Y × List ℕ) RunFault) → read ≡ Err fault → Faults fault read
Faults-is (Read e) read h = tt
Faults-is StreamEnds read h = h
Faults-is LongVarint read h = h
Faults-is PatchOutOfRun read h = h
Faults-is PatchTooWide read h = h

Took-told : (before after : Option (List ℕ)) (got whole : List ℕ) → before ≡ Some whole → Took before after got
    → (rest : List ℕ) × (after ≡ Some rest) × (whole ≡ got ++ rest)
Took-told None after got whole e took = absurd cc
Took-told (Some bytes) None got whole e took = absurd took
Took-told (Some bytes) (Some rest) got whole e took = (rest, refl, cc)

Ends-told : (before : Option (List ℕ)) (room : ℕ) (whole : List ℕ) → before ≡ Some whole → Ends before room 0 → 0 < room → whole ≡ []
Ends-told None room whole e ends h = absurd cc
Ends-told (Some bytes) room whole e ends h = let nil = ends h refl in cc

module _ {F : Type 0} (rest : F → ℕ → Option (List ℕ)) (fed : F → List Taken → F → Type 0) (count : F → ℕ) (stream : ℕ)
    (nothing : (feed : F) → fed feed [] feed)
    (joined : (first between last : F) (xs ys : List Taken) → fed first xs between → fed between ys last → fed first (xs ++ ys) last) where
  -- nothing is read
  pub Reads-value : {Y : Type 0} (feed : F) (y : Y) → Reads rest fed count stream (value y) feed feed (Ok y)
  Reads-value feed y = record {
    takes = [];
    led = nothing feed;
    own = tt;
    cause = Cause-none (count feed) (λ h. h);
    told = λ bytes e. (bytes, e, refl);
  }

  -- a value was read, and then what follows by it
  pub Reads-then : {X Y : Type 0} (first between last : F) (read : Reader X) (next : X → Reader Y) (x : X) (answer : Result Y RunFault) →
      Reads rest fed count stream read first between (Ok x) → Reads rest fed count stream (next x) between last answer →
      Reads rest fed count stream (bind read next) first last answer
  Reads-then first between last read next x answer one two = record {
    takes = one.takes ++ two.takes;
    led = joined first between last one.takes two.takes one.led two.led;
    own = AllOf-append stream one.takes two.takes one.own two.own;
    cause = Cause-then (count first) (count between) (count last) one.cause two.cause;
    told = λ bytes e.
        let g = one.told bytes e in
        rw g.2 (two.told g.0 g.1);
  }

  -- a fault was read first
  pub Reads-fault : {X Y : Type 0} (first last : F) (read : Reader X) (next : X → Reader Y) (fault : RunFault) →
      Reads rest fed count stream read first last (Err fault) →
      Reads rest fed count stream (bind read next) first last (Err fault)
  Reads-fault first last read next fault one = record {
    takes = one.takes;
    led = one.led;
    own = one.own;
    cause = record { later = one.cause.later; failed = one.cause.failed };
    told = λ bytes e. Faults-go_on fault (read bytes) next (one.told bytes e);
  }

  -- what was read, seen by a function
  pub Reads-map : {X Y : Type 0} (first last : F) (read : Reader X) (f : X → Y) (x : X) →
      Reads rest fed count stream read first last (Ok x) →
      Reads rest fed count stream (mapped f read) first last (Ok (f x))
  Reads-map first last read f x one = Reads-then first last last read (λ x. value (f x)) x (Ok (f x)) one (Reads-value last (f x))

  -- a value that was left in what a call was given, seen by a function
  pub Reads-placed : {T X Y : Type 0} (first last : F) (read : Reader X) (f : X → Y) (x : X) (result : Result T RunFault) →
      Reads rest fed count stream read first last (placed x result) →
      Reads rest fed count stream (mapped f read) first last (placed (f x) result)
  Reads-placed first last read f x (Ok done) one = Reads-map first last read f x one
  Reads-placed first last read f x (Err fault) one = Reads-fault first last read (λ x. value (f x)) fault one

  -- two readers that agree
  pub Reads-same : {Y : Type 0} (first last : F) (read other : Reader Y) (answer : Result Y RunFault)
      → ((bytes : List ℕ) → read bytes ≡ other bytes) →
      Reads rest fed count stream other first last answer → Reads rest fed count stream read first last answer
  Reads-same first last read other answer same one = record {
    takes = one.takes;
    led = one.led;
    own = one.own;
    cause = one.cause;
    told = λ bytes e. rw (same bytes) (one.told bytes e);
  }

  -- a take gave these bytes, and then the rest was read
  pub Reads-piece : {Y : Type 0} (first between last : F) (read other : Reader Y) (got : List ℕ) (len : ℕ) (answer : Result Y RunFault) →
      fed first (gave stream len ∷ []) between → count first ≤ count between → Took (rest first stream) (rest between stream) got →
      ((more : List ℕ) → read (got ++ more) ≡ other more) →
      Reads rest fed count stream other between last answer → Reads rest fed count stream read first last answer
  Reads-piece first between last read other got len answer led later took same two = record {
    takes = gave stream len ∷ two.takes;
    led = joined first between last (gave stream len ∷ []) two.takes led two.led;
    own = (refl, two.own);
    cause = Cause-then {Fails' = ⊥} (count first) (count between) (count last) (record { later = later; failed = λ h. absurd h }) two.cause;
    told = λ bytes e.
        let g = Took-told (rest first stream) (rest between stream) got bytes e took in
        rw (g.2, same g.0) (two.told g.0 g.1);
  }

  -- a take gave no byte
  pub Reads-end : {Y : Type 0} (first last : F) (read : Reader Y) (room : ℕ) → fed first (gave stream 0 ∷ []) last
      → count first ≤ count last →
      0 < room → Ends (rest first stream) room 0 → read [] ≡ Err StreamEnds → Reads rest fed count stream read first last (Err StreamEnds)
  Reads-end first last read room led later asked ends is = record {
    takes = gave stream 0 ∷ [];
    led = led;
    own = (refl, tt);
    cause = record { later = later; failed = λ h. absurd h };
    told = λ bytes e. rw (Ends-told (rest first stream) room bytes e ends asked) is;
  }

  -- a take failed
  pub Reads-failed : {Y : Type 0} (first last : F) (read : Reader Y) (failed : Failed) (taken : Taken)
      → taken.stream ≡ stream → fed first (taken ∷ []) last → Cause (count first) (count last) (Unit {0}) →
      Reads rest fed count stream read first last (Err (Read failed))
  Reads-failed first last read failed taken own led cause = record {
    takes = taken ∷ [];
    led = led;
    own = (own, tt);
    cause = record { later = cause.later; failed = cause.failed };
    told = λ bytes e. tt;
  }

  -- a take gave these bytes, and whatever follows them, they break what is read
  pub Reads-broken : {Y : Type 0} (first last : F) (read : Reader Y) (got : List ℕ) (len : ℕ) (fault : RunFault) →
      fed first (gave stream len ∷ []) last → count first ≤ count last
      → Took (rest first stream) (rest last stream) got → (IsReadFault fault → ⊥) →
      ((more : List ℕ) → read (got ++ more) ≡ Err fault) → Reads rest fed count stream read first last (Err fault)
  Reads-broken first last read got len fault led later took not_read broken = record {
    takes = gave stream len ∷ [];
    led = led;
    own = (refl, tt);
    cause = record { later = later; failed = λ h. absurd (not_read h) };
    told = λ bytes e.
        let g = Took-told (rest first stream) (rest last stream) got bytes e took in
        Faults-is fault (read bytes) (rw g.2 (broken g.0));
  }
