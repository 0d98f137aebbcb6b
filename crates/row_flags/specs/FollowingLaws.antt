-- Batches of one stream that follow each other are one batch.
use Rattle.std.proofs.Common.{◌≡◌, ℕ, ◌+◌, ◌≤◌, List, [], ◌∷◌, ◌++◌, length, Option, Some, None, Ok, Err, refl, subst}
use Rattle.std.proofs.Common.{arith, append_assoc, append-nil, length-append, inl, inr}
use Rattle.outside.specs.declared.run_fault.RunFault.{RunFault}
use Rattle.outside.specs.declared.run_fault.RunFault.TheVariants as run
use Rattle.outside.specs.Cause.{Rose}
use Rattle.outside.specs.Feed.{Taken, AllOf}
use Rattle.outside.specs.Filling.{BreaksWith}
use Rattle.outside.specs.Reading.{Reader}
use Rattle.outside.specs.Runs.{Between}
use Rattle.row_flags.specs.Optional.{AllIn, FillsIn}

own_joined : (stream : ℕ) (front back : List Taken) → AllOf stream front → AllOf stream back → AllOf stream (front ++ back)
own_joined stream [] back a b = b
own_joined stream (t ∷ front) back a b = (a.0, own_joined stream front back a.1 b)

pub in_joined : (stream : Option ℕ) (front back : List Taken) → AllIn stream front → AllIn stream back → AllIn stream (front ++ back)
in_joined None front back a b = rw (a, b) refl
in_joined (Some stream) front back a b = own_joined stream front back a b

pub rose_first : (first between last : ℕ) → first ≤ between → Rose between last → Rose first last
rose_first first between last later (inl less) = inl (omega arith)
rose_first first between last later (inr most) = inr most

module _ {F V : Type 0} (rest : F → ℕ → Option (List ℕ)) (fed : F → List Taken → F → Type 0) (count : F → ℕ)
    (Form : List ℕ → List V → Type 0) (read : Reader (List V)) where
  -- nothing was read yet
  pub fills_none : (stream : Option ℕ) (feed : F) (held : List V) → fed feed [] feed
      → FillsIn rest fed count Form read stream feed feed held held 0 (Ok [])
  fills_none stream feed held nothing = record {
    takes = [];
    led = nothing;
    own = own stream;
    cause = record { later = omega arith; failed = λ f. absurd f };
    told = λ bytes e. (bytes, e, λ start given at. rw append-nil at);
  }
    where
      own : (stream : Option ℕ) → AllIn stream []
      own None = refl
      own (Some s) = tt

module _ {F V : Type 0} (rest : F → ℕ → Option (List ℕ)) (fed : F → List Taken → F → Type 0) (count : F → ℕ)
    (Form : List ℕ → List V → Type 0) (read : Reader (List V))
    (joined : (first between last : F) (xs ys : List Taken) → fed first xs between → fed between ys last → fed first (xs ++ ys) last) where
  wider : (start : List ℕ) (few more : ℕ) (fault : RunFault) → few ≤ more → BreaksWith Form read start few fault
      → BreaksWith Form read start more fault
  wider start few more (run.Read failed) le b = tt
  wider start few more fault le b = record {
    used = b.used;
    rest = b.rest;
    values = b.values;
    parts = b.parts;
    joined = b.joined;
    fewer = omega (arith, b.fewer);
    broken = b.broken;
  }

  pub fills_more : (stream : Option ℕ) (first between last : F) (before held after : List V) (n m : ℕ) (values others : List V)
      → FillsIn rest fed count Form read stream first between before held n (Ok values)
      → FillsIn rest fed count Form read stream between last held after m (Ok others)
      → FillsIn rest fed count Form read stream first last before after (n + m) (Ok (values ++ others))
  fills_more stream first between last before held after n m values others one two = record {
    takes = one.takes ++ two.takes;
    led = joined first between last one.takes two.takes one.led two.led;
    own = in_joined stream one.takes two.takes one.own two.own;
    cause = record { later = omega (arith, one.cause.later, two.cause.later); failed = λ f. absurd f };
    told = λ bytes e.
        let a = one.told bytes e in
        let b = two.told a.0 a.1 in (
          b.0,
          b.1,
          λ start given at. subst (λ (v : List V). Between Form start v after b.0)
              (append_assoc given values others) (b.2 start (given ++ values) (a.2 start given at)),
        );
  }

  pub fills_fault : (stream : Option ℕ) (first between last : F) (before held after : List V) (n m all : ℕ)
      (values : List V) (fault : RunFault) → length values ≡ n → n + m ≤ all
      → FillsIn rest fed count Form read stream first between before held n (Ok values)
      → FillsIn rest fed count Form read stream between last held after m (Err fault)
      → FillsIn rest fed count Form read stream first last before after all (Err fault)
  fills_fault stream first between last before held after n m all values fault len within one two = record {
    takes = one.takes ++ two.takes;
    led = joined first between last one.takes two.takes one.led two.led;
    own = in_joined stream one.takes two.takes one.own two.own;
    cause = record {
      later = omega (arith, one.cause.later, two.cause.later);
      failed = λ f. rose_first (count first)
          (count between) (count last) one.cause.later (two.cause.failed f);
    };
    told = λ bytes e start given at.
        let a = one.told bytes e in
        wider start (length (given ++ values) + m) (length given + all) fault
        (omega (arith, length-append given values, len))
        (two.told a.0 a.1 start (given ++ values) (a.2 start given at));
  }
