-- The flags and the bits of a whole stream, batch by batch.
use Rattle.std.proofs.Common.{◌≡◌, ℕ, ◌+◌, ◌≤◌, Bool, List, [], ◌∷◌, ◌++◌, length, Option, Some, None, Ok, Err, refl, subst, arith, append_assoc, append-nil, length-append}
use Rattle.outside.specs.declared.run_fault.RunFault.{RunFault}
use Rattle.outside.specs.declared.run_fault.RunFault.TheVariants as run
use Rattle.outside.specs.Feed.{Taken}
use Rattle.orc_rle.specs.BitRun.{BitRun, bit_run}
use Rattle.orc_values.specs.Woven.{present_count}
use Rattle.orc_values.specs.WovenLaws.{present_count-append}
use Rattle.row_flags.specs.Present.{PresentBreaks}
use Rattle.row_flags.specs.Decoders.{PresentOf}
use Rattle.row_flags.specs.Flags.{ReadsFlags, ReadsBits}
use Rattle.row_flags.specs.Optional.{rest_in, AllIn, FillsIn}
use Rattle.row_flags.specs.Present.{PresentBetween, PresentBreaksWith, PresentFills, PresentContinues}
use Rattle.row_flags.specs.FollowingLaws.{in_joined, rose_first, fills_none, fills_more, fills_fault}

wider : (start : List ℕ) (few more : ℕ) (fault : RunFault) → few ≤ more → PresentBreaks start few fault → PresentBreaks start more fault
wider [] few more fault le b = absurd b
wider (byte ∷ bytes) few more fault le b = record { used = b.used; rest = b.rest; values = b.values; parts = b.parts; joined = b.joined; fewer = omega (arith, b.fewer); broken = b.broken }

wider_with : (start : List ℕ) (few more : ℕ) (fault : RunFault) → few ≤ more → PresentBreaksWith start few fault → PresentBreaksWith start more fault
wider_with start few more (run.Read failed) le b = tt
wider_with start few more run.StreamEnds le b = wider start few more run.StreamEnds le b
wider_with start few more run.LongVarint le b = wider start few more run.LongVarint le b
wider_with start few more run.PatchOutOfRun le b = wider start few more run.PatchOutOfRun le b
wider_with start few more run.PatchTooWide le b = wider start few more run.PatchTooWide le b

module _ {F : Type 0} (rest : F → ℕ → Option (List ℕ)) (fed : F → List Taken → F → Type 0) (count : F → ℕ) where
  pub flags_none : (p : PresentOf) (feed : F) → fed feed [] feed → ReadsFlags rest fed count p p feed feed 0 (Ok 0)
  flags_none p feed nothing = record {
    flags = [];
    fills = record {
      takes = [];
      led = nothing;
      own = own p.stream;
      cause = record { later = omega arith; failed = λ f. absurd f };
      told = λ bytes e. (bytes, e, λ start given at. rw append-nil at);
    };
    set = (refl, refl);
  }
    where
      own : (stream : Option ℕ) → AllIn stream []
      own None = refl
      own (Some s) = tt

  module _ (joined : (first between last : F) (xs ys : List Taken) → fed first xs between → fed between ys last → fed first (xs ++ ys) last) where
    pub flags_more : (old mid new : PresentOf) (first between last : F) (n m s t : ℕ) (out : List Bool) → mid.stream ≡ old.stream → length out ≡ m → t ≡ present_count out
        → ReadsFlags rest fed count old mid first between n (Ok s) → PresentFills rest fed count mid new between last m (Ok out) → ReadsFlags rest fed count old new first last (n + m) (Ok (s + t))
    flags_more old mid new first between last n m s t out same len set one two = record {
      flags = one.flags ++ out;
      fills = record {
        takes = one.fills.takes ++ two.takes;
        led = joined first between last one.fills.takes two.takes one.fills.led two.led;
        own = in_joined old.stream one.fills.takes two.takes one.fills.own (subst (λ (w : Option ℕ). AllIn w two.takes) same two.own);
        cause = record { later = omega (arith, one.fills.cause.later, two.cause.later); failed = λ f. absurd f };
        told = λ bytes e.
            let a = one.fills.told bytes e in
            let b : PresentContinues mid new m a.0 (rest_in rest last old.stream) (Ok out) = subst (λ (w : Option ℕ). PresentContinues mid new m a.0 (rest_in rest last w) (Ok out)) same (two.told a.0 (rw same a.1)) in
            (b.0, b.1, λ start given at. subst (λ (v : List Bool). PresentBetween new.state start v new.held b.0) (append_assoc given one.flags out) (b.2 start (given ++ one.flags) (a.2 start given at)));
      };
      set = (omega (arith, length-append one.flags out, one.set.0, len), omega (arith, present_count-append one.flags out, one.set.1, set));
    }

    pub flags_fault : (old mid new : PresentOf) (first between last : F) (n m s all : ℕ) (fault : RunFault) → mid.stream ≡ old.stream → n + m ≤ all
        → ReadsFlags rest fed count old mid first between n (Ok s) → PresentFills rest fed count mid new between last m (Err fault) → ReadsFlags rest fed count old new first last all (Err fault)
    flags_fault old mid new first between last n m s all fault same within one two = record {
      flags = [];
      fills = record {
        takes = one.fills.takes ++ two.takes;
        led = joined first between last one.fills.takes two.takes one.fills.led two.led;
        own = in_joined old.stream one.fills.takes two.takes one.fills.own (subst (λ (w : Option ℕ). AllIn w two.takes) same two.own);
        cause = record { later = omega (arith, one.fills.cause.later, two.cause.later); failed = λ f. rose_first (count first) (count between) (count last) one.fills.cause.later (two.cause.failed f) };
        told = λ bytes e start given at.
            let a = one.fills.told bytes e in
            wider_with start (length (given ++ one.flags) + m) (length given + all) fault (omega (arith, length-append given one.flags, one.set.0)) (two.told a.0 (rw same a.1) start (given ++ one.flags) (a.2 start given at));
      };
      set = tt;
    }

    pub bits_more : (stream : Option ℕ) (first between last : F) (before held after : List Bool) (n m : ℕ) (out : List Bool) → length out ≡ m
        → ReadsBits rest fed count stream first between before held n {T = Unit {0}} (Ok tt) → FillsIn rest fed count BitRun bit_run stream between last held after m (Ok out) → ReadsBits rest fed count stream first last before after (n + m) {T = Unit {0}} (Ok tt)
    bits_more stream first between last before held after n m out len one two = record {
      bits = one.bits ++ out;
      fills = fills_more rest fed count BitRun bit_run joined stream first between last before held after n m one.bits out one.fills two;
      all = omega (arith, length-append one.bits out, one.all, len);
    }

    pub bits_fault : (stream : Option ℕ) (first between last : F) (before held after : List Bool) (n m all : ℕ) (fault : RunFault) → n + m ≤ all
        → ReadsBits rest fed count stream first between before held n {T = Unit {0}} (Ok tt) → FillsIn rest fed count BitRun bit_run stream between last held after m (Err fault) → ReadsBits rest fed count stream first last before after all {T = Unit {0}} (Err fault)
    bits_fault stream first between last before held after n m all fault within one two = record {
      bits = [];
      fills = fills_fault rest fed count BitRun bit_run joined stream first between last before held after n m all one.bits fault one.all within one.fills two;
      all = tt;
    }

  pub bits_none : (stream : Option ℕ) (feed : F) (held : List Bool) → fed feed [] feed → ReadsBits rest fed count stream feed feed held held 0 {T = Unit {0}} (Ok tt)
  bits_none stream feed held nothing = record {
    bits = [];
    fills = fills_none rest fed count BitRun bit_run stream feed held nothing;
    all = refl;
  }
