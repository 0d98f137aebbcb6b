-- Laws of decoders: how a call fills, run by run. Source: this project's own.
use Rattle.std.proofs.Common.{◌≡◌, ℕ, ◌+◌, ◌<◌, List, [], ◌++◌, length, Option, Ok, Err, subst, arith, append_assoc, length-append}
use Rattle.outside.specs.declared.run_fault.RunFault.{RunFault}
use Rattle.outside.specs.declared.run_fault.RunFault.TheVariants.{StreamEnds, LongVarint, PatchOutOfRun, PatchTooWide, Read}
use Rattle.outside.specs.CauseLaws.{Cause-none, Cause-then}
use Rattle.outside.specs.Feed.{Taken}
use Rattle.outside.specs.Reading.{Reader, Faults, Reads}
use Rattle.outside.specs.Runs.{Between, IsReaderOf}
use Rattle.outside.specs.Filling.{BreaksWith, Fills}
use Rattle.outside.specs.ReadingLaws.{AllOf-append}
use Rattle.outside.specs.RunLaws.{Between-give, Between-run, Between-breaks}

breaks_with : {V : Type 0} (Run : List ℕ → List V → Type 0) (read : Reader (List V)) (start rest : List ℕ)
    (given : List V) (count : ℕ) (fault : RunFault) → Between Run start given [] rest → Faults fault (read rest)
    → length given < count → BreaksWith Run read start count fault
breaks_with Run read start rest given count (Read failed) at broken fewer = tt
breaks_with Run read start rest given count StreamEnds at broken fewer =
    Between-breaks Run read start rest given count StreamEnds at broken fewer
breaks_with Run read start rest given count LongVarint at broken fewer =
    Between-breaks Run read start rest given count LongVarint at broken fewer
breaks_with Run read start rest given count PatchOutOfRun at broken fewer =
    Between-breaks Run read start rest given count PatchOutOfRun at broken fewer
breaks_with Run read start rest given count PatchTooWide at broken fewer =
    Between-breaks Run read start rest given count PatchTooWide at broken fewer

module _ {F V : Type 0} (rest : F → ℕ → Option (List ℕ)) (fed : F → List Taken → F → Type 0) (count : F → ℕ) (stream : ℕ)
    (nothing : (feed : F) → fed feed [] feed)
    (joined : (first between last : F) (xs ys : List Taken) → fed first xs between → fed between ys last → fed first (xs ++ ys) last)
    (Run : List ℕ → List V → Type 0) (read : Reader (List V)) (reads : IsReaderOf Run read) where
  -- what is held is given
  pub Fills-give : (feed : F) (before given held : List V) (asked : ℕ) → before ≡ given ++ held
      → Fills rest fed count Run read stream feed feed before held asked (Ok given)
  Fills-give feed before given held asked is = record {
    takes = [];
    led = nothing feed;
    own = tt;
    cause = Cause-none (count feed) (λ h. h);
    told = λ bytes e. (bytes, e, λ start earlier at. Between-give Run start bytes earlier given held (rw is at at));
  }

  -- then one more run is read, and at least one value of it is given
  pub Fills-run : (first between last : F) (before given values more held : List V) (asked : ℕ)
      → Fills rest fed count Run read stream first between before [] asked (Ok given) →
      Reads rest fed count stream read between last (Ok values) → values ≡ more ++ held → 0 < length more →
      Fills rest fed count Run read stream first last before held asked (Ok (given ++ more))
  Fills-run first between last before given values more held asked one two is some = record {
    takes = one.takes ++ two.takes;
    led = joined first between last one.takes two.takes one.led two.led;
    own = AllOf-append stream one.takes two.takes one.own two.own;
    cause = Cause-then (count first) (count between) (count last) one.cause two.cause;
    told = λ bytes e.
        let g = one.told bytes e in
        let r = two.told g.0 g.1 in
        let run = reads.only g.0 r.0 values r.2 in (
          r.0,
          r.1,
          λ start earlier at.
              let run_is : Run run.0 (more ++ held) = subst (λ (v : List V). Run run.0 v) is run.1 in
              rw (← append_assoc earlier given more)
              (Between-run Run start g.0 run.0 r.0 (earlier ++ given) more held
              (g.2 start earlier at) run_is run.2 some),
        );
  }

  -- then no run is read
  pub Fills-fault : (first between last : F) (before given held : List V) (asked : ℕ) (fault : RunFault)
      → Fills rest fed count Run read stream first between before [] asked (Ok given) →
      Reads rest fed count stream read between last (Err fault) → length given < asked →
      Fills rest fed count Run read stream first last before held asked (Err fault)
  Fills-fault first between last before given held asked fault one two fewer = record {
    takes = one.takes ++ two.takes;
    led = joined first between last one.takes two.takes one.led two.led;
    own = AllOf-append stream one.takes two.takes one.own two.own;
    cause = Cause-then (count first) (count between) (count last) one.cause (record { later = two.cause.later; failed = two.cause.failed });
    told = λ bytes e.
        let g = one.told bytes e in
        λ start earlier at. breaks_with Run read start g.0 (earlier ++ given) (length earlier + asked) fault
        (g.2 start earlier at) (two.told g.0 g.1) (omega (arith, length-append earlier given));
  }
