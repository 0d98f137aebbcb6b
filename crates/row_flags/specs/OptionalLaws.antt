-- A stream that isn't there.
use Rattle.std.proofs.Common.{◌≡◌, ℕ, ◌+◌, ◌<◌, List, [], ◌∷◌, length, Option, Some, None, Ok, Err, refl, sym, subst, arith, append-nil}
use Rattle.outside.specs.declared.run_fault.RunFault.TheVariants.{StreamEnds}
use Rattle.outside.specs.Feed.{Taken}
use Rattle.outside.specs.Reading.{Reader}
use Rattle.outside.specs.Runs.{Between}
use Rattle.outside.specs.RunLaws.{Between-breaks}
use Rattle.row_flags.specs.Optional.{FillsIn}

module _ {F V : Type 0} (rest : F → ℕ → Option (List ℕ)) (fed : F → List Taken → F → Type 0) (count : F → ℕ)
    (Run : List ℕ → List V → Type 0) (read : Reader (List V)) where
  bytes_are : (bytes : List ℕ) → Some [] ≡ Some bytes → [] ≡ bytes
  bytes_are bytes e = cc

  -- nothing was asked of it
  pub lacking_ok : (stream : Option ℕ) (feed : F) (held out : List V) → stream ≡ None → fed feed [] feed → held ≡ []
      → length out ≡ 0 → FillsIn rest fed count Run read stream feed feed held held (length out) (Ok out)
  lacking_ok (Some s) feed held out lacks nothing none len = absurd (let no : Some s ≡ None = lacks in cc)
  lacking_ok None feed held (x ∷ out) lacks nothing none len = absurd (omega (arith, len))
  lacking_ok None feed held [] lacks nothing none len = record {
    takes = [];
    led = nothing;
    own = refl;
    cause = record { later = omega arith; failed = λ f. absurd f };
    told = λ bytes e. (
      [],
      refl,
      λ start given at. rw append-nil
          (subst (λ (b : List ℕ). Between Run start given held b) (sym (bytes_are bytes e)) at),
    );
  }

  pub lacking_ends : (stream : Option ℕ) (feed : F) (held : List V) (asked : ℕ) → stream ≡ None → fed feed [] feed
      → held ≡ [] → read [] ≡ Err StreamEnds → 0 < asked
      → FillsIn rest fed count Run read stream feed feed held held asked (Err StreamEnds)
  lacking_ends (Some s) feed held asked lacks nothing none broken some = absurd (let no : Some s ≡ None = lacks in cc)
  lacking_ends None feed held asked lacks nothing none broken some = record {
    takes = [];
    led = nothing;
    own = refl;
    cause = record { later = omega arith; failed = λ f. absurd f };
    told = λ bytes e start given at.
        let here : Between Run start given [] [] =
        subst (λ (b : List ℕ). Between Run start given [] b) (sym (bytes_are bytes e))
        (subst (λ (h : List V). Between Run start given h bytes) none at) in
        Between-breaks Run read start [] given (length given + asked) StreamEnds here broken (omega arith);
  }
