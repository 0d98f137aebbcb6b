-- A history with further events.
use Rattle.std.proofs.Common.{◌≡◌, ℕ, List, [], ◌∷◌, ◌++◌, Some, slice_get, refl}
use Rattle.fragment_plan.specs.declared.fragment.Fragment.{Fragment}
use Rattle.board_history.specs.declared.event.BoardEvent.{BoardEvent}
use Rattle.board_history.specs.declared.event.BoardEvent.TheVariants as event
use Rattle.board_history.specs.States.{State, step, replay}
use Rattle.board_history.specs.Legal.{Fits, Legal}

pub replay-append : (s : State) (es fs : List BoardEvent) → replay s (es ++ fs) ≡ replay (replay s es) fs
replay-append s [] fs = refl
replay-append s (e ∷ es) fs = replay-append (step s e) es fs

first-append : (es fs : List BoardEvent) (e : BoardEvent) → slice_get es 0 ≡ Some e → slice_get (es ++ fs) 0 ≡ Some e
first-append [] fs e h = cc
first-append (x ∷ es) fs e h = h

module _ (plan : List Fragment) (room : ℕ) where
  Fits-append : (s : State) (e : BoardEvent) (es fs : List BoardEvent) → Fits plan room s e es → Fits plan room s e (es ++ fs)
  Fits-append s (event.Offered f) es fs fits = fits
  Fits-append s (event.Evicted g) es fs fits = record {
    full = fits.full;
    last = fits.last;
    made_for = (fits.made_for.0, first-append es fs (event.Offered fits.made_for.0) fits.made_for.1, fits.made_for.2, fits.made_for.3);
  }
  Fits-append s (event.Rejected f) es fs fits = fits
  Fits-append s (event.Started a) es fs fits = fits
  Fits-append s (event.Preempted victim made_for) es fs fits = fits
  Fits-append s (event.Finished a) es fs fits = fits
  Fits-append s (event.GaveUp a) es fs fits = fits

  pub Legal-append : (s : State) (es fs : List BoardEvent) → Legal plan room s es → Legal plan room (replay s es) fs → Legal plan room s (es ++ fs)
  Legal-append s [] fs legal more = more
  Legal-append s (e ∷ es) fs legal more = (Fits-append s e es fs legal.0, Legal-append (step s e) es fs legal.1 more)
