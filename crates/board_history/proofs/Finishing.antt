-- Whether a fragment can finish, by its sources and then by what it waits for.
use Rattle.std.proofs.Common.{◌≡◌, ℕ, Bool, true, false, ◌&&◌, List, length, Option, slice_get, get_or, refl, sym, ap, ◌∙◌, ◌<◌}
use Rattle.std.specs.List.{list_all}
use Rattle.std.proofs.lemmas.List.Folds.{list_all-append}
use Rattle.std.proofs.lemmas.Option.{slice_get_read}
use Rattle.fragment_plan.specs.declared.fragment.Fragment.{Fragment}
use Rattle.fragment_plan.specs.Bounds.{sources_of}
use Rattle.board_history.specs.declared.status.FragmentStatus.{FragmentStatus}
use Rattle.board_history.specs.Order.{ended_in, named_in, is_finishable}

module _ (plan : List Fragment) (statuses : List FragmentStatus) (f : ℕ) (x : Fragment) (within : f < length plan) (read : x ≡ get_or plan f x) where
  abbrev ended : List ℕ → Bool
  ended gs = list_all (λ g. ended_in (slice_get statuses g)) gs

  parts : is_finishable plan statuses f ≡ (ended (sources_of x.work) && ended x.after)
  parts =
      ap (λ (o : Option Fragment). ended (named_in o)) (slice_get_read plan (length plan) f x refl within read)
      ∙ list_all-append (λ g. ended_in (slice_get statuses g)) (sources_of x.work) x.after

  pub finishable_all : (r : Bool) → ended (sources_of x.work) ≡ true → r ≡ ended x.after → r ≡ is_finishable plan statuses f
  finishable_all r first second = second ∙ sym (parts ∙ ap (λ b. b && ended x.after) first)

  pub finishable_none : (r : Bool) → r ≡ ended (sources_of x.work) → r ≡ false → r ≡ is_finishable plan statuses f
  finishable_none r same none = none ∙ sym (parts ∙ ap (λ b. b && ended x.after) (sym same ∙ none))
