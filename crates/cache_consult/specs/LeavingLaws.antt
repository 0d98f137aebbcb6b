-- What a consultation leaves of a seat's view, for those who make more calls. A load of a key word may tell the key of a pin.
use Rattle.std.specs.Prelude.{◌≡◌, ℕ, zero, suc, List, [], ◌∷◌, ◌++◌, Option}
use Rattle.std.proofs.Common.{sym, ◌∙◌, subst}
use Rattle.std.proofs.lemmas.Option.{none-some}
use Rattle.lrfu_policy.specs.Policy.{Ranking}
use Rattle.pool_model.specs.Content.{Files}
use Rattle.pool_rule.specs.declared.geometry.Geometry.{Geometry}
use Rattle.pool_rule.specs.declared.geometry.WordName.TheVariants.{KeyOf, Last, Touches}
use Rattle.pool_rule.specs.declared.view.View.{View}
use Rattle.pool_rule.specs.declared.word_step.WordStep.{WordStep}
use Rattle.pool_rule.specs.declared.word_step.WordStep.TheVariants.{Updated}
use Rattle.pool_rule.specs.Seats.{HasNothing, granted_at}
use Rattle.pool_rule.specs.WordSteps.{IsMade}
use Rattle.buffer_pool.specs.Callers.{AreAwayFrom, all_granted, looked_nothing, made_granted, made_mark}
use Rattle.buffer_pool.specs.Made.{AreMade}
use Rattle.cache_consult.specs.Consults.{ConsultSteps, Consults, LearnSteps, learnt, taken_before, untouched}
use Rattle.cache_consult.specs.Leaving.{AreLearnSteps, IsLearnStep, load_key, load_last, load_touches, take_touches}

are_then : (ss ts : List WordStep) → AreLearnSteps ss → AreLearnSteps ts → AreLearnSteps (ss ++ ts)
are_then [] ts a b = b
are_then (s ∷ ss) ts a b = (a.0, are_then ss ts a.1 b)

learn_only : (header : ℕ) (p q : Ranking) (ss : List WordStep) → LearnSteps header p ss q → AreLearnSteps ss
learn_only header p q ss untouched = (load_touches header 0, tt)
learn_only header p q ss (taken_before seen some) = (load_touches header seen, (take_touches header 0, tt))
learn_only header p q ss (learnt seen touches key last some any) =
    (load_touches header seen, (take_touches header touches, (load_key header key, (load_last header last, tt))))

-- all steps of a consultation are such
pub consult_only : (n : ℕ) (p q : Ranking) (ss : List WordStep) → ConsultSteps n p ss q → AreLearnSteps ss
consult_only zero p q ss h = subst AreLearnSteps (sym h.0) tt
consult_only (suc n) p q ss h =
    subst AreLearnSteps (sym h.5) (are_then h.1 h.2 (consult_only n p h.0 h.1 h.3) (learn_only n h.0 q h.2 h.4))

away : (place : ℕ) (s : WordStep) (ss : List WordStep) → IsLearnStep s → AreAwayFrom place ss → AreAwayFrom place (s ∷ ss)
away place s ss (load_touches header found) rest = (none-some place, rest)
away place s ss (take_touches header found) rest = (none-some place, rest)
away place s ss (load_key header found) rest = (none-some place, rest)
away place s ss (load_last header found) rest = (none-some place, rest)

all_away : (place : ℕ) (ss : List WordStep) → AreLearnSteps ss → AreAwayFrom place ss
all_away place [] h = tt
all_away place (s ∷ ss) h = away place s ss h.0 (all_away place ss h.1)

module _ (files : Option Files) (g : Geometry) (id : ℕ) where
  -- the seat's granted blocks stay
  pub consult_granted : (n : ℕ) (p q : Ranking) (v w : View) → Consults files g id n p q v w → (place : ℕ)
      → granted_at w place ≡ granted_at v place
  consult_granted n p q v w h place = all_granted files g id h.0 v w h.1 place (all_away place h.0 (consult_only n p q h.0 h.2))

  updated_nothing : (header found : ℕ) (v w : View) → IsMade files g id (Updated (Touches header) found 0) v w → HasNothing v → HasNothing w
  updated_nothing header found v w m h =
      record {
        marks = λ other. made_mark files g id (Updated (Touches header) found 0) v w m other (none-some other) ∙ h.marks other;
        granted = λ place. made_granted files g id (Updated (Touches header) found 0) v w m place (none-some place) ∙ h.granted place;
      }

  step_nothing : (s : WordStep) (v w : View) → IsLearnStep s → IsMade files g id s v w → HasNothing v → HasNothing w
  step_nothing s v w (load_touches header found) m h = looked_nothing files g id (Touches header) found v w m h
  step_nothing s v w (take_touches header found) m h = updated_nothing header found v w m h
  step_nothing s v w (load_key header found) m h = looked_nothing files g id (KeyOf header) found v w m h
  step_nothing s v w (load_last header found) m h = looked_nothing files g id (Last header) found v w m h

  steps_nothing : (ss : List WordStep) (v w : View) → AreLearnSteps ss → AreMade files g id ss v w → HasNothing v → HasNothing w
  steps_nothing [] v w are e h = subst HasNothing (sym e) h
  steps_nothing (s ∷ ss) v w are all h = steps_nothing ss all.0 w are.1 all.2 (step_nothing s v all.0 are.0 all.1 h)

  -- and a seat with nothing has nothing then
  pub consult_nothing : (n : ℕ) (p q : Ranking) (v w : View) → Consults files g id n p q v w → HasNothing v → HasNothing w
  consult_nothing n p q v w h nothing = steps_nothing h.0 v w (consult_only n p q h.0 h.2) h.1 nothing

pub ruleset consulting = (consult_only, consult_granted, consult_nothing)
