-- The steps that led to the pool, and one step more.
use Rattle.std.proofs.Common.{◌≡◌, ◌≢◌, ℕ, ◌<◌, List, [], ◌∷◌, ◌++◌, length, refl, sym, ap, ◌∙◌, subst, arith, eqb, eq-eqb, ne_eqb}
use Rattle.std.specs.Prelude.{Option}
use Rattle.std.proofs.lemmas.List.{append-nil}
use Rattle.std.proofs.lemmas.List.Elements.{filter-append}
use Rattle.pool_model.specs.declared.pool.PlainPool.{PlainPool}
use Rattle.pool_model.specs.declared.setting.Setting.{Setting}
use Rattle.pool_model.specs.declared.step.Step.{Step}
use Rattle.pool_model.specs.Content.{Files}
use Rattle.pool_model.specs.Lawful.{IsLawful}
use Rattle.pool_model.specs.Laws.{EveryRunIsLawful, IsLawfulOnTheWay}
use Rattle.pool_model.specs.Step.{IsRun, Needs, after, run}
use Rattle.pool_rule.specs.declared.geometry.Geometry.{Geometry}
use Rattle.pool_rule.specs.Layout.{headers_of, places_of}
use Rattle.pool_rule.specs.Rule.{IsStory, setting_of, first_pool, seat_of, steps_of}

run-append : (ss ts : List Step) (p : PlainPool) → run (ss ++ ts) p ≡ run ts (run ss p)
run-append [] ts p = refl
run-append (s ∷ ss) ts p = run-append ss ts (after s p)

IsRun-append : (w : Setting) (ss ts : List Step) (p : PlainPool) → IsRun w ss p → IsRun w ts (run ss p) → IsRun w (ss ++ ts) p
IsRun-append w [] ts p r q = q
IsRun-append w (s ∷ ss) ts p r q = (r.0, IsRun-append w ss ts (after s p) r.1 q)

-- the last pool of a lawful run is lawful
at_end : (w : Setting) (ss : List Step) (p : PlainPool) → IsLawfulOnTheWay w ss p → IsLawful w (run ss p)
at_end w [] p l = l
at_end w (s ∷ ss) p l = at_end w ss (after s p) l.3

pub story_lawful : EveryRunIsLawful → (files : Option Files) (g : Geometry) (seats : ℕ) (log : List Step) (pool : PlainPool) → IsStory files g seats log pool → IsLawful (setting_of files g) pool
story_lawful law files g seats log pool h =
    let P : PlainPool → Type 0 = λ p. IsLawful (setting_of files g) p in
    subst P h.leads (at_end (setting_of files g) log (first_pool g) (law (setting_of files g) (headers_of g) (places_of g) log h.steps))

-- a step is its seat's, and no other's
pub mine : (s : Step) → steps_of (seat_of s) (s ∷ []) ≡ s ∷ []
mine s = rw (eq-eqb (seat_of s) (seat_of s) refl) refl

pub theirs : (s : Step) (seat : ℕ) → seat ≢ seat_of s → steps_of seat (s ∷ []) ≡ []
theirs s seat apart = rw (ne_eqb (seat_of s) seat (λ e. apart (sym e))) refl

-- no step more
pub story_same : (files : Option Files) (g : Geometry) (seats : ℕ) (log : List Step) (pool : PlainPool) → IsStory files g seats log pool → IsStory files g seats (log ++ []) pool
story_same files g seats log pool h =
    let P : List Step → Type 0 = λ l. IsStory files g seats l pool in subst P (sym (append-nil log)) h

-- one step more, which meets its needs
pub story_more : (files : Option Files) (g : Geometry) (seats : ℕ) (log : List Step) (pool : PlainPool) (s : Step) → IsStory files g seats log pool → Needs (setting_of files g) s pool → seat_of s < seats → length (after s pool).buffers ≡ length pool.buffers → length (after s pool).grants ≡ length pool.grants → IsStory files g seats (log ++ s ∷ []) (after s pool)
story_more files g seats log pool s h needs inside buffers grants =
    record {
      steps =
          let P : PlainPool → Type 0 = λ p. IsRun (setting_of files g) (s ∷ []) p in
          IsRun-append (setting_of files g) log (s ∷ []) (first_pool g) h.steps (subst P (sym h.leads) (needs, tt));
      leads = run-append log (s ∷ []) (first_pool g) ∙ ap (after s) h.leads;
      headers = buffers ∙ h.headers;
      places = grants ∙ h.places;
      others = λ seat past.
          filter-append (λ z. eqb (seat_of z) seat) log (s ∷ []) ∙ (ap (λ xs. xs ++ steps_of seat (s ∷ [])) (h.others seat past) ∙ theirs s seat (λ e. omega (arith, e, past, inside)));
    }
