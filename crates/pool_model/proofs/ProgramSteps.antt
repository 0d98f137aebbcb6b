-- What a program that takes a buffer out, changes it and puts it back has done.
use Rattle.std.proofs.Common.{◌≡◌, ℕ, List, [], ◌∷◌, suc, zero, set, refl, ap, sym, subst, ◌∙◌}
use Rattle.std.specs.Prelude.{Option, None, Some, IsSomeAnd, Result, Ok, Err, OnOk, OnErr, option_map}
use Rattle.std.proofs.lemmas.List.{set-get_or}
use Rattle.pool_model.specs.declared.buffer.Buffer.{Buffer}
use Rattle.pool_model.specs.declared.buffer.Target.{Target}
use Rattle.pool_model.specs.declared.block.Block.{Block}
use Rattle.pool_model.specs.declared.pool.PlainPool.{PlainPool}
use Rattle.pool_model.specs.declared.setting.Setting.{Setting}
use Rattle.pool_model.specs.declared.step.Step.{Step}
use Rattle.pool_model.specs.declared.step.StepFault.{StepFault}
use Rattle.pool_model.specs.declared.step.StepFault.TheVariants.{Refused, NoMemory}
use Rattle.pool_model.specs.Outcome.{Outcome, TakesMemory}
use Rattle.pool_model.specs.Pool.{buffer_at, with_buffer, with_grant}
use Rattle.pool_model.specs.Step.{Needs, after, with_change, with_settle, with_settled, with_cancel, with_cancelled}
use Rattle.pool_model.specs.Buffer.{live_at}
use Rattle.pool_model.specs.Lawful.{IsLawful}
use Rattle.pool_model.proofs.PoolSteps.{step_keeps}
use Rattle.pool_model.proofs.Options.{at_value, some_and}

set-set : {A : Type 0} (xs : List A) (i : ℕ) (x y : A) → set (set xs i x) i y ≡ set xs i y
set-set [] i x y = refl
set-set (z ∷ xs) zero x y = refl
set-set (z ∷ xs) (suc i) x y = ap (λ zs. z ∷ zs) (set-set xs i x y)

abbrev with_buffers : PlainPool → List (Option Buffer) → PlainPool
with_buffers p bs = record { buffers = bs; grants = p.grants }

-- a buffer put where one was taken out
pub put_over : (p mid new : PlainPool) (header : ℕ) (c : Buffer) → mid ≡ with_buffer header None p → new ≡ with_buffer header (Some c) mid → new ≡ with_buffer header (Some c) p
put_over p mid new header c left put =
    put ∙ ap (with_buffer header (Some c)) left ∙ ap (with_buffers p) (set-set p.buffers header None (Some c))

-- the buffer that was there, put back
pub put_back : (p mid new : PlainPool) (header : ℕ) (b : Buffer) → Some b ≡ buffer_at p header → mid ≡ with_buffer header None p → new ≡ with_buffer header (Some b) mid → new ≡ p
put_back p mid new header b e left put =
    put_over p mid new header b left put ∙ ap (with_buffers p) (ap (set p.buffers header) e ∙ set-get_or p.buffers header None)

-- it wasn't as the step needs it, and was put back
pub refused_back : (p mid new : PlainPool) (header : ℕ) (b : Buffer) (Can : Buffer → Type 0) → Some b ≡ buffer_at p header → mid ≡ with_buffer header None p → new ≡ with_buffer header (Some b) mid → (Can b → ⊥) → (IsSomeAnd (buffer_at p header) Can → ⊥) × (new ≡ p)
refused_back p mid new header b Can e left put cannot =
    (λ h. cannot (at_value Can (buffer_at p header) b (sym e) h), put_back p mid new header b e left put)

-- it was changed, and put back
pub change_put : (p mid new : PlainPool) (header : ℕ) (b changed : Buffer) (change : Buffer → Buffer) → Some b ≡ buffer_at p header → mid ≡ with_buffer header None p → new ≡ with_buffer header (Some changed) mid → changed ≡ change b → new ≡ with_change header change p
change_put p mid new header b changed change e left put is =
    let now : Some changed ≡ option_map change (buffer_at p header) = ap (λ x. Some x) is ∙ ap (option_map change) e in
    put_over p mid new header changed left put ∙ ap (with_buffers p) (ap (set p.buffers header) now)

-- the buffer that was there, changed or not, put back
pub change_made : (memory : Type 0) (p mid new : PlainPool) (header : ℕ) (b changed : Buffer) (Can : Buffer → Type 0) (change : Buffer → Buffer) (r : Result (Unit {0}) StepFault) → Some b ≡ buffer_at p header → mid ≡ with_buffer header None p → new ≡ with_buffer header (Some changed) mid → Outcome memory r (Can b) changed (change b) b → Outcome memory r (IsSomeAnd (buffer_at p header) Can) new (with_change header change p) p
change_made memory p mid new header b changed Can change (Ok u) e left put o =
    (some_and Can (buffer_at p header) b (sym e) o.0, change_put p mid new header b changed change e left put o.1)
change_made memory p mid new header b changed Can change (Err Refused) e left put o =
    refused_back p mid new header b Can e left (put ∙ ap (λ x. with_buffer header (Some x) mid) o.1) o.0
change_made memory p mid new header b changed Can change (Err NoMemory) e left put o =
    (o.0, some_and Can (buffer_at p header) b (sym e) o.1, put_back p mid new header b e left (put ∙ ap (λ x. with_buffer header (Some x) mid) o.2))

-- it was settled at its target, and its old block granted
pub settle_made : (p mid put new : PlainPool) (seat header : ℕ) (b settled : Buffer) (t : Target) → Some b ≡ buffer_at p header → mid ≡ with_buffer header None p → b.target ≡ Some t → settled ≡ live_at t.block t.cells b → put ≡ with_buffer header (Some settled) mid → new ≡ with_grant seat b.block put → new ≡ with_settle seat header (buffer_at p header) p
settle_made p mid put new seat header b settled t e left at_target is putting granting =
    let At : Option Buffer → Type 0 = λ o. new ≡ with_settle seat header o p in
    let To : Option Target → Type 0 = λ o. new ≡ with_settled seat header b o p in
    subst At e
    (subst To (sym at_target)
    (granting ∙ ap (with_grant seat b.block) (put_over p mid put header settled left putting ∙ ap (λ x. with_buffer header (Some x) p) is)))

-- its move was given up, and its target granted
pub cancel_made : (p mid put new : PlainPool) (seat header : ℕ) (b live : Buffer) (given : Block) (t : Target) → Some b ≡ buffer_at p header → mid ≡ with_buffer header None p → b.target ≡ Some t → live ≡ live_at b.block b.cells b → given ≡ t.block → put ≡ with_buffer header (Some live) mid → new ≡ with_grant seat given put → new ≡ with_cancel seat header (buffer_at p header) p
cancel_made p mid put new seat header b live given t e left at_target is same putting granting =
    let At : Option Buffer → Type 0 = λ o. new ≡ with_cancel seat header o p in
    let To : Option Target → Type 0 = λ o. new ≡ with_cancelled seat header b o p in
    subst At e
    (subst To (sym at_target)
    (granting ∙ ap (λ g. with_grant seat g put) same
    ∙ ap (with_grant seat t.block) (put_over p mid put header live left putting ∙ ap (λ x. with_buffer header (Some x) p) is)))

-- a step that was made or refused, and the pool that it left
pub outcome_lawful : (w : Setting) (s : Step) (p new : PlainPool) (r : Result (Unit {0}) StepFault) → IsLawful w p → Outcome (TakesMemory s) r (Needs w s p) new (after s p) p → IsLawful w new
outcome_lawful w s p new (Ok u) l o = let P : PlainPool → Type 0 = IsLawful w in subst P (sym o.1) (step_keeps w s p l o.0)
outcome_lawful w s p new (Err Refused) l o = let P : PlainPool → Type 0 = IsLawful w in subst P (sym o.1) l
outcome_lawful w s p new (Err NoMemory) l o = let P : PlainPool → Type 0 = IsLawful w in subst P (sym o.2) l

-- the parts of an outcome

pub outcome_needs : (memory : Type 0) (r : Result (Unit {0}) StepFault) (needs : Type 0) (new changed old : PlainPool) → Outcome memory r needs new changed old → OnOk r needs
outcome_needs memory (Ok u) needs new changed old o = o.0
outcome_needs memory (Err e) needs new changed old o = tt

pub outcome_made : (memory : Type 0) (r : Result (Unit {0}) StepFault) (needs : Type 0) (new changed old : PlainPool) → Outcome memory r needs new changed old → OnOk r (new ≡ changed)
outcome_made memory (Ok u) needs new changed old o = o.1
outcome_made memory (Err e) needs new changed old o = tt

pub outcome_refused : (memory : Type 0) (r : Result (Unit {0}) StepFault) (needs : Type 0) (new changed old : PlainPool) → Outcome memory r needs new changed old → r ≡ Err Refused → needs → ⊥
outcome_refused memory (Ok u) needs new changed old o e n = cc
outcome_refused memory (Err Refused) needs new changed old o e n = o.0 n
outcome_refused memory (Err NoMemory) needs new changed old o e n = cc

pub outcome_left : (memory : Type 0) (r : Result (Unit {0}) StepFault) (needs : Type 0) (new changed old : PlainPool) → Outcome memory r needs new changed old → OnErr r (new ≡ old)
outcome_left memory (Ok u) needs new changed old o = tt
outcome_left memory (Err Refused) needs new changed old o = o.1
outcome_left memory (Err NoMemory) needs new changed old o = o.2

pub outcome_memory : (memory : Type 0) (r : Result (Unit {0}) StepFault) (needs : Type 0) (new changed old : PlainPool) → Outcome memory r needs new changed old → r ≡ Err NoMemory → memory × needs
outcome_memory memory (Ok u) needs new changed old o e = cc
outcome_memory memory (Err Refused) needs new changed old o e = cc
outcome_memory memory (Err NoMemory) needs new changed old o e = (o.0, o.1)
