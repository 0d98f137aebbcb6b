use Rattle.std.proofs.Common.{◌≡◌, ℕ, List, Bool, true, false, not, if◌then◌else◌, refl, ap, ◌∙◌}
use Rattle.std.specs.Ordering.{nat_cmp, is_eq}
use Rattle.std.specs.Cmp.Lexicographic.{slice_cmp}
use Rattle.fragment_plan.specs.declared.test.Op.TheVariants as op
use Rattle.batch_masks.specs.Checks.{satisfies}
use Rattle.batch_masks.specs.Kept.{both}
use Rattle.batch_masks.proofs.Masks.{map-same}
use Rattle.batch_masks.proofs.narrow.narrow_texts.Goals as goal

if_itself : (b : Bool) → (if b then true else false) ≡ b
if_itself true = refl
if_itself false = refl

if_not : (b : Bool) → (if b then false else true) ≡ not b
if_not true = refl
if_not false = refl

pub returns-in-Equal : goal.returns-in-Equal
returns-in-Equal c =
    let same = λ (t : List ℕ). is_eq (slice_cmp nat_cmp t c.args.literal.now) in
    rw c.in-Equal.is (c.narrow_same.ensures ∙ ap (both c.args.mask.now)
    (map-same (λ t. if same t then true else false) (λ t. satisfies op.Equal (slice_cmp nat_cmp t c.args.literal.now)) (λ t. if_itself (same t)) c.args.values.now))

pub returns-in-NotEqual : goal.returns-in-NotEqual
returns-in-NotEqual c =
    let same = λ (t : List ℕ). is_eq (slice_cmp nat_cmp t c.args.literal.now) in
    rw c.in-NotEqual.is (c.narrow_same-in-NotEqual.ensures ∙ ap (both c.args.mask.now)
    (map-same (λ t. if same t then false else true) (λ t. satisfies op.NotEqual (slice_cmp nat_cmp t c.args.literal.now)) (λ t. if_not (same t)) c.args.values.now))
