use Rattle.std.proofs.Common.{ℕ, List, sym, ◌∙◌, subst, arith}
use Rattle.plan_words.proofs.NumberSteps.{SoFar, begins, first_digit, digit_low, digit_high, goes_on, too_large, whole}
use Rattle.plan_words.proofs.literals.digits_up_to.Goals as goal

pub loop-byte-init : goal.loop-byte-init
loop-byte-init c = begins c.args.most c.args.digits.now (sym c.is_numeral.ensures ∙ c.if-not-is_numeral.false)

pub overflow_mul-value : goal.overflow_mul-value
overflow_mul-value c = omega (arith, c.loop-byte.invariant.small, c.requires)

pub overflow_sub-value : goal.overflow_sub-value
overflow_sub-value c =
    let so = subst (λ (r : List ℕ). SoFar c.args.most c.args.digits.now c.loop-byte.value r) c.in-Some.ensures.cases.0 c.loop-byte.invariant in
    digit_low c.in-Some.field-0-0.now (first_digit c.args.most c.args.digits.now c.loop-byte.value c.in-Some.field-0-0.now c.in-Some.after.now so)

pub overflow_add-value : goal.overflow_add-value
overflow_add-value c =
    let so = subst (λ (r : List ℕ). SoFar c.args.most c.args.digits.now c.loop-byte.value r) c.in-Some.ensures.cases.0 c.loop-byte.invariant in
    let high = digit_high c.in-Some.field-0-0.now (first_digit c.args.most c.args.digits.now c.loop-byte.value c.in-Some.field-0-0.now c.in-Some.after.now so) in
    omega (arith, c.loop-byte.invariant.small, c.requires, high)

pub returns-then-value-most-clause-value : goal.returns-then-value-most-clause-value
returns-then-value-most-clause-value c =
    sym (too_large c.args.most c.args.digits.now c.loop-byte.value c.in-Some.field-0-0.now c.in-Some.after.now (sym c.is_numeral.ensures ∙ c.if-not-is_numeral.false)
    (subst (λ (r : List ℕ). SoFar c.args.most c.args.digits.now c.loop-byte.value r) c.in-Some.ensures.cases.0 c.loop-byte.invariant)
    c.if-value-most.true)

pub loop-byte-preserved : goal.loop-byte-preserved
loop-byte-preserved c =
    goes_on c.args.most c.args.digits.now c.loop-byte.value c.in-Some.field-0-0.now c.in-Some.after.now
    (subst (λ (r : List ℕ). SoFar c.args.most c.args.digits.now c.loop-byte.value r) c.in-Some.ensures.cases.0 c.loop-byte.invariant)
    c.if-value-most.false

pub overflow_cast-result : goal.overflow_cast-result
overflow_cast-result c = omega (arith, c.loop-byte.invariant.small, c.requires)

pub returns-clause-value : goal.returns-clause-value
returns-clause-value c =
    sym (whole c.args.most c.args.digits.now c.loop-byte.value c.loop-byte.rest.now (sym c.is_numeral.ensures ∙ c.if-not-is_numeral.false) c.in_default.ensures.cases c.loop-byte.invariant)

pub returns-clause-within : goal.returns-clause-within
returns-clause-within c = c.loop-byte.invariant.small
