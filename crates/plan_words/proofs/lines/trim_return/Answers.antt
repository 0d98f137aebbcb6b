use Rattle.std.proofs.Common.{◌∙◌, sym, ap, eq-eqb, ne_eqb}
use Rattle.plan_words.specs.Lines.{without_return}
use Rattle.plan_words.proofs.ReturnSteps.{cut, kept}
use Rattle.plan_words.proofs.lines.trim_return.Goals as goal

pub returns-then-last-eq13 : goal.returns-then-last-eq13
returns-then-last-eq13 c = sym (ap without_return c.in-Some.ensures.cases.0 ∙ cut c.in-Some.front.now c.in-Some.field-0-0.now (eq-eqb _ _ c.if-last-eq13.true))

pub returns : goal.returns
returns c = sym (ap without_return c.in-Some.ensures.cases.0 ∙ kept c.in-Some.front.now c.in-Some.field-0-0.now (ne_eqb _ _ c.if-last-eq13.false) ∙ sym c.in-Some.ensures.cases.0)
