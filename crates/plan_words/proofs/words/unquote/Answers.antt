use Rattle.plan_words.proofs.TextSteps.{goes_on_two}
use Rattle.plan_words.proofs.words.unquote.Goals as goal

pub loop-byte-preserved : goal.loop-byte-preserved
loop-byte-preserved c =
    goes_on_two c.args.left.now c.loop-byte.text.items c.loop-byte.rest.now c.in-Some.after.now c.in-Some-second_quote.later.now c.push-in-Some.new.self.items c.in-Some.field-0-0.now
    c.loop-byte.invariant c.in-Some.ensures.cases.0 c.if-byte-ne39.false c.in-Some-second_quote.ensures c.in_ok-push-2.ensures.items
