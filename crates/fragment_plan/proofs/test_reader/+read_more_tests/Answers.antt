use Rattle.std.proofs.Common.{◌≡◌, ◌-◌, ◌∙◌, Bool, List, Ok, sym, ap, subst, codes, arith}
use Rattle.plan_words.specs.Reading.{option}
use Rattle.plan_words.specs.Steps.{GivesOr}
use Rattle.fragment_plan.specs.declared.test.Test.{Test}
use Rattle.fragment_plan.specs.Tests.{more_tests}
use Rattle.fragment_plan.proofs.TestSteps.{tests_go_on}
use Rattle.fragment_plan.proofs.test_reader.+read_more_tests.Goals as goal

pub returns : goal.returns
returns t c =
    let follows = subst (λ (b : Bool). option (codes "and") c.in_ok-one.rest.now ≡ Ok (b, c.read_option-goes_on.result.1.now)) c.if-not-goes_on.false c.read_option-goes_on.ensures in
    let goes = tests_go_on c.args.room (c.args.room - 1) c.args.columns c.args.done.items c.args.left.now c.in_ok-one.one c.in_ok-one.columns c.in_ok-one.rest.now c.read_option-goes_on.result.1.now
    (omega (arith, c.if-room-eq0.false)) c.in_ok-one.ensures follows in
    let same = goes ∙ ap (λ (done : List Test). more_tests (c.args.room - 1) c.in_ok-one.columns done c.read_option-goes_on.result.1.now) (sym c.in_ok-push.ensures.items) in
    subst (λ read. GivesOr (λ x. ((x.0.items, x.1), x.2.now)) c.read_more_tests.result read) (sym same) c.read_more_tests.ensures
