use Rattle.std.proofs.Common.{◌∙◌, sym}
use Rattle.command_line.proofs.Meaning.{are_options, odd_block}
use Rattle.command_line.proofs.words.options.Goals as goal

pub returns-then-is_power_of_two-clause-ok : goal.returns-then-is_power_of_two-clause-ok
returns-then-is_power_of_two-clause-ok c =
    are_options _ c.in_ok-matches.matches c.options_of-options.result c.in_ok-matches.ensures.ok c.options_of-options.ensures
    (sym c.is_power_of_two.ensures ∙ c.if-is_power_of_two.true)

pub returns-clause-usage : goal.returns-clause-usage
returns-clause-usage c = λ is.
    odd_block _ c.in_ok-matches.matches c.options_of-options.result c.in_ok-matches.ensures.ok c.options_of-options.ensures
    (sym c.is_power_of_two.ensures ∙ c.if-is_power_of_two.false)
