use Rattle.command_line.proofs.CommandFacts.{faulty, took}
use Rattle.command_line.proofs.reading.parsed.Goals as goal

pub returns-in-Ok-try_get_matches_from-clause-ok :
    goal.returns-in-Ok-try_get_matches_from-clause-ok
returns-in-Ok-try_get_matches_from-clause-ok c =
    let e = c.in-Ok-try_get_matches_from.ensures in
    took c.in-Ok.command c.in-Ok-try_get_matches_from.matches _ c.in-Ok.ensures e.parsed e.matches e.kinds

pub returns-in-Err-clause-usage : goal.returns-in-Err-clause-usage
returns-in-Err-clause-usage c =
    faulty c.in-Ok.command c.in-Err.error _ c.words_fault.result c.in-Ok.ensures c.in-Err.ensures.kinds c.in-Err.ensures.passes
    c.words_fault.ensures.memory
