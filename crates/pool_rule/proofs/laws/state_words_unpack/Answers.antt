use Rattle.pool_rule.proofs.StateWords.{state_at}
use Rattle.pool_rule.proofs.laws.state_words_unpack.Goals as goal

pub returns : goal.returns
returns c files setup words views log pool h sizes seats header inside =
    let s = state_at c.every_run_is_lawful.ensures files setup words views log pool h sizes seats header inside in (s.0, s.1, s.2, s.3, s.4)
