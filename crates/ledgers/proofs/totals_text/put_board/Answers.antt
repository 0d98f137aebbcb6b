use Rattle.std.proofs.Common.{rules}
use Rattle.std.proofs.lemmas.List.{append_assoc}
use Rattle.ledgers.proofs.totals_text.put_board.Goals as goal

pub returns-clause-held : goal.returns-clause-held
returns-clause-held c = search (rules, append_assoc)
