use Rattle.orc_columns.proofs.Turns.{InTurn-joined, InTurn-front, never_back}
use Rattle.orc_columns.proofs.laws.takes_in_turn_join.Goals as goal

pub returns-clause-join : goal.returns-clause-join
returns-clause-join c = InTurn-joined

pub returns-clause-stop : goal.returns-clause-stop
returns-clause-stop c = InTurn-front

pub returns-clause-never_back : goal.returns-clause-never_back
returns-clause-never_back c = never_back
