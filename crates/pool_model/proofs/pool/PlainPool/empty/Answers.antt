use Rattle.pool_model.proofs.Runs.{empty_lawful}
use Rattle.pool_model.proofs.pool.PlainPool.empty.Goals as goal

pub returns-clause-lawful : goal.returns-clause-lawful
returns-clause-lawful c =
    λ w. rw (c.in_ok-of_none.ensures, c.in_ok-of_none-2.ensures) (empty_lawful w c.args.headers c.args.places)
