use Rattle.pool_model.proofs.ProgramSteps.{outcome_needs, outcome_made, outcome_refused, outcome_left, outcome_memory, outcome_lawful}
use Rattle.pool_model.proofs.pool.PlainPool.apply.Goals as goal

pub returns : goal.returns
returns c =
    record {
      needs = outcome_needs _ c.make.result _ _ _ _ c.make.ensures;
      made = outcome_made _ c.make.result _ _ _ _ c.make.ensures;
      refused = outcome_refused _ c.make.result _ _ _ _ c.make.ensures;
      memory = outcome_memory _ c.make.result _ _ _ _ c.make.ensures;
      left = outcome_left _ c.make.result _ _ _ _ c.make.ensures;
      stays_lawful = outcome_lawful c.args.setting.now c.args.step c.args.self.now _ c.make.result c.requires.lawful c.make.ensures;
    }
