use Rattle.generated_file.specs.Making.{HasFirst}
use Rattle.generated_file.proofs.pushing.with_rows.Given as goal

abbrev pub invariant-loop-index : goal.invariant-loop-index
invariant-loop-index l = HasFirst l.fn.number l.index l.writer
