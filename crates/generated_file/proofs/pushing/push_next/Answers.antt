use Rattle.std.proofs.Common.{◌≡◌, subst, List}
use Rattle.std.proofs.lemmas.Result.{on_ok_weaker}
use Rattle.orc_values.specs.declared.value.Value.{Value}
use Rattle.orc_writer.specs.Writing.{Pushes}
use Rattle.generated_file.proofs.Pushed.{first_pushed}
use Rattle.generated_file.proofs.pushing.push_next.Goals as goal

pub returns : goal.returns
returns c = on_ok_weaker c.push_row.result
    (λ pushed. first_pushed c.args.number c.args.index c.args.writer.now c.push_row.new.self c.requires
    (subst (λ (row : List Value). Pushes c.args.writer.now row c.push_row.new.self) c.in_ok-row.ensures pushed)) c.push_row.ensures.ok
