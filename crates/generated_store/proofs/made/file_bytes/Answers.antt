use Rattle.std.proofs.Common.{◌≡◌, ℕ, List, Some, Ok, sym, subst}
use Rattle.generated_file.specs.File.{IsGenerated}
use Rattle.generated_file.specs.Making.{WroteGenerated}
use Rattle.generated_store.proofs.Whole.{whole_file}
use Rattle.generated_store.proofs.made.file_bytes.Goals as goal

pub returns-in-Ok : goal.returns-in-Ok
returns-in-Ok c =
    let made = c.generate.new.out.bytes.items in
    subst (λ (b : List ℕ). IsGenerated c.args.number c.args.rows b) (sym c.into_bytes.ensures)
    (whole_file c.args.number c.args.rows made
    (subst (λ (b : List ℕ). WroteGenerated c.args.number c.args.rows (Some b) (Some made) (Ok tt)) c.new-sink.ensures c.in-Ok.ensures.wrote))
