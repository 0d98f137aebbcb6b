use Rattle.std.proofs.lemmas.Result.{err_from_is_err_and}
use Rattle.orc_columns.specs.declared.fault.ColumnFault.TheVariants.{NoMemory}
use Rattle.orc_columns.proofs.Drawing.{Draws-refused}
use Rattle.orc_columns.proofs.text_bytes.read_bytes.Goals as goal

pub returns-in_err-resize-clause-body : goal.returns-in_err-resize-clause-body
returns-in_err-resize-clause-body g c = λ plan differ on.
    let f = g.F.Feed in
    let m = g.met.F.Feed in
    let p = err_from_is_err_and c.from_residual.result c.from_residual.ensures.1 in
    rw (p.1, p.2) (Draws-refused f.rest f.fed f.fault_count plan m.fed_lost m.fed_nothing m.fed_joined c.args.feed.now _ _ NoMemory (λ no. no) (λ s t. tt))

pub returns-in_err-resize-clause-dictionary : goal.returns-in_err-resize-clause-dictionary
returns-in_err-resize-clause-dictionary g c = λ plan differ on.
    let f = g.F.Feed in
    let m = g.met.F.Feed in
    let p = err_from_is_err_and c.from_residual.result c.from_residual.ensures.1 in
    rw (p.1, p.2) (Draws-refused f.rest f.fed f.fault_count plan m.fed_lost m.fed_nothing m.fed_joined c.args.feed.now _ _ NoMemory (λ no. no) (λ s t. tt))
