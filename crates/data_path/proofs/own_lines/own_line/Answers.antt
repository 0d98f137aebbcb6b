use Rattle.std.proofs.Common.{refl}
use Rattle.data_path.specs.OwnLine.WrittenOwn.{whole, failed}
use Rattle.data_path.proofs.own_lines.own_line.Goals as goal

pub returns-in-Ok : goal.returns-in-Ok
returns-in-Ok g c = whole c.in-Ok.ensures.written

pub returns-in-Err : goal.returns-in-Err
returns-in-Err g c =
    let front = c.in-Err.ensures.front in
    rw c.code.ensures (failed front.0 front.1 front.2 (c.in-Err.ensures.cause.failed refl))
