use Rattle.std.proofs.Common.{◌≡◌, length, arith, append-nil}
use Rattle.std.proofs.lemmas.List.{take_at}
use Rattle.orc_rle2.proofs.RunsIn.{run-read, run-read-if}
use Rattle.orc_rle2.proofs.run2_in.give_run_in.Goals as goal

pub returns-then-count-out-clause-reads : goal.returns-then-count-out-clause-reads
returns-then-count-out-clause-reads c =
    run-read-if c.args.signed c.in_ok-header.header c.hold_run_in.new.out c.hold_run_in.new.held c.in_ok-header.ensures.reads c.hold_run_in.result c.hold_run_in.ensures.reads

pub returns-clause-reads : goal.returns-clause-reads
returns-clause-reads c =
    let into = c.body_in.new.into in
    let back = c.split_at_mut-into.result.1.now in
    let len : length into ≡ c.count-count.result = omega (arith, c.body_in.auto.into, c.split_at_mut-into.ensures.front_len) in
    rw (take_at into back c.count-count.result len, c.requires.none, append-nil into) (run-read c.args.signed c.in_ok-header.header c.in_ok-header.ensures.reads c.in_ok-left.ensures)
