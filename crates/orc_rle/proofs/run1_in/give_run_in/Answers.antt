use Rattle.std.proofs.Common.{◌≡◌, ◌∷◌, length, arith, append-nil}
use Rattle.std.proofs.lemmas.List.{take_at}
use Rattle.orc_rle.proofs.RunsIn.{run-read, run-read-if}
use Rattle.orc_rle.proofs.run1_in.give_run_in.Goals as goal

pub returns-then-count-out-clause-reads : goal.returns-then-count-out-clause-reads
returns-then-count-out-clause-reads c =
    let parts : c.args.bytes.now ≡ c.in_ok-control.control.now ∷ c.in_ok-control.rest.now = c.in_ok-control.ensures.cases.0 in
    rw parts (run-read-if c.args.signed c.in_ok-control.control.now c.in_ok-control.rest.now c.hold_run_in.new.out c.hold_run_in.new.held c.hold_run_in.result c.hold_run_in.ensures.reads)

pub returns-clause-reads : goal.returns-clause-reads
returns-clause-reads c =
    let into = c.body_in.new.into in
    let back = c.split_at_mut-into.result.1.now in
    let len : length into ≡ c.run_len-count.result = omega (arith, c.body_in.auto.into, c.split_at_mut-into.ensures.front_len) in
    let parts : c.args.bytes.now ≡ c.in_ok-control.control.now ∷ c.in_ok-control.rest.now = c.in_ok-control.ensures.cases.0 in
    rw (parts, take_at into back c.run_len-count.result len, c.requires.none, append-nil into) (run-read c.args.signed c.in_ok-control.control.now c.in_ok-left.ensures)
