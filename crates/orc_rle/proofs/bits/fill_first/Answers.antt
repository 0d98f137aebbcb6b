use Rattle.std.proofs.Common.{◌≡◌, ◌∙◌, ◌<◌, Bool, true, List, [], ◌++◌, length, Ok, refl, sym, ap, arith}
use Rattle.std.proofs.lemmas.Result.{err_from_is_err_and}
use Rattle.outside.specs.FillingLaws.{Fills-give, Fills-fault}
use Rattle.orc_rle.specs.BitRun.{BitRun, bit_run}
use Rattle.orc_rle.proofs.BitRuns.{bit_run_reads}
use Rattle.orc_rle.proofs.EmptyStream.{Reads-broke, Fills-found, Fills-then, Fills-then_fault, Fills-some, Fills-broke, found_some, found_fault}
use Rattle.orc_rle.proofs.Lists.{some_given}
use Rattle.orc_rle.proofs.bits.fill_first.Goals as goal

pub returns-in_err-read_run_unless_empty : goal.returns-in_err-read_run_unless_empty
returns-in_err-read_run_unless_empty g c =
    let f = g.F.Feed in
    let law = g.met.F.Feed in
    let a = c.args in
    let p = err_from_is_err_and c.from_residual.result c.from_residual.ensures.1 in
    let fault = c.in_err-read_run_unless_empty.field-0.0 in
    let asked = length a.out.now in
    let last = c.read_run_unless_empty.new.feed in
    let one = c.in_err-read_run_unless_empty.ensures.reads in
    let none = Fills-give f.rest f.fed f.fault_count a.stream law.fed_nothing law.fed_joined BitRun bit_run bit_run_reads a.feed.now [] [] [] asked refl in
    let broke = Fills-fault f.rest f.fed f.fault_count a.stream law.fed_nothing law.fed_joined BitRun bit_run bit_run_reads a.feed.now a.feed.now last [] [] c.read_run_unless_empty.new.self asked fault none
    (Reads-broke f.rest f.fed f.fault_count a.stream law.fed_nothing law.fed_joined a.feed.now last bit_run fault one) c.requires.asked in
    rw (p.1, p.2, c.requires.none) (Fills-broke f.rest f.fed f.fault_count a.stream law.fed_nothing law.fed_joined BitRun bit_run bit_run_reads a.feed.now last [] c.read_run_unless_empty.new.self asked a.out.now fault broke
    (found_fault f.rest f.fed f.fault_count a.stream law.fed_nothing law.fed_joined BitRun bit_run bit_run_reads a.feed.now last fault asked one))

pub returns-in_err-fill_bits : goal.returns-in_err-fill_bits
returns-in_err-fill_bits g c =
    let f = g.F.Feed in
    let law = g.met.F.Feed in
    let a = c.args in
    let e = c.give-given in
    let p = err_from_is_err_and c.from_residual-in_err-fill_bits.result c.from_residual-in_err-fill_bits.ensures.1 in
    let fault = c.in_err-fill_bits.field-0.0 in
    let asked = length a.out.now in
    let room = length c.split_at_mut-open.result.1.now in
    let between = c.read_run_unless_empty.new.feed in
    let last = c.fill_bits.new.feed in
    let values = c.read_run_unless_empty.new.self in
    let more = c.split_at_mut-open.result.0.now in
    let yes : c.in_ok-read_run_unless_empty.field-0 ≡ true = c.if-not-branch.false in
    let one = rw yes at c.in_ok-read_run_unless_empty.ensures.reads in
    let is : values ≡ more ++ e.new.self = e.ensures.parts ∙ ap (λ (l : List Bool). l ++ e.new.self) (sym c.split_at_mut-open.ensures.front) in
    let some : 0 < length more = some_given values more e.new.self asked is (c.in_ok-read_run_unless_empty.ensures.some (ap Ok yes)) (λ h. e.ensures.all (omega (arith, c.split_at_mut-open.ensures.front_len))) c.requires.asked in
    let first = Fills-found f.rest f.fed f.fault_count a.stream law.fed_nothing law.fed_joined BitRun bit_run bit_run_reads a.feed.now between values more e.new.self asked one is some in
    let broke = Fills-then_fault f.rest f.fed f.fault_count a.stream law.fed_nothing law.fed_joined BitRun bit_run bit_run_reads a.feed.now between last [] e.new.self c.fill_bits.new.held more asked room fault first c.in_err-fill_bits.ensures (omega (arith, c.split_at_mut-open.ensures.front_len, c.split_at_mut-open.ensures.back_len, e.auto.out, e.ensures.room)) in
    rw (p.1, p.2, c.requires.none) (Fills-broke f.rest f.fed f.fault_count a.stream law.fed_nothing law.fed_joined BitRun bit_run bit_run_reads a.feed.now last [] c.fill_bits.new.held asked (more ++ c.fill_bits.new.out) fault broke
    (λ bytes told needs. absurd (found_some f.rest f.fed f.fault_count a.stream law.fed_nothing law.fed_joined BitRun bit_run bit_run_reads a.feed.now between values asked one bytes told needs)))

pub returns : goal.returns
returns g c =
    let f = g.F.Feed in
    let law = g.met.F.Feed in
    let a = c.args in
    let e = c.give-given in
    let asked = length a.out.now in
    let room = length c.split_at_mut-open.result.1.now in
    let between = c.read_run_unless_empty.new.feed in
    let last = c.fill_bits.new.feed in
    let values = c.read_run_unless_empty.new.self in
    let more = c.split_at_mut-open.result.0.now in
    let yes : c.in_ok-read_run_unless_empty.field-0 ≡ true = c.if-not-branch.false in
    let one = rw yes at c.in_ok-read_run_unless_empty.ensures.reads in
    let is : values ≡ more ++ e.new.self = e.ensures.parts ∙ ap (λ (l : List Bool). l ++ e.new.self) (sym c.split_at_mut-open.ensures.front) in
    let some : 0 < length more = some_given values more e.new.self asked is (c.in_ok-read_run_unless_empty.ensures.some (ap Ok yes)) (λ h. e.ensures.all (omega (arith, c.split_at_mut-open.ensures.front_len))) c.requires.asked in
    let first = Fills-found f.rest f.fed f.fault_count a.stream law.fed_nothing law.fed_joined BitRun bit_run bit_run_reads a.feed.now between values more e.new.self asked one is some in
    let filled = Fills-then f.rest f.fed f.fault_count a.stream law.fed_nothing law.fed_joined BitRun bit_run bit_run_reads a.feed.now between last [] e.new.self c.fill_bits.new.held more c.fill_bits.new.out asked room first c.in_ok-fill_bits.ensures in
    rw c.requires.none (Fills-some f.rest f.fed f.fault_count a.stream law.fed_nothing law.fed_joined BitRun bit_run bit_run_reads a.feed.now last [] c.fill_bits.new.held asked (more ++ c.fill_bits.new.out) filled
    (found_some f.rest f.fed f.fault_count a.stream law.fed_nothing law.fed_joined BitRun bit_run bit_run_reads a.feed.now between values asked one))
