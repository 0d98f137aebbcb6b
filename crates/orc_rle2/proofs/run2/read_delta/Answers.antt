use Rattle.std.proofs.Common.{◌≡◌, ℕ, ◌-◌, List, length, get_or, Ok, Err}
use Rattle.std.proofs.lemmas.Result.{err_from_is_err_and}
use Rattle.outside.specs.Reading.{bind, mapped, value}
use Rattle.outside.specs.Varint.{varints}
use Rattle.outside.specs.ReadingLaws.{Reads-then, Reads-same, Reads-fault, Reads-value}
use Rattle.orc_integers.specs.Integers.{integer, zigzag, ramp}
use Rattle.orc_rle2.specs.IntRun2.{delta_body, delta_values, magnitudes, packed, varied}
use Rattle.orc_rle2.specs.Widths.{width_of}
use Rattle.orc_rle2.proofs.Forms.{delta-fixed, delta-varied, two_varints}
use Rattle.orc_rle2.proofs.run2.read_delta.Goals as goal

pub returns-in_err-take_varints : goal.returns-in_err-take_varints
returns-in_err-take_varints g c =
    let f = g.F.Feed in
    let law = g.met.F.Feed in
    let a = c.args in
    let count = length a.into.now in
    let last = c.take_varints.new.feed in
    let fault = c.in_err-take_varints.field-0.0 in
    let after = λ (start step : ℕ). mapped (delta_values (integer a.signed start) (zigzag step) a.code count) (magnitudes a.code count) in
    let next = λ (got : List ℕ). after (get_or got 0 0) (get_or got 1 0) in
    let p = err_from_is_err_and c.from_residual.result c.from_residual.ensures.1 in
    rw (p.1, p.2) (Reads-same f.rest f.fed f.fault_count a.stream law.fed_nothing law.fed_joined a.feed.now last (delta_body a.signed a.code count) (bind (varints 2) next) (Err fault) (λ bytes. two_varints after bytes)
    (Reads-fault f.rest f.fed f.fault_count a.stream law.fed_nothing law.fed_joined a.feed.now last (varints 2) next fault c.in_err-take_varints.ensures))

pub returns-then-code-eq0 : goal.returns-then-code-eq0
returns-then-code-eq0 g c =
    let f = g.F.Feed in
    let law = g.met.F.Feed in
    let a = c.args in
    let count = length a.into.now in
    let last = c.take_varints.new.feed in
    let got = c.take_varints.new.out in
    let start = get_or got 0 0 in
    let step = get_or got 1 0 in
    let after = λ (start step : ℕ). mapped (delta_values (integer a.signed start) (zigzag step) a.code count) (magnitudes a.code count) in
    let next = λ (got : List ℕ). after (get_or got 0 0) (get_or got 1 0) in
    let none : a.code ≡ 0 = c.if-code-eq0.true in
    let values = ramp (integer a.signed start) (zigzag step) count in
    let is : c.write_ramp.new.into ≡ values = rw (c.bits_of-base.ensures, c.bits_of-delta.ensures) at c.write_ramp.ensures in
    rw is (Reads-same f.rest f.fed f.fault_count a.stream law.fed_nothing law.fed_joined a.feed.now last (delta_body a.signed a.code count) (bind (varints 2) next) (Ok values) (λ bytes. two_varints after bytes)
    (Reads-then f.rest f.fed f.fault_count a.stream law.fed_nothing law.fed_joined a.feed.now last last (varints 2) next got (Ok values) c.in_ok-take_varints.ensures
    (Reads-same f.rest f.fed f.fault_count a.stream law.fed_nothing law.fed_joined last last (after start step) (value values) (Ok values)
    (λ bytes. delta-fixed (integer a.signed start) (zigzag step) a.code count bytes none)
    (Reads-value f.rest f.fed f.fault_count a.stream law.fed_nothing law.fed_joined last values))))

pub returns : goal.returns
returns g c =
    let f = g.F.Feed in
    let law = g.met.F.Feed in
    let a = c.args in
    let count = length a.into.now in
    let got = c.take_varints.new.out in
    let start = get_or got 0 0 in
    let step = get_or got 1 0 in
    let between = c.take_varints.new.feed in
    let last = c.read_varied.new.feed in
    let after = λ (start step : ℕ). mapped (delta_values (integer a.signed start) (zigzag step) a.code count) (magnitudes a.code count) in
    let next = λ (got : List ℕ). after (get_or got 0 0) (get_or got 1 0) in
    let reads = rw (c.bits_of-base.ensures, c.bits_of-delta.ensures, c.width_of.ensures.value) at c.read_varied.ensures in
    Reads-same f.rest f.fed f.fault_count a.stream law.fed_nothing law.fed_joined a.feed.now last (delta_body a.signed a.code count) (bind (varints 2) next) _ (λ bytes. two_varints after bytes)
    (Reads-then f.rest f.fed f.fault_count a.stream law.fed_nothing law.fed_joined a.feed.now between last (varints 2) next got _ c.in_ok-take_varints.ensures
    (Reads-same f.rest f.fed f.fault_count a.stream law.fed_nothing law.fed_joined between last (after start step) (mapped (varied (integer a.signed start) (zigzag step) count) (packed (width_of a.code) (count - 2))) _
    (λ bytes. delta-varied (integer a.signed start) (zigzag step) a.code count bytes c.if-code-eq0.false) reads))
