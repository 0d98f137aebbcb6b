use Rattle.std.proofs.Common.{length, refl, Ok, Err}
use Rattle.std.specs.Int.{cast_signed, w64}
use Rattle.std.proofs.lemmas.Result.{err_from_is_err_and}
use Rattle.outside.specs.Reading.{bind, value}
use Rattle.outside.specs.ReadingLaws.{Reads-then, Reads-same, Reads-fault, Reads-value}
use Rattle.orc_rle2.specs.Integers.{bits_in}
use Rattle.orc_rle2.specs.Patches.{patched}
use Rattle.orc_rle2.specs.IntRun2.{packed, entry_width, or_out_of_run, above_base}
use Rattle.orc_rle2.proofs.Forms.{in_run, out_of_run, Reads-out_of_run}
use Rattle.orc_rle2.proofs.patched.read_values.Goals as goal

pub returns-in_err-take_packed : goal.returns-in_err-take_packed
returns-in_err-take_packed g c =
    let f = g.F.Feed in
    let law = g.met.F.Feed in
    let a = c.args in
    let shape = a.shape in
    let base = cast_signed w64 a.base in
    let p = err_from_is_err_and c.from_residual.result c.from_residual.ensures.1 in
    rw (p.1, p.2) (Reads-fault f.rest f.fed f.fault_count a.stream law.fed_nothing law.fed_joined a.feed.now c.take_packed.new.feed (packed shape.values (length a.into.now))
    (λ numbers. bind (packed (entry_width shape) a.patches) (λ entries. or_out_of_run base (patched shape 0 entries numbers))) c.in_err-take_packed.field-0.0 (c.in_err-take_packed.ensures.bits refl))

pub returns-in_err-take_packed-2 : goal.returns-in_err-take_packed-2
returns-in_err-take_packed-2 g c =
    let f = g.F.Feed in
    let law = g.met.F.Feed in
    let a = c.args in
    let shape = a.shape in
    let base = cast_signed w64 a.base in
    let numbers = bits_in c.take_packed.new.into in
    let p = err_from_is_err_and c.from_residual-in_err-take_packed-2.result c.from_residual-in_err-take_packed-2.ensures.1 in
    let two = rw (c.split_at_mut-entries.ensures.front_len, c.least_width.ensures.value) at (c.in_err-take_packed-2.ensures.bits refl) in
    rw (p.1, p.2) (Reads-then f.rest f.fed f.fault_count a.stream law.fed_nothing law.fed_joined a.feed.now c.take_packed.new.feed c.take_packed-2.new.feed (packed shape.values (length a.into.now))
    (λ numbers. bind (packed (entry_width shape) a.patches) (λ entries. or_out_of_run base (patched shape 0 entries numbers))) numbers (Err c.in_err-take_packed-2.field-0.0) (c.in_ok-take_packed.ensures.bits refl)
    (Reads-fault f.rest f.fed f.fault_count a.stream law.fed_nothing law.fed_joined c.take_packed.new.feed c.take_packed-2.new.feed (packed (entry_width shape) a.patches) (λ entries. or_out_of_run base (patched shape 0 entries numbers)) c.in_err-take_packed-2.field-0.0 two))

pub returns-in_err-patch : goal.returns-in_err-patch
returns-in_err-patch g c =
    let f = g.F.Feed in
    let law = g.met.F.Feed in
    let a = c.args in
    let shape = a.shape in
    let base = cast_signed w64 a.base in
    let numbers = bits_in c.take_packed.new.into in
    let entries = bits_in c.take_packed-2.new.into in
    let last = c.take_packed-2.new.feed in
    let two = rw (c.split_at_mut-entries.ensures.front_len, c.least_width.ensures.value) at (c.in_ok-take_packed-2.ensures.bits refl) in
    let p = err_from_is_err_and c.from_residual-in_err-patch.result c.from_residual-in_err-patch.ensures.1 in
    let out = c.in_err-patch.ensures in
    rw (p.1, p.2) (Reads-then f.rest f.fed f.fault_count a.stream law.fed_nothing law.fed_joined a.feed.now c.take_packed.new.feed c.take_packed-2.new.feed (packed shape.values (length a.into.now))
    (λ numbers. bind (packed (entry_width shape) a.patches) (λ entries. or_out_of_run base (patched shape 0 entries numbers))) numbers (Err c.in_err-patch.field-0.0) (c.in_ok-take_packed.ensures.bits refl)
    (Reads-then f.rest f.fed f.fault_count a.stream law.fed_nothing law.fed_joined c.take_packed.new.feed last last (packed (entry_width shape) a.patches) (λ entries. or_out_of_run base (patched shape 0 entries numbers)) entries (Err c.in_err-patch.field-0.0) two
    (Reads-out_of_run f.rest f.fed f.fault_count a.stream law.fed_nothing last (or_out_of_run base (patched shape 0 entries numbers)) c.in_err-patch.field-0.0 out.0 (λ bytes. out_of_run base (patched shape 0 entries numbers) bytes out.1))))

pub returns : goal.returns
returns g c =
    let f = g.F.Feed in
    let law = g.met.F.Feed in
    let a = c.args in
    let shape = a.shape in
    let base = cast_signed w64 a.base in
    let numbers = bits_in c.take_packed.new.into in
    let entries = bits_in c.take_packed-2.new.into in
    let last = c.take_packed-2.new.feed in
    let two = rw (c.split_at_mut-entries.ensures.front_len, c.least_width.ensures.value) at (c.in_ok-take_packed-2.ensures.bits refl) in
    let after = bits_in c.patch.new.numbers in
    rw c.add_base.ensures (Reads-then f.rest f.fed f.fault_count a.stream law.fed_nothing law.fed_joined a.feed.now c.take_packed.new.feed c.take_packed-2.new.feed (packed shape.values (length a.into.now))
    (λ numbers. bind (packed (entry_width shape) a.patches) (λ entries. or_out_of_run base (patched shape 0 entries numbers))) numbers (Ok (above_base base after)) (c.in_ok-take_packed.ensures.bits refl)
    (Reads-then f.rest f.fed f.fault_count a.stream law.fed_nothing law.fed_joined c.take_packed.new.feed last last (packed (entry_width shape) a.patches) (λ entries. or_out_of_run base (patched shape 0 entries numbers)) entries (Ok (above_base base after)) two
    (Reads-same f.rest f.fed f.fault_count a.stream law.fed_nothing law.fed_joined last last (or_out_of_run base (patched shape 0 entries numbers)) (value (above_base base after)) (Ok (above_base base after)) (λ bytes. in_run base (patched shape 0 entries numbers) after bytes c.in_ok-patch.ensures)
    (Reads-value f.rest f.fed f.fault_count a.stream law.fed_nothing law.fed_joined last (above_base base after)))))
