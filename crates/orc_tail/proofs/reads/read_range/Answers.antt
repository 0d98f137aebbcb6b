use Rattle.std.proofs.Common.{◌≡◌, ℕ, ◌+◌, ◌∷◌, [], ◌∙◌, ap, subst, length, drop, arith, refl, true}
use Rattle.std.specs.Prelude.{slice_range}
use Rattle.std.proofs.lemmas.List.{take_at}
use Rattle.std.proofs.lemmas.Result.{err_from_is_err_and}
use Rattle.outside.specs.Files.{range_of}
use Rattle.outside.specs.Reads.{ReadEntry}
use Rattle.outside.specs.Followed.{failed_read}
use Rattle.orc_tail.proofs.Exits.{range_refused, range_failed, range_read}
use Rattle.orc_tail.proofs.reads.read_range.Goals as goal

pub returns-in_err-bytes-clause-followed : goal.returns-in_err-bytes-clause-followed
returns-in_err-bytes-clause-followed g c =
    let p = err_from_is_err_and c.from_residual.result c.from_residual.ensures.1 in
    rw (p.1, p.2) (range_refused g.B.RangeReader.went g.B.RangeReader.fault_count g.W.World.files c.args.file c.args.at c.args.len c.args.reader.now (g.met.B.RangeReader.went_nowhere c.args.reader.now))

pub returns-in_err-read-clause-followed : goal.returns-in_err-read-clause-followed
returns-in_err-read-clause-followed g c =
    let p = err_from_is_err_and c.from_residual-in_err-read.result c.from_residual-in_err-read.ensures.1 in
    let read = c.in_err-read.ensures in
    let len_is : length c.read.new.into ≡ c.args.len = omega (arith, c.in_ok-bytes.ensures.len) in
    let by = subst (λ (n : ℕ). g.B.RangeReader.went c.args.reader.now (failed_read (range_of c.args.file c.args.at n) ∷ []) c.read.new.self) len_is read.went in
    rw (p.1, p.2) (range_failed g.B.RangeReader.went g.B.RangeReader.fault_count g.W.World.files c.args.file c.args.at c.args.len c.args.reader.now c.read.new.self c.in_err-read.field-0.0 by read.cause.later (read.cause.failed refl))

pub returns-clause-followed : goal.returns-clause-followed
returns-clause-followed g c =
    let read = c.in_ok-read.ensures in
    let before = c.args.reader.now in
    let after = c.read.new.self in
    let into = c.read.new.into in
    let len_is : length into ≡ c.args.len = omega (arith, c.in_ok-bytes.ensures.len) in
    let filled : c.new.result ≡ into = c.new.ensures ∙ take_at into (drop (length into) c.in_ok-bytes.bytes.items) c.in_ok-bytes.bytes.len (omega (arith, c.in_ok-bytes.ensures.len)) in
    let entry : ℕ → ReadEntry = λ n. record { range = range_of c.args.file c.args.at n; ok = true } in
    let by = subst (λ (n : ℕ). g.B.RangeReader.went before (entry n ∷ []) after) len_is read.went in
    rw filled (range_read g.B.RangeReader.went g.B.RangeReader.fault_count g.W.World.files c.args.file c.args.at c.args.len before after into
    (g.met.B.RangeReader.went_nowhere after) (λ rest q. g.met.B.RangeReader.went_next before after after (entry c.args.len) rest by q) read.cause.later
    (λ bytes has. read.bytes bytes has ∙ ap (λ (n : ℕ). slice_range bytes c.args.at (c.args.at + n)) len_is))
