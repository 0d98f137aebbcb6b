use Rattle.std.proofs.Common.{rules, arith, ◌<◌, pos, get_or, of_z, w64, FitsSigned}
use Rattle.row_texts.proofs.Positive.{seen_more, fit_more, get_or-any}
use Rattle.row_texts.proofs.lengths.bits_of.Goals as goal

pub loop-length-preserved : goal.loop-length-preserved
loop-length-preserved c =
    let l = c.loop-length in
    let now : FitsSigned w64 (get_or c.args.lengths.now l.length-index (pos 0)) = search rules in
    record {
      seen = seen_more (λ k. of_z w64 (get_or c.args.lengths.now k (pos 0))) l.length-index l.seen c.cast_unsigned-seen.result l.invariant.seen (search rules);
      fit = fit_more c.args.lengths.now l.length-index l.invariant.fit now;
    }

pub returns-clause-within : goal.returns-clause-within
returns-clause-within c = λ k d h.
    let l = c.loop-length in
    let within : k < l.length-index = omega (arith, h, c.loop-length-test.false) in
    rw (get_or-any c.args.lengths.now k d (pos 0) h) (l.invariant.seen k within)

pub returns-clause-fit : goal.returns-clause-fit
returns-clause-fit c = λ k d h.
    let l = c.loop-length in
    let within : k < l.length-index = omega (arith, h, c.loop-length-test.false) in
    rw (get_or-any c.args.lengths.now k d (pos 0) h) (l.invariant.fit k within)
