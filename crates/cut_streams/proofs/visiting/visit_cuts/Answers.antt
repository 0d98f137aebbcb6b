use Rattle.std.proofs.Common.{ℕ, length, sym, ap, ◌∙◌}
use Rattle.range_cuts.specs.Laws.{bytes_of}
use Rattle.cut_streams.proofs.Visits.{all_cuts, on_ok_map}
use Rattle.cut_streams.proofs.visiting.visit_cuts.Goals as goal

pub returns-clause-bytes : goal.returns-clause-bytes
returns-clause-bytes g c =
    let len : ℕ = length c.args.into.now in
    on_ok_map c.visit_from.result (λ all bytes told.
    all bytes told
    ∙ ap (λ cuts. bytes_of bytes cuts) (sym (all_cuts c.args.at len c.args.chunk c.cuts_begin.ensures c.requires.chunk.some))
    ∙ c.cuts_join.ensures c.args.at len c.args.chunk bytes c.requires.chunk.some)
    c.visit_from.ensures.bytes
