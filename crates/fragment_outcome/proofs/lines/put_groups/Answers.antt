use Rattle.std.proofs.Common.{◌∙◌, ap}
use Rattle.group_counts.specs.Entries.{Entries, by_bytes}
use Rattle.fragment_outcome.specs.Text.{groups_text}
use Rattle.fragment_outcome.proofs.OnTheWay.{Wrote-then, Wrote-as}
use Rattle.fragment_outcome.proofs.Texts.{groups-kinds}
use Rattle.fragment_outcome.proofs.lines.put_groups.Goals as goal

pub returns : goal.returns
returns g c =
    let p = c.parts-parts.result in
    Wrote-as (Wrote-then c.put_one.ensures (Wrote-then c.put_one-2.ensures (Wrote-then c.put_one-3.ensures (Wrote-then c.put_numbers.ensures c.put_texts.ensures))))
    (groups-kinds p.nulls p.falses p.trues p.numbers.now.entries (by_bytes p.texts.now.entries) ∙ ap (λ (es : Entries). groups_text es) (c.parts-parts.ensures ∙ c.counts.ensures.same))
