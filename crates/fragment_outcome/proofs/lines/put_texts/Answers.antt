use Rattle.std.proofs.Common.{◌∙◌, ap, sym, ◌≡◌, ◌++◌, ◌∷◌, [], List, ℕ}
use Rattle.std.specs.Fmt.{decimal}
use Rattle.orc_values.specs.declared.value.Value.TheVariants as value
use Rattle.group_counts.specs.Entries.{renamed, by_bytes}
use Rattle.fragment_outcome.specs.Text.{ended, escaped, groups_text}
use Rattle.fragment_outcome.proofs.OnTheWay.{Wrote-then, Wrote-as, Wrote-none}
use Rattle.fragment_outcome.proofs.Texts.{groups-next}
use Rattle.fragment_outcome.proofs.lines.put_texts.Goals as goal

pub loop-text-init : goal.loop-text-init
loop-text-init g c =
    ([], Wrote-none _ _ _, ap (λ es. groups_text (renamed (λ t. value.Text t) (by_bytes es))) c.into_iter-text-iterator.ensures.into_iter_gives.0)

pub loop-text-preserved : goal.loop-text-preserved
loop-text-preserved g c =
    let inv = c.loop-text.invariant in
    let step : c.loop-text.text-iterator ≡ (c.in-Some.text.now, c.in-Some.count.now) ∷ c.next.new.self = c.in-Some.ensures.steps in (
      _,
      Wrote-then inv.1 (Wrote-then (Wrote-as c.put_text.ensures (ap (λ (t : List ℕ). 34 ∷ escaped t ++ 34 ∷ []) c.as_slice.ensures.value)) (Wrote-then c.put.ensures (Wrote-as c.put_count.ensures (ap (λ (n : ℕ). ended (decimal n)) c.from.ensures)))),
      groups-next inv.0 (value.Text c.in-Some.text.now.items) c.in-Some.count.now (renamed (λ t. value.Text t) (by_bytes c.next.new.self)) (renamed (λ t. value.Text t) (by_bytes c.args.counts.now.entries))
          (ap (λ es. inv.0 ++ groups_text (renamed (λ t. value.Text t) (by_bytes es))) (sym step) ∙ inv.2),
    )
