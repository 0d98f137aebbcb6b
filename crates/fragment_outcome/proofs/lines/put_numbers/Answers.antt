use Rattle.std.proofs.Common.{◌∙◌, ap, sym, ◌≡◌, ◌++◌, ◌∷◌, [], List, ℕ, ℤ}
use Rattle.std.specs.Fmt.{decimal}
use Rattle.orc_values.specs.declared.value.Value.TheVariants as value
use Rattle.group_counts.specs.Entries.{renamed}
use Rattle.fragment_outcome.specs.Text.{ended, groups_text}
use Rattle.fragment_outcome.proofs.OnTheWay.{Wrote-then, Wrote-as, Wrote-none}
use Rattle.fragment_outcome.proofs.Texts.{groups-next}
use Rattle.fragment_outcome.proofs.lines.put_numbers.Goals as goal

pub loop-number-init : goal.loop-number-init
loop-number-init g c =
    ([], Wrote-none _ _ _, ap (λ (es : List (ℤ × ℕ)). groups_text (renamed (λ n. value.Int n) es)) c.into_iter-number-iterator.ensures.into_iter_gives.0)

pub loop-number-preserved : goal.loop-number-preserved
loop-number-preserved g c =
    let inv = c.loop-number.invariant in
    let step : c.loop-number.number-iterator ≡ (c.in-Some.number.now, c.in-Some.count.now) ∷ c.next.new.self = c.in-Some.ensures.steps in (
      _,
      Wrote-then inv.1 (Wrote-then c.put_number.ensures (Wrote-then c.put.ensures (Wrote-as c.put_count.ensures (ap (λ (n : ℕ). ended (decimal n)) c.from.ensures)))),
      groups-next inv.0 (value.Int c.in-Some.number.now) c.in-Some.count.now (renamed (λ n. value.Int n) c.next.new.self) (renamed (λ n. value.Int n) c.args.counts.now.entries)
          (ap (λ (es : List (ℤ × ℕ)). inv.0 ++ groups_text (renamed (λ n. value.Int n) es)) (sym step) ∙ inv.2),
    )
