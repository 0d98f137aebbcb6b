use Rattle.std.proofs.Common.{◌∙◌, sym, ap, true, false, ℕ, ℤ}
use Rattle.std.proofs.lemmas.Result.{on_ok_weaker}
use Rattle.orc_values.specs.declared.value.Value.TheVariants as value
use Rattle.group_counts.specs.Order.{value_cmp}
use Rattle.group_counts.specs.Tally.{added_all}
use Rattle.group_counts.specs.Entries.{Entries, one, renamed, by_bytes}
use Rattle.group_counts.proofs.Joined.{add-kinds}
use Rattle.group_counts.proofs.counts.Counts.add_all.Goals as goal

pub returns : goal.returns
returns c =
    let o = c.other.inside in
    on_ok_weaker c.add_texts.result (λ e.
    e ∙ ap (λ (s : Entries). added_all value_cmp s (renamed (λ t. value.Text t) (by_bytes o.texts.entries)))
    (c.in_ok-add_numbers.ensures ∙ ap (λ (s : Entries). added_all value_cmp s (renamed (λ n. value.Int n) o.numbers.entries))
    (c.in_ok-add_some-3.ensures ∙ ap (λ (s : Entries). added_all value_cmp s (one (value.Bool true) o.trues))
    (c.in_ok-add_some-2.ensures ∙ ap (λ (s : Entries). added_all value_cmp s (one (value.Bool false) o.falses)) c.in_ok-add_some.ensures)))
    ∙ sym (add-kinds c.args.self.now o.nulls o.falses o.trues o.numbers.entries (by_bytes o.texts.entries))
    ∙ ap (λ (s : Entries). added_all value_cmp c.args.self.now s) c.other.view_is) c.add_texts.ensures
