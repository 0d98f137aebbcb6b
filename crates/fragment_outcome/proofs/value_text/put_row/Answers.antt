use Rattle.std.proofs.Common.{◌∙◌, ap, sym, [], List, ℕ}
use Rattle.std.proofs.lemmas.List.{nil_from_length}
use Rattle.orc_values.specs.declared.value.Value.{Value}
use Rattle.fragment_outcome.specs.Text.{row_text}
use Rattle.fragment_outcome.proofs.OnTheWay.{Wrote-then, Wrote-as, Wrote-none}
use Rattle.fragment_outcome.proofs.Texts.{row_text-cons}
use Rattle.fragment_outcome.proofs.value_text.put_row.Goals as goal

pub returns-in-None : goal.returns-in-None
returns-in-None g c =
    Wrote-as (Wrote-none _ _ _) (ap (λ (row : List Value). row_text row) (sym (nil_from_length c.as_slice.result.now c.in-None.ensures.cases) ∙ c.as_slice.ensures))

pub returns-in-Some : goal.returns-in-Some
returns-in-Some g c =
    Wrote-as (Wrote-then c.put_value.ensures c.put_others.ensures)
    (sym (row_text-cons c.in-Some.first.now c.in-Some.others.now) ∙ ap (λ (row : List Value). row_text row) (sym c.in-Some.ensures.cases.0 ∙ c.as_slice.ensures))
