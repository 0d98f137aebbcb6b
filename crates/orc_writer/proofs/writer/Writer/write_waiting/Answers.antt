use Rattle.std.proofs.Common.{◌≡◌, List, sym, subst}
use Rattle.table_columns.specs.declared.table_column.TableColumn.{TableColumn}
use Rattle.orc_writer.specs.Stripes.{AddsStripe}
use Rattle.orc_writer.specs.Writing.{Writing}
use Rattle.orc_writer.proofs.Stepping.{stripe_is, stripe_same}
use Rattle.orc_writer.proofs.writer.Writer.write_waiting.Goals as goal

pub invariant_of-self-2 : goal.invariant_of-self-2
invariant_of-self-2 c =
    let w : Writing = record {
      bytes = c.self.inside.bytes.items;
      stripes = c.self.inside.stripes.items;
      columns = c.self.inside.columns.items;
      waiting = c.self.inside.waiting;
      stripe_rows = c.self.inside.stripe_rows;
      pushed = c.self.inside.pushed;
    } in
    let adds = subst (λ (l : List TableColumn). AddsStripe w.bytes c.push_stripe.new.bytes.items w.stripes c.push_stripe.new.stripes.items l w.waiting) c.deref.ensures.value c.in_ok-push_stripe.ensures.ok in
    stripe_is w c.push_stripe.new.bytes.items c.push_stripe.new.stripes.items c.let_go.new.columns.items (subst (λ (s : Writing). s.waiting ≡ s.stripe_rows) (sym c.self.view_is) c.requires)
    adds c.let_go.ensures c.self.invariant

pub returns-clause-ok : goal.returns-clause-ok
returns-clause-ok c =
    let w : Writing = record {
      bytes = c.self.inside.bytes.items;
      stripes = c.self.inside.stripes.items;
      columns = c.self.inside.columns.items;
      waiting = c.self.inside.waiting;
      stripe_rows = c.self.inside.stripe_rows;
      pushed = c.self.inside.pushed;
    } in
    let adds = subst (λ (l : List TableColumn). AddsStripe w.bytes c.push_stripe.new.bytes.items w.stripes c.push_stripe.new.stripes.items l w.waiting) c.deref.ensures.value c.in_ok-push_stripe.ensures.ok in (
      rw (← c.self.view_is)
          (stripe_same w c.push_stripe.new.bytes.items c.push_stripe.new.stripes.items c.let_go.new.columns.items adds c.let_go.ensures
          (subst (λ (s : Writing). s.waiting ≡ s.stripe_rows) (sym c.self.view_is) c.requires) c.self.invariant),
      c.self.invariant.some,
    )
