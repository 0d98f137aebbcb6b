-- The laws of layouts, which this crate's law functions carry. Source: this project's own.
use Rattle.std.specs.Prelude.{◌≡◌, ℕ, ◌≤◌}
use Rattle.orc_columns.specs.Laws.{Apart}
use Rattle.orc_tail.specs.declared.stripe_footer.StripeFooter.{StripeFooter}
use Rattle.orc_tail.specs.StripeFooter.{FollowEachOther}
use Rattle.orc_streams.specs.declared.layout.ColumnLayout.{ColumnLayout}
use Rattle.orc_streams.specs.declared.layout.ReadColumn.{ReadColumn}
use Rattle.orc_streams.specs.Layout.{layout_in, plan_at, EndsBy}

-- no stream is of the columns of two indices
abbrev pub PlansAreApart : Type 0
PlansAreApart = (i j : ℕ) (l m : ColumnLayout) → (i ≡ j → ⊥) → Apart (plan_at i l) (plan_at j m)

-- where a footer's streams follow each other up to an offset, those of a column end there at most
abbrev pub LayoutsEndBy : Type 0
LayoutsEndBy = (footer : StripeFooter) (column : ReadColumn) (at limit : ℕ) → FollowEachOther at limit footer.streams
    → EndsBy limit (layout_in footer column)

-- and so they do at every offset behind it
abbrev pub EndLater : Type 0
EndLater = (layout : ColumnLayout) (limit more : ℕ) → limit ≤ more → EndsBy limit layout → EndsBy more layout
