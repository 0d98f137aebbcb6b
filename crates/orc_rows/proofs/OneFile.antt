-- The rows of stripes, and their first fault, are one; and there is one of the two.
use Rattle.std.proofs.Common.{◌≡◌, ℕ, ◌+◌, List, [], ◌∷◌, length, Ok, Err, refl, sym, ◌∙◌, ap, subst, arith, inl, inr}
use Rattle.std.specs.Prelude.{Result, ◌⊎◌}
use Rattle.orc_values.specs.Column.{RowValues}
use Rattle.orc_columns.specs.declared.fault.ColumnFault.{ColumnFault}
use Rattle.orc_columns.specs.Column.{IsColumn, Fails}
use Rattle.orc_columns.specs.Laws.{NeverBoth, IsOneList, IsOneFault, HasValuesOrAFault}
use Rattle.orc_tail.specs.declared.fault.TailFault.{TailFault}
use Rattle.orc_tail.specs.declared.stripe.Stripe.{Stripe}
use Rattle.orc_tail.specs.declared.stripe_footer.StripeFooter.{StripeFooter}
use Rattle.orc_tail.specs.StripeFooter.{stripe_footer}
use Rattle.orc_streams.specs.declared.layout.ColumnLayout.{ColumnLayout}
use Rattle.orc_streams.specs.declared.layout.ReadColumn.{ReadColumn}
use Rattle.orc_streams.specs.Layout.{layout_in, streams_in, plan_at}
use Rattle.orc_rows.specs.declared.fault.RowsFault.{RowsFault}
use Rattle.orc_rows.specs.declared.fault.RowsFault.TheVariants.{BrokenFooter, BrokenColumn}
use Rattle.orc_batches.specs.Batch.{Batch, behind}
use Rattle.orc_rows.specs.Rows.{Rows, HasValues, HasFault, HaveValues, FirstColumnFails, StripeHas, StripeFails, HaveRows, FirstFails}
use Rattle.orc_rows.specs.Given.{no_rows}
use Rattle.orc_rows.specs.Laws.{HaveRowsOrAFault, NeverRowsAndAFault, RowsAreOne, TheFaultIsOne}

one_footer : (r : Result StripeFooter TailFault) (f g : StripeFooter) → r ≡ Ok f → r ≡ Ok g → f ≡ g
one_footer r f g p q = cc

one_refusal : (r : Result StripeFooter TailFault) (f g : TailFault) → r ≡ Err f → r ≡ Err g → f ≡ g
one_refusal r f g p q = cc

not_both : (r : Result StripeFooter TailFault) (f : StripeFooter) (g : TailFault) → r ≡ Ok f → r ≡ Err g → ⊥
not_both r f g p q = cc

module _ (never_both : NeverBoth) (one_list : IsOneList) (one_fault : IsOneFault) where
  -- ---- a column, and the columns of a stripe

  has_one : (file : List ℕ) (layout : ColumnLayout) (rows : ℕ) (v w : RowValues) → HasValues file layout rows v → HasValues file layout rows w → v ≡ w
  has_one file layout rows v w a b = one_list (plan_at 0 layout) (streams_in file layout) v w (a.count ∙ sym b.count) a.column b.column

  has_never_fails : (file : List ℕ) (layout : ColumnLayout) (rows : ℕ) (v : RowValues) (fault : ColumnFault) → HasValues file layout rows v → HasFault file layout rows fault → ⊥
  has_never_fails file layout rows v fault a b = never_both (plan_at 0 layout) (streams_in file layout) v rows fault a.column (omega (arith, a.count)) b

  have_one : (file : List ℕ) (footer : StripeFooter) (rows : ℕ) (cs : List ReadColumn) (vs ws : Batch) → HaveValues file footer rows cs vs → HaveValues file footer rows cs ws → vs ≡ ws
  have_one file footer rows [] [] [] a b = refl
  have_one file footer rows [] [] (w ∷ ws) a b = absurd b
  have_one file footer rows [] (v ∷ vs) ws a b = absurd a
  have_one file footer rows (c ∷ cs) [] ws a b = absurd a
  have_one file footer rows (c ∷ cs) (v ∷ vs) [] a b = absurd b
  have_one file footer rows (c ∷ cs) (v ∷ vs) (w ∷ ws) a b =
      ap (λ (x : RowValues). x ∷ vs) (has_one file (layout_in footer c) rows v w a.0 b.0) ∙ ap (λ (xs : Batch). w ∷ xs) (have_one file footer rows cs vs ws a.1 b.1)

  have_never_fail : (file : List ℕ) (footer : StripeFooter) (rows : ℕ) (cs : List ReadColumn) (vs : Batch) (n : ℕ) (fault : ColumnFault) → HaveValues file footer rows cs vs
      → FirstColumnFails file footer rows cs n fault → ⊥
  have_never_fail file footer rows [] vs n fault a b = elim b [ ]
  have_never_fail file footer rows (c ∷ cs) [] n fault a b = absurd a
  have_never_fail file footer rows (c ∷ cs) (v ∷ vs) n fault a (FirstColumnFails.here b) = has_never_fails file (layout_in footer c) rows v fault a.0 b
  have_never_fail file footer rows (c ∷ cs) (v ∷ vs) n fault a (FirstColumnFails.later w is b) = have_never_fail file footer rows cs vs n fault a.1 b

  first_one : (file : List ℕ) (footer : StripeFooter) (rows : ℕ) (cs : List ReadColumn) (n m : ℕ) (f g : ColumnFault) → FirstColumnFails file footer rows cs n f
      → FirstColumnFails file footer rows cs m g → (n ≡ m) × (f ≡ g)
  first_one file footer rows [] n m f g a b = elim a [ ]
  first_one file footer rows (c ∷ cs) n m f g (FirstColumnFails.here a) (FirstColumnFails.here b) =
      (refl, one_fault (plan_at 0 (layout_in footer c)) (streams_in file (layout_in footer c)) rows f g a b)
  first_one file footer rows (c ∷ cs) n m f g (FirstColumnFails.here a) (FirstColumnFails.later w is b) = absurd (has_never_fails file (layout_in footer c) rows w f is a)
  first_one file footer rows (c ∷ cs) n m f g (FirstColumnFails.later v is a) (FirstColumnFails.here b) = absurd (has_never_fails file (layout_in footer c) rows v g is b)
  first_one file footer rows (c ∷ cs) n m f g (FirstColumnFails.later v is a) (FirstColumnFails.later w is' b) = first_one file footer rows cs n m f g a b

  -- ---- a stripe

  stripe_one : (file : List ℕ) (s : Stripe) (cs : List ReadColumn) (vs ws : Batch) → StripeHas file s cs vs → StripeHas file s cs ws → vs ≡ ws
  stripe_one file s [] vs ws StripeHas.unread StripeHas.unread = refl
  stripe_one file s (c ∷ cs) vs ws (StripeHas.by_footer f p a) (StripeHas.by_footer g q b) =
      have_one file f s.rows (c ∷ cs) vs ws a (subst (λ (x : StripeFooter). HaveValues file x s.rows (c ∷ cs) ws) (one_footer (stripe_footer file s) g f q p) b)

  stripe_never_fails : (file : List ℕ) (number : ℕ) (s : Stripe) (cs : List ReadColumn) (vs : Batch) (fault : RowsFault) → StripeHas file s cs vs → StripeFails file number s cs fault → ⊥
  stripe_never_fails file number s [] vs fault a b = elim b [ ]
  stripe_never_fails file number s (c ∷ cs) vs _ (StripeHas.by_footer f p a) (StripeFails.at_footer {fault = fault} q) = not_both (stripe_footer file s) f fault p q
  stripe_never_fails file number s (c ∷ cs) vs _ (StripeHas.by_footer f p a) (StripeFails.at_column {which = which} {fault = fault} g q b) =
      have_never_fail file f s.rows (c ∷ cs) vs which fault a (subst (λ (x : StripeFooter). FirstColumnFails file x s.rows (c ∷ cs) which fault) (one_footer (stripe_footer file s) g f q p) b)

  fails_one : (file : List ℕ) (number : ℕ) (s : Stripe) (cs : List ReadColumn) (fault other : RowsFault) → StripeFails file number s cs fault → StripeFails file number s cs other → fault ≡ other
  fails_one file number s [] fault other a b = elim a [ ]
  fails_one file number s (c ∷ cs) _ _ (StripeFails.at_footer {fault = f} p) (StripeFails.at_footer {fault = g} q) = ap (λ (x : TailFault). BrokenFooter number x) (one_refusal (stripe_footer file s) f g p q)
  fails_one file number s (c ∷ cs) _ _ (StripeFails.at_footer {fault = f} p) (StripeFails.at_column g q b) = absurd (not_both (stripe_footer file s) g f q p)
  fails_one file number s (c ∷ cs) _ _ (StripeFails.at_column f p a) (StripeFails.at_footer {fault = g} q) = absurd (not_both (stripe_footer file s) f g p q)
  fails_one file number s (c ∷ cs) _ _ (StripeFails.at_column {which = n} {fault = x} f p a) (StripeFails.at_column {which = m} {fault = y} g q b) =
      let one = first_one file f s.rows (c ∷ cs) n m x y a (subst (λ (z : StripeFooter). FirstColumnFails file z s.rows (c ∷ cs) m y) (one_footer (stripe_footer file s) g f q p) b) in
      ap (λ (k : ℕ). BrokenColumn number k x) one.0 ∙ ap (λ (z : ColumnFault). BrokenColumn number m z) one.1

  -- ---- the stripes

  pub rows_are_one : RowsAreOne
  rows_are_one file columns [] _ _ HaveRows.none HaveRows.none = refl
  rows_are_one file columns (s ∷ stripes) _ _ (HaveRows.next values more a as_more) (HaveRows.next others rest b as_rest) =
      ap (λ (x : Batch). record { count = s.rows + more.count; columns = behind x more.columns }) (stripe_one file s columns values others a b)
      ∙ ap (λ (r : Rows). record { count = s.rows + r.count; columns = behind others r.columns }) (rows_are_one file columns stripes more rest as_more as_rest)

  pub never_rows_and_a_fault : NeverRowsAndAFault
  never_rows_and_a_fault file columns number [] rows fault a b = elim b [ ]
  never_rows_and_a_fault file columns number (s ∷ stripes) _ fault (HaveRows.next values more a have) (FirstFails.here b) = stripe_never_fails file number s columns values fault a b
  never_rows_and_a_fault file columns number (s ∷ stripes) _ fault (HaveRows.next values more a have) (FirstFails.later others is b) =
      never_rows_and_a_fault file columns (number + 1) stripes more fault have b

  pub the_fault_is_one : TheFaultIsOne
  the_fault_is_one file columns number [] fault other a b = elim a [ ]
  the_fault_is_one file columns number (s ∷ stripes) fault other (FirstFails.here a) (FirstFails.here b) = fails_one file number s columns fault other a b
  the_fault_is_one file columns number (s ∷ stripes) fault other (FirstFails.here a) (FirstFails.later w is b) = absurd (stripe_never_fails file number s columns w fault is a)
  the_fault_is_one file columns number (s ∷ stripes) fault other (FirstFails.later v is a) (FirstFails.here b) = absurd (stripe_never_fails file number s columns v other is b)
  the_fault_is_one file columns number (s ∷ stripes) fault other (FirstFails.later v is a) (FirstFails.later w is' b) = the_fault_is_one file columns (number + 1) stripes fault other a b

-- ---- there is one of the two

module _ (either : HasValuesOrAFault) where
  columns_either : (file : List ℕ) (footer : StripeFooter) (rows : ℕ) (cs : List ReadColumn)
      → ((vs : Batch) × HaveValues file footer rows cs vs) ⊎ ((n : ℕ) × (fault : ColumnFault) × FirstColumnFails file footer rows cs n fault)
  columns_either file footer rows [] = inl ([], tt)
  columns_either file footer rows (c ∷ cs) = by_first (either (plan_at 0 (layout_in footer c)) (streams_in file (layout_in footer c)) rows) (columns_either file footer rows cs)
    where
      by_rest : (v : RowValues) → HasValues file (layout_in footer c) rows v
          → ((vs : Batch) × HaveValues file footer rows cs vs) ⊎ ((n : ℕ) × (fault : ColumnFault) × FirstColumnFails file footer rows cs n fault)
          → ((vs : Batch) × HaveValues file footer rows (c ∷ cs) vs) ⊎ ((n : ℕ) × (fault : ColumnFault) × FirstColumnFails file footer rows (c ∷ cs) n fault)
      by_rest v is (inl (vs, have)) = inl (v ∷ vs, (is, have))
      by_rest v is (inr (n, fault, fails)) = inr (n, fault, FirstColumnFails.later v is fails)

      by_first : ((v : RowValues) × (length v ≡ rows) × IsColumn (plan_at 0 (layout_in footer c)) (streams_in file (layout_in footer c)) v)
          ⊎ ((fault : ColumnFault) × Fails (plan_at 0 (layout_in footer c)) (streams_in file (layout_in footer c)) rows fault)
          → ((vs : Batch) × HaveValues file footer rows cs vs) ⊎ ((n : ℕ) × (fault : ColumnFault) × FirstColumnFails file footer rows cs n fault)
          → ((vs : Batch) × HaveValues file footer rows (c ∷ cs) vs) ⊎ ((n : ℕ) × (fault : ColumnFault) × FirstColumnFails file footer rows (c ∷ cs) n fault)
      by_first (inl (v, count, column)) others = by_rest v (record { column = column; count = count }) others
      by_first (inr (fault, fails)) others = inr (c.number, fault, FirstColumnFails.here fails)

  stripe_either : (file : List ℕ) (number : ℕ) (s : Stripe) (cs : List ReadColumn) → ((vs : Batch) × StripeHas file s cs vs) ⊎ ((fault : RowsFault) × StripeFails file number s cs fault)
  stripe_either file number s [] = inl ([], StripeHas.unread)
  stripe_either file number s (c ∷ cs) = by_read (stripe_footer file s) refl
    where
      by_columns : (footer : StripeFooter) → stripe_footer file s ≡ Ok footer
          → ((vs : Batch) × HaveValues file footer s.rows (c ∷ cs) vs) ⊎ ((n : ℕ) × (fault : ColumnFault) × FirstColumnFails file footer s.rows (c ∷ cs) n fault)
          → ((vs : Batch) × StripeHas file s (c ∷ cs) vs) ⊎ ((fault : RowsFault) × StripeFails file number s (c ∷ cs) fault)
      by_columns footer is (inl (vs, have)) = inl (vs, StripeHas.by_footer footer is have)
      by_columns footer is (inr (n, fault, fails)) = inr (BrokenColumn number n fault, StripeFails.at_column footer is fails)

      by_read : (r : Result StripeFooter TailFault) → stripe_footer file s ≡ r
          → ((vs : Batch) × StripeHas file s (c ∷ cs) vs) ⊎ ((fault : RowsFault) × StripeFails file number s (c ∷ cs) fault)
      by_read (Ok footer) is = by_columns footer is (columns_either file footer s.rows (c ∷ cs))
      by_read (Err fault) is = inr (BrokenFooter number fault, StripeFails.at_footer is)

  pub have_rows_or_a_fault : HaveRowsOrAFault
  have_rows_or_a_fault file columns number [] = inl (record { count = 0; columns = no_rows columns }, HaveRows.none)
  have_rows_or_a_fault file columns number (s ∷ stripes) = by_first (stripe_either file number s columns) (have_rows_or_a_fault file columns (number + 1) stripes)
    where
      by_rest : (vs : Batch) → StripeHas file s columns vs
          → ((rows : Rows) × HaveRows file columns stripes rows) ⊎ ((fault : RowsFault) × FirstFails file columns (number + 1) stripes fault)
          → ((rows : Rows) × HaveRows file columns (s ∷ stripes) rows) ⊎ ((fault : RowsFault) × FirstFails file columns number (s ∷ stripes) fault)
      by_rest vs is (inl (rows, have)) = inl (record { count = s.rows + rows.count; columns = behind vs rows.columns }, HaveRows.next vs rows is have)
      by_rest vs is (inr (fault, fails)) = inr (fault, FirstFails.later vs is fails)

      by_first : ((vs : Batch) × StripeHas file s columns vs) ⊎ ((fault : RowsFault) × StripeFails file number s columns fault)
          → ((rows : Rows) × HaveRows file columns stripes rows) ⊎ ((fault : RowsFault) × FirstFails file columns (number + 1) stripes fault)
          → ((rows : Rows) × HaveRows file columns (s ∷ stripes) rows) ⊎ ((fault : RowsFault) × FirstFails file columns number (s ∷ stripes) fault)
      by_first (inl (vs, is)) others = by_rest vs is others
      by_first (inr (fault, fails)) others = inr (fault, FirstFails.here fails)
