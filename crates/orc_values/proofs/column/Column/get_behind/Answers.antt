use Rattle.std.proofs.Common.{◌≡◌, ◌∙◌, ◌<◌, ℕ, Bool, true, false, List, length, slice_get, Some, ℤ, refl, sym, ap, arith, rules}
use Rattle.std.proofs.lemmas.Option.{slice_get_read}
use Rattle.std.proofs.lemmas.Int.{to_z-of_z}
use Rattle.std.specs.Int.{w64}
use Rattle.orc_values.specs.declared.value.Value.TheVariants as value
use Rattle.orc_values.specs.declared.column_values.ColumnValues.{ColumnValues}
use Rattle.orc_values.specs.Column.{column_of, entries_in}
use Rattle.orc_values.specs.ColumnLaws.{length-column_of}
use Rattle.orc_values.proofs.ColumnRows.{null_at, set_at, set_below, place_is}
use Rattle.orc_values.proofs.column.Column.get_behind.Goals as goal

pub index-requires : goal.index-requires
index-requires c =
    let s = c.self.inside in
    let present = s.present.items in
    let row = c.args.row in
    let h : row < length present = rw length-column_of at (rw (← c.self.view_is) at c.requires.row) in
    search (rules, h)

pub returns-then-not-index : goal.returns-then-not-index
returns-then-not-index c =
    let s = c.self.inside in
    let present = s.present.items in
    let row = c.args.row in
    let h : row < length present = rw length-column_of at (rw (← c.self.view_is) at c.requires.row) in
    let unset : slice_get present row ≡ Some false =
    slice_get_read present (length present) row c.index.result.now refl h c.index.ensures ∙ ap (λ (b : Bool). Some b) c.if-not-index.true in
    rw (← c.self.view_is) (null_at present s.values row unset)

pub index-requires-in-Bools : goal.index-requires-in-Bools
index-requires-in-Bools c =
    let s = c.self.inside in
    let present = s.present.items in
    let row = c.args.row in
    let h : row < length present = rw length-column_of at (rw (← c.self.view_is) at c.requires.row) in
    let set : slice_get present row ≡ Some true =
    slice_get_read present (length present) row c.index.result.now refl h c.index.ensures ∙ ap (λ (b : Bool). Some b) c.if-not-index.false in
    let before = place_is present s.values row c.args.before c.self.invariant (rw (← c.self.view_is) at c.requires.before) in
    let below : c.args.before < entries_in s.values = omega (arith, before, set_below present row set, c.self.invariant) in
    let k : entries_in s.values ≡ length c.in-Bools.values.items = ap entries_in c.in-Bools.is in
    let w : c.args.before < length c.in-Bools.values.items = omega (arith, below, k) in
    search (rules, w)

pub number_at-requires : goal.number_at-requires
number_at-requires c =
    let s = c.self.inside in
    let present = s.present.items in
    let row = c.args.row in
    let h : row < length present = rw length-column_of at (rw (← c.self.view_is) at c.requires.row) in
    let set : slice_get present row ≡ Some true =
    slice_get_read present (length present) row c.index.result.now refl h c.index.ensures ∙ ap (λ (b : Bool). Some b) c.if-not-index.false in
    let before = place_is present s.values row c.args.before c.self.invariant (rw (← c.self.view_is) at c.requires.before) in
    let below : c.args.before < entries_in s.values = omega (arith, before, set_below present row set, c.self.invariant) in
    let k : entries_in s.values ≡ length c.in-Ints.values.items = ap entries_in c.in-Ints.is in
    rw c.deref.ensures.value (omega (arith, below, k))

pub get-requires : goal.get-requires
get-requires c =
    let s = c.self.inside in
    let present = s.present.items in
    let row = c.args.row in
    let h : row < length present = rw length-column_of at (rw (← c.self.view_is) at c.requires.row) in
    let set : slice_get present row ≡ Some true =
    slice_get_read present (length present) row c.index.result.now refl h c.index.ensures ∙ ap (λ (b : Bool). Some b) c.if-not-index.false in
    let before = place_is present s.values row c.args.before c.self.invariant (rw (← c.self.view_is) at c.requires.before) in
    let below : c.args.before < entries_in s.values = omega (arith, before, set_below present row set, c.self.invariant) in
    let k : entries_in s.values ≡ length c.in-Texts.values = ap entries_in c.in-Texts.is in
    omega (arith, below, k)

pub get-requires-in-Chosen : goal.get-requires-in-Chosen
get-requires-in-Chosen c =
    let s = c.self.inside in
    let present = s.present.items in
    let row = c.args.row in
    let h : row < length present = rw length-column_of at (rw (← c.self.view_is) at c.requires.row) in
    let set : slice_get present row ≡ Some true =
    slice_get_read present (length present) row c.index.result.now refl h c.index.ensures ∙ ap (λ (b : Bool). Some b) c.if-not-index.false in
    let before = place_is present s.values row c.args.before c.self.invariant (rw (← c.self.view_is) at c.requires.before) in
    let below : c.args.before < entries_in s.values = omega (arith, before, set_below present row set, c.self.invariant) in
    let k : entries_in s.values ≡ length c.in-Chosen.values = ap entries_in c.in-Chosen.is in
    omega (arith, below, k)

pub returns-in-Bools : goal.returns-in-Bools
returns-in-Bools c =
    let s = c.self.inside in
    let present = s.present.items in
    let row = c.args.row in
    let h : row < length present = rw length-column_of at (rw (← c.self.view_is) at c.requires.row) in
    let set : slice_get present row ≡ Some true =
    slice_get_read present (length present) row c.index.result.now refl h c.index.ensures ∙ ap (λ (b : Bool). Some b) c.if-not-index.false in
    let before = place_is present s.values row c.args.before c.self.invariant (rw (← c.self.view_is) at c.requires.before) in
    let below : c.args.before < entries_in s.values = omega (arith, before, set_below present row set, c.self.invariant) in
    let k : entries_in s.values ≡ length c.in-Bools.values.items = ap entries_in c.in-Bools.is in
    let w : c.args.before < length c.in-Bools.values.items = omega (arith, below, k) in
    let is = slice_get_read c.in-Bools.values.items (length c.in-Bools.values.items) c.args.before c.index-in-Bools.result.now refl w c.index-in-Bools.ensures in
    rw (← c.self.view_is)
    (ap (λ (v : ColumnValues). slice_get (column_of present v) row) c.in-Bools.is
    ∙ set_at (λ b. value.Bool b) present c.in-Bools.values.items row c.index-in-Bools.result.now set (ap (λ (n : ℕ). slice_get c.in-Bools.values.items n) (sym before) ∙ is))

pub returns-in-Ints : goal.returns-in-Ints
returns-in-Ints c =
    let s = c.self.inside in
    let present = s.present.items in
    let row = c.args.row in
    let h : row < length present = rw length-column_of at (rw (← c.self.view_is) at c.requires.row) in
    let set : slice_get present row ≡ Some true =
    slice_get_read present (length present) row c.index.result.now refl h c.index.ensures ∙ ap (λ (b : Bool). Some b) c.if-not-index.false in
    let before = place_is present s.values row c.args.before c.self.invariant (rw (← c.self.view_is) at c.requires.before) in
    let below : c.args.before < entries_in s.values = omega (arith, before, set_below present row set, c.self.invariant) in
    let is : slice_get c.in-Ints.values.items c.args.before ≡ Some c.number_at.result = ap (λ (l : List ℤ). slice_get l c.args.before) (sym c.deref.ensures.value) ∙ c.number_at.ensures.value in
    rw (← c.self.view_is)
    (ap (λ (v : ColumnValues). slice_get (column_of present v) row) c.in-Ints.is
    ∙ set_at (λ n. value.Int n) present c.in-Ints.values.items row c.number_at.result set (ap (λ (n : ℕ). slice_get c.in-Ints.values.items n) (sym before) ∙ is)
    ∙ ap (λ (n : ℤ). Some (value.Int n)) (sym (to_z-of_z w64 c.number_at.result c.number_at.ensures.fits)))

pub returns-in-Texts : goal.returns-in-Texts
returns-in-Texts c =
    let s = c.self.inside in
    let present = s.present.items in
    let row = c.args.row in
    let h : row < length present = rw length-column_of at (rw (← c.self.view_is) at c.requires.row) in
    let set : slice_get present row ≡ Some true =
    slice_get_read present (length present) row c.index.result.now refl h c.index.ensures ∙ ap (λ (b : Bool). Some b) c.if-not-index.false in
    let before = place_is present s.values row c.args.before c.self.invariant (rw (← c.self.view_is) at c.requires.before) in
    let below : c.args.before < entries_in s.values = omega (arith, before, set_below present row set, c.self.invariant) in
    rw (← c.self.view_is)
    (ap (λ (v : ColumnValues). slice_get (column_of present v) row) c.in-Texts.is
    ∙ set_at (λ text. value.Text text) present c.in-Texts.values row c.get.result.now set (ap (λ (n : ℕ). slice_get c.in-Texts.values n) (sym before) ∙ c.get.ensures))

pub returns-in-Chosen : goal.returns-in-Chosen
returns-in-Chosen c =
    let s = c.self.inside in
    let present = s.present.items in
    let row = c.args.row in
    let h : row < length present = rw length-column_of at (rw (← c.self.view_is) at c.requires.row) in
    let set : slice_get present row ≡ Some true =
    slice_get_read present (length present) row c.index.result.now refl h c.index.ensures ∙ ap (λ (b : Bool). Some b) c.if-not-index.false in
    let before = place_is present s.values row c.args.before c.self.invariant (rw (← c.self.view_is) at c.requires.before) in
    let below : c.args.before < entries_in s.values = omega (arith, before, set_below present row set, c.self.invariant) in
    rw (← c.self.view_is)
    (ap (λ (v : ColumnValues). slice_get (column_of present v) row) c.in-Chosen.is
    ∙ set_at (λ text. value.Text text) present c.in-Chosen.values row c.get-in-Chosen.result.now set (ap (λ (n : ℕ). slice_get c.in-Chosen.values n) (sym before) ∙ c.get-in-Chosen.ensures))
