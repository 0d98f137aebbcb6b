use Rattle.std.proofs.Common.{◌≡◌, ◌∷◌, [], List, length, refl, sym, ap, subst, ◌∙◌, append_assoc, append-nil, arith, All}
use Rattle.std.specs.Vec.Iter.{into_iter_items}
use Rattle.std.proofs.lemmas.List.Elements.{All-head, All-tail}
use Rattle.orc_writer.specs.declared.column_spec.ColumnSpec.{ColumnSpec}
use Rattle.orc_writer.specs.Given.{IsSpec}
use Rattle.orc_writer.specs.Making.{AreMade}
use Rattle.orc_writer.proofs.Columns.{made_more}
use Rattle.orc_writer.proofs.making.table_columns.Goals as goal

nothing_left : {X : Type 0} (l : List X) → length l ≡ 0 → l ≡ []
nothing_left [] h = refl
nothing_left (x ∷ xs) h = absurd (omega arith)

pub loop-spec-init : goal.loop-spec-init
loop-spec-init c = (
  refl,
  rw c.new-columns.ensures.items tt,
  c.into_iter-spec-iterator.ensures.into_iter_gives.1 ∙ c.args.specs.ok.0 ∙ ap length (sym c.into_iter-spec-iterator.ensures.into_iter_gives.0),
  subst (λ (l : List ColumnSpec). All IsSpec l) (sym c.into_iter-spec-iterator.ensures.into_iter_gives.0) c.requires,
)

pub push_column-requires : goal.push_column-requires
push_column-requires c =
    All-head IsSpec c.in-Some.spec (into_iter_items c.next.new.self) (subst (λ (l : List ColumnSpec). All IsSpec l) c.in-Some.ensures.steps.0 c.loop-spec.invariant.3)

pub loop-spec-preserved : goal.loop-spec-preserved
loop-spec-preserved c =
    let at = c.loop-spec in
    let x = c.in-Some.spec in
    let steps : into_iter_items at.spec-iterator ≡ x ∷ into_iter_items c.next.new.self = c.in-Some.ensures.steps.0 in
    let adds = c.in_ok-push_column.ensures in (
      append_assoc at.yielded (x ∷ []) _ ∙ rw (← steps) at.invariant.0,
      rw (adds.1) (made_more at.yielded at.columns.items x adds.0 at.invariant.1 adds.2),
      let was = at.invariant.2 in
          let gone = c.in-Some.ensures.steps.1 in
          let short = ap length steps in
          omega arith,
      All-tail IsSpec x (into_iter_items c.next.new.self) (subst (λ (l : List ColumnSpec). All IsSpec l) steps at.invariant.3),
    )

pub returns : goal.returns
returns c =
    let at = c.loop-spec in
    let none = c.in-None.ensures.steps in
    let empty : into_iter_items at.spec-iterator ≡ [] = nothing_left _ (sym at.invariant.2 ∙ none.0) in
    let all = sym (append-nil at.yielded) ∙ rw empty at at.invariant.0 ∙ c.into_iter-spec-iterator.ensures.into_iter_gives.0 in
    subst (λ l. AreMade l at.columns.items) all at.invariant.1
