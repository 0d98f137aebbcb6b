use Rattle.std.proofs.Common.{Bool, List, ◌++◌, ◌∷◌, [], true, false, ap, ◌∙◌}
use Rattle.column_writer.specs.Encoded.{spelling_in, values_in}
use Rattle.column_writer.proofs.Rows.{null_is, counted_null, counted_value, pushed_null, pushed_value}
use Rattle.column_writer.proofs.column_buffer.ColumnBuffer.push.Goals as goal

pub invariant_of-self-then-is_null : goal.invariant_of-self-then-is_null
invariant_of-self-then-is_null c =
    let s = c.self.inside in
    counted_null s.flags.items c.push_reserved.new.self.items (values_in s.kept) c.self.invariant (c.push_reserved.ensures.items ∙ ap (λ (l : List Bool). l ++ false ∷ []) c.reserve.ensures.items)

pub returns-then-is_null-clause-ok : goal.returns-then-is_null-clause-ok
returns-then-is_null-clause-ok c =
    let s = c.self.inside in
    rw (← c.self.view_is) (pushed_null (spelling_in s.kept) s.flags.items c.push_reserved.new.self.items (values_in s.kept) c.args.row.now c.self.invariant (c.push_reserved.ensures.items ∙ ap (λ (l : List Bool). l ++ false ∷ []) c.reserve.ensures.items) (null_is c.args.row.now c.if-is_null.ensures))

pub invariant_of-self-2 : goal.invariant_of-self-2
invariant_of-self-2 c =
    let s = c.self.inside in
    counted_value s.flags.items c.push_reserved-2.new.self.items (values_in s.kept) (values_in c.push.new.self) c.args.row.now c.self.invariant (c.push_reserved-2.ensures.items ∙ ap (λ (l : List Bool). l ++ true ∷ []) c.reserve.ensures.items) c.in_ok-push.ensures.ok

pub returns-clause-ok : goal.returns-clause-ok
returns-clause-ok c =
    let s = c.self.inside in
    rw (← c.self.view_is) (pushed_value (spelling_in s.kept) (spelling_in c.push.new.self) s.flags.items c.push_reserved-2.new.self.items (values_in s.kept) (values_in c.push.new.self) c.args.row.now c.self.invariant c.in_ok-push.ensures.spelling (c.push_reserved-2.ensures.items ∙ ap (λ (l : List Bool). l ++ true ∷ []) c.reserve.ensures.items) c.in_ok-push.ensures.ok)
