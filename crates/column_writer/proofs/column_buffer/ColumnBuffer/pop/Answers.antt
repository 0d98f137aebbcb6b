use Rattle.std.proofs.Common.{sym, refl}
use Rattle.orc_values.specs.declared.value.Value.TheVariants as value
use Rattle.column_writer.specs.Encoded.{spelling_in, values_in}
use Rattle.column_writer.proofs.Rows.{some_flags, some_values, fewer_values, same_values, pushed_null, pushed_value}
use Rattle.column_writer.proofs.column_buffer.ColumnBuffer.pop.Goals as goal

pub pop_flag-requires : goal.pop_flag-requires
pop_flag-requires c = let s = c.self.inside in let some = (rw (← c.self.view_is) at c.requires) in some_flags s.flags.items (values_in s.kept) some

pub pop-requires : goal.pop-requires
pop-requires c =
    let s = c.self.inside in
    some_values s.flags.items c.pop_flag.new.flags.items (values_in s.kept) c.self.invariant (c.if-pop_flag.ensures)

pub invariant_of-self : goal.invariant_of-self
invariant_of-self c =
    let s = c.self.inside in
    fewer_values s.flags.items c.pop_flag.new.flags.items (values_in s.kept) (values_in c.pop.new.self) c.pop.ensures.values.0 c.self.invariant c.if-pop_flag.ensures c.pop.ensures.values.1

pub invariant_of-self-else-pop_flag : goal.invariant_of-self-else-pop_flag
invariant_of-self-else-pop_flag c =
    let s = c.self.inside in
    same_values s.flags.items c.pop_flag.new.flags.items (values_in s.kept) c.self.invariant c.if-pop_flag.ensures

pub returns-then-pop_flag : goal.returns-then-pop_flag
returns-then-pop_flag c =
    let s = c.self.inside in
    let left = fewer_values s.flags.items c.pop_flag.new.flags.items (values_in s.kept) (values_in c.pop.new.self) c.pop.ensures.values.0 c.self.invariant c.if-pop_flag.ensures c.pop.ensures.values.1 in
    (c.pop.ensures.values.0, rw (← c.self.view_is) (pushed_value (spelling_in c.pop.new.self) (spelling_in s.kept) c.pop_flag.new.flags.items s.flags.items (values_in c.pop.new.self) (values_in s.kept) c.pop.ensures.values.0 left (sym c.pop.ensures.spelling) c.if-pop_flag.ensures c.pop.ensures.values.1))

pub returns-else-pop_flag : goal.returns-else-pop_flag
returns-else-pop_flag c =
    let s = c.self.inside in
    let left = same_values s.flags.items c.pop_flag.new.flags.items (values_in s.kept) c.self.invariant c.if-pop_flag.ensures in
    (value.Null, rw (← c.self.view_is) (pushed_null (spelling_in s.kept) c.pop_flag.new.flags.items s.flags.items (values_in s.kept) value.Null left c.if-pop_flag.ensures refl))
