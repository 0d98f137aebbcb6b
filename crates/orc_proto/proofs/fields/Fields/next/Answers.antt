use Rattle.std.proofs.Common.{sym, ◌∙◌, arith}
use Rattle.std.proofs.lemmas.Bool.{eqb-true, eqb-false}
use Rattle.orc_proto.specs.Message.{SpellsField, entry_of}
use Rattle.orc_proto.specs.Reading.{field_at}
use Rattle.orc_proto.proofs.Items.{items-nil, items-none, item_read, item_broken, shorter}
use Rattle.orc_proto.proofs.Messages.{fields_read}
use Rattle.orc_proto.proofs.fields.Fields.next.Goals as goal

pub returns-then-is_empty : goal.returns-then-is_empty
returns-then-is_empty c =
    let none = eqb-true _ _ (sym c.if-is_empty.ensures) in
    let e = sym c.self.view_is ∙ items-none field_at c.self.inside.total c.self.inside.rest.now none in
    (e, e)

pub invariant_of-self : goal.invariant_of-self
invariant_of-self c =
    omega (arith, c.self.invariant, shorter SpellsField field_at fields_read _ c.self.inside.rest.now (entry_of c.in-Ok.field) c.in-Ok.rest.now c.in-Ok.ensures)

pub returns-in-Ok : goal.returns-in-Ok
returns-in-Ok c = sym c.self.view_is ∙ item_read SpellsField field_at fields_read c.self.inside.total c.self.inside.rest.now (entry_of c.in-Ok.field) c.in-Ok.rest.now c.in-Ok.ensures

pub returns-in-Err : goal.returns-in-Err
returns-in-Err c =
    let some = eqb-false _ _ (sym c.if-is_empty.ensures) in (
      sym c.self.view_is ∙ item_broken SpellsField field_at fields_read c.self.inside.total c.self.inside.rest.now c.in-Err.fault (omega arith) c.in-Err.ensures,
      items-nil field_at 0 c.self.inside.total,
    )
