use Rattle.std.proofs.Common.{sym, ◌∙◌, arith}
use Rattle.std.proofs.lemmas.Bool.{eqb-true, eqb-false}
use Rattle.orc_proto.specs.Varint.{SpellsVarint}
use Rattle.orc_proto.specs.Reading.{varint_at}
use Rattle.orc_proto.proofs.Items.{items-nil, items-none, item_read, item_broken, shorter}
use Rattle.orc_proto.proofs.Varints.{varints_read}
use Rattle.orc_proto.proofs.packed.Packed.next.Goals as goal

pub returns-then-is_empty : goal.returns-then-is_empty
returns-then-is_empty c =
    let none = eqb-true _ _ (sym c.if-is_empty.ensures) in
    let e = sym c.self.view_is ∙ items-none varint_at c.self.inside.total c.self.inside.rest.now none in
    (e, e)

pub invariant_of-self : goal.invariant_of-self
invariant_of-self c =
    omega (arith, c.self.invariant, shorter SpellsVarint varint_at varints_read _ c.self.inside.rest.now c.in-Ok.number c.in-Ok.rest.now c.in-Ok.ensures)

pub returns-in-Ok : goal.returns-in-Ok
returns-in-Ok c = sym c.self.view_is ∙ item_read SpellsVarint varint_at varints_read c.self.inside.total c.self.inside.rest.now c.in-Ok.number c.in-Ok.rest.now c.in-Ok.ensures

pub returns-in-Err : goal.returns-in-Err
returns-in-Err c =
    let some = eqb-false _ _ (sym c.if-is_empty.ensures) in (
      sym c.self.view_is ∙ item_broken SpellsVarint varint_at varints_read c.self.inside.total c.self.inside.rest.now c.in-Err.fault (omega arith) c.in-Err.ensures,
      items-nil varint_at 0 c.self.inside.total,
    )
