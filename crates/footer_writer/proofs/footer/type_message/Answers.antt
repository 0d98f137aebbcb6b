use Rattle.std.proofs.Common.{List, ℕ, ◌≤◌, [], length, ap, subst, arith}
use Rattle.footer_writer.specs.Made.{IsTypeSoFar}
use Rattle.footer_writer.proofs.Wholes.{type_made}
use Rattle.footer_writer.proofs.Parts.{kind_begun, name_added}
use Rattle.footer_writer.proofs.footer.type_message.Goals as goal

pub loop-name-init : goal.loop-name-init
loop-name-init c =
    let kind = c.args.file_type.now.kind in
    subst (λ (numbers : List ℕ). IsTypeSoFar c.in_ok-message.message.items kind numbers []) c.deref.ensures.value
    (c.in_ok-message.ensures kind (kind_begun kind c.new.ensures.items c.in_ok-kind.ensures.field))

pub loop-name-preserved : goal.loop-name-preserved
loop-name-preserved c =
    let t = c.args.file_type.now in
    name_added t.kind t.subtypes.items c.deref-name-items.result.now t.names.items c.loop-name.name-index _ c.deref-name-items.ensures.value c.loop-name-test.true
    c.in_ok-message-2.ensures.field c.loop-name.invariant

pub returns : goal.returns
returns c =
    let all : length c.args.file_type.now.names.items ≤ c.loop-name.name-index = omega (arith, ap length c.deref-name-items.ensures.value, c.loop-name-test.false) in
    type_made c.args.file_type.now c.loop-name.name-index all c.messages_are_read.ensures.read c.loop-name.invariant
