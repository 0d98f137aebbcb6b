use Rattle.std.proofs.Common.{◌≡◌, ◌+◌, ◌∙◌, length, refl, arith}
use Rattle.tail_writer.proofs.Growing.{column_pushed}
use Rattle.tail_writer.proofs.column_types.push_column.Goals as goal

pub returns : goal.returns
returns c =
    let counted : c.len.result ≡ length c.args.types.items = c.len.ensures ∙ c.args.types.ok.0 in
    let first : c.len.result + 2 ≡ length c.args.types.items + 2 = omega (arith, counted) in
    column_pushed c.args.types.items c.push.new.self.items c.in_ok-all.all.items _ c.args.column.now c.deref.result.now (c.len.result + 2) c.len-2.result c.in_ok-all.ensures
    c.deref.ensures.value c.in_ok-push.ensures.items refl c.in_ok-subtypes.ensures first (c.len-2.ensures ∙ c.args.column.now.children.ok.0) c.new.ensures.items
