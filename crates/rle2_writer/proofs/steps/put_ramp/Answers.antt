use Rattle.std.proofs.Common.{ℕ, List, ◌++◌, ap, ◌∙◌}
use Rattle.rle2_writer.proofs.Forms.{OnOk-then, ramp_run}
use Rattle.rle2_writer.proofs.steps.put_ramp.Goals as goal

pub returns : goal.returns
returns c =
    let before = c.args.out.now.items in
    OnOk-then c.put_varint-2.result c.put_varint-2.ensures.ok (λ adds. ramp_run c.args.signed before c.put.new.out.items c.put_varint.new.out.items c.put_varint-2.new.out.items c.args.count c.number_of-base.result c.number_of_bits-delta.result c.args.first.now _ c.requires.some c.requires.most
    c.number_of-base.ensures c.number_of_bits-delta.ensures (c.in_ok-put.ensures.ok ∙ ap (λ (l : List ℕ). before ++ l) c.header.ensures) c.in_ok-put_varint.ensures.ok adds)
