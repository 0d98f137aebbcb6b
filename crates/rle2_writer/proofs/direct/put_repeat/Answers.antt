use Rattle.std.proofs.Common.{arith}
use Rattle.rle2_writer.proofs.Forms.{OnOk-then, repeat_run, flat_run}
use Rattle.rle2_writer.proofs.direct.put_repeat.Goals as goal

pub returns : goal.returns
returns c =
    let before = c.args.out.now.items in
    OnOk-then c.put_packed.result c.put_packed.ensures (λ adds. flat_run c.args.signed before c.put_packed.new.out.items c.args.count c.number_of-number.result c.args.value.now (omega (arith, c.number_of-number.type_inv)) c.number_of-number.ensures
    (repeat_run c.args.signed before c.put.new.out.items c.put_packed.new.out.items c.byte_len-len.result c.args.count c.number_of-number.result c.args.value.now c.byte_len-len.ensures.some c.byte_len-len.ensures.most c.requires.some c.requires.most c.number_of-number.ensures c.in_ok-put.ensures.ok adds))
