use Rattle.std.proofs.Common.{arith}
use Rattle.rle_writer.proofs.int_stream1.put_integers.Goals as goal
use Rattle.std.proofs.Common.{take, get_or, pos}
use Rattle.std.proofs.lemmas.List.{take_more}
use Rattle.rle_writer.proofs.Varints.{integers-none, integers-more}

pub loop-value-init : goal.loop-value-init
loop-value-init c = integers-none c.args.signed c.args.out.now.items

pub loop-value-preserved : goal.loop-value-preserved
loop-value-preserved c =
    let l = c.loop-value in
    let values = c.args.values.now in
    rw (take_more values l.value-index (pos 0) (omega (arith, c.loop-value-test.true)))
    (integers-more c.args.signed c.args.out.now.items l.out.items c.put_varint.new.out.items (take l.value-index values) (get_or values l.value-index (pos 0)) c.number_of.result l.invariant c.in_ok-put_varint.ensures.ok c.number_of.ensures)
