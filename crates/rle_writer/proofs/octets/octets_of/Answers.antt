use Rattle.std.proofs.Common.{rules}
use Rattle.rle_writer.proofs.octets.octets_of.Goals as goal
use Rattle.rle_writer.proofs.Bits.{octet_more, octets_whole, octets_padded, some_left}

pub loop-eight-preserved : goal.loop-eight-preserved
loop-eight-preserved c =
    let l = c.loop-eight in
    rw c.in_ok-put.ensures.ok (octet_more l.octets.items c.octet_of.result c.args.flags.now c.in-Some.eight.now l.rest.now c.in-Some.more.now l.invariant c.in-Some.ensures.cases.0 c.in-Some.ensures.cases.1 c.octet_of.ensures)

pub returns-then-is_empty : goal.returns-then-is_empty
returns-then-is_empty c =
    let l = c.loop-eight in
    octets_whole l.octets.items c.args.flags.now l.rest.now l.invariant (search (rules, c.if-is_empty.ensures, c.if-is_empty.true))

pub returns : goal.returns
returns c =
    let l = c.loop-eight in
    rw c.in_ok-put-2.ensures.ok (octets_padded l.octets.items c.octet_of-2.result c.args.flags.now l.rest.now l.invariant (some_left _ c.if-is_empty.ensures) c.in_default.ensures.cases (rw c.octet_of-2.ensures c.padded.ensures))
