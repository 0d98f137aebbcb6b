use Rattle.std.proofs.Common.{arith}
use Rattle.cut_streams.specs.Streams.{bytes_in, cursor_of, file_len_of}
use Rattle.cut_streams.proofs.Takes.{lent_are}
use Rattle.cut_streams.proofs.stream.CutStream.lent.Goals as goal

pub returns-clause-bytes : goal.returns-clause-bytes
returns-clause-bytes c = λ files file sound told.
    lent_are files c.args.chunk (file_len_of c.args.self.now) (cursor_of c.args.self.now) (bytes_in c.args.self.now) c.at_hand.result.now file
    (omega (arith, c.offset_of.ensures.offset)) c.at_hand.ensures.len c.at_hand.ensures.bytes sound told
