use Rattle.std.proofs.Common.{List, ℕ, subst}
use Rattle.orc_proto.specs.Message.{LEN}
use Rattle.message_writer.specs.Written.{Adds}
use Rattle.message_writer.proofs.Spellings.{ok_then}
use Rattle.message_writer.proofs.fields.push_packed.Goals as goal

pub returns-clause-field : goal.returns-clause-field
returns-clause-field c =
    let same = c.deref.ensures.value in
    ok_then c.push_bytes.result (λ after added. record {
      bytes = c.in_ok-bytes.bytes.items;
      packs = c.in_ok-bytes.ensures.spelled;
      added = subst (λ (xs : List ℕ). Adds c.args.message.items after.items c.args.field (LEN xs)) same added;
    }) c.push_bytes.ensures.field
