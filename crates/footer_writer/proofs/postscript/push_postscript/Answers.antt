use Rattle.std.proofs.Common.{◌∙◌}
use Rattle.footer_writer.proofs.PostScripts.{ends_file}
use Rattle.footer_writer.proofs.postscript.push_postscript.Goals as goal

pub returns : goal.returns
returns c =
    ends_file c.args.footer.items c.in_ok-postscript.postscript.items c.deref.result.now c.extend_from_slice.new.self.items c.push.new.self.items c.len.result c.len-2.result
    c.in_ok-postscript.ensures.read (c.len.ensures ∙ c.args.footer.ok.0) c.in_ok-postscript.ensures.short c.deref.ensures.value c.in_ok-extend_from_slice.ensures.items
    (c.len-2.ensures ∙ c.in_ok-postscript.postscript.ok.0) c.in_ok-push.ensures.items
