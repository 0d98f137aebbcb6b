use Rattle.footer_writer.proofs.PostScripts.{postscript_read, postscript_short}
use Rattle.footer_writer.proofs.postscript.postscript_message.Goals as goal

pub returns-clause-read : goal.returns-clause-read
returns-clause-read c =
    postscript_read c.args.footer_len c.the_last_number_counts.ensures.postscripts c.new.ensures.items c.in_ok-footer.ensures.field c.in_ok-compression.ensures.field
    c.in_ok-version.ensures.field c.in_ok-metadata.ensures.field c.in_ok-message.ensures.field

pub returns-clause-short : goal.returns-clause-short
returns-clause-short c =
    postscript_short c.args.footer_len c.ranges.footer_len.fits c.varints_are_read.ensures.spelled c.new.ensures.items c.in_ok-footer.ensures.written
    c.in_ok-compression.ensures.written c.in_ok-version.ensures.written c.in_ok-metadata.ensures.written c.in_ok-message.ensures.written
