use Rattle.orc_tail.proofs.MessageLaws.{stripes_are_read, streams_are_read, encodings_are_read}
use Rattle.orc_tail.proofs.MessageLaws.{postscripts_are_messages, stripes_are_messages, streams_are_messages, encodings_are_messages}
use Rattle.orc_tail.proofs.PostScriptLaws.{postscripts_are_read}
use Rattle.orc_tail.proofs.laws.the_last_number_counts.Goals as goal

pub returns-clause-stripes : goal.returns-clause-stripes
returns-clause-stripes c = stripes_are_read c.messages_are_read.ensures.read

pub returns-clause-streams : goal.returns-clause-streams
returns-clause-streams c = streams_are_read c.messages_are_read.ensures.read

pub returns-clause-encodings : goal.returns-clause-encodings
returns-clause-encodings c = encodings_are_read c.messages_are_read.ensures.read

pub returns-clause-postscripts : goal.returns-clause-postscripts
returns-clause-postscripts c = postscripts_are_read c.messages_are_read.ensures.read

pub returns-clause-only_postscripts : goal.returns-clause-only_postscripts
returns-clause-only_postscripts c = postscripts_are_messages c.messages_are_read.ensures.only

pub returns-clause-only_stripes : goal.returns-clause-only_stripes
returns-clause-only_stripes c = stripes_are_messages c.messages_are_read.ensures.only

pub returns-clause-only_streams : goal.returns-clause-only_streams
returns-clause-only_streams c = streams_are_messages c.messages_are_read.ensures.only

pub returns-clause-only_encodings : goal.returns-clause-only_encodings
returns-clause-only_encodings c = encodings_are_messages c.messages_are_read.ensures.only
