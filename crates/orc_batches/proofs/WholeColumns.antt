-- Batches join to the whole columns.
use Rattle.orc_columns.specs.Laws.{GivesTheColumn}
use Rattle.orc_batches.specs.Laws.{GiveTheColumns}
use Rattle.orc_batches.specs.Walk.{EachMidway}

pub give_the_columns : GivesTheColumn → GiveTheColumns
give_the_columns law count _ _ _ _ EachMidway.none = tt
give_the_columns law count _ _ _ _ (EachMidway.next {r = r} {readers = readers} {start = start} {rest = rest} {starts = starts} {rests = rests} {rows = rows} {given = given} midway len mids) =
    (law r start rows rest midway, len, give_the_columns law count readers starts given rests mids)
