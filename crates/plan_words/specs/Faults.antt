-- The words of a plan's faults (this project's own).
use Rattle.std.specs.Prelude.{ℕ, List, codes}
use Rattle.plan_words.specs.declared.fault.PlanKind.{PlanKind}
use Rattle.plan_words.specs.declared.fault.PlanKind.TheVariants.{BadWord, BadName, UnknownFragment, ShapeDiffers}
use Rattle.plan_words.specs.declared.fault.PlanKind.TheVariants.{TooMany, BadLiteral, TooLong}

-- what is printed of a fault
abbrev pub words_of : PlanKind → List ℕ
words_of BadWord = codes "bad word"
words_of BadName = codes "bad name"
words_of UnknownFragment = codes "unknown fragment"
words_of ShapeDiffers = codes "shape differs"
words_of TooMany = codes "too many"
words_of BadLiteral = codes "bad literal"
words_of TooLong = codes "too long"
