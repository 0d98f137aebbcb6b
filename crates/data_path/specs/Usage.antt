-- Which words the program runs by (this project's own): those of its command, for a plan that is read, or for a generated file.
use Rattle.std.specs.Prelude.{◌≡◌, ℕ, List, Some, None}
use Rattle.command_line.specs.Options.{AreOptionsOf, AreRefused}
use Rattle.command_line.specs.declared.settings.Options.{Options}

-- the words give these options, and ask for no generated file
pub record AreGood (words : List (List ℕ)) (options : Options) : Type 0 where
  pub options_are : AreOptionsOf words options
  pub stored : options.generated ≡ None

-- the words give these options, and ask for the generated file of that number
pub record AreGenerated (words : List (List ℕ)) (options : Options) (number : ℕ) : Type 0 where
  pub options_are : AreOptionsOf words options
  pub generated : options.generated ≡ Some number

-- what the usage line is written for
abbrev pub AreBad : List (List ℕ) → Type 0
AreBad words = AreRefused words
