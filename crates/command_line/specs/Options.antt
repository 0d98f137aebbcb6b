-- What a command line means (this project's own): the options that it gives, or that it is refused.
use Rattle.std.specs.Prelude.{◌≡◌, ◌≤◌, ◌⊎◌, ℕ, ℤ, List, [], Option, Some, IfSome, IsTrue, codes}
use Rattle.std.specs.Prelude.{false, option_map, pos, true}
use Rattle.std.specs.Int.{is_power_of_two}
use Rattle.std.specs.Str.Parse.{signed_digits_value}
use Rattle.clap.specs.Words.{Text, fault_of, first_of, matches_of, takes}
use Rattle.command_line.specs.Command.{command}
use Rattle.command_line.specs.declared.settings.Options.{Options}

-- no word is refused by clap's rule for simple commands
abbrev pub AreTaken : List Text → Type 0
AreTaken words = fault_of command words ≡ []

-- the number that the match of an option spells: the option's text where the words give it, and else its default
abbrev pub number_given : Text → List Text → Option ℤ
number_given name words = option_map (signed_digits_value 10) (first_of name (matches_of command words))

-- options that a command line can give
pub record AreInRange (o : Options) : Type 0 where
  pub power : IsTrue (is_power_of_two o.min_block)
  pub min_block : (64 ≤ o.min_block) × (o.min_block ≤ 65536)
  pub arenas : (1 ≤ o.arenas) × (o.arenas ≤ 64)
  pub sets : (1 ≤ o.sets) × (o.sets ≤ 4096)
  pub executors : o.executors ≤ 16
  pub io : o.io ≤ 8
  pub room : (1 ≤ o.room) × (o.room ≤ 1000)
  pub half_life : o.half_life ≤ 1000000
  pub generated : IfSome o.generated (λ n. n ≤ 1000000)
  pub rows : o.rows ≤ 10000000

-- the words are taken, and each option has the number that they give it
pub record AreOptionsOf (words : List Text) (o : Options) : Type 0 where
  pub taken : AreTaken words
  pub min_block : number_given (codes "min-block") words ≡ Some (pos o.min_block)
  pub arenas : number_given (codes "arenas") words ≡ Some (pos o.arenas)
  pub sets : number_given (codes "sets") words ≡ Some (pos o.sets)
  pub executors : number_given (codes "executors") words ≡ Some (pos o.executors)
  pub io : number_given (codes "io") words ≡ Some (pos o.io)
  pub room : number_given (codes "room") words ≡ Some (pos o.room)
  pub half_life : number_given (codes "half-life") words ≡ Some (pos o.half_life)
  pub generated : number_given (codes "gen") words ≡ option_map pos o.generated
  pub rows : number_given (codes "rows") words ≡ Some (pos o.rows)
  pub in_range : AreInRange o

-- clap refuses the words for another cause than memory, by both of its definitions: a first fault, and what it takes
pub record AreFaulty (words : List Text) : Type 0 where
  pub fault : AreTaken words → ⊥
  pub not_taken : takes command words ≡ true → ⊥

-- the words are no command line: clap refuses them, or the smallest block is no power of two
abbrev pub AreRefused : List Text → Type 0
AreRefused words = AreFaulty words
    ⊎ ((n : ℕ) × (number_given (codes "min-block") words ≡ Some (pos n)) × (is_power_of_two n ≡ false))
