-- What a parse of the command that succeeds found, for the calls that read it.
use Rattle.std.specs.Prelude.{◌≡◌, ◌⊎◌, ◌<◌, ◌^◌, ℕ, ℤ, List, Option, Some, None, codes, option_map, pos}
use Rattle.std.specs.Str.Parse.{signed_digits_value}
use Rattle.clap.specs.Words.{Text, first_value, found_of, matches_of, one_text, rows_of, without_minus}
use Rattle.clap.specs.Values.{IsSignedIn}
use Rattle.clap.specs.declared.parser.matches.ArgMatches.{ArgMatches}
use Rattle.command_line.specs.Command.{command}
use Rattle.command_line.specs.Options.{AreTaken}
use Rattle.command_line.specs.declared.settings.Options.{Options}

-- an option has a text that spells a number from `least` to `most`; typed getters read it without a minus
pub record IsGiven (m : ArgMatches) (name : Text) (least most : ℕ) : Type 0 where
  pub text : Text
  pub first : first_value (found_of m) name ≡ Some text
  pub read : one_text (found_of m) name ≡ Some (without_minus text)
  pub in_range : IsSignedIn (pos least) (pos most) text

-- an option has no text
pub record IsAbsent (m : ArgMatches) (name : Text) : Type 0 where
  pub first : first_value (found_of m) name ≡ None
  pub read : one_text (found_of m) name ≡ None

-- an option has a number that fits 32 bits, of some range
pub record HasNumber (m : ArgMatches) (name : Text) : Type 0 where
  pub least : ℕ
  pub most : ℕ
  pub fits : most < 2 ^ 32
  pub given : IsGiven m name least most

-- the number that an option's text spells
abbrev pub spelled : ArgMatches → Text → Option ℤ
spelled m name = option_map (signed_digits_value 10) (first_value (found_of m) name)

-- each option of the table has a number of its range, but `gen`, which may have none
pub record HasNumbers (m : ArgMatches) : Type 0 where
  pub min_block : IsGiven m (codes "min-block") 64 65536
  pub arenas : IsGiven m (codes "arenas") 1 64
  pub sets : IsGiven m (codes "sets") 1 4096
  pub executors : IsGiven m (codes "executors") 0 16
  pub io : IsGiven m (codes "io") 0 8
  pub room : IsGiven m (codes "room") 1 1000
  pub half_life : IsGiven m (codes "half-life") 0 1000000
  pub generated : IsAbsent m (codes "gen") ⊎ IsGiven m (codes "gen") 0 1000000
  pub rows : IsGiven m (codes "rows") 0 10000000

-- the parse took the words
pub record Took (words : List Text) (m : ArgMatches) : Type 0 where
  pub taken : AreTaken words
  pub rows : rows_of (found_of m) ≡ matches_of command words
  pub numbers : HasNumbers m

-- each field is the number that the option's text spells
pub record AreSpelled (m : ArgMatches) (o : Options) : Type 0 where
  pub min_block : spelled m (codes "min-block") ≡ Some (pos o.min_block)
  pub arenas : spelled m (codes "arenas") ≡ Some (pos o.arenas)
  pub sets : spelled m (codes "sets") ≡ Some (pos o.sets)
  pub executors : spelled m (codes "executors") ≡ Some (pos o.executors)
  pub io : spelled m (codes "io") ≡ Some (pos o.io)
  pub room : spelled m (codes "room") ≡ Some (pos o.room)
  pub half_life : spelled m (codes "half-life") ≡ Some (pos o.half_life)
  pub generated : spelled m (codes "gen") ≡ option_map pos o.generated
  pub rows : spelled m (codes "rows") ≡ Some (pos o.rows)
