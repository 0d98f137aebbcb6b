-- The command and its options (this project's own), as a simple command of `clap`, whose rule says which words it takes.
use Rattle.std.specs.Prelude.{ℕ, List, [], ◌∷◌, Option, Some, None, codes, map, pos, true}
use Rattle.clap.specs.Words.{App, Rule, Text, new_rule}
use Rattle.clap.specs.Simple.{new_shape}
use Rattle.clap.specs.declared.builder.action.ArgAction.TheVariants.{Set}
use Rattle.clap.specs.declared.builder.value_parser.ValueParser.TheVariants as vp

-- an option takes one number from `least` to `most`; where the words don't give it, it has the number that its default
-- spells, or none
pub record NumberOption : Type 0 where
  pub name : Text
  pub least : ℕ
  pub most : ℕ
  pub default : Option Text

abbrev row : Text → ℕ → ℕ → Option Text → NumberOption
row name least most default = record { name = name; least = least; most = most; default = default }

-- the options: `min-block` is in bytes, `half-life` in ticks of the cache's clock, and the others count
abbrev pub table : List NumberOption
table = row (codes "min-block") 64 65536 (Some (codes "4096"))
    ∷ row (codes "arenas") 1 64 (Some (codes "16"))
    ∷ row (codes "sets") 1 4096 (Some (codes "64"))
    ∷ row (codes "executors") 0 16 (Some (codes "2"))
    ∷ row (codes "io") 0 8 (Some (codes "2"))
    ∷ row (codes "room") 1 1000 (Some (codes "16"))
    ∷ row (codes "half-life") 0 1000000 (Some (codes "1000"))
    ∷ row (codes "gen") 0 1000000 None
    ∷ row (codes "rows") 0 10000000 (Some (codes "1000"))
    ∷ []

abbrev pub default_texts : Option Text → List Text
default_texts None = []
default_texts (Some text) = text ∷ []

-- an option as an argument of a command: of that long name, with one value
abbrev pub rule : NumberOption → Rule
rule o = record (new_rule o.name) {
  long = Some o.name;
  action = Some Set;
  defaults = default_texts o.default;
  parser = Some (vp.Signed (pos o.least) (pos o.most));
}

-- the command, of which the words are those after the program's name
unfoldable pub command : App
command = record {
  top = record (new_shape (codes "llapd")) {
    rules = map rule table;
    no_binary_name = true;
  };
  subs = [];
}
