-- What ties the meaning of a command line together, and its worked cases.
use Rattle.std.specs.Prelude.{◌≡◌, List, [], ◌∷◌, None, codes}
use Rattle.clap.specs.Words.{Text}
use Rattle.command_line.specs.Options.{AreOptionsOf, AreRefused}
use Rattle.command_line.specs.declared.settings.Options.{Options}

-- words give one set of options, and words that give some aren't refused
abbrev pub WordsMeanOneThing : Type 0
WordsMeanOneThing = (words : List Text) (o : Options) → AreOptionsOf words o
    → ((p : Options) → AreOptionsOf words p → p ≡ o) × (AreRefused words → ⊥)

-- the options without any word
abbrev pub defaults : Options
defaults = record {
  min_block = 4096;
  arenas = 16;
  sets = 64;
  executors = 2;
  io = 2;
  room = 16;
  half_life = 1000;
  generated = None;
  rows = 1000;
}

abbrev pub NoWordsGiveDefaults : Type 0
NoWordsGiveDefaults = AreOptionsOf [] defaults

abbrev pub NoExecutorsAreTaken : Type 0
NoExecutorsAreTaken = AreOptionsOf (codes "--executors" ∷ codes "0" ∷ []) (record defaults { executors = 0 })

abbrev pub NoNumberIsRefused : Type 0
NoNumberIsRefused = AreRefused (codes "--executors" ∷ codes "x" ∷ [])
