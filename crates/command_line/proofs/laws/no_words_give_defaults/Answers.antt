use Rattle.std.proofs.Common.{refl, arith}
use Rattle.std.specs.Int.Count.{ones}
use Rattle.clap.proofs.OnLiterals.{clap_on_literals}
use Rattle.command_line.specs.Command.{command}
use Rattle.command_line.specs.Laws.{NoWordsGiveDefaults}
use Rattle.command_line.proofs.laws.no_words_give_defaults.Goals as goal

defaults_given : NoWordsGiveDefaults
unfolding clap_on_literals command ones
defaults_given = record {
  taken = refl;
  min_block = refl;
  arenas = refl;
  sets = refl;
  executors = refl;
  io = refl;
  room = refl;
  half_life = refl;
  generated = refl;
  rows = refl;
  in_range = record {
    power = refl;
    min_block = (omega arith, omega arith);
    arenas = (omega arith, omega arith);
    sets = (omega arith, omega arith);
    executors = omega arith;
    io = omega arith;
    room = (omega arith, omega arith);
    half_life = omega arith;
    generated = search arith;
    rows = omega arith;
  };
}

pub returns : goal.returns
returns c = defaults_given
