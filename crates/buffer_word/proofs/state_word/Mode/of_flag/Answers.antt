use Rattle.std.proofs.Common.{rules, refl}
use Rattle.buffer_word.specs.StateWord.{HasSeveralFlags}
use Rattle.buffer_word.specs.declared.state_word.Mode.TheVariants.{Released, Moving, Evicted}
use Rattle.buffer_word.proofs.Flags.{flag_alone, other_flags}
use Rattle.buffer_word.proofs.state_word.Mode.of_flag.Goals as goal

pub returns-in-2-clause-refused : goal.returns-in-2-clause-refused
returns-in-2-clause-refused c = (λ e. absurd (cc), λ h. absurd (flag_alone Moving c.args.flag c.in-2.is h))

pub returns-in-4-clause-refused : goal.returns-in-4-clause-refused
returns-in-4-clause-refused c = (λ e. absurd (cc), λ h. absurd (flag_alone Evicted c.args.flag c.in-4.is h))

pub returns-in-8-clause-refused : goal.returns-in-8-clause-refused
returns-in-8-clause-refused c = (λ e. absurd (cc), λ h. absurd (flag_alone Released c.args.flag c.in-8.is h))

pub returns-in_default-clause-refused : goal.returns-in_default-clause-refused
returns-in_default-clause-refused c =
    let many : HasSeveralFlags c.args.flag =
    other_flags c.args.flag c.requires (search rules) (search rules) (search rules) (search rules) (search rules)
    in
    (λ _. many, λ _. refl)
