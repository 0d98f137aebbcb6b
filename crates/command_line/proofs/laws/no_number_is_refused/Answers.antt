use Rattle.std.proofs.Common.{◌≡◌, ap, sym, ◌∙◌, refl, codes, List, [], ◌∷◌, inl, true, false}
use Rattle.clap.specs.Walk.{is_empty}
use Rattle.clap.specs.Words.{Text, fault_of, takes}
use Rattle.clap.specs.declared.error.kind.ErrorKind.TheVariants.{ValueValidation}
use Rattle.clap.proofs.OnLiterals.{clap_on_literals}
use Rattle.command_line.specs.Command.{command}
use Rattle.command_line.proofs.laws.no_number_is_refused.Goals as goal

abbrev words : List Text
words = codes "--executors" ∷ codes "x" ∷ []

refused : fault_of command words ≡ ValueValidation ∷ []
unfolding clap_on_literals command
refused = refl

not_taken : takes command words ≡ false
unfolding clap_on_literals command
not_taken = refl

pub returns : goal.returns
returns c = inl (record {
  fault = λ taken.
      let bad : false ≡ true = ap is_empty (sym refused ∙ taken) in
      cc;
  not_taken = λ taken. let bad : false ≡ true = sym not_taken ∙ taken in cc;
})
