use Rattle.std.proofs.Common.{◌≡◌, ◌∙◌, ap}
use Rattle.std.proofs.lemmas.Result.{IfOk-weaker}
use Rattle.clap.specs.Words.{app_of, with_rule}
use Rattle.clap.specs.Simple.{app_of_fields}
use Rattle.command_line.specs.Command.{rule}
use Rattle.command_line.proofs.CommandFacts.{all_options, first_options, named, one_more, option_at, with_options}
use Rattle.command_line.proofs.command.new_command.Goals as goal

pub returns : goal.returns
returns c =
    let named_is : app_of c.no_binary_name-command.result ≡ with_options (first_options 0) =
    ap app_of_fields c.no_binary_name-command.ensures ∙ ap named c.new.ensures.app in
    let one = one_more _ (app_of c.in_ok-command.command) (first_options 0) (option_at 0) c.in_ok-command.ensures named_is in
    let two = one_more _ (app_of c.in_ok-command-2.command) (first_options 1) (option_at 1) c.in_ok-command-2.ensures one in
    let three = one_more _ (app_of c.in_ok-command-3.command) (first_options 2) (option_at 2) c.in_ok-command-3.ensures two in
    let four = one_more _ (app_of c.in_ok-command-4.command) (first_options 3) (option_at 3) c.in_ok-command-4.ensures three in
    let five = one_more _ (app_of c.in_ok-command-5.command) (first_options 4) (option_at 4) c.in_ok-command-5.ensures four in
    let six = one_more _ (app_of c.in_ok-command-6.command) (first_options 5) (option_at 5) c.in_ok-command-6.ensures five in
    let seven = one_more _ (app_of c.in_ok-command-7.command) (first_options 6) (option_at 6) c.in_ok-command-7.ensures six in
    let gen : app_of c.in_ok-command-8.command ≡ with_rule (app_of c.in_ok-command-7.command) (rule (option_at 7)) =
    c.in_ok-command-8.ensures.shape c.number_option.ensures.local ∙ ap (with_rule (app_of c.in_ok-command-7.command)) c.number_option.ensures.rule in
    let eight = one_more _ (app_of c.in_ok-command-8.command) (first_options 7) (option_at 7) gen seven in
    IfOk-weaker c.with_number-8.result _ _
    (λ new added. one_more (app_of c.in_ok-command-8.command) (app_of new) (first_options 8) (option_at 8) added eight ∙ all_options)
    c.with_number-8.ensures
