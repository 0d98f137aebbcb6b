-- What a parse of the command says of its words.
use Rattle.std.proofs.Common.{◌≡◌, ◌∙◌, ◌++◌, ap, map, zero, suc, ℕ, true, List, [], ◌∷◌, None, refl, sym, subst, inl, inr, arith, codes}
use Rattle.std.specs.Prelude.{Err, Result}
use Rattle.std.specs.List.{slice_index_or}
use Rattle.std.proofs.lemmas.List.{map-append}
use Rattle.clap.specs.Built.{IsParsedFrom}
use Rattle.clap.specs.Kinds.{HasKind, IsAmong}
use Rattle.clap.specs.Words.{App, HasMatchesOf, Rule, Text, app_of, fault_of, is_simple, is_simple_and_free, kind_of, matches_of, takes, with_rule}
use Rattle.clap.specs.Simple.{new_shape}
use Rattle.clap.specs.declared.builder.command.Command.{Command}
use Rattle.clap.specs.declared.error.Error.{Error}
use Rattle.clap.specs.declared.error.kind.ErrorKind.TheVariants.{OutOfMemory}
use Rattle.clap.specs.declared.parser.matches.ArgMatches.{ArgMatches}
use Rattle.clap.proofs.OnLiterals.{clap_on_literals}
use Rattle.command_line.specs.Command.{NumberOption, command, rule, table}
use Rattle.command_line.specs.Matches.{HasNumbers, Took}
use Rattle.command_line.specs.Options.{AreFaulty}
use Rattle.command_line.specs.declared.settings.WordsFault.{WordsFault}
use Rattle.command_line.specs.declared.settings.WordsFault.TheVariants.{NoMemory, Usage}
use Rattle.command_line.proofs.ArgFacts.{is_command}
use Rattle.command_line.proofs.Given.{IsProper, may_be_given, number_of}

-- the command is one of those of which clap says which words they take
simple : is_simple command ≡ true
unfolding clap_on_literals command
simple = refl

free : is_simple_and_free command ≡ true
unfolding clap_on_literals command
free = refl

-- the option at a place of the table
abbrev pub option_at : ℕ → NumberOption
option_at k = slice_index_or table k (record { name = []; least = 0; most = 0; default = None })

min_block_is : IsProper 0 (option_at 0)
min_block_is = record { below = omega arith; at = λ e. refl; alone = refl; named = refl; not_help = refl; not_version = refl }

arenas_is : IsProper 1 (option_at 1)
arenas_is = record { below = omega arith; at = λ e. refl; alone = refl; named = refl; not_help = refl; not_version = refl }

sets_is : IsProper 2 (option_at 2)
sets_is = record { below = omega arith; at = λ e. refl; alone = refl; named = refl; not_help = refl; not_version = refl }

executors_is : IsProper 3 (option_at 3)
executors_is = record { below = omega arith; at = λ e. refl; alone = refl; named = refl; not_help = refl; not_version = refl }

io_is : IsProper 4 (option_at 4)
io_is = record { below = omega arith; at = λ e. refl; alone = refl; named = refl; not_help = refl; not_version = refl }

room_is : IsProper 5 (option_at 5)
room_is = record { below = omega arith; at = λ e. refl; alone = refl; named = refl; not_help = refl; not_version = refl }

half_life_is : IsProper 6 (option_at 6)
half_life_is = record { below = omega arith; at = λ e. refl; alone = refl; named = refl; not_help = refl; not_version = refl }

generated_is : IsProper 7 (option_at 7)
generated_is = record { below = omega arith; at = λ e. refl; alone = refl; named = refl; not_help = refl; not_version = refl }

rows_is : IsProper 8 (option_at 8)
rows_is = record { below = omega arith; at = λ e. refl; alone = refl; named = refl; not_help = refl; not_version = refl }

numbers : (old : Command) (m : ArgMatches) → app_of old ≡ command → IsParsedFrom old m → HasNumbers m
numbers old m app p =
    let is = is_command old app in
    record {
      min_block = number_of old m p is 0 (option_at 0) min_block_is (codes "4096") refl;
      arenas = number_of old m p is 1 (option_at 1) arenas_is (codes "16") refl;
      sets = number_of old m p is 2 (option_at 2) sets_is (codes "64") refl;
      executors = number_of old m p is 3 (option_at 3) executors_is (codes "2") refl;
      io = number_of old m p is 4 (option_at 4) io_is (codes "2") refl;
      room = number_of old m p is 5 (option_at 5) room_is (codes "16") refl;
      half_life = number_of old m p is 6 (option_at 6) half_life_is (codes "1000") refl;
      generated = may_be_given old m p is 7 (option_at 7) generated_is;
      rows = number_of old m p is 8 (option_at 8) rows_is (codes "1000") refl;
    }

pub took : (old : Command) (m : ArgMatches) (words : List Text) → app_of old ≡ command → IsParsedFrom old m → HasMatchesOf (app_of old) words m
    → (is_simple_and_free (app_of old) ≡ true → fault_of (app_of old) words ≡ []) → Took words m
took old m words app p matches kinds = record {
  taken = subst (λ (a : App). fault_of a words ≡ []) app (kinds (ap is_simple_and_free app ∙ free));
  rows = (matches (ap is_simple app ∙ simple)).0 ∙ ap (λ (a : App). matches_of a words) app;
  numbers = numbers old m app p;
}

pub faulty : (old : Command) (e : Error) (words : List Text) (fault : WordsFault) → app_of old ≡ command
    → (is_simple_and_free (app_of old) ≡ true → HasKind (fault_of (app_of old) words) e)
    → (takes (app_of old) words ≡ true → kind_of e ≡ OutOfMemory)
    → (kind_of e ≡ OutOfMemory → fault ≡ NoMemory)
    → ◌≡◌ {A = Result ArgMatches WordsFault} (Err fault) (Err Usage) → AreFaulty words
faulty old e words fault app kinds passes memory is =
    let kinds_here : HasKind (fault_of command words) e =
    subst (λ (a : App). HasKind (fault_of a words) e) app (kinds (ap is_simple_and_free app ∙ free)) in
    let not_memory : kind_of e ≡ OutOfMemory → ⊥ = λ out. let none = memory out in cc in
    record {
      fault = λ taken. elim kinds_here [
        | inl out ↦ not_memory out
        | inr among ↦ subst (IsAmong (kind_of e)) taken among
      ];
      not_taken = λ taken. not_memory (passes (ap (λ (a : App). takes a words) app ∙ taken));
    }

-- ---- the command, option by option

abbrev pub with_options : List NumberOption → App
with_options xs = record {
  top = record (new_shape (codes "llapd")) {
    rules = map rule xs;
    no_binary_name = true;
  };
  subs = [];
}

abbrev pub named : App → App
named a = record a { top = record a.top { no_binary_name = true } }

-- the first n options of the table, as they are added
abbrev pub first_options : ℕ → List NumberOption
first_options zero = []
first_options (suc n) = first_options n ++ option_at n ∷ []

-- one more option
pub one_more : (old new : App) (xs : List NumberOption) (o : NumberOption) → new ≡ with_rule old (rule o) → old ≡ with_options xs
    → new ≡ with_options (xs ++ o ∷ [])
one_more old new xs o added is =
    added ∙ (ap (λ (a : App). with_rule a (rule o)) is
    ∙ ap (λ (rs : List Rule). record (with_options xs) { top = record (with_options xs).top { rules = rs } }) (sym (map-append rule xs (o ∷ []))))

pub all_options : with_options (first_options 9) ≡ command
unfolding command
all_options = refl
