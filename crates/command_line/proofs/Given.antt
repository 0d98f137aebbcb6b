-- A parse of the command gives each option a number, but for the one that has no default.
use Rattle.std.proofs.Common.{◌≡◌, ◌∙◌, ◌⊎◌, ◌<◌, ap, ℕ, true, false, List, [], ◌∷◌, length, map, Option, Some, None, refl, sym, subst, inl, inr, arith, codes}
use Rattle.std.specs.List.{slice_index_or}
use Rattle.std.specs.Str.{bytes_eq}
use Rattle.std.proofs.lemmas.Slice.Eq.{bytes_eq-Decides}
use Rattle.clap.specs.Built.{IsAuto, IsParsedFrom}
use Rattle.clap.specs.Facts.{args_of, groups_of}
use Rattle.clap.specs.Matches.{found_of, matched_of}
use Rattle.clap.specs.Words.{Text}
use Rattle.clap.specs.declared.builder.arg.Arg.{Arg}
use Rattle.clap.specs.declared.builder.command.Command.{Command}
use Rattle.clap.specs.declared.parser.matches.ArgMatches.{ArgMatches}
use Rattle.clap.specs.declared.parser.matches.MatchedArg.{MatchedArg}
use Rattle.clap.proofs.CallerLemmas.{default_present}
use Rattle.command_line.specs.Command.{NumberOption, rule, table}
use Rattle.command_line.specs.Matches.{IsAbsent, IsGiven}
use Rattle.command_line.proofs.ArgFacts.{IsCommand, IsOption, count, is_alone, is_option, no_groups_named, rule_at, unique_at, wants_default}
use Rattle.command_line.proofs.Entries.{absent, found_by_id, given}

-- what is asked of an option's name: no other option has it, and it is none of clap's own
pub record IsProper (k : ℕ) (o : NumberOption) : Type 0 where
  pub below : k < 9
  pub at : (e : NumberOption) → slice_index_or table k e ≡ o
  pub alone : is_alone 0 k o.name (map rule table) ≡ true
  pub named : bytes_eq o.name [] ≡ false
  pub not_help : bytes_eq o.name (codes "help") ≡ false
  pub not_version : bytes_eq o.name (codes "version") ≡ false

equal_bytes : (xs : Text) → bytes_eq xs xs ≡ true
equal_bytes xs = (bytes_eq-Decides xs xs).1 refl

differs : (a b : Text) → bytes_eq a b ≡ false → a ≡ b → ⊥
differs a b unlike e =
    let alike : bytes_eq b b ≡ true = equal_bytes b in
    let bad : bytes_eq b b ≡ false = rw e at unlike in
    cc

-- an argument of a list that has some
some_arg : (xs : List Arg) → 0 < length xs → Arg
some_arg [] lt = absurd (omega arith)
some_arg (x ∷ xs) lt = x

module _ (old : Command) (m : ArgMatches) (p : IsParsedFrom old m) (is : IsCommand old) (k : ℕ) (o : NumberOption) (proper : IsProper k o) where
  d : Arg
  d = some_arg (args_of old) (omega (arith, count old is))

  lt : k < length (args_of old)
  lt = omega (arith, count old is, proper.below)

  option_is : IsOption (slice_index_or (args_of old) k d) o
  option_is = is_option _ o (rule_at old is k d lt o ∙ ap rule (proper.at o))

  own : IsAuto (slice_index_or (args_of old) k d) → ⊥
  own (inl e) = differs o.name (codes "help") proper.not_help (sym option_is.id ∙ e)
  own (inr e) = differs o.name (codes "version") proper.not_version (sym option_is.id ∙ e)

  no_groups : groups_of p.built ≡ []
  no_groups = (p.from.same_groups (no_groups_named old is)).1 ∙ is.groups

  of_entry : (x : MatchedArg) → matched_of (found_of m) o.name ≡ Some x → IsGiven m o.name o.least o.most
  of_entry x found = given old m p k d lt o option_is (unique_at old is k o.name proper.alone) (differs o.name [] proper.named) own no_groups
      (p.parsed (p.from.globals ∙ is.globals)).values x found

  -- an option with a default has a number
  pub number_of : (text : Text) → o.default ≡ Some text → IsGiven m o.name o.least o.most
  number_of text default =
      let has = default_present old m p is.globals k d lt (wants_default _ o text option_is default) in
      let entry = found_by_id (found_of m).entries.items o.name has.0
      (has.1, (λ e. subst (λ (t : Text). bytes_eq (slice_index_or (found_of m).entries.items has.0 e).0.now t ≡ true) option_is.id (has.2 e))) in
      of_entry entry.0 entry.1

  -- and another one has a number where it has an entry
  pub may_be_given : IsAbsent m o.name ⊎ IsGiven m o.name o.least o.most
  may_be_given = go (matched_of (found_of m) o.name) refl
    where
      go : (e : Option MatchedArg) → matched_of (found_of m) o.name ≡ e → IsAbsent m o.name ⊎ IsGiven m o.name o.least o.most
      go None none = inl (absent m o.name none)
      go (Some x) some = inr (of_entry x some)
