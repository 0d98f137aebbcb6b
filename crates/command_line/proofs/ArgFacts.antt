-- An argument whose rule is an option's, and what a command of such arguments has.
use Rattle.std.proofs.Common.{◌≡◌, ◌∙◌, ◌<◌, ◌≤◌, ◌+◌, ◌&&◌, ◌||◌, ap, ℕ, Bool, true, false, List, [], ◌∷◌, length, map, Option, Some, None, refl, sym, subst, arith, zero, suc}
use Rattle.std.specs.Prelude.{◌==◌, is_some, not, pos}
use Rattle.std.specs.List.{slice_index_or}
use Rattle.std.specs.Str.{bytes_eq}
use Rattle.std.proofs.lemmas.Bool.{eqb-true}
use Rattle.std.proofs.lemmas.List.{get_or-map, length-map}
use Rattle.clap.specs.Texts.{items_of}
use Rattle.clap.specs.Built.{NamesNoGroup}
use Rattle.clap.specs.Facts.{WantsDefault, args_of, groups_of, least_values}
use Rattle.clap.specs.Words.{App, Rule, Text, app_of, rule_of}
use Rattle.clap.specs.Walk.{is_empty, is_simple_arg, texts}
use Rattle.clap.specs.Simple.{has_plain_fields}
use Rattle.clap.specs.declared.builder.arg.Arg.{Arg}
use Rattle.clap.specs.declared.builder.command.Command.{Command}
use Rattle.clap.specs.declared.builder.command.Command.TheViews.{out-Command}
use Rattle.clap.specs.declared.builder.action.ArgAction.TheVariants.{Set}
use Rattle.clap.specs.declared.builder.value_parser.ValueParser.TheVariants as vp
use Rattle.command_line.specs.Command.{NumberOption, command, default_texts, rule, table}

-- ---- truth values

pub both : (a b : Bool) → (a && b) ≡ true → (a ≡ true) × (b ≡ true)
both true b e = (refl, e)
both false b e = cc

not_true : (b : Bool) → not b ≡ true → b ≡ false
not_true true e = cc
not_true false e = refl

empty_list : {X : Type 0} (xs : List X) → is_empty xs ≡ true → xs ≡ []
empty_list [] e = refl
empty_list (x ∷ xs) e = absurd (omega (arith, eqb-true (length (x ∷ xs)) 0 e))

no_value : {X : Type 0} (o : Option X) → is_some o ≡ false → o ≡ None
no_value None e = refl
no_value (Some x) e = cc

-- ---- one argument

pub record IsOption (a : Arg) (o : NumberOption) : Type 0 where
  pub id : a.id.now ≡ o.name
  pub action : a.action ≡ Some Set
  pub parser : a.value_parser ≡ Some (vp.Signed (pos o.least) (pos o.most))
  pub least : 1 ≤ least_values a
  pub delimiter : a.val_delim ≡ None
  pub ifs : a.default_vals_ifs.items ≡ []
  pub groups : a.groups.items ≡ []
  pub defaults : texts (items_of a.default_vals) ≡ default_texts o.default

pub is_option : (a : Arg) (o : NumberOption) → rule_of a ≡ rule o → IsOption a o
is_option a o is =
    let simple : is_simple_arg a ≡ true = ap (λ (r : Rule). r.is_simple) is in
    let first = both (is_empty a.overrides.items) _ simple in
    let second = both (is_empty a.default_vals_ifs.items) _ first.1 in
    let third = both (is_empty a.groups.items) _ second.1 in
    let fourth = both (not (is_some a.val_delim)) _ third.1 in
    record {
      id = ap (λ (r : Rule). r.id) is;
      action = ap (λ (r : Rule). r.action) is;
      parser = ap (λ (r : Rule). r.parser) is;
      least = let range : a.num_vals ≡ None = ap (λ (r : Rule). r.range) is in rw range (omega arith);
      delimiter = no_value a.val_delim (not_true _ fourth.0);
      ifs = empty_list _ second.0;
      groups = empty_list _ third.0;
      defaults = ap (λ (r : Rule). r.defaults) is;
    }

some_default : (a : Arg) (text : Text) → texts (items_of a.default_vals) ≡ text ∷ [] → 0 < length (items_of a.default_vals)
some_default a text is = omega (arith, sym (length-map (items_of a.default_vals) (λ s. s.now)) ∙ ap length is)

pub wants_default : (a : Arg) (o : NumberOption) (text : Text) → IsOption a o → o.default ≡ Some text → WantsDefault a
wants_default a o text is given = (is.ifs, some_default a text (is.defaults ∙ ap default_texts given))

-- ---- names that differ

-- of rules from place i on, only the one at place k has this id
abbrev pub is_alone : ℕ → ℕ → Text → List Rule → Bool
is_alone i k id [] = true
is_alone i k id (r ∷ rs) = (not (bytes_eq r.id id) || i == k) && is_alone (suc i) k id rs

alone_at : (i k : ℕ) (id : Text) (rs : List Rule) (j : ℕ) (e : Rule) → is_alone i k id rs ≡ true → j < length rs
    → bytes_eq (slice_index_or rs j e).id id ≡ true → i + j ≡ k
alone_at i k id [] j e h lt b = absurd (omega arith)
alone_at i k id (r ∷ rs) zero e h lt b =
    let here : (not (bytes_eq r.id id) || i == k) ≡ true = (both _ _ h).0 in
    let place : (i == k) ≡ true = rw b at here in
    omega (arith, eqb-true i k place)
alone_at i k id (r ∷ rs) (suc j) e h lt b =
    omega (arith, alone_at (suc i) k id rs j e (both _ _ h).1 (omega arith) b)

-- ---- the command

pub record IsCommand (c : Command) : Type 0 where
  pub rules : map rule_of (args_of c) ≡ map rule table
  pub globals : (out-Command c).has_globals ≡ false
  pub groups : groups_of c ≡ []

pub is_command : (c : Command) → app_of c ≡ command → IsCommand c
unfolding command
is_command c is =
    let plain : has_plain_fields (out-Command c) ≡ true = ap (λ (a : App). a.top.is_plain) is in
    let first = both (is_empty (groups_of c)) _ plain in
    let second = both (not (out-Command c).allow_external_subcommands) _ first.1 in
    let third = both (not (out-Command c).has_globals) _ second.1 in
    record {
      rules = ap (λ (a : App). a.top.rules) is;
      globals = not_true _ third.0;
      groups = empty_list _ first.0;
    }

-- a place of no list
nowhere : NumberOption
nowhere = record { name = []; least = 0; most = 0; default = None }

pub count : (c : Command) → IsCommand c → length (args_of c) ≡ 9
count c is = sym (length-map (args_of c) rule_of) ∙ (ap length is.rules ∙ length-map table rule)

pub rule_at : (c : Command) → IsCommand c → (k : ℕ) (d : Arg) → k < length (args_of c) → (o : NumberOption)
    → rule_of (slice_index_or (args_of c) k d) ≡ rule (slice_index_or table k o)
rule_at c is k d lt o =
    let in_table : k < length table = omega (arith, count c is) in
    sym (get_or-map rule_of (args_of c) k d (rule o) lt) ∙ (ap (λ (rs : List Rule). slice_index_or rs k (rule o)) is.rules ∙ get_or-map rule table k o (rule o) in_table)

pub no_groups_named : (c : Command) → IsCommand c → NamesNoGroup c
no_groups_named c is = λ k d lt.
    (is_option (slice_index_or (args_of c) k d) (slice_index_or table k nowhere) (rule_at c is k d lt nowhere)).groups

pub unique_at : (c : Command) → IsCommand c → (k : ℕ) (id : Text) → is_alone 0 k id (map rule table) ≡ true
    → (j : ℕ) (e : Arg) → j < length (args_of c) → bytes_eq (slice_index_or (args_of c) j e).id.now id ≡ true → j ≡ k
unique_at c is k id alone j e lt b =
    let same : (slice_index_or (args_of c) j e).id.now ≡ (slice_index_or (map rule table) j (rule_of e)).id =
    ap (λ (r : Rule). r.id) (sym (get_or-map rule_of (args_of c) j e (rule_of e) lt) ∙ ap (λ (rs : List Rule). slice_index_or rs j (rule_of e)) is.rules) in
    let in_rules : j < length (map rule table) = omega (arith, count c is) in
    omega (arith, alone_at 0 k id (map rule table) j (rule_of e) alone in_rules (subst (λ (t : Text). bytes_eq t id ≡ true) same b))
