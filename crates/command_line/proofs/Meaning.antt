-- From what a parse found to what the words mean, and that they mean one thing.
use Rattle.std.proofs.Common.{◌≡◌, ◌∙◌, ◌⊎◌, ◌≤◌, ap, rules, ℕ, ℤ, true, false, List, Option, Some, None, refl, sym, subst, inl, inr, arith, codes}
use Rattle.std.specs.Prelude.{◌≤ℤ◌, IfSome, IsTrue, option_map, pos, unwrap_or}
use Rattle.std.specs.Int.{is_power_of_two}
use Rattle.std.specs.Str.Parse.{signed_digits_value}
use Rattle.std.proofs.lemmas.Int.{ints}
use Rattle.clap.specs.Words.{Text, first_of, found_of}
use Rattle.clap.specs.declared.parser.matches.ArgMatches.{ArgMatches}
use Rattle.clap.proofs.WalkLemmas.{first_value-rows}
use Rattle.command_line.specs.Laws.{WordsMeanOneThing}
use Rattle.command_line.specs.Matches.{AreSpelled, HasNumbers, IsAbsent, IsGiven, Took, spelled}
use Rattle.command_line.specs.Options.{AreInRange, AreOptionsOf, AreRefused, number_given}
use Rattle.command_line.specs.declared.settings.Options.{Options}

-- ---- the numbers of a parse

-- a whole number of an option, or of none
abbrev natural : ℤ → ℕ
natural (pos n) = n
natural _ = 0

same_natural : (a b : ℕ) → ◌≡◌ {A = Option ℤ} (Some (pos a)) (Some (pos b)) → a ≡ b
same_natural a b e = ap (λ (x : Option ℤ). natural (unwrap_or x (pos 0))) e

within : (m : ArgMatches) (name : Text) (least most n : ℕ) → IsGiven m name least most → spelled m name ≡ Some (pos n) → (least ≤ n) × (n ≤ most)
within m name least most n given is =
    let spelled_is : Some (signed_digits_value 10 given.text) ≡ Some (pos n) = sym (ap (option_map (signed_digits_value 10)) given.first) ∙ is in
    let number : signed_digits_value 10 given.text ≡ pos n = ap (λ (x : Option ℤ). unwrap_or x (pos n)) spelled_is in
    let low : pos least ≤ℤ pos n = subst (λ (z : ℤ). pos least ≤ℤ z) number given.in_range.2 in
    let high : pos n ≤ℤ pos most = subst (λ (z : ℤ). z ≤ℤ pos most) number given.in_range.3 in
    (omega (arith, ints, low), omega (arith, ints, high))

within_some : (m : ArgMatches) (name : Text) (most : ℕ) (o : Option ℕ) → IsAbsent m name ⊎ IsGiven m name 0 most → spelled m name ≡ option_map pos o
    → IfSome o (λ n. n ≤ most)
within_some m name most None given is = search rules
within_some m name most (Some n) (inl absent) is =
    let bad : ◌≡◌ {A = Option ℤ} None (Some (pos n)) = sym (ap (option_map (signed_digits_value 10)) absent.first) ∙ is in
    cc
within_some m name most (Some n) (inr given) is = (within m name 0 most n given is).1

-- the rows of the matches are those that the words give
given_spelled : (words : List Text) (m : ArgMatches) → Took words m → (name : Text) → number_given name words ≡ spelled m name
given_spelled words m took name =
    ap (option_map (signed_digits_value 10)) (ap (first_of name) (sym took.rows) ∙ sym (first_value-rows (found_of m) name))

in_range : (m : ArgMatches) (o : Options) → HasNumbers m → AreSpelled m o → IsTrue (is_power_of_two o.min_block) → AreInRange o
in_range m o has is power = record {
  power = power;
  min_block = within m _ 64 65536 o.min_block has.min_block is.min_block;
  arenas = within m _ 1 64 o.arenas has.arenas is.arenas;
  sets = within m _ 1 4096 o.sets has.sets is.sets;
  executors = (within m _ 0 16 o.executors has.executors is.executors).1;
  io = (within m _ 0 8 o.io has.io is.io).1;
  room = within m _ 1 1000 o.room has.room is.room;
  half_life = (within m _ 0 1000000 o.half_life has.half_life is.half_life).1;
  generated = within_some m _ 1000000 o.generated has.generated is.generated;
  rows = (within m _ 0 10000000 o.rows has.rows is.rows).1;
}

pub are_options : (words : List Text) (m : ArgMatches) (o : Options) → Took words m → AreSpelled m o → IsTrue (is_power_of_two o.min_block)
    → AreOptionsOf words o
are_options words m o took is power = record {
  taken = took.taken;
  min_block = given_spelled words m took (codes "min-block") ∙ is.min_block;
  arenas = given_spelled words m took (codes "arenas") ∙ is.arenas;
  sets = given_spelled words m took (codes "sets") ∙ is.sets;
  executors = given_spelled words m took (codes "executors") ∙ is.executors;
  io = given_spelled words m took (codes "io") ∙ is.io;
  room = given_spelled words m took (codes "room") ∙ is.room;
  half_life = given_spelled words m took (codes "half-life") ∙ is.half_life;
  generated = given_spelled words m took (codes "gen") ∙ is.generated;
  rows = given_spelled words m took (codes "rows") ∙ is.rows;
  in_range = in_range m o took.numbers is power;
}

pub odd_block : (words : List Text) (m : ArgMatches) (o : Options) → Took words m → AreSpelled m o → is_power_of_two o.min_block ≡ false → AreRefused words
odd_block words m o took is odd = inr (o.min_block, given_spelled words m took (codes "min-block") ∙ is.min_block, odd)

-- ---- words mean one thing

same_number : (x : Option ℤ) (a b : ℕ) → x ≡ Some (pos a) → x ≡ Some (pos b) → b ≡ a
same_number x a b is is' = same_natural b a (sym is' ∙ is)

same_option : (x : Option ℤ) (a b : Option ℕ) → x ≡ option_map pos a → x ≡ option_map pos b → b ≡ a
same_option x a b is is' = go a b (sym is' ∙ is)
  where
    go : (a b : Option ℕ) → option_map pos b ≡ option_map pos a → b ≡ a
    go None None e = refl
    go None (Some y) e = cc
    go (Some y) None e = cc
    go (Some y) (Some z) e = ap Some (same_natural z y e)

same_options : (words : List Text) (o p : Options) → AreOptionsOf words o → AreOptionsOf words p → p ≡ o
same_options words o p is is' =
    let min_block = same_number _ o.min_block p.min_block is.min_block is'.min_block in
    let arenas = same_number _ o.arenas p.arenas is.arenas is'.arenas in
    let sets = same_number _ o.sets p.sets is.sets is'.sets in
    let executors = same_number _ o.executors p.executors is.executors is'.executors in
    let io = same_number _ o.io p.io is.io is'.io in
    let room = same_number _ o.room p.room is.room is'.room in
    let half_life = same_number _ o.half_life p.half_life is.half_life is'.half_life in
    let generated = same_option _ o.generated p.generated is.generated is'.generated in
    let rows = same_number _ o.rows p.rows is.rows is'.rows in
    λ i. record {
      min_block = min_block i;
      arenas = arenas i;
      sets = sets i;
      executors = executors i;
      io = io i;
      room = room i;
      half_life = half_life i;
      generated = generated i;
      rows = rows i;
    }

not_both : (words : List Text) (o : Options) → AreOptionsOf words o → AreRefused words → ⊥
not_both words o is (inl refused) = refused.fault is.taken
not_both words o is (inr odd) =
    let same : odd.0 ≡ o.min_block = same_number _ o.min_block odd.0 is.min_block odd.1 in
    let power : is_power_of_two o.min_block ≡ true = is.in_range.power in
    let uneven : is_power_of_two o.min_block ≡ false = ap is_power_of_two (sym same) ∙ odd.2 in
    cc

pub one_thing : WordsMeanOneThing
one_thing words o is = ((λ p is'. same_options words o p is is'), not_both words o is)
