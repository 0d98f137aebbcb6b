-- The entry of an option after a parse: it has a text that passed the option's range.
use Rattle.std.proofs.Common.{◌≡◌, ◌∙◌, ◌<◌, ap, ℕ, Bool, true, false, List, [], ◌∷◌, length, Some, None, refl, sym, subst, inl, inr, arith, zero, suc}
use Rattle.std.specs.Prelude.{find, option_map, pos}
use Rattle.std.specs.List.{All, slice_index_or}
use Rattle.std.specs.Str.{bytes_eq}
use Rattle.std.specs.Borrow.{Bor}
use Rattle.std.proofs.lemmas.Slice.Eq.{bytes_eq-Decides}
use Rattle.clap.specs.Built.{IsAuto, IsParsedFrom, SameRules}
use Rattle.clap.specs.Facts.{AllowsNone, Entry, EntryPasses, HasReading, IsCountArg, PassesArg, args_of, groups_of, parser_of, parser_of_value}
use Rattle.clap.specs.Matches.{found_of, matched_of}
use Rattle.clap.specs.Words.{Text}
use Rattle.clap.specs.Values.{Accepts, IsSignedIn, reading_of}
use Rattle.clap.specs.declared.builder.arg.Arg.{Arg}
use Rattle.clap.specs.declared.builder.command.Command.{Command}
use Rattle.clap.specs.declared.builder.action.ArgAction.TheVariants.{Count, Set}
use Rattle.clap.specs.declared.builder.value_parser.Reading.{Reading}
use Rattle.clap.specs.declared.builder.value_parser.Reading.TheVariants as reading
use Rattle.clap.specs.declared.builder.value_parser.ValueParser.{ValueParser}
use Rattle.clap.specs.declared.builder.value_parser.ValueParser.TheVariants as vp
use Rattle.clap.specs.declared.parser.matches.ArgMatches.{ArgMatches}
use Rattle.clap.specs.declared.parser.matches.MatchedArg.{MatchedArg}
use Rattle.clap.proofs.CallerLemmas.{entry_by_id, same_rules_by_id}
use Rattle.command_line.specs.Command.{NumberOption}
use Rattle.command_line.specs.Matches.{IsAbsent, IsGiven}
use Rattle.command_line.proofs.ArgFacts.{IsOption}

-- an id that has an entry is found
abbrev IsAt : List Entry → Text → ℕ → Type 0
IsAt xs id i = (i < length xs) × ((d : Entry) → bytes_eq (slice_index_or xs i d).0.now id ≡ true)

abbrev HasFound : List Entry → Text → Type 0
HasFound xs id = (x : MatchedArg) × (option_map (λ e. e.1) (find (λ e. bytes_eq e.0.now id) xs) ≡ Some x)

found_later : (x : Entry) (xs : List Entry) (id : Text) (i : ℕ) → IsAt (x ∷ xs) id i → bytes_eq x.0.now id ≡ false
    → ((j : ℕ) → IsAt xs id j → HasFound xs id) → HasFound (x ∷ xs) id
found_later x xs id zero here differs rest = let same : bytes_eq x.0.now id ≡ true = here.1 x in cc
found_later x xs id (suc i) here differs rest = let found = rest i (omega (arith, here.0), here.1) in (found.0, rw differs found.1)

found_first : (x : Entry) (xs : List Entry) (id : Text) (i : ℕ) → IsAt (x ∷ xs) id i
    → ((j : ℕ) → IsAt xs id j → HasFound xs id) → (b : Bool) → bytes_eq x.0.now id ≡ b → HasFound (x ∷ xs) id
found_first x xs id i here rest true same = (x.1, rw same refl)
found_first x xs id i here rest false differs = found_later x xs id i here differs rest

pub found_by_id : (xs : List Entry) (id : Text) (i : ℕ) → IsAt xs id i → HasFound xs id
found_by_id [] id i here = absurd (omega (arith, here.0))
found_by_id (x ∷ xs) id i here = found_first x xs id i here (λ j at. found_by_id xs id j at) (bytes_eq x.0.now id) refl

-- an id without an entry gives nothing
pub absent : (m : ArgMatches) (id : Text) → matched_of (found_of m) id ≡ None → IsAbsent m id
absent m id none = record { first = rw none refl; read = rw none refl }

-- values of which each is in the range, at least one
head_given : (m : ArgMatches) (id : Text) (low high : ℕ) (x : MatchedArg) (vs : List (Bor Text)) → x.vals.items ≡ vs → 0 < length vs
    → ((v : Bor Text) → (k : ℕ) → k < length vs → slice_index_or vs k v ≡ v → IsSignedIn (pos low) (pos high) v.now)
    → matched_of (found_of m) id ≡ Some x → x.reading ≡ reading.WithoutMinus → IsGiven m id low high
head_given m id low high x [] is lt all found how = absurd (omega arith)
head_given m id low high x (v ∷ vs) is lt all found how = record {
  text = v.now;
  first = rw (found, is) refl;
  read = rw (found, is, how) refl;
  in_range = all v 0 (omega arith) refl;
}

module _ (old : Command) (m : ArgMatches) (p : IsParsedFrom old m) (k : ℕ) (d : Arg) (lt : k < length (args_of old)) (o : NumberOption)
    (is : IsOption (slice_index_or (args_of old) k d) o)
    (unique : (j : ℕ) (e : Arg) → j < length (args_of old) → bytes_eq (slice_index_or (args_of old) j e).id.now o.name ≡ true → j ≡ k)
    (named : o.name ≡ [] → ⊥) (own : IsAuto (slice_index_or (args_of old) k d) → ⊥) (no_groups : groups_of p.built ≡ []) where
  -- the built command has one argument of this name: the option's
  same : (any : Arg) (j : ℕ) → j < length (args_of p.built) → slice_index_or (args_of p.built) j any ≡ any → bytes_eq any.id.now o.name ≡ true
      → SameRules (slice_index_or (args_of old) k d) any
  same any j high at e = same_rules_by_id old m p k d lt
      (λ i f low b. unique i f low (subst (λ (t : Text). bytes_eq (slice_index_or (args_of old) i f).id.now t ≡ true) is.id b))
      own j any high at
      (subst (λ (t : Text). bytes_eq any.id.now t ≡ true) (sym is.id) e)

  abbrev range_parser : ValueParser
  range_parser = vp.Signed (pos o.least) (pos o.most)

  parser_is : (any : Arg) → SameRules (slice_index_or (args_of old) k d) any → parser_of any ≡ range_parser
  parser_is any s = ap parser_of_value (s.parser range_parser is.parser)

  passed : (value : Text) → PassesArg p.built o.name value → IsSignedIn (pos o.least) (pos o.most) value
  passed value any =
      let s = same any.1 any.0 any.2 any.3 any.4.0 in
      subst (λ (q : ValueParser). Accepts any.1.ignore_case q value) (parser_is any.1 s) any.4.1

  read_how : (how : Reading) → HasReading p.built o.name how → how ≡ reading.WithoutMinus
  read_how how any =
      let s = same any.1 any.0 any.2 any.3 any.4.0 in
      sym any.4.1 ∙ ap reading_of (parser_is any.1 s)

  not_counted : IsCountArg p.built o.name → ⊥
  not_counted any =
      let s = same any.1 any.0 any.2 any.3 any.4.0 in
      let set : any.1.action ≡ Some Set = s.action Set is.action in
      let bad : Set ≡ Count = rw set at any.4.1 in
      cc

  not_empty : AllowsNone p.built o.name → ⊥
  not_empty any =
      let s = same any.1 any.0 any.2 any.3 any.4.0 in
      elim any.4.1 [
        | inl none ↦ absurd (omega (arith, none, s.least is.action is.least))
        | inr has ↦ let bad : false ≡ true = rw (s.val_delim, is.delimiter) at has in cc
      ]

  not_group : (e : Entry) → e.0.now ≡ o.name → EntryPasses p.built e → e.1.is_group ≡ true → ⊥
  not_group e key pass g = elim (pass.3 g) [
    | inl empty ↦ named (sym key ∙ empty)
    | inr lots ↦ let bad : 0 < 0 = rw no_groups at lots in absurd (omega arith)
  ]

  filled : (e : Entry) → e.0.now ≡ o.name → EntryPasses p.built e → 0 < length e.1.vals.items
  filled e key pass = elim pass.1 [
    | inl g ↦ absurd (not_group e key pass g.0)
    | inr (inl v) ↦ v
    | inr (inr (inl h)) ↦ absurd (not_counted (subst (IsCountArg p.built) key h.1))
    | inr (inr (inr h)) ↦ absurd (not_empty (subst (AllowsNone p.built) key h))
  ]

  all_passed : (e : Entry) → e.0.now ≡ o.name → EntryPasses p.built e
      → (v : Bor Text) → (j : ℕ) → j < length e.1.vals.items → slice_index_or e.1.vals.items j v ≡ v → IsSignedIn (pos o.least) (pos o.most) v.now
  all_passed e key pass v j low at = elim pass.0 [
    | inl g ↦ absurd (not_group e key pass g)
    | inr all ↦
        let one : PassesArg p.built e.0.now (slice_index_or e.1.vals.items j v).now = all j v low in
        passed v.now (subst (λ (t : Text). PassesArg p.built o.name t) (ap (λ (s : Bor Text). s.now) at) (subst (λ (t : Text). PassesArg p.built t (slice_index_or e.1.vals.items j v).now) key one))
  ]

  how_read : (e : Entry) → e.0.now ≡ o.name → EntryPasses p.built e → e.1.reading ≡ reading.WithoutMinus
  how_read e key pass = elim pass.4 [
    | inl g ↦ absurd (not_group e key pass g)
    | inr any ↦ read_how e.1.reading (subst (λ (t : Text). HasReading p.built t e.1.reading) key any)
  ]

  -- an entry of the option has a text in its range
  pub given : All (EntryPasses p.built) (found_of m).entries.items → (x : MatchedArg) → matched_of (found_of m) o.name ≡ Some x
      → IsGiven m o.name o.least o.most
  given values x found =
      let got = entry_by_id (EntryPasses p.built) (found_of m).entries.items o.name x values found in
      let key : got.0.0.now ≡ o.name = (bytes_eq-Decides got.0.0.now o.name).0 got.2 in
      let found_e : matched_of (found_of m) o.name ≡ Some got.0.1 = found ∙ ap Some (sym got.1) in
      head_given m o.name o.least o.most got.0.1 got.0.1.vals.items refl (filled got.0 key got.3) (all_passed got.0 key got.3) found_e (how_read got.0 key got.3)
