-- Laws of runs, for every format of runs that has a reader. Source: this project's own.
use Rattle.std.proofs.Common.{◌≡◌, ℕ, zero, suc, ◌+◌, ◌<◌, ◌≤◌, List, [], ◌∷◌, ◌++◌, length, Result, Ok, Err, refl, sym, ap, subst, ◌∙◌, arith, append_assoc, inl, inr, length-append}
use Rattle.std.proofs.lemmas.List.{append-nil}
use Rattle.outside.specs.declared.run_fault.RunFault.{RunFault}
use Rattle.outside.specs.Reading.{Reader}
use Rattle.outside.specs.Runs.{Joined, none, one, Fewest, no_run, runs, Between, Spells, Breaks, IsReaderOf, BeginsNoOther, SpellsOrBreaks, IsDecided}

abbrev pair_of : {V : Type 0} → List V × List ℕ → Result (List V × List ℕ) RunFault
pair_of p = Ok p

ok_is : {V : Type 0} (x y : List V × List ℕ) → pair_of x ≡ pair_of y → x ≡ y
ok_is x y e = cc

module _ {V : Type 0} (Run : List ℕ → List V → Type 0) where
  pub Joined-more : {bytes last : List ℕ} {values others : List V} → Joined Run bytes values → Run last others
      → Joined Run (bytes ++ last) (values ++ others)
  Joined-more {last = last} {others = others} none run =
      let j : Joined Run (last ++ []) (others ++ []) = one run none in
      rw append-nil at (rw append-nil at j)
  Joined-more (one first more) run = rw append_assoc (rw append_assoc (one first (Joined-more more run)))

  pub Fewest-joined : {count : ℕ} {bytes : List ℕ} {values : List V} → Fewest Run count bytes values → Joined Run bytes values
  Fewest-joined no_run = none
  Fewest-joined (runs joined fewer run enough) = Joined-more joined run

  Fewest-more : (count more : ℕ) {bytes : List ℕ} {values : List V} → Fewest Run count bytes values → count ≤ more
      → more ≤ length values → Fewest Run more bytes values
  Fewest-more zero more no_run h k = let e : 0 ≡ more = omega arith in subst (λ (n : ℕ). Fewest Run n [] []) e no_run
  Fewest-more count more (runs joined fewer run enough) h k = runs joined (omega arith) run k

  -- nothing was given yet
  pub Between-start : (start : List ℕ) → Between Run start [] [] start
  Between-start start = record { used = []; parts = refl; fewest = no_run }

  -- of what is held, some is given
  pub Between-give : (start rest : List ℕ) (given more held : List V) → Between Run start given (more ++ held) rest
      → Between Run start (given ++ more) held rest
  Between-give start rest given more held at = record {
    used = at.used;
    parts = at.parts;
    fewest = rw append_assoc (Fewest-more (length given) (length (given ++ more)) at.fewest
        (omega (arith, length-append given more))
        (omega (arith, length-append given more, length-append given (more ++ held), length-append more held)));
  }

  -- nothing is held, and one more run is used
  pub Between-run : (start rest run after : List ℕ) (given more held : List V) → Between Run start given [] rest
      → Run run (more ++ held) → rest ≡ run ++ after → 0 < length more → Between Run start (given ++ more) held after
  Between-run start rest run after given more held at is parts some = record {
    used = at.used ++ run;
    parts = at.parts ∙ rw (parts, append_assoc) refl;
    fewest =
        let joined : Joined Run at.used given = rw append-nil at (Fewest-joined at.fewest) in
        let all : length (given ++ (more ++ held)) ≡ length given + (length more + length held) =
        omega (arith, length-append given (more ++ held), length-append more held) in
        let fewer : length given < length (given ++ more) = omega (arith, length-append given more) in
        let enough : length (given ++ more) ≤ length (given ++ (more ++ held)) = omega (arith, length-append given more) in
        rw append_assoc (runs joined fewer is enough);
  }

  -- nothing is held, and what follows is no run
  pub Between-breaks : (read : Reader (List V)) (start rest : List ℕ) (given : List V) (count : ℕ) (fault : RunFault)
      → Between Run start given [] rest → read rest ≡ Err fault → length given < count
      → Breaks Run read start count fault
  Between-breaks read start rest given count fault at broken fewer = record {
    used = at.used;
    rest = rest;
    values = given;
    parts = at.parts;
    joined = rw append-nil at (Fewest-joined at.fewest);
    fewer = fewer;
    broken = broken;
  }

  module _ (read : Reader (List V)) (reads : IsReaderOf Run read) where
    pub begins_no_other : BeginsNoOther Run
    begins_no_other front back values others first second =
        let whole : read (front ++ back) ≡ Ok (values, back) = reads.whole front back values first in
        let other : read ((front ++ back) ++ []) ≡ Ok (others, []) = reads.whole (front ++ back) [] others second in
        let same : pair_of (values, back) ≡ pair_of (others, []) = sym whole ∙ rw append-nil at other in
        ap (λ (p : List V × List ℕ). p.1) (ok_is (values, back) (others, []) same)

    -- runs that stand where others break are no more than these
    Joined-within : {a b : List ℕ} {va vb : List V} (ra rb : List ℕ) (fault : RunFault) → Joined Run a va
        → Joined Run b vb → a ++ ra ≡ b ++ rb → read rb ≡ Err fault → length va ≤ length vb
    Joined-within ra rb fault none second e broken = omega arith
    Joined-within ra rb fault (one {bytes = run} {more = more} {values = values} first others) none e broken =
        let whole : read (run ++ (more ++ ra)) ≡ Ok (values, more ++ ra) = reads.whole run (more ++ ra) values first in
        let same : run ++ (more ++ ra) ≡ rb = sym (append_assoc run more ra) ∙ e in
        let here : read rb ≡ Ok (values, more ++ ra) = rw same at whole in
        absurd (let no : pair_of (values, more ++ ra) ≡ Err fault = sym here ∙ broken in cc)
    Joined-within ra rb fault (one {bytes = run} {more = more} {values = values} {others = vs} first others)
        (one {bytes = run'} {more = more'} {values = values'} {others = vs'} first' others') e broken =
        let whole : read (run ++ (more ++ ra)) ≡ Ok (values, more ++ ra) = reads.whole run (more ++ ra) values first in
        let other : read (run' ++ (more' ++ rb)) ≡ Ok (values', more' ++ rb) = reads.whole run' (more' ++ rb) values' first' in
        let same : run ++ (more ++ ra) ≡ run' ++ (more' ++ rb) = sym (append_assoc run more ra) ∙ e ∙ append_assoc run' more' rb in
        let both : pair_of (values, more ++ ra) ≡ pair_of (values', more' ++ rb) = sym whole ∙ ap read same ∙ other in
        let pair = ok_is (values, more ++ ra) (values', more' ++ rb) both in
        let front : values ≡ values' = ap (λ (p : List V × List ℕ). p.0) pair in
        let back : more ++ ra ≡ more' ++ rb = ap (λ (p : List V × List ℕ). p.1) pair in
        let len : length values ≡ length values' = ap length front in
        let fewer : length vs ≤ length vs' = Joined-within ra rb fault others others' back broken in
        omega (arith, length-append values vs, length-append values' vs')

    -- a stream that spells so many values doesn't break before them
    pub Spells-not-breaks : (stream rest : List ℕ) (values : List V) (count : ℕ) (fault : RunFault)
        → Spells Run stream values rest → count ≤ length values → Breaks Run read stream count fault → ⊥
    Spells-not-breaks stream rest values count fault (held, at) enough breaks =
        let within : length (values ++ held) ≤ length breaks.values =
        Joined-within rest breaks.rest fault (Fewest-joined at.fewest) breaks.joined
        (sym at.parts ∙ breaks.parts) breaks.broken in
        let fewer : length breaks.values < count = breaks.fewer in
        absurd (omega (arith, length-append values held))

    by_outcome : {P : Type 0} (rest : List ℕ) (outcome : Result (List V × List ℕ) RunFault) → read rest ≡ outcome
        → ((values : List V) (after : List ℕ) → read rest ≡ Ok (values, after) → P)
        → ((fault : RunFault) → read rest ≡ Err fault → P) → P
    by_outcome rest (Ok (values, after)) e ok err = ok values after e
    by_outcome rest (Err fault) e ok err = err fault e

    first_of : (values : List V) → 0 < length values → (x : V) × (others : List V) × (values ≡ (x ∷ []) ++ others)
    first_of [] h = absurd (omega arith)
    first_of (x ∷ others) h = (x, others, refl)

    spells_on : (left : ℕ) (stream rest : List ℕ) (given held : List V) (count : ℕ)
        → Between Run stream given held rest → length given + left ≡ count → SpellsOrBreaks Run read stream count
    spells_on zero stream rest given held count at is = inl (given, rest, omega arith, (held, at))
    spells_on (suc left) stream rest given (x ∷ held) count at is =
        spells_on left stream rest (given ++ x ∷ []) held count (Between-give stream rest given (x ∷ []) held at)
        (omega (arith, length-append given (x ∷ [])))
    spells_on (suc left) stream rest given [] count at is =
        by_outcome rest (read rest) refl
        (λ values after e.
        let found = reads.only rest after values e in
        let front = first_of values (reads.some found.0 values found.1) in
        let run : Run found.0 ((front.0 ∷ []) ++ front.1) = subst (λ (v : List V). Run found.0 v) front.2 found.1 in
        let next = Between-run stream rest found.0 after given (front.0 ∷ []) front.1 at run found.2 (omega arith) in
        spells_on left stream after (given ++ front.0 ∷ []) front.1 count next (omega (arith, length-append given (front.0 ∷ []))))
        (λ fault e. inr (fault, Between-breaks read stream rest given count fault at e (omega arith)))

    -- a stream spells so many values, or it breaks before them
    pub Spells-or-breaks : (stream : List ℕ) (count : ℕ) → SpellsOrBreaks Run read stream count
    Spells-or-breaks stream count = spells_on count stream stream [] [] count (Between-start stream) (omega arith)

    pub decided : IsDecided Run read
    decided = record { either = Spells-or-breaks; not_both = Spells-not-breaks }
