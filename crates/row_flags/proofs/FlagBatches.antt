-- The flags of PRESENT, batch by batch.
use Rattle.std.proofs.Common.{◌≡◌, ◌≢◌, ℕ, ◌+◌, ◌<◌, Bool, true, List, [], ◌∷◌, ◌++◌, length, replicate, Option, Some, None, Ok, Err, refl, sym, ◌∙◌, ap, subst, arith, append-nil, length-append}
use Rattle.std.specs.Prelude.{Result}
use Rattle.std.proofs.lemmas.List.{replicate-append-replicate, length-replicate}
use Rattle.outside.specs.declared.run_fault.RunFault.{RunFault}
use Rattle.outside.specs.declared.run_fault.RunFault.TheVariants.{StreamEnds, LongVarint, PatchOutOfRun, PatchTooWide, Read}
use Rattle.outside.specs.Feed.{Taken}
use Rattle.outside.specs.Filling.{Fills, BreaksWith, Continues}
use Rattle.outside.specs.Runs.{Between}
use Rattle.outside.specs.RunLaws.{Between-start}
use Rattle.orc_rle.specs.BitRun.{BitRun, bit_run}
use Rattle.orc_rle.specs.Decoder.{Decoder}
use Rattle.orc_rle.specs.EmptyStream.{FillsUnlessEmpty, AnswersEmpty}
use Rattle.row_flags.specs.declared.present.PresentState.{PresentState}
use Rattle.row_flags.specs.declared.present.PresentState.TheVariants.{Unread, Empty, Flags}
use Rattle.row_flags.specs.Decoders.{PresentOf, present_in, PresentOn}
use Rattle.row_flags.specs.Optional.{AllIn}
use Rattle.row_flags.specs.Present.{PresentBreaksWith, PresentContinues, PresentFills}

-- a stream with a byte breaks as its runs do
breaks_with : (start : List ℕ) (count : ℕ) (fault : RunFault) → start ≢ [] → BreaksWith BitRun bit_run start count fault → PresentBreaksWith start count fault
breaks_with [] count fault some b = absurd (some refl)
breaks_with (byte ∷ bytes) count StreamEnds some b = b
breaks_with (byte ∷ bytes) count LongVarint some b = b
breaks_with (byte ∷ bytes) count PatchOutOfRun some b = b
breaks_with (byte ∷ bytes) count PatchTooWide some b = b
breaks_with (byte ∷ bytes) count (Read failed) some b = tt

-- at a first batch, a fault of a stream without a byte is that of the feed
first_breaks : (start : List ℕ) (count : ℕ) (fault : RunFault) → ((start ≡ []) → AnswersEmpty (Err fault)) → BreaksWith BitRun bit_run start count fault → PresentBreaksWith start count fault
first_breaks [] count StreamEnds empty b = absurd (empty refl)
first_breaks [] count LongVarint empty b = absurd (empty refl)
first_breaks [] count PatchOutOfRun empty b = absurd (empty refl)
first_breaks [] count PatchTooWide empty b = absurd (empty refl)
first_breaks [] count (Read failed) empty b = tt
first_breaks (byte ∷ bytes) count fault empty b = breaks_with (byte ∷ bytes) count fault (λ e. let no : byte ∷ bytes ≡ [] = e in cc) b

no_stream : (state : PresentState) (d : Decoder Bool) → PresentOn None state d → state ≢ Empty → ⊥
no_stream state d on other = other on

module _ {F : Type 0} (rest : F → ℕ → Option (List ℕ)) (fed : F → List Taken → F → Type 0) (count : F → ℕ) where
  -- nothing was asked
  pub nothing_asked : (stream : Option ℕ) (state : PresentState) (d : Decoder Bool) (feed : F) → fed feed [] feed → PresentFills rest fed count (present_in stream state d) (present_in stream state d) feed feed 0 (Ok [])
  nothing_asked stream state d feed led = record {
    takes = [];
    led = led;
    own = own stream;
    cause = record { later = omega arith; failed = λ f. absurd f };
    told = λ bytes e. (bytes, e, λ start given at. rw append-nil at);
  }
    where
      own : (stream : Option ℕ) → AllIn stream []
      own None = refl
      own (Some s) = tt

  -- the first flags of a stream with a byte
  pub first_flags : (stream : Option ℕ) (d e : Decoder Bool) (first last : F) (asked : ℕ) (values : List Bool) → PresentOn stream Unread d → 0 < asked
      → FillsUnlessEmpty rest fed count BitRun bit_run d.stream first last d.held e.held asked values (Ok true)
      → PresentFills rest fed count (present_in stream Unread d) (present_in stream Flags e) first last asked (Ok values)
  first_flags None d e first last asked values on some filled = absurd (let no : Unread ≡ Empty = on in cc)
  first_flags (Some s) d e first last asked values on some filled =
      let same : d.stream ≡ s = on in
      let f : Fills rest fed count BitRun bit_run s first last d.held e.held asked (Ok values) = subst (λ (n : ℕ). Fills rest fed count BitRun bit_run n first last d.held e.held asked (Ok values)) same filled.fills in
      record {
        takes = f.takes;
        led = f.led;
        own = f.own;
        cause = f.cause;
        told = λ bytes told.
            let after = f.told bytes told in (
              after.0,
              after.1,
              λ start given at.
                  let none : given ≡ [] = at.0 in
                  let held : d.held ≡ [] = at.1 in
                  let start_is : bytes ≡ start = at.2 in
                  let whole : Between BitRun start [] [] start = Between-start BitRun start in
                  let before : Between BitRun start given d.held bytes = rw (none, held, start_is) whole in
                  ((λ empty. let no : AnswersEmpty (Ok true) = filled.empty bytes (rw same told) (held, some, start_is ∙ empty) in absurd no), after.2 start given before),
            );
      }

  -- the first flags break
  pub first_fault : (stream : Option ℕ) (d e : Decoder Bool) (first last : F) (asked : ℕ) (values : List Bool) (fault : RunFault) → PresentOn stream Unread d → 0 < asked
      → FillsUnlessEmpty rest fed count BitRun bit_run d.stream first last d.held e.held asked values (Err fault)
      → PresentFills rest fed count (present_in stream Unread d) (present_in stream Unread e) first last asked (Err fault)
  first_fault None d e first last asked values fault on some filled = absurd (let no : Unread ≡ Empty = on in cc)
  first_fault (Some s) d e first last asked values fault on some filled =
      let same : d.stream ≡ s = on in
      let f : Fills rest fed count BitRun bit_run s first last d.held e.held asked (Err fault) = subst (λ (n : ℕ). Fills rest fed count BitRun bit_run n first last d.held e.held asked (Err fault)) same filled.fills in
      record {
        takes = f.takes;
        led = f.led;
        own = f.own;
        cause = f.cause;
        told = λ bytes told start given at.
            let none : given ≡ [] = at.0 in
            let held : d.held ≡ [] = at.1 in
            let start_is : bytes ≡ start = at.2 in
            let whole : Between BitRun start [] [] start = Between-start BitRun start in
            let before : Between BitRun start given d.held bytes = rw (none, held, start_is) whole in
            first_breaks start (length given + asked) fault (λ empty. filled.empty bytes (rw same told) (held, some, start_is ∙ empty)) (f.told bytes told start given before);
      }

  -- all flags are set, of a stream without a byte
  pub all_set : (stream : Option ℕ) (d : Decoder Bool) (feed : F) (asked : ℕ) → fed feed [] feed → PresentFills rest fed count (present_in stream Empty d) (present_in stream Empty d) feed feed asked (Ok (replicate asked true))
  all_set stream d feed asked led = record {
    takes = [];
    led = led;
    own = own stream;
    cause = record { later = omega arith; failed = λ f. absurd f };
    told = λ bytes e. (bytes, e, λ start given at. (at.0, at.1, joined given asked at.2));
  }
    where
      own : (stream : Option ℕ) → AllIn stream []
      own None = refl
      own (Some s) = tt

      joined : (given : List Bool) (n : ℕ) → given ≡ replicate (length given) true → given ++ replicate n true ≡ replicate (length (given ++ replicate n true)) true
      joined given n all =
          let len : length (given ++ replicate n true) ≡ length given + n = length-append given (replicate n true) ∙ ap (λ (k : ℕ). length given + k) (length-replicate n true) in
          ap (λ (xs : List Bool). xs ++ replicate n true) all ∙ replicate-append-replicate (length given) n true ∙ ap (λ (k : ℕ). replicate k true) (sym len)

  -- the next flags
  pub next_flags : (stream : Option ℕ) (d e : Decoder Bool) (first last : F) (asked : ℕ) (answer : Result (List Bool) RunFault) → PresentOn stream Flags d
      → Fills rest fed count BitRun bit_run d.stream first last d.held e.held asked answer
      → PresentFills rest fed count (present_in stream Flags d) (present_in stream Flags e) first last asked answer
  next_flags None d e first last asked answer on filled = absurd (let no : Flags ≡ Empty = on in cc)
  next_flags (Some s) d e first last asked answer on filled =
      let same : d.stream ≡ s = on in
      let f : Fills rest fed count BitRun bit_run s first last d.held e.held asked answer = subst (λ (n : ℕ). Fills rest fed count BitRun bit_run n first last d.held e.held asked answer) same filled in
      record {
        takes = f.takes;
        led = f.led;
        own = f.own;
        cause = f.cause;
        told = λ bytes told. goes_on bytes answer (f.told bytes told);
      }
    where
      goes_on : (bytes : List ℕ) (answer : Result (List Bool) RunFault) → Continues BitRun bit_run d.held e.held asked bytes (rest last s) answer → PresentContinues (present_in (Some s) Flags d) (present_in (Some s) Flags e) asked bytes (rest last s) answer
      goes_on bytes (Ok flags) after = (after.0, after.1, λ start given at. (at.0, after.2 start given at.1))
      goes_on bytes (Err fault) after = λ start given at. breaks_with start (length given + asked) fault at.0 (after start given at.1)

  -- the same, of what contracts see
  pub next_flags_seen : (stream : Option ℕ) (state : PresentState) (d e : Decoder Bool) (old : PresentOf) (first last : F) (asked : ℕ) (answer : Result (List Bool) RunFault) → present_in stream state d ≡ old → state ≡ Flags → PresentOn stream state d → (old.fault ≡ None → d.fault ≡ None)
      → (d.fault ≡ None → Fills rest fed count BitRun bit_run d.stream first last d.held e.held asked answer)
      → old.fault ≡ None → PresentFills rest fed count old (present_in stream state e) first last asked answer
  next_flags_seen stream state d e old first last asked answer is flags on whole filled fresh =
      let on_flags : PresentOn stream Flags d = subst (λ (s : PresentState). PresentOn stream s d) flags on in
      let at : PresentFills rest fed count (present_in stream Flags d) (present_in stream Flags e) first last asked answer = next_flags stream d e first last asked answer on_flags (filled (whole fresh)) in
      let by_state : PresentFills rest fed count (present_in stream state d) (present_in stream state e) first last asked answer = subst (λ (s : PresentState). PresentFills rest fed count (present_in stream s d) (present_in stream s e) first last asked answer) (sym flags) at in
      subst (λ (o : PresentOf). PresentFills rest fed count o (present_in stream state e) first last asked answer) is by_state

  pub first_flags_seen : (stream : Option ℕ) (state : PresentState) (d e : Decoder Bool) (old : PresentOf) (first last : F) (asked : ℕ) (values : List Bool) → present_in stream state d ≡ old → old.state ≡ Unread → PresentOn stream state d → 0 < asked
      → (d.fault ≡ None → FillsUnlessEmpty rest fed count BitRun bit_run d.stream first last d.held e.held asked values (Ok true))
      → old.fault ≡ None → PresentFills rest fed count old (present_in stream Flags e) first last asked (Ok values)
  first_flags_seen stream state d e old first last asked values is unread on some filled fresh =
      let state_is : state ≡ Unread = ap (λ (o : PresentOf). o.state) is ∙ unread in
      let whole : d.fault ≡ None = ap (λ (o : PresentOf). o.fault) is ∙ fresh in
      let on_unread : PresentOn stream Unread d = subst (λ (s : PresentState). PresentOn stream s d) state_is on in
      let at : PresentFills rest fed count (present_in stream Unread d) (present_in stream Flags e) first last asked (Ok values) = first_flags stream d e first last asked values on_unread some (filled whole) in
      let by_state : PresentFills rest fed count (present_in stream state d) (present_in stream Flags e) first last asked (Ok values) = subst (λ (s : PresentState). PresentFills rest fed count (present_in stream s d) (present_in stream Flags e) first last asked (Ok values)) (sym state_is) at in
      subst (λ (o : PresentOf). PresentFills rest fed count o (present_in stream Flags e) first last asked (Ok values)) is by_state

  pub first_fault_seen : (stream : Option ℕ) (state : PresentState) (d e : Decoder Bool) (old : PresentOf) (first last : F) (asked : ℕ) (values : List Bool) (fault : RunFault) → present_in stream state d ≡ old → old.state ≡ Unread → PresentOn stream state d → 0 < asked
      → (d.fault ≡ None → FillsUnlessEmpty rest fed count BitRun bit_run d.stream first last d.held e.held asked values (Err fault))
      → old.fault ≡ None → PresentFills rest fed count old (present_in stream state e) first last asked (Err fault)
  first_fault_seen stream state d e old first last asked values fault is unread on some filled fresh =
      let state_is : state ≡ Unread = ap (λ (o : PresentOf). o.state) is ∙ unread in
      let whole : d.fault ≡ None = ap (λ (o : PresentOf). o.fault) is ∙ fresh in
      let on_unread : PresentOn stream Unread d = subst (λ (s : PresentState). PresentOn stream s d) state_is on in
      let at : PresentFills rest fed count (present_in stream Unread d) (present_in stream Unread e) first last asked (Err fault) = first_fault stream d e first last asked values fault on_unread some (filled whole) in
      let by_state : PresentFills rest fed count (present_in stream state d) (present_in stream state e) first last asked (Err fault) = subst (λ (s : PresentState). PresentFills rest fed count (present_in stream s d) (present_in stream s e) first last asked (Err fault)) (sym state_is) at in
      subst (λ (o : PresentOf). PresentFills rest fed count o (present_in stream state e) first last asked (Err fault)) is by_state

  pub all_set_seen : (stream : Option ℕ) (state : PresentState) (d : Decoder Bool) (old : PresentOf) (feed : F) (asked : ℕ) (values : List Bool) → present_in stream state d ≡ old → state ≡ Empty → fed feed [] feed → values ≡ replicate asked true
      → PresentFills rest fed count old old feed feed asked (Ok values)
  all_set_seen stream state d old feed asked values is empty led all =
      let at : PresentFills rest fed count (present_in stream Empty d) (present_in stream Empty d) feed feed asked (Ok (replicate asked true)) = all_set stream d feed asked led in
      let by_state : PresentFills rest fed count (present_in stream state d) (present_in stream state d) feed feed asked (Ok (replicate asked true)) = subst (λ (s : PresentState). PresentFills rest fed count (present_in stream s d) (present_in stream s d) feed feed asked (Ok (replicate asked true))) (sym empty) at in
      let seen : PresentFills rest fed count old old feed feed asked (Ok (replicate asked true)) = subst (λ (o : PresentOf). PresentFills rest fed count o o feed feed asked (Ok (replicate asked true))) is by_state in
      subst (λ (v : List Bool). PresentFills rest fed count old old feed feed asked (Ok v)) (sym all) seen

  pub nothing_asked_seen : (stream : Option ℕ) (state : PresentState) (d : Decoder Bool) (old : PresentOf) (feed : F) (values : List Bool) → present_in stream state d ≡ old → fed feed [] feed → length values ≡ 0 → PresentFills rest fed count old old feed feed (length values) (Ok values)
  nothing_asked_seen stream state d old feed (x ∷ values) is led none = absurd (omega (arith, none))
  nothing_asked_seen stream state d old feed [] is led none = subst (λ (o : PresentOf). PresentFills rest fed count o o feed feed 0 (Ok [])) is (nothing_asked stream state d feed led)
