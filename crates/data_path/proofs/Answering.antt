-- How the answer of a call follows from what its steps left.
use Rattle.std.proofs.Common.{◌≡◌, inl, inr, true, false, Bool, ℕ, List, Option, Some, None, Ok, refl, sym, ◌∙◌, ap, subst, if◌then◌else◌, ◌≤◌, IfSome, arith}
use Rattle.std.specs.List.{list_any}
use Rattle.std.proofs.lemmas.Option.{same_Some}
use Rattle.outside.specs.declared.file_ref.FileRange.{FileRange}
use Rattle.outside.specs.Cause.{Rose}
use Rattle.outside.specs.Files.{Files}
use Rattle.outside.specs.Told.{Extended}
use Rattle.ledgers.specs.declared.cache_totals.CacheTotals.{CacheTotals}
use Rattle.fragment_plan.specs.declared.fragment.Fragment.{Fragment}
use Rattle.fragment_plan.specs.Plan.{plan_of}
use Rattle.fragment_outcome.specs.declared.outcome.Outcome.{Outcome}
use Rattle.fragment_meaning.specs.PlanOutcomes.{PlanMeans}
use Rattle.plan_run.specs.Laws.{QuietRunsMeanThePlan}
use Rattle.generated_plan.specs.Text.{file_name, generated_plan}
use Rattle.generated_plan.specs.Fragments.{plan_over}
use Rattle.generated_plan.specs.Laws.{GeneratedPlansAreRead}
use Rattle.command_line.specs.Laws.{WordsMeanOneThing}
use Rattle.command_line.specs.Options.{AreOptionsOf}
use Rattle.command_line.specs.declared.settings.Options.{Options}
use Rattle.data_path.specs.declared.status.Status.{Status}
use Rattle.data_path.specs.declared.status.Status.TheVariants.{Done, SomeFailed, Usage, BadPlan, WriteFault, PlanFault, NoMemory}
use Rattle.data_path.specs.Headline.{Answers, Call, Completes, CompletesAlone, CompletesGenerated, IsComplete, IsUnread, Prints, PrintsIn, Writes}
use Rattle.data_path.specs.Headline.Prints.{bad_plan, ran}
use Rattle.data_path.specs.Headline.Writes.{usage, planned, generated as made}
use Rattle.data_path.specs.RunText.{run_text}
use Rattle.data_path.specs.Statuses.{is_failure, status_of}
use Rattle.data_path.specs.Steps.{ChosenPlan, NotRead, Written}
use Rattle.data_path.specs.Steps.ChosenPlan.{stored, generated}
use Rattle.data_path.specs.Steps.Written.{whole, failed}
use Rattle.data_path.specs.Usage.{AreGenerated, AreGood}

-- ---- a text that was written

-- a status that a text goes with
abbrev pub IsOfText : Status → Type 0
IsOfText Done = Unit {0}
IsOfText SomeFailed = Unit {0}
IsOfText Usage = Unit {0}
IsOfText BadPlan = Unit {0}
IsOfText WriteFault = ⊥
IsOfText PlanFault = ⊥
IsOfText NoMemory = ⊥

whole_answers : (V : Status → List ℕ → Type 0) (S P : Type 0) (before after : Option (List ℕ)) (text : List ℕ) (status : Status) → IsOfText status
    → V status text → Extended before after text → Answers V S P before after status
whole_answers V S P before after text Done is v e = (text, v, e)
whole_answers V S P before after text SomeFailed is v e = (text, v, e)
whole_answers V S P before after text Usage is v e = (text, v, e)
whole_answers V S P before after text BadPlan is v e = (text, v, e)
whole_answers V S P before after text WriteFault is v e = absurd is
whole_answers V S P before after text PlanFault is v e = absurd is
whole_answers V S P before after text NoMemory is v e = absurd is

pub written_answers : (V : Status → List ℕ → Type 0) (P : Type 0) (before after : Option (List ℕ)) (f g : ℕ) (text : List ℕ) (status result : Status) → IsOfText status
    → V status text → Written before after f g text status result → Answers V (Rose f g) P before after result
written_answers V P before after f g text status result is v (whole e) = whole_answers V (Rose f g) P before after text status is v e
written_answers V P before after f g text status result is v (failed n within e rose) = (rose, (status, text, v, (n, within, e)))

by_any : (t : Bool) → IsOfText (if t then SomeFailed else Done)
by_any true = tt
by_any false = tt

pub status_is_of_text : (outcomes : List Outcome) → IsOfText (status_of outcomes)
status_is_of_text outcomes = by_any (list_any is_failure outcomes)

-- what is written of one thing is written of another
pub answers_more : (V W : Status → List ℕ → Type 0) (S P Q : Type 0) (before after : Option (List ℕ)) (result : Status)
    → ((status : Status) (text : List ℕ) → V status text → W status text) → (P → Q)
    → Answers V S P before after result → Answers W S Q before after result
answers_more V W S P Q before after Done more other a = (a.0, more Done a.0 a.1, a.2)
answers_more V W S P Q before after SomeFailed more other a = (a.0, more SomeFailed a.0 a.1, a.2)
answers_more V W S P Q before after Usage more other a = (a.0, more Usage a.0 a.1, a.2)
answers_more V W S P Q before after BadPlan more other a = (a.0, more BadPlan a.0 a.1, a.2)
answers_more V W S P Q before after WriteFault more other a = (a.0, (a.1.0, a.1.1, more a.1.0 a.1.1 a.1.2, a.1.3))
answers_more V W S P Q before after PlanFault more other a = (other a.0, a.1)
answers_more V W S P Q before after NoMemory more other a = a

-- ---- completeness

-- all results of a plan were to be written
abbrev pub AreWhole : Files → List Fragment → Status → List ℕ → Type 0
AreWhole files plan status text = (outcomes : List Outcome) × PlanMeans files plan outcomes × (status ≡ status_of outcomes)
    × ((totals : CacheTotals) × (text ≡ run_text plan outcomes totals))

whole_complete : (files : Files) (plan : List Fragment) (before after : Option (List ℕ)) (status : Status) (text : List ℕ) → AreWhole files plan status text
    → Extended before after text → IsComplete files plan before after status
whole_complete files plan before after status text w e = inr (w.0, w.1, w.2, (w.3.0, subst (λ (t : List ℕ). Extended before after t) w.3.1 e))

answers_complete : (V : Status → List ℕ → Type 0) (S P : Type 0) (files : Files) (plan : List Fragment) (before after : Option (List ℕ)) (result : Status)
    → ((status : Status) (text : List ℕ) → V status text → AreWhole files plan status text) → ¬ S → ¬ P
    → Answers V S P before after result → IsComplete files plan before after result
answers_complete V S P files plan before after Done all s p a = whole_complete files plan before after Done a.0 (all Done a.0 a.1) a.2
answers_complete V S P files plan before after SomeFailed all s p a = whole_complete files plan before after SomeFailed a.0 (all SomeFailed a.0 a.1) a.2
answers_complete V S P files plan before after Usage all s p a = whole_complete files plan before after Usage a.0 (all Usage a.0 a.1) a.2
answers_complete V S P files plan before after BadPlan all s p a = whole_complete files plan before after BadPlan a.0 (all BadPlan a.0 a.1) a.2
answers_complete V S P files plan before after WriteFault all s p a = absurd (s a.0)
answers_complete V S P files plan before after PlanFault all s p a = absurd (p a.0)
answers_complete V S P files plan before after NoMemory all s p a = inl (refl, a)

module _ (quiet : QuietRunsMeanThePlan) where
  prints_whole : (told : Option Files) (T : List Fragment → List Outcome → CacheTotals → Type 0) (f g : ℕ) (r r' : Option (List FileRange)) (U : Type 0) (bytes : List ℕ) (files : Files) (plan : List Fragment) → told ≡ Some files → plan_of bytes ≡ Ok plan → ¬ Rose f g
      → (status : Status) (text : List ℕ) → Prints told T f g r r' U bytes status text → AreWhole files plan status text
  prints_whole told T f g r r' U bytes files plan e is quiet_store status text (bad_plan fault untouched) = absurd cc
  prints_whole told T f g r r' U bytes files plan e is quiet_store status text (ran {plan = other} {outcomes} {totals} read run counted through) =
      let same : other ≡ plan = cc in
      let means = quiet told f g other outcomes files run e quiet_store in
      (outcomes, subst (λ (p : List Fragment). PlanMeans files p outcomes) same means, refl, (totals, ap (λ (p : List Fragment). run_text p outcomes totals) same))

  pub completes_alone : (told : Option Files) (T : List Fragment → List Outcome → CacheTotals → Type 0) (f g : ℕ) (r r' : Option (List FileRange)) (U : Type 0) (S : Type 0) (bytes : List ℕ) (before after : Option (List ℕ)) (result : Status)
      → Answers (Prints told T f g r r' U bytes) S ⊥ before after result → CompletesAlone told (Rose f g) S bytes before after result
  completes_alone told T f g r r' U S bytes before after result a files plan e is quiet_store none =
      answers_complete (Prints told T f g r r' U bytes) S ⊥ files plan before after result (prints_whole told T f g r r' U bytes files plan e is quiet_store) none (λ x. x) a

  -- words that ask for a generated file don't ask for a plan that is read
  one_or_other : (one : WordsMeanOneThing) (words : List (List ℕ)) (options others : Options) (number : ℕ) → AreGood words options
      → AreGenerated words others number → ⊥
  one_or_other one words options others number good asked =
      let same : others ≡ options = (one words options good.options_are).0 others asked.options_are in
      let none : others.generated ≡ None = subst (λ (o : Options). o.generated ≡ None) (sym same) good.stored in
      let some = asked.generated in
      cc

  writes_whole : (one : WordsMeanOneThing) (call : Call) (T : Options → List Fragment → List Outcome → CacheTotals → Type 0) (U V : Type 0) (files : Files) (options : Options) (all : List ℕ) (plan : List Fragment) → AreGood call.words options
      → call.left ≡ Some all → plan_of all ≡ Ok plan → call.told ≡ Some files → ¬ Rose call.store_faults call.store_faults'
      → (status : Status) (text : List ℕ) → Writes call T U V status text → AreWhole files plan status text
  writes_whole one call T U V files options all plan good left is told quiet_store status text (usage bad u v) =
      absurd ((one call.words options good.options_are).1 bad)
  writes_whole one call T U V files options all plan good left is told quiet_store status text (planned {options = given} {bytes} others took prints) =
      prints_whole call.told (T given) call.store_faults call.store_faults' call.store_reads call.store_reads' V bytes files plan told (sym (took.same all left) ∙ is) quiet_store status text prints
  writes_whole one call T U V files options all plan good left is told quiet_store status text (made {options = others} {number} asked u prints) =
      absurd (one_or_other one call.words options others number good asked)

  pub completes : (one : WordsMeanOneThing) (call : Call) (T : Options → List Fragment → List Outcome → CacheTotals → Type 0) (U V : Type 0) (S : Type 0) (before after : Option (List ℕ)) (result : Status)
      → Answers (Writes call T U V) S (IsUnread call V) before after result → Completes call S before after result
  completes one call T U V S before after result a files options all plan good left is told quiet_plan quiet_store none =
      answers_complete (Writes call T U V) S (IsUnread call V) files plan before after result (writes_whole one call T U V files options all plan good left is told quiet_store)
      none (λ unread. quiet_plan unread.rose) a

  -- ---- of a generated file

  generated_is : GeneratedPlansAreRead → (words : List (List ℕ)) (options : Options) (number : ℕ) → AreGenerated words options number
      → plan_of (generated_plan number options.rows) ≡ Ok (plan_over (file_name number options.rows) number)
  generated_is read words options number asked =
      let in_range : IfSome (Some number) (λ (n : ℕ). n ≤ 1000000) =
      subst (λ (given : Option ℕ). IfSome given (λ (n : ℕ). n ≤ 1000000)) asked.generated asked.options_are.in_range.generated in
      let few : number ≤ 1000000 = in_range in
      read number options.rows (omega (arith, few)) (omega (arith, asked.options_are.in_range.rows))

  writes_generated : (one : WordsMeanOneThing) (read : GeneratedPlansAreRead) (call : Call) (T : Options → List Fragment → List Outcome → CacheTotals → Type 0) (U V : Type 0) (files : Files) (options : Options) (number : ℕ)
      → AreGenerated call.words options number → call.told ≡ Some files → ¬ Rose call.store_faults call.store_faults'
      → (status : Status) (text : List ℕ) → Writes call T U V status text → AreWhole files (plan_over (file_name number options.rows) number) status text
  writes_generated one read call T U V files options number asked told quiet_store status text (usage bad u v) =
      absurd ((one call.words options asked.options_are).1 bad)
  writes_generated one read call T U V files options number asked told quiet_store status text (planned {options = others} good took prints) =
      absurd (one_or_other one call.words others options number good asked)
  writes_generated one read call T U V files options number asked told quiet_store status text (made {options = others} {number = other} given u prints) =
      let same : others ≡ options = (one call.words options asked.options_are).0 others given.options_are in
      let number_is : options.generated ≡ Some other = subst (λ (o : Options). o.generated ≡ Some other) same given.generated in
      let other_is : number ≡ other = same_Some number other (sym asked.generated ∙ number_is) in
      let bytes_are : generated_plan number options.rows ≡ generated_plan other others.rows =
      ap (λ (n : ℕ). generated_plan n options.rows) other_is ∙ ap (λ (o : Options). generated_plan other o.rows) (sym same) in
      prints_whole call.told (T others) call.store_faults call.store_faults' call.store_reads call.store_reads' V (generated_plan other others.rows) files (plan_over (file_name number options.rows) number) told
      (subst (λ (bytes : List ℕ). plan_of bytes ≡ Ok (plan_over (file_name number options.rows) number)) bytes_are (generated_is read call.words options number asked))
      quiet_store status text prints

  pub completes_generated : (one : WordsMeanOneThing) (read : GeneratedPlansAreRead) (call : Call) (T : Options → List Fragment → List Outcome → CacheTotals → Type 0) (U V : Type 0) (S : Type 0) (before after : Option (List ℕ))
      (result : Status) → Answers (Writes call T U V) S (IsUnread call V) before after result → CompletesGenerated call S before after result
  completes_generated one read call T U V S before after result a files options number asked told quiet_store none =
      answers_complete (Writes call T U V) S (IsUnread call V) files (plan_over (file_name number options.rows) number) before after result
      (writes_generated one read call T U V files options number asked told quiet_store) none
      (λ unread. one_or_other one call.words unread.options options number unread.good asked) a

-- what a chosen plan's bytes print is what there is to write
pub chosen_writes : (call : Call) (T : Options → List Fragment → List Outcome → CacheTotals → Type 0) (U V : Type 0) (options : Options) (bytes : List ℕ) → AreOptionsOf call.words options
    → ChosenPlan options call.left call.left' U bytes → (status : Status) (text : List ℕ)
    → PrintsIn call (T options) V bytes status text → Writes call T U V status text
chosen_writes call T U V options bytes are (stored none took) status text prints = planned (record { options_are = are; stored = none }) took prints
chosen_writes call T U V options bytes are (generated some same) status text prints = made (record { options_are = are; generated = some }) same prints

-- a plan that wasn't read
pub not_read : (call : Call) (V : Type 0) (options : Options) → AreOptionsOf call.words options → V
    → NotRead options call.plan_faults call.plan_faults' → IsUnread call V
not_read call V options are same why = record {
  options = options;
  good = record { options_are = are; stored = why.stored };
  rose = why.rose;
  store = same;
}
