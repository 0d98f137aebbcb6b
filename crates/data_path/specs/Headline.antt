-- What a call of the program answers and writes. Source: this project's own.
use Rattle.std.specs.Prelude.{◌≡◌, ◌⊎◌, ◌≤◌, ℕ, List, take, length, Option, Some, Ok, Err}
use Rattle.outside.specs.declared.file_ref.FileRange.{FileRange}
use Rattle.outside.specs.Cause.{Rose}
use Rattle.outside.specs.Files.{Files}
use Rattle.outside.specs.Told.{Extended}
use Rattle.ledgers.specs.declared.cache_totals.CacheTotals.{CacheTotals}
use Rattle.plan_words.specs.declared.fault.PlanKind.{PlanKind}
use Rattle.fragment_plan.specs.declared.fragment.Fragment.{Fragment}
use Rattle.fragment_plan.specs.Plan.{plan_of}
use Rattle.fragment_outcome.specs.declared.outcome.Outcome.{Outcome}
use Rattle.fragment_meaning.specs.PlanOutcomes.{PlanMeans}
use Rattle.plan_run.specs.Run.{HasRun}
use Rattle.generated_plan.specs.Text.{file_name, generated_plan}
use Rattle.generated_plan.specs.Fragments.{plan_over}
use Rattle.command_line.specs.Pages.{usage_text}
use Rattle.command_line.specs.declared.settings.Options.{Options}
use Rattle.data_path.specs.declared.status.Status.{Status}
use Rattle.data_path.specs.declared.status.Status.TheVariants.{Done, SomeFailed, Usage, BadPlan, WriteFault, PlanFault, NoMemory}
use Rattle.data_path.specs.FaultLine.{fault_text}
use Rattle.data_path.specs.PlanBytes.{TookPlan}
use Rattle.data_path.specs.RunText.{AreTotals, run_text}
use Rattle.data_path.specs.Statuses.{status_of}
use Rattle.data_path.specs.Usage.{AreBad, AreGenerated, AreGood}

-- ---- from the plan's bytes on

-- What a run of a plan's bytes has to write, and its status where the sink takes it: the line of the plan's first fault, and then the
-- store is as it was; or the results of its fragments, in plan order, and then the line of the cache, whose counts are those of the
-- store's reads, and those of the plan's scans through a cache.
pub data Prints (told : Option Files) (Through : List Fragment → List Outcome → CacheTotals → Type 0) (faults faults' : ℕ)
    (reads reads' : Option (List FileRange)) (untouched : Type 0) (bytes : List ℕ) : Status → List ℕ → Type 0 where
  bad_plan : {line : ℕ} {kind : PlanKind} → plan_of bytes ≡ Err (line, kind) → untouched
      → Prints told Through faults faults' reads reads' untouched bytes BadPlan (fault_text line kind)
  ran : {plan : List Fragment} {outcomes : List Outcome} {totals : CacheTotals} → plan_of bytes ≡ Ok plan
      → HasRun told faults faults' plan outcomes → AreTotals reads reads' totals → Through plan outcomes totals
      → Prints told Through faults faults' reads reads' untouched bytes (status_of outcomes) (run_text plan outcomes totals)

-- ---- answers, by what there is to write

-- the whole text was written
abbrev pub Wrote : (Status → List ℕ → Type 0) → Status → Option (List ℕ) → Option (List ℕ) → Type 0
Wrote Writes status before after = (text : List ℕ) × Writes status text × Extended before after text

-- a front of a text was written
abbrev pub WroteFront : (Status → List ℕ → Type 0) → Option (List ℕ) → Option (List ℕ) → Type 0
WroteFront Writes before after =
    (status : Status) × (text : List ℕ) × Writes status text × ((n : ℕ) × (n ≤ length text) × Extended before after (take n text))

-- What an answer says, of the sink's content before and after: the text was written whole; or the sink's faults rose, and a
-- front of the text was written; or the plan wasn't read for a fault, or memory was refused, and nothing was written.
abbrev pub Answers : (Status → List ℕ → Type 0) → Type 0 → Type 0 → Option (List ℕ) → Option (List ℕ) → Status → Type 0
Answers Writes SinkRose PlanUnread before after Done = Wrote Writes Done before after
Answers Writes SinkRose PlanUnread before after SomeFailed = Wrote Writes SomeFailed before after
Answers Writes SinkRose PlanUnread before after Usage = Wrote Writes Usage before after
Answers Writes SinkRose PlanUnread before after BadPlan = Wrote Writes BadPlan before after
Answers Writes SinkRose PlanUnread before after WriteFault = SinkRose × WroteFront Writes before after
Answers Writes SinkRose PlanUnread before after PlanFault = PlanUnread × (after ≡ before)
Answers Writes SinkRose PlanUnread before after NoMemory = after ≡ before

-- ---- the whole call

-- What a call is given, and what it leaves: the files that are told, the words, what is left of the plan's source before
-- and after, the counts of faults of source and store before and after, and the store's reads before and after.
pub record Call : Type 0 where
  pub told : Option Files
  pub words : List (List ℕ)
  pub left : Option (List ℕ)
  pub left' : Option (List ℕ)
  pub plan_faults : ℕ
  pub plan_faults' : ℕ
  pub store_faults : ℕ
  pub store_faults' : ℕ
  pub store_reads : Option (List FileRange)
  pub store_reads' : Option (List FileRange)

-- a call with those words, by what source and store tell of themselves before and after
abbrev pub call_of : {P S : Type 0} → (P → Option (List ℕ)) → (P → ℕ) → (S → ℕ) → (S → Option (List FileRange)) → Option Files
    → List (List ℕ) → P → P → S → S → Call
call_of left plan_count store_count reads told words plan plan' store store' =
    record {
      told = told;
      words = words;
      left = left plan;
      left' = left plan';
      plan_faults = plan_count plan;
      plan_faults' = plan_count plan';
      store_faults = store_count store;
      store_faults' = store_count store';
      store_reads = reads store;
      store_reads' = reads store';
    }

-- what a run of these bytes in a call has to write
abbrev pub PrintsIn : Call → (List Fragment → List Outcome → CacheTotals → Type 0) → Type 0 → List ℕ → Status → List ℕ → Type 0
PrintsIn call Through store_untouched bytes =
    Prints call.told Through call.store_faults call.store_faults' call.store_reads call.store_reads' store_untouched bytes

-- What a call has to write, and its status where the sink takes it: the usage line at words that are no command line, and then source
-- and store are as they were; or what the plan's bytes print, which are read from the source, or are those of a generated file, and
-- then the source is as it was. `Through` says what counts a run of a plan with those options and outcomes has.
pub data Writes (call : Call) (Through : Options → List Fragment → List Outcome → CacheTotals → Type 0)
    (source_untouched store_untouched : Type 0) : Status → List ℕ → Type 0 where
  usage : AreBad call.words → source_untouched → store_untouched → Writes call Through source_untouched store_untouched Usage usage_text
  planned : {options : Options} {bytes : List ℕ} {status : Status} {text : List ℕ} → AreGood call.words options
      → TookPlan call.left call.left' bytes → PrintsIn call (Through options) store_untouched bytes status text
      → Writes call Through source_untouched store_untouched status text
  generated : {options : Options} {number : ℕ} {status : Status} {text : List ℕ} → AreGenerated call.words options number → source_untouched
      → PrintsIn call (Through options) store_untouched (generated_plan number options.rows) status text
      → Writes call Through source_untouched store_untouched status text

-- the words are good, the plan's source failed, and the store is as it was
pub record IsUnread (call : Call) (store_untouched : Type 0) : Type 0 where
  pub options : Options
  pub good : AreGood call.words options
  pub rose : Rose call.plan_faults call.plan_faults'
  pub store : store_untouched

-- what an answer of a call says, of the sink's content before and after: its text, and that the plan wasn't read, are those of the call
abbrev pub AnswersCall : Call → (Options → List Fragment → List Outcome → CacheTotals → Type 0) → Type 0 → Type 0 → Type 0
    → Option (List ℕ) → Option (List ℕ) → Status → Type 0
AnswersCall call Through source_untouched store_untouched SinkRose before after status =
    Answers (Writes call Through source_untouched store_untouched) SinkRose (IsUnread call store_untouched) before after status

-- ---- completeness

-- memory was refused and nothing was written, or all results were, of each fragment what it means, and behind them the cache's line
abbrev pub IsComplete : Files → List Fragment → Option (List ℕ) → Option (List ℕ) → Status → Type 0
IsComplete files plan before after status = ((status ≡ NoMemory) × (after ≡ before))
    ⊎ ((outcomes : List Outcome) × PlanMeans files plan outcomes × (status ≡ status_of outcomes)
    × ((totals : CacheTotals) × Extended before after (run_text plan outcomes totals)))

-- where files are told and neither store nor sink fails, a plan's results are written
abbrev pub CompletesAlone : Option Files → Type 0 → Type 0 → List ℕ → Option (List ℕ) → Option (List ℕ) → Status → Type 0
CompletesAlone told StoreRose SinkRose bytes before after status = (files : Files) (plan : List Fragment) → told ≡ Some files
    → plan_of bytes ≡ Ok plan → ¬ StoreRose → ¬ SinkRose → IsComplete files plan before after status

-- where the words are good, source and files are told and neither source, store nor sink fails, the results
-- of a plan are written
abbrev pub Completes : Call → Type 0 → Option (List ℕ) → Option (List ℕ) → Status → Type 0
Completes call SinkRose before after status = (files : Files) (options : Options) (all : List ℕ) (plan : List Fragment)
    → AreGood call.words options → call.left ≡ Some all → plan_of all ≡ Ok plan → call.told ≡ Some files
    → ¬ Rose call.plan_faults call.plan_faults' → ¬ Rose call.store_faults call.store_faults' → ¬ SinkRose
    → IsComplete files plan before after status

-- where the words ask for a generated file, files are told and neither store nor sink fails, the results of its plan are written
abbrev pub CompletesGenerated : Call → Type 0 → Option (List ℕ) → Option (List ℕ) → Status → Type 0
CompletesGenerated call SinkRose before after status = (files : Files) (options : Options) (number : ℕ)
    → AreGenerated call.words options number → call.told ≡ Some files → ¬ Rose call.store_faults call.store_faults' → ¬ SinkRose
    → IsComplete files (plan_over (file_name number options.rows) number) before after status
