-- What the steps of a call leave, on the way to its answer. Source: this project's own.
use Rattle.std.specs.Prelude.{◌≡◌, ◌≤◌, ℕ, List, take, length, Option, Some, None}
use Rattle.outside.specs.Cause.{Rose}
use Rattle.outside.specs.Told.{Extended}
use Rattle.command_line.specs.declared.settings.Options.{Options}
use Rattle.generated_plan.specs.Text.{generated_plan}
use Rattle.data_path.specs.PlanBytes.{TookPlan}
use Rattle.data_path.specs.declared.status.Status.{Status}
use Rattle.data_path.specs.declared.status.Status.TheVariants.{WriteFault}

-- A text was written to a sink, and the answer is its status; or the sink failed, and a front of it was written.
pub data Written (before after : Option (List ℕ)) (faults faults' : ℕ) (text : List ℕ) (status : Status) : Status → Type 0 where
  whole : Extended before after text → Written before after faults faults' text status status
  failed : (n : ℕ) → n ≤ length text → Extended before after (take n text) → Rose faults faults'
      → Written before after faults faults' text status WriteFault

-- A plan's bytes: what was read of its source, or the plan of a generated file, and then the source is as it was.
pub data ChosenPlan (options : Options) (left left' : Option (List ℕ)) (source_untouched : Type 0) : List ℕ → Type 0 where
  stored : {bytes : List ℕ} → options.generated ≡ None → TookPlan left left' bytes → ChosenPlan options left left' source_untouched bytes
  generated : {number : ℕ} → options.generated ≡ Some number → source_untouched
      → ChosenPlan options left left' source_untouched (generated_plan number options.rows)

-- no plan was read, since words that ask for none made its source fail
pub record NotRead (options : Options) (faults faults' : ℕ) : Type 0 where
  pub stored : options.generated ≡ None
  pub rose : Rose faults faults'
