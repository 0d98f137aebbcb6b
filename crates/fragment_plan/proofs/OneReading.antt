-- One reading has one answer.
use Rattle.std.proofs.Common.{◌≡◌, ℕ, List, Ok, Err}
use Rattle.plan_words.specs.declared.fault.PlanKind.{PlanKind}
use Rattle.fragment_plan.specs.declared.fragment.Fragment.{Fragment}
use Rattle.fragment_plan.specs.Plan.{Read}

pub one_plan : (read : Read) (one two : List Fragment) → read ≡ Ok one → read ≡ Ok two → one ≡ two
one_plan read one two e f = cc

pub one_fault : (read : Read) (one two : ℕ × PlanKind) → read ≡ Err one → read ≡ Err two → one ≡ two
one_fault read one two e f = cc

pub never_both : (read : Read) (plan : List Fragment) (fault : ℕ × PlanKind) → read ≡ Ok plan → read ≡ Err fault → ⊥
never_both read plan fault e f = cc
