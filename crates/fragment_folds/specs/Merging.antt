-- What a merge makes of its sources' answers (this project's own).
use Rattle.std.specs.Prelude.{ℕ, ◌+◌, ℤ, pos, ◌+ℤ◌, false, if◌then◌else◌, List, [], ◌∷◌, ◌++◌, Option, Some, None, Result, Ok, Err}
use Rattle.group_counts.specs.Order.{value_cmp}
use Rattle.group_counts.specs.Tally.{added_all}
use Rattle.group_counts.specs.Entries.{all_fit}
use Rattle.batch_masks.specs.Totals.{with_numbers}
use Rattle.fragment_outcome.specs.declared.answer.Answer.{Answer}
use Rattle.fragment_outcome.specs.declared.answer.Answer.TheVariants as answer
use Rattle.fragment_folds.specs.declared.joined.Joined.{Joined}
use Rattle.fragment_folds.specs.declared.joined.Joined.TheVariants as joined
use Rattle.fragment_folds.specs.declared.faults.MergeFault.{MergeFault}
use Rattle.fragment_folds.specs.declared.faults.MergeFault.TheVariants.{Overflow}
use Rattle.fragment_folds.specs.Folding.{is_i64}

-- What contracts see of a merge: how many answers it was given, and what it has of them.
pub record MergeOf : Type 0 where
  pub answers : ℕ
  pub joined : Joined

-- the number of a sum, where it has one
abbrev pub numbers_of : Option ℤ → List ℤ
numbers_of None = []
numbers_of (Some n) = n ∷ []

-- what a merge has of no answer of this form
abbrev pub nothing_like : Answer → Joined
nothing_like (answer.Rows table) = joined.Rows []
nothing_like (answer.Count n) = joined.Count (pos 0)
nothing_like (answer.Sum total) = joined.Sum (record { some = false; sum = pos 0 })
nothing_like (answer.Group groups) = joined.Group []

-- What a merge has with one answer more: rows are joined, counts are added, sums that aren't null are added, and groups are added by
-- key. An answer of another form leaves it as it is.
abbrev pub joined_with : Joined → Answer → Joined
joined_with (joined.Rows table) (answer.Rows more) = joined.Rows (table ++ more)
joined_with (joined.Count count) (answer.Count more) = joined.Count (count +ℤ more)
joined_with (joined.Sum total) (answer.Sum more) = joined.Sum (with_numbers total (numbers_of more))
joined_with (joined.Group counts) (answer.Group more) = joined.Group (added_all value_cmp counts more)
joined_with was more = was

-- the sum that a merge has, 0 where it has none
abbrev pub joined_sum : Joined → ℤ
joined_sum (joined.Rows table) = pos 0
joined_sum (joined.Count count) = count
joined_sum (joined.Sum total) = total.sum
joined_sum (joined.Group counts) = pos 0

-- a merge with one answer more
abbrev pub merged : MergeOf → Answer → MergeOf
merged m next = record { answers = m.answers + 1; joined = joined_with m.joined next }

-- a merge of one answer
abbrev pub merge_of : Answer → MergeOf
merge_of first = merged (record { answers = 0; joined = nothing_like first }) first

-- a merge of an answer and then others, in order
abbrev pub merged_all : MergeOf → List Answer → MergeOf
merged_all m [] = m
merged_all m (next ∷ others) = merged_all (merged m next) others

-- The answer of what a merge has. Overflow comes exactly where the whole total, a sum or any count, isn't in the 64 bits of `i64`.
abbrev pub answer_of : Joined → Result Answer MergeFault
answer_of (joined.Rows table) = Ok (answer.Rows table)
answer_of (joined.Count count) = if is_i64 count then Ok (answer.Count count) else Err Overflow
answer_of (joined.Sum total) =
    if total.some then (if is_i64 total.sum then Ok (answer.Sum (Some total.sum)) else Err Overflow) else Ok (answer.Sum None)
answer_of (joined.Group counts) = if all_fit counts then Ok (answer.Group counts) else Err Overflow
