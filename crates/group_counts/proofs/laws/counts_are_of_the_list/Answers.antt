use Rattle.std.specs.Ordering.{nat_cmp, int_cmp}
use Rattle.std.specs.Cmp.Lexicographic.{slice_cmp}
use Rattle.std.proofs.lemmas.Cmp.{nat_cmp_total, int_cmp_total, nat_list_cmp_total, on_total, then_total}
use Rattle.group_counts.specs.Order.{value_cmp, rank, number_in, bytes_in}
use Rattle.group_counts.proofs.Adding.{added_all-append}
use Rattle.group_counts.proofs.TallyLaws.{AreCounts-all}
use Rattle.group_counts.proofs.laws.counts_are_of_the_list.Goals as goal

pub returns : goal.returns
returns c = record {
  counts = λ list few. AreCounts-all value_cmp (then_total (on_total rank nat_cmp_total) (then_total (on_total number_in int_cmp_total) (on_total bytes_in nat_list_cmp_total))) list few;
  joins = λ es front back. added_all-append value_cmp es front back;
}
