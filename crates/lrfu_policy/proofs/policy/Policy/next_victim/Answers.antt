use Rattle.std.proofs.Common.{List, length, Option, ap, subst, arith}
use Rattle.lrfu_policy.specs.declared.entry.Entry.{Entry}
use Rattle.lrfu_policy.specs.Victim.{IsLeast, Among}
use Rattle.lrfu_policy.specs.Tournament.{Under}
use Rattle.lrfu_policy.proofs.TreeLemmas.{same_headers, under_root}
use Rattle.lrfu_policy.proofs.policy.Policy.next_victim.Goals as goal

pub returns-else-is_empty : goal.returns-else-is_empty
returns-else-is_empty c =
    let e = c.self.inside.entries.items in
    let found = same_headers (Under (length e) 1) (Among 0 (length e)) e c.args.after c.least_above.result (λ h u. (omega arith, omega (arith, u.0))) (λ h u. under_root (length e) h (omega (arith, u.1)))
    (subst (λ (xs : List (Option Entry)). IsLeast (Under (length xs) 1) xs c.args.after c.least_above.result) c.deref.ensures.value c.least_above.ensures) in
    subst (λ (xs : List (Option Entry)). IsLeast (Among 0 (length xs)) xs c.args.after c.least_above.result) (ap (λ p. p.entries) c.self.view_is) found
