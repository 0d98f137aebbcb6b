use Rattle.std.proofs.Common.{◌≡◌, ap, ◌∙◌}
use Rattle.pool_rule.specs.declared.view.Mark.{Mark}
use Rattle.pool_rule.specs.declared.view.View.{View}
use Rattle.pool_rule.specs.Seats.{mark_at}
use Rattle.buffer_pool.specs.Callers.{part_nothing}
use Rattle.buffer_pool.specs.Pools.{view}
use Rattle.pool_tests.proofs.sharing.goes_through.Goals as goal

pub share-shared-requires-clause-free : goal.share-shared-requires-clause-free
share-shared-requires-clause-free c =
    ap (λ (v : View). (mark_at v 32767).hold) c.split-second.ensures.part ∙ ap (λ (m : Mark). m.hold) ((part_nothing 32 (view c.args.first.now)).marks 32767)
