use Rattle.std.proofs.Common.{ap, ◌++◌, ◌∷◌, [], ℕ}
use Rattle.std.specs.Fmt.{decimal}
use Rattle.fragment_outcome.specs.Text.{ended}
use Rattle.fragment_outcome.proofs.OnTheWay.{Wrote-then, Wrote-as, Wrote-none}
use Rattle.fragment_outcome.proofs.Texts.{groups-one}
use Rattle.fragment_outcome.proofs.lines.put_one.Goals as goal

pub returns-in-Some : goal.returns-in-Some
returns-in-Some g c =
    rw c.in-Some.is (Wrote-as (Wrote-then c.put_value.ensures (Wrote-then c.put.ensures (Wrote-as c.put_count.ensures (ap (λ (n : ℕ). ended (decimal n)) c.from.ensures)))) (groups-one c.args.value.now c.in-Some.count))

pub returns-in-None : goal.returns-in-None
returns-in-None g c = rw c.in-None.is (Wrote-none _ _ _)
