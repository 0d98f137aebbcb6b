use Rattle.std.proofs.Common.{◌∙◌, ap, ◌++◌, ◌∷◌, [], List, ℕ}
use Rattle.fragment_outcome.proofs.OnTheWay.{Wrote-then, Wrote-as, Wrote-none}
use Rattle.fragment_outcome.proofs.causes.put_column_words.Goals as goal

pub returns-in-Run : goal.returns-in-Run
returns-in-Run g c =
    rw c.in-Run.is (Wrote-then (Wrote-as c.put-in-Run.ensures (c.as_bytes.ensures.value ∙ c.stream_word.ensures))
    (Wrote-as c.put_two.ensures (ap (λ (l : List ℕ). 32 ∷ l) c.run_words.ensures)))

pub returns-in-Read : goal.returns-in-Read
returns-in-Read g c = rw c.in-Read.is (Wrote-none _ _ _)

pub returns-in-NoMemory : goal.returns-in-NoMemory
returns-in-NoMemory g c = rw c.in-NoMemory.is (Wrote-none _ _ _)
