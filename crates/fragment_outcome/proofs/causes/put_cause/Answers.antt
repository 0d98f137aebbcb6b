use Rattle.std.proofs.Common.{◌∙◌, ap, ◌++◌, ◌∷◌, [], List, ℕ, append_assoc, sym, codes}
use Rattle.std.specs.Fmt.{decimal}
use Rattle.fragment_outcome.specs.Words.{tail_words, column_words}
use Rattle.fragment_outcome.proofs.OnTheWay.{Wrote-then, Wrote-as, Wrote-none}
use Rattle.fragment_outcome.proofs.causes.put_cause.Goals as goal

pub returns-in-Compressed : goal.returns-in-Compressed
returns-in-Compressed g c = rw c.in-Compressed.is c.put_numbered.ensures

pub returns-in-BrokenTail : goal.returns-in-BrokenTail
returns-in-BrokenTail g c = rw c.in-BrokenTail.is (Wrote-as c.put_two.ensures (ap (λ (l : List ℕ). codes "broken tail " ++ l) c.tail_words.ensures))

pub returns-in-BrokenFooter : goal.returns-in-BrokenFooter
returns-in-BrokenFooter g c =
    rw c.in-BrokenFooter.is (Wrote-then (Wrote-as c.put_numbered-in-BrokenFooter.ensures (ap (λ (n : ℕ). codes "broken stripe " ++ decimal n) c.from.ensures))
    (Wrote-as c.put_two-in-BrokenFooter.ensures (ap (λ (l : List ℕ). codes " footer " ++ l) c.tail_words-in-BrokenFooter.ensures)))

pub returns-in-BrokenColumn : goal.returns-in-BrokenColumn
returns-in-BrokenColumn g c =
    rw c.in-BrokenColumn.is (Wrote-then (Wrote-as c.put_numbered-in-BrokenColumn.ensures (ap (λ (n : ℕ). codes "broken stripe " ++ decimal n) c.from-in-BrokenColumn.ensures))
    (Wrote-then (Wrote-as c.put_numbered-in-BrokenColumn-2.ensures (ap (λ (n : ℕ). codes " column " ++ decimal n) c.from-in-BrokenColumn-2.ensures))
    (Wrote-then c.put-in-BrokenColumn.ensures c.put_column_words.ensures)))

pub returns-in-NoColumn : goal.returns-in-NoColumn
returns-in-NoColumn g c = rw c.in-NoColumn.is (Wrote-then c.put-in-NoColumn.ensures (Wrote-as c.put-in-NoColumn-2.ensures c.as_slice.ensures))

pub returns-in-WrongKind : goal.returns-in-WrongKind
returns-in-WrongKind g c = rw c.in-WrongKind.is (Wrote-then c.put-in-WrongKind.ensures (Wrote-as c.put-in-WrongKind-2.ensures c.as_slice-in-WrongKind.ensures))
