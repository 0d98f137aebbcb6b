use Rattle.std.proofs.Common.{◌≡◌, ◌∙◌, ◌≤◌, ℕ, ℤ, List, length, take, drop, ◌++◌, map, sum, unsigned_abs, subst, sym, ap, arith}
use Rattle.std.proofs.lemmas.List.{append-nil, drop_all, take_all}
use Rattle.orc_values.specs.Texts.{AreEnds, running_ends}
use Rattle.orc_values.specs.TextsLaws.{AreEnds-running_ends}
use Rattle.orc_values.proofs.rows.lay_ends.Goals as goal

-- when the last end is laid
laid_whole : (lengths : List ℤ) (ends all : List ℕ) (text end : ℕ) → length lengths ≤ text → length ends ≤ text
    → take text ends ++ running_ends end (map unsigned_abs (drop text lengths)) ≡ all → all ≡ ends
laid_whole lengths ends all text end h k made =
    sym made
    ∙ ap (λ (l : List ℤ). take text ends ++ running_ends end (map unsigned_abs l)) (drop_all text lengths h)
    ∙ append-nil (take text ends)
    ∙ take_all text ends k

pub returns-clause-are_ends : goal.returns-clause-are_ends
returns-clause-are_ends c =
    let l = c.loop-text in
    let lens = map unsigned_abs c.args.lengths.now in
    let made : running_ends 0 lens ≡ l.ends = laid_whole c.args.lengths.now l.ends (running_ends 0 lens) l.text l.end
    (omega (arith, c.requires.each, l.auto.ends, c.loop-text-test.false)) (omega (arith, l.auto.ends, c.loop-text-test.false)) l.invariant.made in
    subst (λ (ends : List ℕ). AreEnds 0 ends (sum lens)) made (AreEnds-running_ends 0 lens (sum lens) (omega arith))
