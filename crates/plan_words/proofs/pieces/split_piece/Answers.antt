use Rattle.std.proofs.Common.{◌∙◌, List, ℕ, ◌∷◌, ap, subst, sym, eq-eqb, ne_eqb}
use Rattle.plan_words.specs.Pieces.{pieces_of}
use Rattle.plan_words.proofs.PieceSteps.{Begun, ended, goes_on, ran_out}
use Rattle.plan_words.proofs.pieces.split_piece.Goals as goal

pub returns-then-byte-separator : goal.returns-then-byte-separator
returns-then-byte-separator c =
    ended c.args.separator c.args.bytes.now c.loop-byte.len c.in-Some.field-0-0.now c.in-Some.after.now (eq-eqb _ _ c.if-byte-separator.true)
    (subst (λ (r : List ℕ). Begun c.args.separator c.args.bytes.now c.loop-byte.len r) c.in-Some.ensures.cases.0 c.loop-byte.invariant)
    ∙ ap (λ (l : List ℕ). l ∷ pieces_of c.args.separator c.in-Some.after.now) (sym c.split_at.ensures.front)

pub loop-byte-preserved : goal.loop-byte-preserved
loop-byte-preserved c =
    goes_on c.args.separator c.args.bytes.now c.loop-byte.len c.in-Some.field-0-0.now c.in-Some.after.now (ne_eqb _ _ c.if-byte-separator.false)
    (subst (λ (r : List ℕ). Begun c.args.separator c.args.bytes.now c.loop-byte.len r) c.in-Some.ensures.cases.0 c.loop-byte.invariant)

pub returns : goal.returns
returns c = ran_out c.args.separator c.args.bytes.now c.loop-byte.len c.loop-byte.rest.now c.in_default.ensures.cases c.loop-byte.invariant
