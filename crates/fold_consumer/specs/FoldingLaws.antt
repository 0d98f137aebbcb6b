-- A fold that took pieces, and then others, took them all. Source: this project's own.
use Rattle.std.specs.Prelude.{◌≡◌, Bool, true, false, ◌⊎◌, List, [], ◌∷◌, ◌++◌, refl}
use Rattle.std.proofs.Common.{inl, inr, ◌∙◌, sym, ap, subst}
use Rattle.orc_streams.specs.declared.layout.ReadColumn.{ReadColumn}
use Rattle.orc_batches.specs.Batch.{Piece}
use Rattle.fragment_folds.specs.Folding.{FoldOf}
use Rattle.fold_consumer.specs.Folding.{Ate, FoldingOf}
use Rattle.fold_consumer.specs.Pieces.{with_piece, with_pieces, Passes}

pub Ate-nothing : (f : FoldingOf) → Ate f [] f
Ate-nothing f = record { named = refl; folds = λ goes. (goes, refl); over = λ over. inl over }

with_pieces-append : (named : List ReadColumn) (f : FoldOf) (front back : List Piece)
    → with_pieces named f (front ++ back) ≡ with_pieces named (with_pieces named f front) back
with_pieces-append named f [] back = refl
with_pieces-append named f (piece ∷ front) back = with_pieces-append named (with_piece named f piece) front back

passes-front : (named : List ReadColumn) (f : FoldOf) (front back : List Piece)
    → Passes named f front → Passes named f (front ++ back)
passes-front named f [] back p = absurd p
passes-front named f (piece ∷ front) back (inl here) = inl here
passes-front named f (piece ∷ front) back (inr later) = inr (passes-front named (with_piece named f piece) front back later)

passes-back : (named : List ReadColumn) (f : FoldOf) (front back : List Piece)
    → Passes named (with_pieces named f front) back → Passes named f (front ++ back)
passes-back named f [] back p = p
passes-back named f (piece ∷ front) back p = inr (passes-back named (with_piece named f piece) front back p)

-- it took no more at first, or one of these pieces was too many
abbrev OverBy : FoldingOf → List Piece → Type 0
OverBy first pieces = (first.over ≡ true) ⊎ Passes first.named first.fold pieces

over-first : (first : FoldingOf) (front back : List Piece) → OverBy first front → OverBy first (front ++ back)
over-first first front back (inl over) = inl over
over-first first front back (inr passes) = inr (passes-front first.named first.fold front back passes)

over-between : (first between : FoldingOf) (front back : List Piece) (b : Bool) → between.over ≡ b → Ate first front between
    → Passes between.named between.fold back → OverBy first (front ++ back)
over-between first between front back true is p passes = over-first first front back (p.over is)
over-between first between front back false is p passes =
    inr (passes-back first.named first.fold front back
    (subst (λ (f : FoldOf). Passes first.named f back) (p.folds is).1
    (subst (λ (named : List ReadColumn). Passes named between.fold back) p.named passes)))

over-on : (first between : FoldingOf) (front back : List Piece) → Ate first front between → OverBy between back
    → OverBy first (front ++ back)
over-on first between front back p (inl over) = over-first first front back (p.over over)
over-on first between front back p (inr passes) = over-between first between front back between.over refl p passes

pub Ate-on : (first between last : FoldingOf) (front back : List Piece) → Ate first front between → Ate between back last
    → Ate first (front ++ back) last
Ate-on first between last front back p q = record {
  named = q.named ∙ p.named;
  folds = λ goes.
      let later = q.folds goes in
      let sooner = p.folds later.0 in (
        sooner.0,
        later.1 ∙ ap (λ (named : List ReadColumn). with_pieces named between.fold back) p.named
            ∙ ap (λ (f : FoldOf). with_pieces first.named f back) sooner.1
            ∙ sym (with_pieces-append first.named first.fold front back),
      );
  over = λ over. over-on first between front back p (q.over over);
}
