use Rattle.std.proofs.Common.{◌≡◌, ℕ, List, [], ◌∷◌, length, sym, ap, ◌∙◌, subst, arith}
use Rattle.pool_rule.specs.declared.view.View.{View}
use Rattle.pool_rule.specs.declared.geometry.Setup.{Setup}
use Rattle.pool_rule.specs.Layout.{AreSeats, IsGeometry, word_count}
use Rattle.pool_rule.specs.Rule.{IsKept, first_words, first_view}
use Rattle.pool_rule.specs.Words.{IsLive}
use Rattle.pool_rule.proofs.Opening.{opens, length-first}
use Rattle.pool_rule.proofs.TableSeats.{first_live}
use Rattle.pool_rule.proofs.words.Words.open.Goals as goal

pub of_words-requires : goal.of_words-requires
of_words-requires g c =
    let setup = c.args.setup in
    let same : c.as_slice.result.now ≡ first_words setup.geometry = c.as_slice.ensures.value ∙ c.in_ok-words.ensures in
    let P : List ℕ → Type 0 = λ w. IsKept g.W.World.files setup {S = Unit {0}} (record { words = w; homes = []; views = first_view setup ∷ [] }) in
    subst P (sym same) (opens g.W.World.files setup (omega (arith, c.requires.seats)))

pub invariant_of-words : goal.invariant_of-words
invariant_of-words g c =
    let setup = c.args.setup in
    let told = c.in_ok-table.ensures.5 in
    let same : c.as_slice.result.now ≡ first_words setup.geometry = c.as_slice.ensures.value ∙ c.in_ok-words.ensures in
    record {
      all_words = c.in_ok-table.ensures.0 ∙ (ap length same ∙ (length-first setup.geometry ∙ ap (λ (s : Setup). word_count s.geometry) (sym told)));
      told = ap (λ s. s.geometry) told;
      sized = subst (λ (s : Setup). IsGeometry s.geometry) (sym told) c.requires.geometry;
      few = subst AreSeats (ap (λ s. s.seats) (sym told)) c.requires.seats;
    }

pub returns : goal.returns
returns g c =
    let setup = c.args.setup in
    let told = c.in_ok-table.ensures.5 in
    let P : Setup × View → Type 0 = λ z. IsLive z.0.geometry z.1 in
    let is : c.in_ok-table.seat.me.0 ≡ first_view setup = ap (λ m. m.0) c.in_ok-table.ensures.4 in (
      ap (λ s. s.geometry) told,
      record {
        table_is = c.in_ok-table.ensures.2;
        live = subst P (λ i. (sym told i, sym is i)) (first_live setup (omega (arith, c.requires.seats)));
        no_slot = ap (λ m. m.1) c.in_ok-table.ensures.4;
      },
      c.in_ok-table.ensures.3,
      is,
    )
