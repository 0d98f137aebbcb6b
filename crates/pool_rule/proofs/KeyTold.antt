-- What the key word of a header tells of a pin and of a claim.
use Rattle.std.proofs.Common.{◌≡◌, ℕ, ◌+◌, ◌<◌, ◌≤◌, List, length, get_or, refl, sym, ◌∙◌, subst}
use Rattle.std.specs.Prelude.{Option, None, Some, IfSome, IsSome}
use mathlib.Core.Option.{some}
use lib.ListN.{get_elem?}
use Rattle.pool_model.specs.declared.block.Block.{Block}
use Rattle.pool_model.specs.declared.buffer.Buffer.{Buffer}
use Rattle.pool_model.specs.declared.buffer.BufferKey.{BufferKey}
use Rattle.pool_model.specs.declared.pool.PlainPool.{PlainPool}
use Rattle.pool_model.specs.declared.step.Step.{Step}
use Rattle.pool_model.specs.Block.{bytes_in}
use Rattle.pool_model.specs.Content.{Files}
use Rattle.pool_model.specs.Laws.{EveryRunIsLawful}
use Rattle.pool_model.specs.Pool.{buffer_at}
use Rattle.pool_rule.specs.declared.geometry.Setup.{Setup}
use Rattle.pool_rule.specs.declared.view.Claim.{Claim}
use Rattle.pool_rule.specs.declared.view.Claim.TheVariants.{Unclaimed, Fresh, Gone, Carried}
use Rattle.pool_rule.specs.declared.view.Hold.{Hold}
use Rattle.pool_rule.specs.declared.view.Hold.TheVariants.{Free, Bid, Pinned}
use Rattle.pool_rule.specs.declared.view.View.{View}
use Rattle.pool_rule.specs.Headers.{ClaimFits, HoldFits, IsKnown, MarkFits}
use Rattle.pool_rule.specs.Layout.{headers_of, header_word}
use Rattle.pool_rule.specs.Rule.{StandsFor}
use Rattle.pool_rule.specs.Seats.{key_of, mark_at}
use Rattle.pool_rule.specs.WordSteps.{IsKeyFor, TellsClaim, TellsHold}
use Rattle.pool_rule.proofs.Frame.{is_view}
use Rattle.pool_rule.proofs.Learn.{held_key, if_value, key_is, lawful_buffer, moving_key}

same_key : (key : BufferKey) (known value : Option BufferKey) → IsKnown known value → value ≡ Some key → IfSome known (λ k. k ≡ key)
same_key key None value e is = tt
same_key key (Some k) value e is = let f : Some k ≡ Some key = sym e ∙ is in cc

module _ (law : EveryRunIsLawful) (files : Option Files) (setup : Setup) (words : List ℕ) (views : List View) (log : List Step) (pool : PlainPool) (h : StandsFor files setup words views log pool) (id : ℕ) (v : View) (at : get_elem? views id ≡ some v) (live : 0 < length v.numbers) (header : ℕ) (inside : header < headers_of setup.geometry) where
  abbrev found : ℕ
  found = get_or words (header_word setup.geometry header + 1) 0

  -- of a buffer with a key
  for_buffer : (y : Buffer) → buffer_at pool header ≡ Some y → IsSome y.key → (b : Block) (known : Option BufferKey) → y.block ≡ b → IsKnown known y.key → IsKeyFor setup.geometry b known (get_or words (header_word setup.geometry header + 1) 0)
  for_buffer y e has b known is_block knows =
      let key = key_is law files setup words views log pool h id v at live header inside y e has in
      let content = if_value _ (buffer_at pool header) y e (h.headers header inside).content in
      let lawful = lawful_buffer law files setup words views log pool h id v at live header inside y e in
      let of_key = if_value _ y.key _ key lawful.key in
      let B : Block → Type 0 = λ z. (key_of (get_or words (header_word setup.geometry header + 1) 0)).len ≤ bytes_in setup.geometry.min_block z in
      record {
        packs = if_value _ y.key _ key content.key_packs;
        is = if_value _ y.key _ key content.key_is;
        fits = subst B is_block of_key.fits;
        known_is = same_key _ known y.key knows key;
      }

  old_mark : MarkFits id (buffer_at pool header) (mark_at v header)
  old_mark =
      let is = is_view files setup words views log pool h id v at live in
      let P : View → Type 0 = λ u. MarkFits id (buffer_at pool header) (mark_at u header) in
      subst P is ((h.headers header inside).each_seat id)

  by_hold : (o : Option Buffer) → buffer_at pool header ≡ o → (x : Hold) → HoldFits id o x → TellsHold setup.geometry x (get_or words (header_word setup.geometry header + 1) 0)
  by_hold o e Free fits = tt
  by_hold o e Bid fits = tt
  by_hold None e (Pinned b known) fits = absurd fits
  by_hold (Some y) e (Pinned b known) fits =
      let lawful = lawful_buffer law files setup words views log pool h id v at live header inside y e in
      for_buffer y e (held_key id y.mode y.holders y.key y.done lawful.holders lawful.has_key fits.0) b known fits.1 fits.2

  by_claim : (o : Option Buffer) → buffer_at pool header ≡ o → (x : Claim) → ClaimFits id o x → TellsClaim setup.geometry x (get_or words (header_word setup.geometry header + 1) 0)
  by_claim o e Unclaimed fits = tt
  by_claim o e (Fresh b known done) fits = tt
  by_claim o e (Gone b) fits = tt
  by_claim None e (Carried b target known done next) fits = absurd fits
  by_claim (Some y) e (Carried b target known done next) fits =
      let lawful = lawful_buffer law files setup words views log pool h id v at live header inside y e in
      for_buffer y e (moving_key y.mode y.key y.done fits.0 lawful.has_key) b known fits.2 fits.4

  pub key_told : TellsHold setup.geometry (mark_at v header).hold (get_or words (header_word setup.geometry header + 1) 0) × TellsClaim setup.geometry (mark_at v header).claim (get_or words (header_word setup.geometry header + 1) 0)
  key_told = (
    by_hold (buffer_at pool header) refl (mark_at v header).hold old_mark.0,
    by_claim (buffer_at pool header) refl (mark_at v header).claim old_mark.1,
  )
