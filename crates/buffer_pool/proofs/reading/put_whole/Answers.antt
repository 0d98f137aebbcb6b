use Rattle.std.proofs.Common.{◌≡◌, ◌+◌, ◌-◌, ◌<◌, ◌≤◌, ℕ, List, length, get_or, drop, refl, sym, ap, ◌∙◌, subst, arith}
use Rattle.std.specs.Prelude.{slice_index}
use Rattle.std.specs.Int.{to_le_bytes, w64}
use Rattle.std.proofs.lemmas.List.{get_or-drop, get_or-take}
use Rattle.std.proofs.lemmas.Slice.{between-put_mid}
use borrow.Rule.Slice.PartMut.{put_mid}
use Rattle.buffer_pool.proofs.reading.put_whole.Goals as goal

placed : (xs ys : List ℕ) (a k : ℕ) → a ≤ length xs → length ys ≡ 8 → k < 8 → get_or (put_mid a (a + 8 - a) xs ys) (a + k) 0 ≡ get_or ys k 0
placed xs ys a k inside len less =
    let l = put_mid a (a + 8 - a) xs ys in
    sym (get_or-drop a l k 0) ∙ (sym (get_or-take (a + 8 - a) (drop a l) k 0 (omega (arith, less))) ∙ ap (λ z. get_or z k 0) (between-put_mid a (a + 8 - a) xs ys (a + 8) inside (omega (arith, len))))

pub returns-clause-put : goal.returns-clause-put
returns-clause-put c k less =
    let is = c.copy_from_slice.ensures.after ∙ c.to_le_bytes.ensures in
    let P : List ℕ → Type 0 = λ l. slice_index (put_mid c.args.at (c.args.at + 8 - c.args.at) c.args.into.now l) (c.args.at + k) ≡ slice_index (to_le_bytes w64 c.args.value) k in
    let inside = c.requires in
    subst P (sym is) (placed c.args.into.now (to_le_bytes w64 c.args.value) c.args.at k (omega (arith, inside)) refl less)
