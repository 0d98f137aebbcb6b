-- The steps of several calls are one list.
use Rattle.std.proofs.Common.{◌≡◌, ℕ, ◌+◌, ◌*◌, ◌/◌, ◌%◌, List, [], ◌∷◌, ◌++◌, length, refl, sym, ap, ◌∙◌, subst}
use Rattle.std.specs.Prelude.{Option, map}
use Rattle.buffer_word.specs.declared.key_word.Key.{Key}
use Rattle.buffer_word.specs.KeyWord.{key_word}
use Rattle.pool_model.specs.declared.block.Block.{Block}
use Rattle.pool_model.specs.Content.{Files, cells_of}
use Rattle.pool_rule.specs.declared.geometry.Geometry.{Geometry}
use Rattle.pool_rule.specs.declared.geometry.WordName.TheVariants.{KeyOf}
use Rattle.pool_rule.specs.declared.view.View.{View}
use Rattle.pool_rule.specs.declared.word_step.WordStep.TheVariants.{Looked, Granted, Opened, Named, Published, Counted, Uncounted}
use Rattle.pool_rule.specs.Layout.{block_cells}
use Rattle.pool_rule.specs.WordSteps.{IsMade, event_of}
use Rattle.buffer_pool.specs.Callers.{all_then, all_trail, one_made}
use Rattle.buffer_pool.specs.Made.{AreMade, IsLiveWord, cell_in, cells_touched, fill_steps, load_steps}
use Rattle.buffer_pool.specs.Pools.{buffer_key}
use Rattle.pool_uses.specs.Sharing.{Publishes, Reads, Shares, publish_steps, read_steps}

module _ (files : Option Files) (g : Geometry) (id : ℕ) where
  -- a grant, an opening, a fill and a publish, each by the seat as it is then
  pub publishes : (id1 id2 id3 header h : ℕ) (key k : Key) (b b1 b2 : Block) (seen : ℕ) (bytes : List ℕ) (v0 v1 v2 v3 v4 : View) → id1 ≡ id → id2 ≡ id → id3 ≡ id → b1 ≡ b → h ≡ header → k ≡ key → b2 ≡ b → IsMade files g id (Granted b seen) v0 v1 → ((cells : List ℕ) × (named : ℕ) × AreMade files g id1 (Opened header b1 cells ∷ Named header b1 (buffer_key key) named ∷ []) v1 v2) → ((filled : List ℕ) × (length filled ≡ cells_of (buffer_key k)) × AreMade files g id2 (fill_steps h b2 (buffer_key k) (cell_in bytes) 0 filled) v2 v3) → ((published : ℕ) × IsMade files g id3 (Published h b2 (buffer_key k) published) v3 v4) → Publishes files g id header key b seen bytes v0 v4
  publishes id1 id2 id3 header h key k b b1 b2 seen bytes v0 v1 v2 v3 v4 e1 e2 e3 eb eh ek eb2 m o f p =
      let O : ℕ × Block → Type 0 = λ z. AreMade files g z.0 (Opened header z.1 o.0 ∷ Named header z.1 (buffer_key key) o.1 ∷ []) v1 v2 in
      let opened = subst O (λ i. (e1 i, eb i)) o.2 in
      let F : ℕ × ℕ × Key × Block → Type 0 = λ z. (length f.0 ≡ cells_of (buffer_key z.2)) × AreMade files g z.0 (fill_steps z.1 z.3 (buffer_key z.2) (cell_in bytes) 0 f.0) v2 v3 in
      let filled = subst F (λ i. (e2 i, eh i, ek i, eb2 i)) (f.1, f.2) in
      let Q : ℕ × ℕ × Key × Block → Type 0 = λ z. IsMade files g z.0 (Published z.1 z.3 (buffer_key z.2) p.0) v3 v4 in
      let published = subst Q (λ i. (e3 i, eh i, ek i, eb2 i)) p.1 in
      let fills = fill_steps header b (buffer_key key) (cell_in bytes) 0 f.0 in
      let last = all_then files g id fills (Published header b (buffer_key key) p.0 ∷ []) v2 v3 v4 filled.1 (one_made files g id (Published header b (buffer_key key) p.0) v3 v4 published) in
      let all = all_then files g id (Granted b seen ∷ Opened header b o.0 ∷ Named header b (buffer_key key) o.1 ∷ []) (fills ++ Published header b (buffer_key key) p.0 ∷ []) v0 v2 v4 (v1, m, opened) last in
      (o.0, o.1, f.0, p.0, filled.0, all)

  -- and the return of the pin
  pub shares : (id1 header h : ℕ) (key : Key) (b : Block) (seen : ℕ) (bytes : List ℕ) (v0 v4 v5 : View) → id1 ≡ id → h ≡ header → Publishes files g id header key b seen bytes v0 v4 → ((left : ℕ) × IsMade files g id1 (Uncounted h left) v4 v5) → Shares files g id header key b seen bytes v0 v5
  shares id1 header h key b seen bytes v0 v4 v5 e1 eh p u =
      let U : ℕ × ℕ → Type 0 = λ z. IsMade files g z.0 (Uncounted z.1 u.0) v4 v5 in
      let left = subst U (λ i. (e1 i, eh i)) u.1 in
      let steps = publish_steps header key b seen bytes p.0 p.1 p.2 p.3 in
      let all = all_then files g id steps (Uncounted header u.0 ∷ []) v0 v4 v5 p.5 (one_made files g id (Uncounted header u.0) v4 v5 left) in
      (p.0, p.1, p.2, p.3, u.0, p.4, all_trail files g id (steps ++ Uncounted header u.0 ∷ []) v0 v5 all)

  -- a pin, a read and the pin's return
  pub reads : (id1 id2 header h : ℕ) (key : Key) (at : ℕ) (b : Block) (bytes found : List ℕ) (v0 v1 v2 v3 : View) → id1 ≡ id → id2 ≡ id → h ≡ header → ((word : ℕ) × IsLiveWord word × AreMade files g id (Counted header word ∷ Looked (KeyOf header) (key_word key) ∷ []) v0 v1) → length found ≡ cells_touched (at % 8) (length bytes) → AreMade files g id1 (load_steps (b.place * block_cells g + at / 8) found) v1 v2 → ((left : ℕ) × IsMade files g id2 (Uncounted h left) v2 v3) → Reads files g id header key at bytes v0 v3
  reads id1 id2 header h key at b bytes found v0 v1 v2 v3 e1 e2 eh c count l u =
      let loads : List _ = load_steps (b.place * block_cells g + at / 8) found in
      let L : ℕ → Type 0 = λ n. AreMade files g n (load_steps (b.place * block_cells g + at / 8) found) v1 v2 in
      let loaded = subst L e1 l in
      let U : ℕ × ℕ → Type 0 = λ z. IsMade files g z.0 (Uncounted z.1 u.0) v2 v3 in
      let left = subst U (λ i. (e2 i, eh i)) u.1 in
      let last = all_then files g id loads (Uncounted header u.0 ∷ []) v1 v2 v3 loaded (one_made files g id (Uncounted header u.0) v2 v3 left) in
      let all = all_then files g id (Counted header c.0 ∷ Looked (KeyOf header) (key_word key) ∷ []) (loads ++ Uncounted header u.0 ∷ []) v0 v1 v3 c.2 last in
      (c.0, b, found, u.0, c.1, count, all_trail files g id (read_steps g header key at c.0 b found u.0) v0 v3 all)
