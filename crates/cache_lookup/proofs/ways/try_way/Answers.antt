use Rattle.std.proofs.Common.{◌≡◌, ℕ, ◌<◌, [], ◌∷◌, length, sym, ◌∙◌, subst, inl, inr, arith, refl}
use Rattle.std.specs.Prelude.{Option}
use Rattle.buffer_word.specs.declared.key_word.Key.{Key}
use Rattle.buffer_word.specs.declared.state_word.Mode.{Mode}
use Rattle.buffer_word.specs.declared.state_word.Mode.TheVariants.{New}
use Rattle.buffer_word.specs.Changes.{WordTellsKey}
use Rattle.buffer_word.specs.KeyWord.{IsKey, key_word}
use Rattle.pool_model.specs.Content.{Files}
use Rattle.pool_rule.specs.declared.geometry.Geometry.{Geometry}
use Rattle.pool_rule.specs.declared.geometry.WordName.TheVariants.{State, KeyOf}
use Rattle.pool_rule.specs.declared.view.Hold.TheVariants.{Free}
use Rattle.pool_rule.specs.declared.view.View.{View}
use Rattle.pool_rule.specs.declared.word_step.WordStep.TheVariants.{Looked}
use Rattle.pool_rule.specs.Layout.{headers_of}
use Rattle.pool_rule.specs.Seats.{mark_at}
use Rattle.pool_rule.specs.WordSteps.{IsMade}
use Rattle.buffer_pool.specs.Bids.{HasNoBid}
use Rattle.buffer_pool.specs.Callers.{all_then}
use Rattle.buffer_pool.specs.Made.{AreMade}
use Rattle.buffer_pool.specs.Pools.{buffer_key, seat_id, sizes_of, view}
use Rattle.cache_lookup.specs.declared.ways.Tried.{Tried}
use Rattle.cache_lookup.specs.declared.ways.Tried.TheVariants.{Busy, Hit, Passed}
use Rattle.cache_lookup.specs.Before.{HasNoPinOf}
use Rattle.cache_lookup.specs.Right.{HasMode}
use Rattle.cache_lookup.specs.Tries.{HasNot, IfPassed, MayBePinned, Pins, Tries, has_not, is_new, pins}
use Rattle.cache_lookup.specs.Sets.{IsWay}
use Rattle.cache_lookup.proofs.Keeping.{free_by_load, kept_at_start, kept_key, kept_state, known_holds, no_pin_kept}
use Rattle.cache_lookup.proofs.Walks.{KeepsTried, try_walk}
use Rattle.cache_lookup.proofs.ways.try_way.Goals as goal

-- the two loads, and what comes then
module _ (files : Option Files) (g : Geometry) (id id' : ℕ) (key : Key) (header seen shown : ℕ) (v u w : View) (same : id' ≡ id) (first : IsMade files g id (Looked (State header) seen) v u) (second : IsMade files g id' (Looked (KeyOf header) shown) u w) where
  two : AreMade files g id (Looked (State header) seen ∷ Looked (KeyOf header) shown ∷ []) v w
  two = let P : ℕ → Type 0 = λ n. IsMade files g n (Looked (KeyOf header) shown) u w in (u, first, (w, subst P same second, refl))

  hasnt : HasNot key seen shown → Tries files g id key header v w (Passed seen)
  hasnt why = (_, two, has_not seen shown why)

  is_it_new : HasMode seen New → shown ≡ key_word key → Tries files g id key header v w (Busy seen)
  is_it_new new is =
      let P : ℕ → Type 0 = λ n. AreMade files g id (Looked (State header) seen ∷ Looked (KeyOf header) n ∷ []) v w in
      (_, subst P is two, is_new seen new)

  then_pins : (id'' : ℕ) (x : View) (r : Tried) → id'' ≡ id → MayBePinned seen → shown ≡ key_word key → Pins files g id'' key header seen w x r → Tries files g id key header v x r
  then_pins id'' x r again may is p =
      let P : ℕ → Type 0 = λ n. AreMade files g id (Looked (State header) seen ∷ Looked (KeyOf header) n ∷ []) v w in
      let Q : ℕ → Type 0 = λ n. AreMade files g n p.0 w x in
      (_, all_then files g id (Looked (State header) seen ∷ Looked (KeyOf header) (key_word key) ∷ []) p.0 v w x (subst P is two) (subst Q again p.1), pins seen p.0 r may p.2)

-- the seat has no pin of the key, and none of the header
module _ (files : Option Files) (g : Geometry) (id : ℕ) (key : Key) (header : ℕ) (start : View) (law : WordTellsKey) (good : IsKey key) (no_pin : HasNoPinOf (buffer_key key) start) (no_bid : HasNoBid start) (marks : length start.marks ≡ headers_of g) (within : header < headers_of g) (way : IsWay g key header) where
  inside : header < length start.marks
  inside = omega (arith, marks, within)

  none_after : (w : View) (r : Tried) → Tries files g id key header start w r → IfPassed r (HasNoPinOf (buffer_key key) w)
  none_after w r t = of_keeps r (try_walk files g id key (Unit {0}) start header way inside (known_holds (buffer_key key) start no_pin) law good no_pin no_bid [] start w t.0 r (kept_at_start start) (λ hit. tt) t.1 t.2).keeps
    where
      of_keeps : (r : Tried) → KeepsTried start w r → IfPassed r (HasNoPinOf (buffer_key key) w)
      of_keeps (Hit pin) k = tt
      of_keeps (Busy word) k = tt
      of_keeps (Passed seen) k = no_pin_kept (buffer_key key) start w no_pin k.same

  free_after : (id' seen shown : ℕ) (u w : View) → shown ≡ key_word key → IsMade files g id (Looked (State header) seen) start u → IsMade files g id' (Looked (KeyOf header) shown) u w → (mark_at w header).hold ≡ Free
  free_after id' seen shown u w is first second =
      let k1 = kept_state files g id start header seen inside start u first (kept_at_start start) in
      let k2 = kept_key files g id' start header shown inside u w (known_holds (buffer_key key) start no_pin) second k1 in
      k2.same.holds header ∙ free_by_load law files g id' key header shown start u w good is no_pin no_bid k1 second

-- ---- the goals

pub returns-then-shown-pack_key-clause-made : goal.returns-then-shown-pack_key-clause-made
returns-then-shown-pack_key-clause-made g c =
    hasnt g.W.World.files (sizes_of c.args.pool.now) _ _ c.args.key c.args.header _ _ _ _ _ c.look-seen.ensures.seat.same c.look-seen.ensures.made c.look-shown.ensures.made
    (inl (λ e. c.if-shown-pack_key.true (e ∙ sym c.pack_key.ensures)))

pub returns-in-New-clause-made : goal.returns-in-New-clause-made
returns-in-New-clause-made g c =
    let P : Mode → Type 0 = λ m. HasMode c.look-seen.result m in
    is_it_new g.W.World.files (sizes_of c.args.pool.now) _ _ c.args.key c.args.header _ _ _ _ _ c.look-seen.ensures.seat.same c.look-seen.ensures.made c.look-shown.ensures.made
    (subst P c.in-New.is c.mode_in.ensures) (c.if-shown-pack_key.false ∙ c.pack_key.ensures)

pub returns-in-Evicted-clause-made : goal.returns-in-Evicted-clause-made
returns-in-Evicted-clause-made g c =
    let P : Mode → Type 0 = λ m. HasMode c.look-seen.result m in
    hasnt g.W.World.files (sizes_of c.args.pool.now) _ _ c.args.key c.args.header _ _ _ _ _ c.look-seen.ensures.seat.same c.look-seen.ensures.made c.look-shown.ensures.made
    (inr (inl (subst P c.in-Evicted.is c.mode_in.ensures)))

pub returns-in-Released-clause-made : goal.returns-in-Released-clause-made
returns-in-Released-clause-made g c =
    let P : Mode → Type 0 = λ m. HasMode c.look-seen.result m in
    hasnt g.W.World.files (sizes_of c.args.pool.now) _ _ c.args.key c.args.header _ _ _ _ _ c.look-seen.ensures.seat.same c.look-seen.ensures.made c.look-shown.ensures.made
    (inr (inr (subst P c.in-Released.is c.mode_in.ensures)))

pub returns-in-Live-clause-made : goal.returns-in-Live-clause-made
returns-in-Live-clause-made g c =
    let P : Mode → Type 0 = λ m. HasMode c.look-seen.result m in
    then_pins g.W.World.files (sizes_of c.args.pool.now) _ _ c.args.key c.args.header _ _ _ _ _ c.look-seen.ensures.seat.same c.look-seen.ensures.made c.look-shown.ensures.made
    _ _ _ (c.look-shown.ensures.seat.same ∙ c.look-seen.ensures.seat.same) (inl (subst P c.in-Live.is c.mode_in.ensures)) (c.if-shown-pack_key.false ∙ c.pack_key.ensures) c.pin_way.ensures.made

pub returns-in-Moving-clause-made : goal.returns-in-Moving-clause-made
returns-in-Moving-clause-made g c =
    let P : Mode → Type 0 = λ m. HasMode c.look-seen.result m in
    then_pins g.W.World.files (sizes_of c.args.pool.now) _ _ c.args.key c.args.header _ _ _ _ _ c.look-seen.ensures.seat.same c.look-seen.ensures.made c.look-shown.ensures.made
    _ _ _ (c.look-shown.ensures.seat.same ∙ c.look-seen.ensures.seat.same) (inr (subst P c.in-Moving.is c.mode_in.ensures)) (c.if-shown-pack_key.false ∙ c.pack_key.ensures) c.pin_way-in-Moving.ensures.made

pub pin_way-requires-clause-free : goal.pin_way-requires-clause-free
pin_way-requires-clause-free g c =
    free_after g.W.World.files (sizes_of c.args.pool.now) (seat_id c.args.seat.now) c.args.key c.args.header (view c.args.seat.now) c.word_tells_key.ensures c.requires.key c.requires.no_pin c.args.seat.now.no_bid c.requires.seat.live.marks c.requires.header c.requires.way
    _ _ _ _ _ (c.if-shown-pack_key.false ∙ c.pack_key.ensures) c.look-seen.ensures.made c.look-shown.ensures.made

pub pin_way-requires-in-Moving-clause-free : goal.pin_way-requires-in-Moving-clause-free
pin_way-requires-in-Moving-clause-free g c =
    free_after g.W.World.files (sizes_of c.args.pool.now) (seat_id c.args.seat.now) c.args.key c.args.header (view c.args.seat.now) c.word_tells_key.ensures c.requires.key c.requires.no_pin c.args.seat.now.no_bid c.requires.seat.live.marks c.requires.header c.requires.way
    _ _ _ _ _ (c.if-shown-pack_key.false ∙ c.pack_key.ensures) c.look-seen.ensures.made c.look-shown.ensures.made

pub returns-then-shown-pack_key-clause-no_pin : goal.returns-then-shown-pack_key-clause-no_pin
returns-then-shown-pack_key-clause-no_pin g c =
    none_after g.W.World.files (sizes_of c.args.pool.now) (seat_id c.args.seat.now) c.args.key c.args.header (view c.args.seat.now) c.word_tells_key.ensures c.requires.key c.requires.no_pin c.args.seat.now.no_bid c.requires.seat.live.marks c.requires.header c.requires.way
    (view c.look-shown.new.seat) (Passed c.look-seen.result) (returns-then-shown-pack_key-clause-made g c)

pub returns-in-Evicted-clause-no_pin : goal.returns-in-Evicted-clause-no_pin
returns-in-Evicted-clause-no_pin g c =
    none_after g.W.World.files (sizes_of c.args.pool.now) (seat_id c.args.seat.now) c.args.key c.args.header (view c.args.seat.now) c.word_tells_key.ensures c.requires.key c.requires.no_pin c.args.seat.now.no_bid c.requires.seat.live.marks c.requires.header c.requires.way
    (view c.look-shown.new.seat) (Passed c.look-seen.result) (returns-in-Evicted-clause-made g c)

pub returns-in-Released-clause-no_pin : goal.returns-in-Released-clause-no_pin
returns-in-Released-clause-no_pin g c =
    none_after g.W.World.files (sizes_of c.args.pool.now) (seat_id c.args.seat.now) c.args.key c.args.header (view c.args.seat.now) c.word_tells_key.ensures c.requires.key c.requires.no_pin c.args.seat.now.no_bid c.requires.seat.live.marks c.requires.header c.requires.way
    (view c.look-shown.new.seat) (Passed c.look-seen.result) (returns-in-Released-clause-made g c)

pub returns-in-Live-clause-no_pin : goal.returns-in-Live-clause-no_pin
returns-in-Live-clause-no_pin g c =
    none_after g.W.World.files (sizes_of c.args.pool.now) (seat_id c.args.seat.now) c.args.key c.args.header (view c.args.seat.now) c.word_tells_key.ensures c.requires.key c.requires.no_pin c.args.seat.now.no_bid c.requires.seat.live.marks c.requires.header c.requires.way
    (view c.pin_way.new.seat) c.pin_way.result (returns-in-Live-clause-made g c)

pub returns-in-Moving-clause-no_pin : goal.returns-in-Moving-clause-no_pin
returns-in-Moving-clause-no_pin g c =
    none_after g.W.World.files (sizes_of c.args.pool.now) (seat_id c.args.seat.now) c.args.key c.args.header (view c.args.seat.now) c.word_tells_key.ensures c.requires.key c.requires.no_pin c.args.seat.now.no_bid c.requires.seat.live.marks c.requires.header c.requires.way
    (view c.pin_way-in-Moving.new.seat) c.pin_way-in-Moving.result (returns-in-Moving-clause-made g c)
