-- After a step the seat is still of its table.
use Rattle.std.proofs.Common.{◌≡◌, ℕ, ◌-◌, ◌<◌, List, length, refl, sym, ap, ◌∙◌, subst, arith}
use Rattle.std.specs.Prelude.{Option, Some, None, ◌==◌, ◌%◌, Bool, true, false, if◌then◌else◌}
use Rattle.std.proofs.lemmas.List.{length-set, length-take, length-drop, length-append, length-replicate}
use Rattle.atomic_table.specs.Seated.{TableId}
use Rattle.pool_model.specs.declared.block.Block.{Block}
use Rattle.pool_model.specs.declared.buffer.BufferKey.{BufferKey}
use Rattle.pool_model.specs.declared.step.Step.{Step}
use Rattle.pool_model.specs.declared.step.Step.TheVariants.{Name, Fill, Publish, Pin, Unpin, BeginEvict}
use Rattle.pool_model.specs.Content.{Files}
use Rattle.pool_rule.specs.declared.view.Hold.{Hold}
use Rattle.pool_rule.specs.declared.view.Hold.TheVariants.{Free, Bid, Pinned}
use Rattle.pool_rule.specs.declared.view.Mark.{Mark}
use Rattle.pool_rule.specs.declared.geometry.Geometry.{Geometry}
use Rattle.pool_rule.specs.declared.geometry.Setup.{Setup}
use Rattle.pool_rule.specs.declared.geometry.WordName.{WordName}
use Rattle.pool_rule.specs.declared.geometry.WordName.TheVariants.{Arena, State, KeyOf, Touches, Last, Clock}
use Rattle.pool_rule.specs.declared.view.Access.{Access}
use Rattle.pool_rule.specs.declared.view.View.{View}
use Rattle.pool_rule.specs.declared.word_step.WordStep.{WordStep}
use Rattle.pool_rule.specs.declared.word_step.WordStep.TheVariants.{Looked, LookedAtCell, Missed, Granted, Returned, Opened, Named, Filled, Published, Counted, Uncounted, EvictBegun, HeaderReleased, Updated}
use Rattle.pool_rule.specs.Layout.{headers_of, places_of}
use Rattle.pool_rule.specs.Rule.{first_view}
use Rattle.pool_rule.specs.Seats.{mark_at, clear_mark, noted, with_step, with_granted, with_mark, with_key, mark_with_key, key_of, parted, part_of, joined}
use Rattle.pool_rule.specs.Words.{TableSeat, IsLeft, IsLive, IsSeatAt, IsStill, view}
use Rattle.pool_rule.specs.WordSteps.{IsMade, block_in, effect, learnt, taking, giving, counting, dropping, naming, filling, publishing, opening, evicting, releasing}
use Rattle.pool_rule.proofs.Opening.{length-numbers}

pub still : (table : TableId) (g : Geometry) (old new : TableSeat) (w : View) → IsSeatAt table g old → new.table_id ≡ old.table_id → new.id ≡ old.id → new.me ≡ (w, old.me.1) → IsLive g w → IsStill table g old new
still table g old new w h same_table same_id me live =
    let P : View → Type 0 = λ v. IsLive g v in
    record {
      seat = record { table_is = same_table ∙ h.table_is; no_slot = ap (λ m. m.1) me ∙ h.no_slot; live = subst P (sym (ap (λ m. m.0) me)) live };
      id_is = same_id;
    }

module _ (g : Geometry) (v : View) (h : IsLive g v) where
  noted_live : (word old new : ℕ) (access : Access) → IsLive g (noted word old new access v)
  unfolding noted
  noted_live word old new access = record { numbers = h.numbers; geometry = h.geometry; marks = h.marks; granted = h.granted }

  key_live : (header found : ℕ) → IsLive g (with_key header found v)
  unfolding with_key
  key_live header found =
      record { numbers = h.numbers; geometry = h.geometry; marks = length-set v.marks header (mark_with_key (key_of found) (mark_at v header)) ∙ h.marks; granted = h.granted }

  learnt_live : (word : WordName) (found : ℕ) → IsLive g (learnt word found v)
  learnt_live (Arena i) found = h
  learnt_live (State header) found = h
  learnt_live (KeyOf header) found = key_live header found
  learnt_live (Touches header) found = h
  learnt_live (Last header) found = h
  learnt_live Clock found = h

  taking_live : (id : ℕ) (b : Block) → IsLive g (taking id b v)
  unfolding with_step with_granted
  taking_live id b =
      record { numbers = h.numbers; geometry = h.geometry; marks = h.marks; granted = length-set v.granted b.place (Some b.order) ∙ h.granted }

  giving_live : (id : ℕ) (b : Block) → IsLive g (giving id b v)
  unfolding with_step with_granted
  giving_live id b =
      record { numbers = h.numbers; geometry = h.geometry; marks = h.marks; granted = length-set v.granted b.place None ∙ h.granted }

  mark_live : (header : ℕ) (m : Mark) → IsLive g (with_mark header m v)
  unfolding with_mark
  mark_live header m = record { numbers = h.numbers; geometry = h.geometry; marks = length-set v.marks header m ∙ h.marks; granted = h.granted }

  step_live : (s : Step) (u : View) → IsLive g u → IsLive g (with_step s u)
  unfolding with_step
  step_live s u k = record { numbers = k.numbers; geometry = k.geometry; marks = k.marks; granted = k.granted }

  either_live : (t : Bool) (a b : View) → IsLive g a → IsLive g b → IsLive g (if t then a else b)
  either_live true a b p q = p
  either_live false a b p q = q

  counting_live : (id header found : ℕ) → IsLive g (counting id header found v)
  counting_live id header found = either_live (found % 16 == 0) _ _ (step_live (Pin id header) _ (mark_live header _)) (mark_live header _)

  dropping_live : (x : Hold) (id header : ℕ) → IsLive g (dropping x id header v)
  dropping_live Free id header = h
  dropping_live Bid id header = mark_live header _
  dropping_live (Pinned b k) id header = step_live (Unpin id header) _ (mark_live header _)

  naming_live : (id header : ℕ) (b : Block) (key : BufferKey) → IsLive g (naming id header b key v)
  naming_live id header b key = step_live (Name id header key) _ (mark_live header _)

  opening_live : (id header : ℕ) (b : Block) (cells : List ℕ) → IsLive g (opening id header b cells v)
  unfolding with_step with_granted with_mark
  opening_live id header b cells =
      record { numbers = h.numbers; geometry = h.geometry; marks = length-set v.marks header _ ∙ h.marks; granted = length-set v.granted b.place None ∙ h.granted }

  filling_live : (id header : ℕ) (b : Block) (key : BufferKey) (done value : ℕ) → IsLive g (filling id header b key done value v)
  filling_live id header b key done value = step_live (Fill id header value) _ (mark_live header _)

  publishing_live : (id header : ℕ) (b : Block) (key : BufferKey) → IsLive g (publishing id header b key v)
  publishing_live id header b key = step_live (Publish id header) _ (mark_live header _)

  evicting_live : (id header : ℕ) (b : Block) → IsLive g (evicting id header b v)
  evicting_live id header b = step_live (BeginEvict id header) _ (mark_live header _)

  releasing_live : (id header : ℕ) (b : Block) → IsLive g (releasing id header b v)
  unfolding with_step with_granted with_mark
  releasing_live id header b =
      record { numbers = h.numbers; geometry = h.geometry; marks = length-set v.marks header _ ∙ h.marks; granted = length-set v.granted b.place (Some b.order) ∙ h.granted }

  effect_live : (id : ℕ) (s : WordStep) → IsLive g (effect id s v)
  effect_live id (Looked word found) = learnt_live word found
  effect_live id (LookedAtCell cell found) = h
  effect_live id (Missed word found) = h
  effect_live id (Granted b found) = taking_live id b
  effect_live id (Returned b found) = giving_live id b
  effect_live id (Opened header b cells) = opening_live id header b cells
  effect_live id (Named header b key found) = naming_live id header b key
  effect_live id (Filled header b key done value found) = filling_live id header b key done value
  effect_live id (Published header b key found) = publishing_live id header b key
  effect_live id (Counted header found) = counting_live id header found
  effect_live id (Uncounted header found) = dropping_live (mark_at v header).hold id header
  effect_live id (EvictBegun header found) = evicting_live id header (block_in found)
  effect_live id (HeaderReleased header b found) = releasing_live id header b
  effect_live id (Updated word found left) = h

  pub parted_live : (count : ℕ) → count < length v.numbers → IsLive g (parted count v)
  unfolding parted
  parted_live count k =
      let l = length-take (length v.numbers - count) v.numbers in
      record { numbers = omega (arith, l, k); geometry = h.geometry; marks = h.marks; granted = h.granted }

  pub part_live : (count : ℕ) → 0 < count → count < length v.numbers → IsLive g (part_of count v)
  unfolding part_of
  part_live count j k =
      let l = length-drop (length v.numbers - count) v.numbers in
      record {
        numbers = omega (arith, l, j, k);
        geometry = h.geometry;
        marks = length-replicate (headers_of v.geometry) clear_mark ∙ ap headers_of h.geometry;
        granted = length-replicate (places_of v.geometry) None ∙ ap places_of h.geometry;
      }

  pub joined_live : (w : View) → IsLive g (joined v w)
  unfolding joined
  joined_live w =
      let l = length-append v.numbers w.numbers in
      record { numbers = omega (arith, l, h.numbers); geometry = h.geometry; marks = h.marks; granted = h.granted }

pub first_live : (setup : Setup) → 0 < setup.seats → IsLive setup.geometry (first_view setup)
first_live setup some_seats =
    record {
      numbers = omega (arith, length-numbers 0 setup.seats, some_seats);
      geometry = refl;
      marks = length-replicate (headers_of setup.geometry) clear_mark;
      granted = length-replicate (places_of setup.geometry) None;
    }

-- after a step whose kind is known
pub still_made : (table : TableId) (files : Option Files) (g : Geometry) (id : ℕ) (s : WordStep) (old new : TableSeat) → IsSeatAt table g old → IsLeft old new → IsMade files g id s (view old) (view new) → IsStill table g old new
still_made table files g id s old new h left step =
    let P : View → Type 0 = λ v. IsLive g v in
    let live = noted_live g (effect id s (view old)) (effect_live g (view old) h.live id s) _ _ _ _ in
    record {
      seat = record { table_is = left.table_is ∙ h.table_is; no_slot = left.slots ∙ h.no_slot; live = subst P (sym step.view) live };
      id_is = left.id_is;
    }
