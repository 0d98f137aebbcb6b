use Rattle.std.proofs.Common.{◌≡◌, ◌<◌, ◌∙◌, ℕ, List, length, vec_len, slice_range, Some, arith, sym, ap}
use Rattle.orc_values.specs.TextsLaws.{length-texts_from, text_at, text_within}
use Rattle.orc_values.specs.Texts.{start_of}
use Rattle.orc_values.proofs.texts.Texts.get.Goals as goal

pub start_of-from-requires : goal.start_of-from-requires
start_of-from-requires c =
    let s = c.self.inside in
    let h : c.args.index < length s.ends.items = rw length-texts_from at (rw (← c.self.view_is) at c.requires) in
    rw c.deref.ensures.value (omega (arith, h))

pub index-to-requires : goal.index-to-requires
index-to-requires c =
    let s = c.self.inside in
    let h : c.args.index < length s.ends.items = rw length-texts_from at (rw (← c.self.view_is) at c.requires) in
    let e : length s.ends.items ≡ vec_len s.ends = ap length (sym c.deref.ensures.value) ∙ c.deref.ensures.len in
    omega (arith, h, e)

pub part-requires : goal.part-requires
part-requires c =
    let s = c.self.inside in
    let h : c.args.index < length s.ends.items = rw length-texts_from at (rw (← c.self.view_is) at c.requires) in
    let within = text_within 0 s.ends.items (length s.bytes.items) c.args.index c.index-to.result.now c.self.invariant h in
    let from : c.start_of-from.result ≡ start_of 0 s.ends.items c.args.index = c.start_of-from.ensures ∙ ap (λ (l : List ℕ). start_of 0 l c.args.index) c.deref.ensures.value in
    record {
      order = omega (arith, within.0, from, c.index-to.ensures);
      within = rw c.deref-2.ensures.value (omega (arith, within.1, c.index-to.ensures));
    }

pub returns : goal.returns
returns c =
    let s = c.self.inside in
    let h : c.args.index < length s.ends.items = rw length-texts_from at (rw (← c.self.view_is) at c.requires) in
    let from : c.start_of-from.result ≡ start_of 0 s.ends.items c.args.index = c.start_of-from.ensures ∙ ap (λ (l : List ℕ). start_of 0 l c.args.index) c.deref.ensures.value in
    rw (← c.self.view_is)
    (text_at 0 s.ends.items s.bytes.items c.args.index c.index-to.result.now h
    ∙ ap (λ (n : ℕ). Some (slice_range s.bytes.items (start_of 0 s.ends.items c.args.index) n)) (sym c.index-to.ensures)
    ∙ ap (λ (n : ℕ). Some (slice_range s.bytes.items n c.index-to.result.now)) (sym from)
    ∙ ap (λ (l : List ℕ). Some (slice_range l c.start_of-from.result c.index-to.result.now)) (sym c.deref-2.ensures.value)
    ∙ ap (λ (l : List ℕ). Some l) (sym c.part.ensures))
