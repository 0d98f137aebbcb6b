use Rattle.std.proofs.Common.{List, ℕ, ◌++◌, ◌∙◌, ap, sym, refl, append_assoc}
use Rattle.orc_tail.specs.declared.stripe.Stripe.{Stripe}
use Rattle.file_writer.proofs.Places.{has_stripe}
use Rattle.file_writer.proofs.stripes.push_stripe.Goals as goal

pub returns-clause-ok : goal.returns-clause-ok
returns-clause-ok c =
    let stripe : Stripe =
    record { at = c.len.result; index_len = 0; body_len = c.len-2.result; footer_len = c.len-3.result; rows = c.args.rows } in
    has_stripe c.args.file.now.items c.args.body.items c.in_ok-footer.footer.items c.deref.result.now (c.args.file.now.items ++ c.args.body.items) c.extend_from_slice-2.new.self.items
    stripe c.args.streams.now c.args.encodings.now c.args.rows c.in_ok-footer.ensures.read c.deref.ensures.value refl
    (c.in_ok-extend_from_slice-2.ensures.items ∙ ap (λ (l : List ℕ). c.args.file.now.items ++ l) (c.deref-2.ensures.value ∙ c.in_ok-extend_from_slice.ensures.items)
    ∙ sym (append_assoc c.args.file.now.items c.args.body.items c.deref.result.now))
    (c.len.ensures ∙ c.args.file.now.ok.0) refl (c.len-2.ensures ∙ c.args.body.ok.0) (c.len-3.ensures ∙ c.in_ok-footer.footer.ok.0) refl
