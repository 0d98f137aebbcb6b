use Rattle.std.proofs.Common.{◌∙◌, ap, sym, ◌≡◌, ◌+◌, ◌++◌, take, drop, length, List, ℕ, arith, length-drop}
use Rattle.std.proofs.lemmas.List.{take_all, take_rest}
use Rattle.fragment_outcome.specs.Text.{escaped}
use Rattle.fragment_outcome.proofs.OnTheWay.{Wrote-then, Wrote-as, Wrote-none}
use Rattle.fragment_outcome.proofs.Texts.{escaped-next}
use Rattle.fragment_outcome.proofs.value_text.put_escaped.Goals as goal

pub loop-done-init : goal.loop-done-init
loop-done-init g c = record { within = omega arith; wrote = Wrote-none _ _ _ }

pub loop-done-preserved : goal.loop-done-preserved
loop-done-preserved g c =
    let text = c.args.text.now in
    let done = c.loop-done.done in
    let rest = take_rest text done in
    record {
      within = omega (arith, c.put_front-done.ensures.within, ap (λ (l : List ℕ). length l) rest, length-drop done text);
      wrote = Wrote-as (Wrote-then c.loop-done.invariant.wrote c.put_front-done.ensures.wrote)
          (ap (λ (l : List ℕ). escaped (take done text) ++ escaped (take c.put_front-done.result l)) rest ∙ escaped-next text done c.put_front-done.result);
    }

pub returns : goal.returns
returns g c = Wrote-as c.loop-done.invariant.wrote (ap (λ (t : List ℕ). escaped t) (take_all c.loop-done.done c.args.text.now (omega arith)))
