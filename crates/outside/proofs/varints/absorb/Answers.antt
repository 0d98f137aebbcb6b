use Rattle.std.proofs.Common.{◌≡◌, ◌<◌, length, ℕ, suc, ◌-◌, List, ◌∷◌, ◌++◌, take, drop, get_or, arith, sym, ap, ◌∙◌, Some, None, Ok}
use Rattle.std.proofs.lemmas.List.{take-append-drop, take_more, take_more_set, length-take-le, length-set}
use Rattle.std.proofs.Math.Seq.{drop-cons}
use Rattle.std.proofs.lemmas.Result.{err_from_is_err_and}
use Rattle.outside.specs.Pieces.{Pushed}
use Rattle.outside.specs.Varint.{open_varints}
use Rattle.outside.proofs.Varint.{Absorbed-more, Absorbed-ended, Absorbed-long}
use Rattle.outside.proofs.varints.absorb.Goals as goal
use Rattle.outside.proofs.varints.absorb.Goals.{in-Some, in_default}

-- a piece about its byte at an index
around : (piece : List ℕ) (i : ℕ) → i < length piece → piece ≡ take i piece ++ get_or piece i 0 ∷ drop (suc i) piece
around piece i h = sym (take-append-drop i piece) ∙ ap (λ (back : List ℕ). take i piece ++ back) (drop-cons piece i 0 h)

pub returns-in_err-number : goal.returns-in_err-number
returns-in_err-number c =
    let p = err_from_is_err_and c.from_residual.result c.from_residual.ensures.1 in
    let l = c.loop-byte in
    let b = c.args.begun.now in
    let piece = c.args.piece.now in
    let byte = get_or piece l.byte-index 0 in
    let h : l.byte-index < length piece = omega (arith, c.loop-byte-test.true) in
    let numbers : length (take l.ended l.out) ≡ l.ended = length-take-le l.ended l.out (omega (arith, l.invariant.within, l.auto.out, c.requires)) in
    let asks : length l.out - length (take l.ended l.out) ≡ suc (length l.out - l.ended - 1) = omega (arith, l.invariant.within, l.auto.out, c.requires) in
    rw (p.1, p.2) (
      c.in_err-number.ensures.0,
      λ more. ap (λ (whole : List ℕ). open_varints b.groups b.count (length l.out) (whole ++ more)) (around piece l.byte-index h)
          ∙ Absorbed-long b.groups b.count (length l.out) (take l.byte-index piece) (take l.ended l.out) l.begun.groups l.begun.count byte c.push.new.self.groups c.push.new.self.count l.invariant.absorbed (length l.out - l.ended - 1) asks _ (drop (suc l.byte-index) piece) c.in_err-number.ensures more,
    )

pub loop-byte-preserved : goal.loop-byte-preserved
loop-byte-preserved c =
    let l = c.loop-byte in
    let b = c.args.begun.now in
    let piece = c.args.piece.now in
    let byte = get_or piece l.byte-index 0 in
    let new = c.push.new.self in
    let h : l.byte-index < length piece = omega (arith, c.loop-byte-test.true) in
    let room : l.ended < length l.out = omega (arith, l.invariant.within, l.auto.out, c.requires) in
    let numbers : length (take l.ended l.out) ≡ l.ended = length-take-le l.ended l.out (omega arith) in
    let asks : length l.out - length (take l.ended l.out) ≡ suc (length l.out - l.ended - 1) = omega arith in
    elim c.match-branch-2.branch [
      | in-Some w ↦
          let pushed : Pushed l.begun.groups l.begun.count byte new.groups new.count (Ok (Some w.in-Some.number)) = rw w.in-Some.is at c.in_ok-number.ensures in
          rw (w.ended-is, w.out-is) record {
            within = omega (arith, l.invariant.within);
            absorbed = rw (length-set l.out l.ended w.in-Some.number, take_more_set l.out l.ended w.in-Some.number room, take_more piece l.byte-index 0 h)
                (Absorbed-ended b.groups b.count (length l.out) (take l.byte-index piece) (take l.ended l.out) l.begun.groups l.begun.count byte new.groups new.count l.invariant.absorbed (length l.out - l.ended - 1) asks w.in-Some.number l.begun.short pushed);
          }
      | in_default w ↦
          let pushed : Pushed l.begun.groups l.begun.count byte new.groups new.count (Ok None) = rw w.in_default.is at c.in_ok-number.ensures in
          rw (w.ended-is, w.out-is) record {
            within = omega (arith, l.invariant.within);
            absorbed = rw (take_more piece l.byte-index 0 h)
                (Absorbed-more b.groups b.count (length l.out) (take l.byte-index piece) (take l.ended l.out) l.begun.groups l.begun.count byte new.groups new.count l.invariant.absorbed (length l.out - l.ended - 1) asks l.begun.short pushed);
          }
    ]
