use Rattle.std.proofs.Common.{◌≡◌, ◌∙◌, ◌-◌, ◌&&◌, List, Bool, false, get_or, if◌then◌else◌, length, ap, sym, arith}
use Rattle.std.proofs.lemmas.List.{take_all}
use Rattle.orc_values.specs.Woven.{present_count}
use Rattle.batch_masks.specs.Kept.{scattered}
use Rattle.batch_masks.proofs.Gathering.{all_scattered, enough, stands, scatter_more}
use Rattle.batch_masks.proofs.moves.scatter.Goals as goal

pub returns-then-count-present : goal.returns-then-count-present
returns-then-count-present c =
    let mask = c.args.mask.now in
    let present = c.args.present.now in
    let all : present_count present ≡ length present = sym c.requires.count ∙ c.if-count-present.true in
    sym (ap (λ (l : List Bool). scattered present l) (take_all c.args.count mask (omega (arith, c.requires.rows, c.if-count-present.true))) ∙ all_scattered present mask c.requires.rows all)

pub overflow_sub-from : goal.overflow_sub-from
overflow_sub-from c =
    let l = c.loop-row in
    let present = c.args.present.now in
    let cut = c.split_at.ensures.front ∙ take_all (length c.args.mask.now) present (omega (arith, c.requires.rows)) in
    let flag : get_or c.split_at.result.0.now (l.row - 1) false ≡ get_or present (l.row - 1) false = ap (λ (fs : List Bool). get_or fs (l.row - 1) false) cut in
    let one : c.from-from.result ≡ (if get_or present (l.row - 1) false then 1 else 0) = grind (arith, c.from-from.ensures, flag) in
    let most = enough present c.args.mask.now l.mask l.row (l.row - 1) l.from 0 false (omega (arith, c.loop-row-test.true)) l.invariant.within (l.auto.mask ∙ c.requires.rows) c.requires.rows l.invariant.scattering in
    omega (arith, one, most)

pub bounds-mask-from : goal.bounds-mask-from
bounds-mask-from c =
    let l = c.loop-row in
    let present = c.args.present.now in
    let place = l.from - c.from-from.result in
    let cut = c.split_at.ensures.front ∙ take_all (length c.args.mask.now) present (omega (arith, c.requires.rows)) in
    let flag : get_or c.split_at.result.0.now (l.row - 1) false ≡ get_or present (l.row - 1) false = ap (λ (fs : List Bool). get_or fs (l.row - 1) false) cut in
    let one : c.from-from.result ≡ (if get_or present (l.row - 1) false then 1 else 0) = grind (arith, c.from-from.ensures, flag) in
    stands present c.args.mask.now l.mask l.row (l.row - 1) l.from place false (omega (arith, c.loop-row-test.true)) l.invariant.within (l.auto.mask ∙ c.requires.rows) c.requires.rows l.invariant.scattering
    (omega (arith, one))

pub loop-row-preserved : goal.loop-row-preserved
loop-row-preserved c =
    let l = c.loop-row in
    let present = c.args.present.now in
    let place = l.from - c.from-from.result in
    let cut = c.split_at.ensures.front ∙ take_all (length c.args.mask.now) present (omega (arith, c.requires.rows)) in
    let flag : get_or c.split_at.result.0.now (l.row - 1) false ≡ get_or present (l.row - 1) false = ap (λ (fs : List Bool). get_or fs (l.row - 1) false) cut in
    let one : c.from-from.result ≡ (if get_or present (l.row - 1) false then 1 else 0) = grind (arith, c.from-from.ensures, flag) in
    record {
      within = omega (arith, l.invariant.within);
      scattering = scatter_more present c.args.mask.now l.mask l.row (l.row - 1) l.from place _ (omega (arith, c.loop-row-test.true)) l.invariant.within (l.auto.mask ∙ c.requires.rows)
          c.requires.rows l.invariant.scattering (omega (arith, one)) (ap (λ (b : Bool). get_or l.mask place false && b) flag);
    }
