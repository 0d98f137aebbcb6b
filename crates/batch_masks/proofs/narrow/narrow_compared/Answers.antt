use Rattle.std.proofs.Common.{◌≡◌, ◌++◌, List, Bool, length, map, take, refl, sym, ◌∙◌, ap, arith}
use Rattle.std.proofs.Math.Seq.{take-append_seam}
use Rattle.std.proofs.lemmas.List.{length-map}
use Rattle.orc_values.specs.Column.{is_present, present_of, values_in}
use Rattle.orc_values.specs.WovenLaws.{present_count-le}
use Rattle.fragment_plan.specs.declared.test.Check.TheVariants as check
use Rattle.batch_masks.specs.Checks.{check_holds}
use Rattle.batch_masks.specs.Kept.{kept, both, scattered}
use Rattle.batch_masks.proofs.Gathering.{checked_column}
use Rattle.batch_masks.proofs.narrow.narrow_compared.Goals as goal

pub split_at_mut-front-requires : goal.split_at_mut-front-requires
split_at_mut-front-requires c =
    let column = c.args.column.now in
    omega (arith, c.count-count.ensures, present_count-le (present_of column), length-map column is_present, c.requires.rows, c.gather.auto.mask)

pub returns : goal.returns
returns c =
    let asked = check_holds (check.Compare c.args.op c.args.literal.now) in
    let mask = c.args.mask.now in
    let column = c.args.column.now in
    let values = c.values.result.now in
    let n = c.count-count.result in
    let now : List Bool = c.narrow_values.new.mask in
    let behind : List Bool = c.split_at_mut-front.result.1.now in
    let gathered = c.split_at_mut-front.ensures.front ∙ c.gather.ensures ∙ ap (λ (l : List Bool). kept l mask) c.present.ensures in
    let len : length now ≡ n = c.narrow_values.auto.mask ∙ c.split_at_mut-front.ensures.front_len in
    let front : take n (now ++ behind) ≡ now = rw (← len) (take-append_seam now behind) in
    c.scatter.ensures
    ∙ ap (λ (l : List Bool). scattered l (take n (now ++ behind))) c.present-2.ensures
    ∙ ap (λ (l : List Bool). scattered (present_of column) l) (front ∙ c.narrow_values.ensures ∙ ap (λ (l : List Bool). both l (map asked (values_in values))) gathered)
    ∙ checked_column asked refl mask column values c.requires.rows c.values.ensures.count c.values.ensures.values
