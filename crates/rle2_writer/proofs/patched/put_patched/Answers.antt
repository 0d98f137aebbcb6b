use Rattle.std.proofs.Common.{◌≡◌, ℕ, ◌+◌, ◌^◌, ◌<◌, ◌≤◌, List, ◌++◌, length, take, get_or, sym, ap, subst, ◌∙◌, arith}
use Rattle.std.proofs.lemmas.List.{length-take-le}
use Rattle.orc_rle2.specs.Widths.{width_of, least_width}
use Rattle.rle_writer.specs.Written.{Adds}
use Rattle.rle2_writer.specs.Entries.{Entries}
use Rattle.rle2_writer.specs.Packs.{Packs}
use Rattle.rle2_writer.proofs.AllPatches.{low_bits, low_fits, entries_fit, fits_wider, all_fit}
use Rattle.rle2_writer.proofs.PatchedRun.{patched_run}
use Rattle.rle2_writer.proofs.patched.put_patched.Goals as goal

pub put_packed-requires-2-clause-fits : goal.put_packed-requires-2-clause-fits
put_packed-requires-2-clause-fits c k =
    let w = c.width_of-3.result in
    let same : w ≡ c.width_of-4.result = c.width_of-3.ensures.value ∙ sym c.width_of-4.ensures.value in
    subst (λ (n : ℕ). get_or c.write_low.new.into k 0 < 2 ^ n) same
    (subst (λ (l : List ℕ). get_or l k 0 < 2 ^ w) (sym c.write_low.ensures) (low_fits w c.write_above.new.into k))

pub put_packed-requires-3-clause-fits : goal.put_packed-requires-3-clause-fits
put_packed-requires-3-clause-fits c k =
    let list = take c.in-Some-write_entries.count c.write_entries.new.into in
    let same : c.width_of-5.result ≡ c.width_of-2.result = c.width_of-5.ensures.value ∙ sym c.width_of-2.ensures.value in
    fits_wider (get_or list k 0) (8 + c.width_of-2.result) c.least_width.result (entries_fit c.in-Some-write_entries.ensures.entries k) (omega (arith, same, c.least_width.ensures.holds))

pub returns-clause-done : goal.returns-clause-done
returns-clause-done c _ =
    let before = c.args.out.now.items in
    let numbers = c.write_above.new.into in
    let count = c.in-Some-write_entries.count in
    let list = take count c.write_entries.new.into in
    let code = c.args.patching.code in
    let patch = c.args.patching.patch in
    let listed_width : c.least_width.result ≡ least_width (8 + width_of patch) = c.least_width.ensures.value ∙ ap (λ (n : ℕ). least_width (8 + n)) c.width_of-5.ensures.value in
    let entries : Entries (width_of code) (width_of patch) 0 numbers list =
    subst (λ (n : ℕ). Entries (width_of code) n 0 numbers list) c.width_of-2.ensures.value
    (subst (λ (n : ℕ). Entries n c.width_of-2.result 0 numbers list) c.width_of.ensures.value c.in-Some-write_entries.ensures.entries) in
    let low_is : c.write_low.new.into ≡ low_bits (width_of code) numbers = c.write_low.ensures ∙ ap (λ (n : ℕ). low_bits n numbers) c.width_of-3.ensures.value in
    let narrow : width_of patch ≤ 56 = subst (λ (n : ℕ). n ≤ 56) c.width_of-2.ensures.value (c.width_of-2.ensures.narrow c.requires.patch) in
    let low : Adds (Packs (width_of code)) c.put_packed.new.out.items c.put_packed-2.new.out.items (low_bits (width_of code) numbers) =
    subst (λ (n : ℕ). Adds (Packs n) c.put_packed.new.out.items c.put_packed-2.new.out.items (low_bits (width_of code) numbers)) c.width_of-4.ensures.value
    (subst (λ (l : List ℕ). Adds (Packs c.width_of-4.result) c.put_packed.new.out.items c.put_packed-2.new.out.items l) low_is c.in_ok-put_packed-2.ensures) in
    let high : Adds (Packs (least_width (8 + width_of patch))) c.put_packed-2.new.out.items c.put_packed-3.new.out.items list =
    subst (λ (n : ℕ). Adds (Packs n) c.put_packed-2.new.out.items c.put_packed-3.new.out.items list) listed_width c.in_ok-put_packed-3.ensures in
    let same_len : length numbers ≡ length c.args.values.now = omega (arith, c.write_above.auto.into, c.split_at_mut-numbers.ensures.front_len) in
    let within : count ≤ length c.write_entries.new.into = omega (arith, c.in-Some-write_entries.ensures.within, c.write_entries.auto.into) in
    let few : count ≤ 31 = omega (arith, c.in-Some-write_entries.ensures.within) in
    let same : c.width_of-5.result ≡ c.width_of-2.result = c.width_of-5.ensures.value ∙ sym c.width_of-2.ensures.value in
    let list_fits : (k : ℕ) → get_or list k 0 < 2 ^ c.least_width.result = λ k. fits_wider (get_or list k 0) (8 + c.width_of-2.result) c.least_width.result (entries_fit c.in-Some-write_entries.ensures.entries k) (omega (arith, same, c.least_width.ensures.holds)) in
    let fit : (k : ℕ) → get_or list k 0 < 2 ^ least_width (8 + width_of patch) = λ k. subst (λ (n : ℕ). get_or list k 0 < 2 ^ n) listed_width (list_fits k) in
    patched_run c.args.signed before c.put.new.out.items c.put-2.new.out.items c.put_packed.new.out.items c.put_packed-2.new.out.items c.put_packed-3.new.out.items code patch c.in-Some.len count c.in-Some.number _ numbers list c.args.values.now c.requires.code c.requires.patch narrow (omega (arith, c.in-Some.ensures.len)) few c.requires.some c.requires.most
    same_len (length-take-le count c.write_entries.new.into within) (all_fit numbers c.numbers_fit.ensures) entries fit c.in-Some.ensures.base c.write_above.ensures
    (c.in_ok-put.ensures.ok ∙ ap (λ (l : List ℕ). before ++ l) c.header.ensures) c.in_ok-put-2.ensures.ok
    c.in_ok-put_packed.ensures low high
