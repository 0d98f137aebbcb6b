use Rattle.group_counts.specs.Entries.{Entries, by_bytes, some_fits, all_fit}
use Rattle.group_counts.proofs.Fitting.{all_fit-kinds, all_fit-renamed}
use Rattle.std.proofs.Common.{◌∙◌, ◌&&◌, Bool, ap, sym}
use Rattle.group_counts.proofs.counts.Counts.all_fit.Goals as goal

pub returns : goal.returns
returns c =
    let f = c.self.inside in
    rw (c.fits.ensures, c.fits-2.ensures, c.fits-3.ensures, c.numbers_fit.ensures, c.texts_fit.ensures)
    (ap (λ (b : Bool). (((some_fits f.nulls && some_fits f.falses) && some_fits f.trues) && all_fit f.numbers.entries) && b) (sym (all_fit-renamed (λ k. k.items) f.texts.entries))
    ∙ all_fit-kinds f.nulls f.falses f.trues f.numbers.entries (by_bytes f.texts.entries) ∙ ap (λ (s : Entries). all_fit s) c.self.view_is)
