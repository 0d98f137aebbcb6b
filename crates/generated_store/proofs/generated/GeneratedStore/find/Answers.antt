use Rattle.std.proofs.Common.{◌≡◌, ℕ, List, length, Option, Some, sym, ◌∙◌, ap, subst}
use Rattle.std.proofs.lemmas.Slice.Eq.{bytes_eq-Decides}
use Rattle.outside.specs.Files.{file_named}
use Rattle.generated_store.specs.Made.{MadeOf}
use Rattle.generated_store.specs.Generated.{IsLast, made_number}
use Rattle.generated_store.proofs.Last.{found_last}
use Rattle.generated_store.proofs.generated.GeneratedStore.find.Goals as goal

pub returns-clause-found : goal.returns-clause-found
returns-clause-found g c files told =
    let made = c.in-Some.made in
    let last = subst (λ (kept : Option MadeOf). IsLast g.W.World.files kept) c.in-Some.is c.self.invariant in
    let same : c.name.result.now ≡ c.args.name.now = (bytes_eq-Decides c.name.result.now c.args.name.now).0 (sym c.eq.ensures ∙ c.if-eq.true) in
    ap (λ (bytes : List ℕ). Some (record { number = made_number; len = length bytes })) c.bytes.ensures.bytes
    ∙ found_last g.W.World.files made g.W.World.are_files last files told
    ∙ ap (λ (name : List ℕ). file_named name files) (sym c.name.ensures ∙ same)
