-- Runs that are written one after the other spell the joined values. Source: this project's own.
use Rattle.std.specs.Prelude.{◌≡◌, ℕ, ◌+◌, ◌<◌, ◌≤◌, List, [], ◌++◌, length, take, drop, slice_range}
use Rattle.std.proofs.Common.{arith, sym, ap, subst, ◌∙◌, length-append, append_assoc, append-nil, length-drop}
use Rattle.std.proofs.Math.Seq.{take-add, take-length}
use Rattle.std.proofs.lemmas.List.{length-take-le}
use Rattle.outside.specs.Runs.{Joined, none, one, Fewest, no_run, runs, Spells}
use Rattle.rle_writer.specs.Written.{AddsRun, Written}

-- what is left from a place on
rest_is : {V : Type 0} (values : List V) (at : ℕ) → slice_range values at (length values) ≡ drop at values
rest_is values at = ap (λ (n : ℕ). take n (drop at values)) (sym (length-drop at values)) ∙ take-length (drop at values)

module _ {V : Type 0} (Run : List ℕ → List V → Type 0) where
  pub Joined-one : (bytes : List ℕ) (values : List V) → Run bytes values → Joined Run bytes values
  Joined-one bytes values run =
      let whole : Joined Run (bytes ++ []) (values ++ []) = one run none in
      subst (λ (l : List V). Joined Run bytes l) (append-nil values)
      (subst (λ (l : List ℕ). Joined Run l (values ++ [])) (append-nil bytes) whole)

  pub Joined-then : {front back : List ℕ} {values others : List V} → Joined Run front values → Joined Run back others
      → Joined Run (front ++ back) (values ++ others)
  Joined-then none more = more
  Joined-then {front = _} {back = back} {values = _} {others = after}
      (one {bytes = bytes} {more = rest} {values = first} {others = others} run joined) more =
      let whole : Joined Run (bytes ++ (rest ++ back)) (first ++ (others ++ after)) = one run (Joined-then joined more) in
      subst (λ (l : List V). Joined Run (bytes ++ rest ++ back) l) (sym (append_assoc first others after))
      (subst (λ (l : List ℕ). Joined Run l (first ++ (others ++ after))) (sym (append_assoc bytes rest back)) whole)

  pub Written-none : Written Run [] []
  Written-none = record { joined = none; fewest = no_run }

  -- one run more, which isn't empty
  pub Written-more : (stream bytes : List ℕ) (values more : List V) → Written Run stream values → Run bytes more
      → 0 < length more → Written Run (stream ++ bytes) (values ++ more)
  Written-more stream bytes values more written run some =
      let longer : length values < length (values ++ more) = omega (arith, length-append values more) in
      let all : length (values ++ more) ≤ length (values ++ more) = omega arith in
      record { joined = Joined-then written.joined (Joined-one bytes more run); fewest = runs written.joined longer run all }

  -- the stream spells the values, and nothing is left
  pub Written-spells : (stream : List ℕ) (values : List V) → Written Run stream values → Spells Run stream values []
  Written-spells stream values written = (
    [],
    record {
      used = stream;
      parts = sym (append-nil stream);
      fewest = subst (λ (l : List V). Fewest Run (length values) stream l) (sym (append-nil values)) written.fewest;
    },
  )

  -- a step of a writer that goes over values, run by run
  pub Written-step : (before after : List ℕ) (values : List V) (at count : ℕ) → at ≤ length values
      → Written Run before (take at values) → AddsRun Run before after (slice_range values at (length values)) count
      → (at + count ≤ length values) × Written Run after (take (at + count) values)
  Written-step before after values at count within written adds =
      let rest : slice_range values at (length values) ≡ drop at values = rest_is values at in
      let bytes = adds.2.0 in
      let more = take count (drop at values) in
      let most : count ≤ length (drop at values) = omega (arith, adds.1, ap length rest) in
      let some : 0 < length more = omega (arith, adds.0, length-take-le count (drop at values) most) in (
        omega (arith, most, length-drop at values),
        subst (λ (l : List V). Written Run after l) (sym (take-add at count values))
            (subst (λ (l : List ℕ). Written Run l (take at values ++ more)) (sym adds.2.1)
            (Written-more before bytes (take at values) more written
            (subst (λ (l : List V). Run bytes (take count l)) rest adds.2.2) some)),
      )

  -- and its end
  pub Written-all : (stream : List ℕ) (values : List V) (at : ℕ) → at ≤ length values → length values ≤ at
      → Written Run stream (take at values) → Spells Run stream values []
  Written-all stream values at within end written =
      let all : at ≡ length values = omega arith in
      Written-spells stream values
      (subst (λ (l : List V). Written Run stream l) (ap (λ (n : ℕ). take n values) all ∙ take-length values) written)
