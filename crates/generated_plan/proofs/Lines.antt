-- Lines that are written one by one.
use Rattle.std.proofs.Common.{◌≡◌, ℕ, List, [], ◌∷◌, ◌++◌, ◌+◌, codes, refl, sym, ap, ◌∙◌, append_assoc, append-nil}
use Rattle.std.specs.Fmt.{decimal}
use Rattle.generated_plan.specs.Text.{file_name, generated_plan, text_of}

-- a line more
text_of-more : (lines : List (List ℕ)) (line : List ℕ) → text_of (lines ++ line ∷ []) ≡ text_of lines ++ (line ++ 10 ∷ [])
text_of-more [] line = refl
text_of-more (first ∷ lines) line =
    ap (λ (text : List ℕ). first ++ 10 ∷ text) (text_of-more lines line) ∙ sym (append_assoc first (10 ∷ text_of lines) (line ++ 10 ∷ []))

pieces : (text front file back end : List ℕ) → text ++ front ++ file ++ back ++ end ≡ text ++ ((front ++ (file ++ back)) ++ end)
pieces text front file back end =
    append_assoc (text ++ front ++ file) back end ∙ append_assoc (text ++ front) file (back ++ end) ∙ append_assoc text front (file ++ (back ++ end))
    ∙ ap (λ (rest : List ℕ). text ++ rest) (ap (λ (rest : List ℕ). front ++ rest) (sym (append_assoc file back end)) ∙ sym (append_assoc front (file ++ back) end))

-- a line of three pieces
pub line_added : (lines : List (List ℕ)) (old new front file back : List ℕ) → new ≡ old ++ front ++ file ++ back ++ 10 ∷ [] → old ≡ text_of lines
    → new ≡ text_of (lines ++ (front ++ (file ++ back)) ∷ [])
line_added lines old new front file back e is =
    e ∙ ap (λ (text : List ℕ). text ++ front ++ file ++ back ++ 10 ∷ []) is ∙ pieces (text_of lines) front file back (10 ∷ [])
    ∙ sym (text_of-more lines (front ++ (file ++ back)))

-- ---- the plan's lines

-- as they are written, of three pieces each
abbrev pub written_lines : List ℕ → List ℕ → List ℕ → List (List ℕ)
written_lines file thousand three =
    (codes "n count from " ++ (file ++ []))
    ∷ (codes "s sum id from " ++ (file ++ []))
    ∷ (codes "q sum qty from " ++ (file ++ []))
    ∷ codes "m merge s,q"
    ∷ (codes "g group city from " ++ (file ++ []))
    ∷ (codes "f count from " ++ (file ++ thousand))
    ∷ (codes "r rows id,note from " ++ (file ++ three))
    ∷ []

pub plan_written : (number rows : ℕ) (file thousand three text : List ℕ) → file ≡ file_name number rows
    → thousand ≡ codes " where even = true and id < " ++ decimal (number + 1000) → three ≡ codes " where id < " ++ decimal (number + 3)
    → text ≡ text_of (written_lines file thousand three) → text ≡ generated_plan number rows
unfolding generated_plan
plan_written number rows file thousand three text named first second is =
    is ∙ ap (λ (f : List ℕ). text_of ((codes "n count from " ++ f) ∷ (codes "s sum id from " ++ f) ∷ (codes "q sum qty from " ++ f) ∷ codes "m merge s,q"
    ∷ (codes "g group city from " ++ f) ∷ (codes "f count from " ++ (file ++ thousand)) ∷ (codes "r rows id,note from " ++ (file ++ three)) ∷ [])) (append-nil file)
    ∙ ap (λ (f : List ℕ). text_of ((codes "n count from " ++ f) ∷ (codes "s sum id from " ++ f) ∷ (codes "q sum qty from " ++ f) ∷ codes "m merge s,q"
    ∷ (codes "g group city from " ++ f) ∷ (codes "f count from " ++ (f ++ thousand)) ∷ (codes "r rows id,note from " ++ (f ++ three)) ∷ [])) named
    ∙ ap (λ (t : List ℕ). text_of ((codes "n count from " ++ file_name number rows) ∷ (codes "s sum id from " ++ file_name number rows)
    ∷ (codes "q sum qty from " ++ file_name number rows) ∷ codes "m merge s,q" ∷ (codes "g group city from " ++ file_name number rows)
    ∷ (codes "f count from " ++ (file_name number rows ++ t)) ∷ (codes "r rows id,note from " ++ (file_name number rows ++ three)) ∷ [])) first
    ∙ ap (λ (t : List ℕ). text_of ((codes "n count from " ++ file_name number rows) ∷ (codes "s sum id from " ++ file_name number rows)
    ∷ (codes "q sum qty from " ++ file_name number rows) ∷ codes "m merge s,q" ∷ (codes "g group city from " ++ file_name number rows)
    ∷ (codes "f count from " ++ (file_name number rows ++ (codes " where even = true and id < " ++ decimal (number + 1000))))
    ∷ (codes "r rows id,note from " ++ (file_name number rows ++ t)) ∷ [])) second
