use Rattle.std.proofs.Common.{◌≡◌, ◌∙◌, ◌++◌, ◌∷◌, [], List, ℕ, Bool, length, take, subst, sym, ap, if◌then◌else◌, rules}
use Rattle.std.proofs.lemmas.List.{append-nil}
use Rattle.orc_values.specs.Texts.{last_end, texts_from, AreEnds}
use Rattle.orc_values.proofs.Places.{texts_kept, ends_kept, text_added, ends_added}
use Rattle.orc_values.proofs.texts.Texts.push.Goals as goal

-- what stands after the bytes were cut
cut : (ends bytes new : List ℕ) (end : ℕ) → end ≡ last_end 0 ends → new ≡ take end bytes → new ≡ take (last_end 0 ends) bytes ++ []
cut ends bytes new end is e = e ∙ ap (λ (n : ℕ). take n bytes) is ∙ sym (append-nil (take (last_end 0 ends) bytes))

choice : {X : Type 0} (x y : X) (b c : Bool) → b ≡ c → (if b then x else y) ≡ (if c then x else y)
choice {X} x y b c e = ap (λ (t : Bool). if t then x else y) e

pub invariant_of-self : goal.invariant_of-self
invariant_of-self c =
    let s = c.self.inside in
    let end : c.start_of-end.result ≡ last_end 0 s.ends.items = search rules in
    let kept : c.extend_from_slice.new.self.items ≡ c.truncate.new.self.items = search rules in
    let is = cut s.ends.items s.bytes.items c.extend_from_slice.new.self.items c.start_of-end.result end (kept ∙ c.truncate.ensures.items) in
    let P : List ℕ → Type 0 = λ l. AreEnds 0 s.ends.items (length l) in
    subst P (sym is) (ends_kept s.ends.items s.bytes.items [] c.self.invariant)

pub returns-then-is_err-clause-err : goal.returns-then-is_err-clause-err
returns-then-is_err-clause-err c =
    let s = c.self.inside in
    let end : c.start_of-end.result ≡ last_end 0 s.ends.items = search rules in
    let kept : c.extend_from_slice.new.self.items ≡ c.truncate.new.self.items = search rules in
    let is = cut s.ends.items s.bytes.items c.extend_from_slice.new.self.items c.start_of-end.result end (kept ∙ c.truncate.ensures.items) in
    ap (texts_from 0 s.ends.items) is ∙ texts_kept s.ends.items s.bytes.items [] c.self.invariant ∙ c.self.view_is

pub invariant_of-self-then-is_err-2 : goal.invariant_of-self-then-is_err-2
invariant_of-self-then-is_err-2 c =
    let s = c.self.inside in
    let text = c.args.text.now in
    let end : c.start_of-end.result ≡ last_end 0 s.ends.items = search rules in
    let grown : c.extend_from_slice.new.self.items ≡ c.truncate.new.self.items ++ text = search rules in
    let is : c.extend_from_slice.new.self.items ≡ take (last_end 0 s.ends.items) s.bytes.items ++ text =
    grown ∙ ap (λ (l : List ℕ). l ++ text) c.truncate.ensures.items ∙ ap (λ (n : ℕ). take n s.bytes.items ++ text) end in
    let same : c.push.new.self.items ≡ s.ends.items = search rules in
    let P : List ℕ → Type 0 = λ l. AreEnds 0 s.ends.items (length l) in
    let Q : List ℕ → Type 0 = λ l. AreEnds 0 l (length c.extend_from_slice.new.self.items) in
    subst Q (sym same) (subst P (sym is) (ends_kept s.ends.items s.bytes.items text c.self.invariant))

pub returns-then-is_err-2-clause-err : goal.returns-then-is_err-2-clause-err
returns-then-is_err-2-clause-err c =
    let s = c.self.inside in
    let text = c.args.text.now in
    let end : c.start_of-end.result ≡ last_end 0 s.ends.items = search rules in
    let grown : c.extend_from_slice.new.self.items ≡ c.truncate.new.self.items ++ text = search rules in
    let is : c.extend_from_slice.new.self.items ≡ take (last_end 0 s.ends.items) s.bytes.items ++ text =
    grown ∙ ap (λ (l : List ℕ). l ++ text) c.truncate.ensures.items ∙ ap (λ (n : ℕ). take n s.bytes.items ++ text) end in
    let same : c.push.new.self.items ≡ s.ends.items = search rules in
    ap (λ (l : List ℕ). texts_from 0 l c.extend_from_slice.new.self.items) same
    ∙ ap (texts_from 0 s.ends.items) is ∙ texts_kept s.ends.items s.bytes.items text c.self.invariant ∙ c.self.view_is

pub invariant_of-self-2 : goal.invariant_of-self-2
invariant_of-self-2 c =
    let s = c.self.inside in
    let text = c.args.text.now in
    let end : c.start_of-end.result ≡ last_end 0 s.ends.items = search rules in
    let grown : c.extend_from_slice.new.self.items ≡ c.truncate.new.self.items ++ text = search rules in
    let is : c.extend_from_slice.new.self.items ≡ take (last_end 0 s.ends.items) s.bytes.items ++ text =
    grown ∙ ap (λ (l : List ℕ). l ++ text) c.truncate.ensures.items ∙ ap (λ (n : ℕ). take n s.bytes.items ++ text) end in
    let len : c.len-end.result ≡ length c.extend_from_slice.new.self.items = search rules in
    let more : c.push.new.self.items ≡ s.ends.items ++ c.len-end.result ∷ [] = search rules in
    let P : List ℕ → Type 0 = λ l. AreEnds 0 (s.ends.items ++ length l ∷ []) (length l) in
    let Q : List ℕ → Type 0 = λ l. AreEnds 0 l (length c.extend_from_slice.new.self.items) in
    subst Q (sym (more ∙ ap (λ (n : ℕ). s.ends.items ++ n ∷ []) len)) (subst P (sym is) (ends_added s.ends.items s.bytes.items text c.self.invariant))

pub returns-clause-ok : goal.returns-clause-ok
returns-clause-ok c =
    let s = c.self.inside in
    let text = c.args.text.now in
    let end : c.start_of-end.result ≡ last_end 0 s.ends.items = search rules in
    let grown : c.extend_from_slice.new.self.items ≡ c.truncate.new.self.items ++ text = search rules in
    let is : c.extend_from_slice.new.self.items ≡ take (last_end 0 s.ends.items) s.bytes.items ++ text =
    grown ∙ ap (λ (l : List ℕ). l ++ text) c.truncate.ensures.items ∙ ap (λ (n : ℕ). take n s.bytes.items ++ text) end in
    let len : c.len-end.result ≡ length c.extend_from_slice.new.self.items = search rules in
    let more : c.push.new.self.items ≡ s.ends.items ++ c.len-end.result ∷ [] = search rules in
    ap (λ (l : List ℕ). texts_from 0 l c.extend_from_slice.new.self.items) (more ∙ ap (λ (n : ℕ). s.ends.items ++ n ∷ []) len)
    ∙ ap (λ (l : List ℕ). texts_from 0 (s.ends.items ++ length l ∷ []) l) is
    ∙ text_added s.ends.items s.bytes.items text c.self.invariant
    ∙ ap (λ (l : List (List ℕ)). l ++ text ∷ []) c.self.view_is
