use Rattle.std.proofs.Common.{◌≡◌, ℕ, zero, suc, ◌+◌, List, [], ◌∷◌, ◌++◌, refl, sym, ap, ◌∙◌, add-one, append_assoc}
use Rattle.pool_rule.specs.Rule.{released_words}
use Rattle.pool_rule.proofs.laid.push_released.Goals as goal

abbrev four : List ℕ
four = 8 ∷ (0 ∷ (0 ∷ (0 ∷ [])))

released_more : (n : ℕ) → released_words n ++ four ≡ released_words (suc n)
released_more zero = refl
released_more (suc n) = ap (λ (l : List ℕ). 8 ∷ (0 ∷ (0 ∷ (0 ∷ l)))) (released_more n)

pushed : (start a b c d e : List ℕ) (n : ℕ) → a ≡ start ++ released_words n → b ≡ a ++ 8 ∷ [] → c ≡ b ++ 0 ∷ [] → d ≡ c ++ 0 ∷ [] → e ≡ d ++ 0 ∷ [] → e ≡ start ++ released_words (n + 1)
pushed start a b c d e n p q r s t =
    let first : e ≡ (((a ++ 8 ∷ []) ++ 0 ∷ []) ++ 0 ∷ []) ++ 0 ∷ [] =
    t ∙ ap (λ (l : List ℕ). l ++ 0 ∷ []) (s ∙ ap (λ (l : List ℕ). l ++ 0 ∷ []) (r ∙ ap (λ (l : List ℕ). l ++ 0 ∷ []) q)) in
    let second : (((a ++ 8 ∷ []) ++ 0 ∷ []) ++ 0 ∷ []) ++ 0 ∷ [] ≡ a ++ four = simp append_assoc in
    let third : a ++ four ≡ start ++ released_words (suc n) =
    ap (λ (l : List ℕ). l ++ four) p ∙ (append_assoc start (released_words n) four ∙ ap (λ (l : List ℕ). start ++ l) (released_more n)) in
    let last : released_words (suc n) ≡ released_words (n + 1) = ap released_words (sym (add-one n)) in
    first ∙ (second ∙ (third ∙ ap (λ (l : List ℕ). start ++ l) last))

pub loop-preserved : goal.loop-preserved
loop-preserved c =
    pushed c.args.words.now.items c.loop.words.items c.push.new.self.items c.push-in-loop.new.self.items c.push-in-loop-2.new.self.items c.push-in-loop-3.new.self.items c.loop.counter c.loop.invariant c.in_ok-push.ensures.items c.in_ok-push-2.ensures.items c.in_ok-push-3.ensures.items c.in_ok-push-4.ensures.items
