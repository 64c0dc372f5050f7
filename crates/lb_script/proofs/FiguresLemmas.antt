-- Lemmas on texts that grow by their parts.
use Rattle.std.proofs.Common.{◌≡◌, ◌∙◌, ◌++◌, ℕ, List, [], ◌∷◌, append_assoc, append-nil, refl, sym, ap}
use Rattle.lb_health_core.specs.declared.targets.Target.{Target}
use Rattle.lb_script.specs.Texts.{target_text, targets_text}

-- one target more
pub targets_more : (ts : List Target) (t : Target) → targets_text (ts ++ t ∷ []) ≡ targets_text ts ++ target_text t
targets_more [] t = append-nil (target_text t)
targets_more (x ∷ ts) t = ap (λ more. target_text x ++ more) (targets_more ts t)
    ∙ sym (append_assoc (target_text x) (targets_text ts) (target_text t))

-- a text that grows by one target more
pub text_more : (old front : List ℕ) (text : List ℕ) (ts : List Target) (t : Target) → text ≡ old ++ (front ++ targets_text ts)
    → text ++ target_text t ≡ old ++ (front ++ targets_text (ts ++ t ∷ []))
text_more old front text ts t is =
    ap (λ x. x ++ target_text t) is ∙ append_assoc old (front ++ targets_text ts) (target_text t)
    ∙ ap (λ x. old ++ x) (append_assoc front (targets_text ts) (target_text t) ∙ ap (λ x. front ++ x) (sym (targets_more ts t)))

-- four words with a number each, one after the other
pub four_parts : (old t1 t2 t3 t4 a b c d e f g h : List ℕ) → t1 ≡ old ++ (a ++ b) → t2 ≡ t1 ++ (c ++ d) → t3 ≡ t2 ++ (e ++ f)
    → t4 ≡ t3 ++ (g ++ h) → t4 ≡ old ++ (a ++ b ++ c ++ d ++ e ++ f ++ g ++ h)
four_parts old t1 t2 t3 t4 a b c d e f g h one two three four = rw (four, three, two, one) (simp (append_assoc) refl)

-- three words with a text each, a fourth text and a fifth
pub five_parts : (old t1 t2 t3 t4 t5 a b c d e f g h : List ℕ) → t1 ≡ old ++ (a ++ b) → t2 ≡ t1 ++ (c ++ d) → t3 ≡ t2 ++ (e ++ f)
    → t4 ≡ t3 ++ g → t5 ≡ t4 ++ h → t5 ≡ old ++ (a ++ b ++ c ++ d ++ e ++ f ++ g ++ h)
five_parts old t1 t2 t3 t4 t5 a b c d e f g h one two three four five = rw (five, four, three, two, one) (simp (append_assoc) refl)
