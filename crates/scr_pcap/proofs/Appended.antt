-- Pieces that are appended one after another.
use Rattle.std.proofs.Common.{◌≡◌, ℕ, List, ◌++◌, ap, ◌∙◌, append_assoc}

pub two_appended : (old x y a b : List ℕ) → x ≡ old ++ a → y ≡ x ++ b → y ≡ old ++ (a ++ b)
two_appended old x y a b first second = second ∙ ap (λ (t : List ℕ). t ++ b) first ∙ append_assoc old a b

pub three_appended : (old x y z a b c : List ℕ) → x ≡ old ++ a → y ≡ x ++ b → z ≡ y ++ c → z ≡ old ++ (a ++ b ++ c)
three_appended old x y z a b c first second third = two_appended old y z (a ++ b) c (two_appended old x y a b first second) third

pub four_appended : (old w x y z a b c d : List ℕ) → w ≡ old ++ a → x ≡ w ++ b → y ≡ x ++ c → z ≡ y ++ d → z ≡ old ++ (a ++ b ++ c ++ d)
four_appended old w x y z a b c d first second third fourth =
    two_appended old y z (a ++ b ++ c) d (three_appended old w x y a b c first second third) fourth
