-- Four texts that are appended one after the other are appended as one.
use Rattle.std.proofs.Common.{◌≡◌, ℕ, List, ◌++◌, decimal, ap, ◌∙◌, append_assoc}

pub two_appended : (old x y one all : List ℕ) → one ≡ old ++ x → all ≡ one ++ y → all ≡ old ++ (x ++ y)
two_appended old x y one all first second = second ∙ ap (λ text. text ++ y) first ∙ append_assoc old x y

pub four_appended : (old x y z w one two three all : List ℕ) → one ≡ old ++ x → two ≡ one ++ y → three ≡ two ++ z → all ≡ three ++ w
    → all ≡ old ++ (x ++ (y ++ (z ++ w)))
four_appended old x y z w one two three all first second third fourth =
    two_appended old x (y ++ (z ++ w)) one all first
    (two_appended one y (z ++ w) two all second (two_appended two z w three all third fourth))

-- what is appended is the count itself
pub count_appended : (old counted all : List ℕ) (n m : ℕ) → all ≡ old ++ (counted ++ decimal n) → n ≡ m → all ≡ old ++ (counted ++ decimal m)
count_appended old counted all n m appended same = appended ∙ ap (λ (k : ℕ). old ++ (counted ++ decimal k)) same

pub five_appended : (old x y z w u one two three four all : List ℕ) → one ≡ old ++ x → two ≡ one ++ y → three ≡ two ++ z → four ≡ three ++ w
    → all ≡ four ++ u → all ≡ old ++ (x ++ (y ++ (z ++ (w ++ u))))
five_appended old x y z w u one two three four all first second third fourth fifth =
    two_appended old x (y ++ (z ++ (w ++ u))) one all first (four_appended one y z w u two three four all second third fourth fifth)
