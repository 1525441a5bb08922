-- What follows from what is known of a result.
use Rattle.std.specs.Prelude.{IfErr, IfOk, OnOk}
use Rattle.std.proofs.Common.{◌≡◌, Ok, Err, sym, subst}
use Rattle.std.specs.declared.result.Result.{Result}

pub if-ok : {T E : Type 0} {O P Q R S : T → Type 0} (r : Result T E) → IfOk r O → IfOk r P → IfOk r Q → IfOk r R
    → ((x : T) → O x → P x → Q x → R x → S x) → IfOk r S
if-ok (Ok x) o p q r follows = follows x o p q r
if-ok (Err e) o p q r follows = o

pub on-ok : {T E : Type 0} {P Q : Type 0} (r : Result T E) → OnOk r P → (P → Q) → OnOk r Q
on-ok (Ok x) p follows = follows p
on-ok (Err e) p follows = p

-- of a refusal that `?` hands on
pub refused-on : {T E : Type 0} (P : E → Type 0) (result : Result T E) (given handed : E) → result ≡ Err handed → handed ≡ given → P given → IfErr result P
refused-on P result given handed is same h = subst (λ r. IfErr r P) (sym is) (subst P (sym same) h)
