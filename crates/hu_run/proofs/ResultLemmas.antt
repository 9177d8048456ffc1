-- What is so of results and options.
use Rattle.std.proofs.Common.{◌≡◌, Result, Ok, Err, Option, Some, None, ap, sym, subst}
use Rattle.std.specs.Prelude.{IsErr, IsOkAnd, IfOk, IfErr, IfSome}
use Rattle.std.specs.Result.{result_err}

-- the result that has this error
pub err_of : {A E : Type 0} (r : Result A E) (e : E) → Some e ≡ result_err r → r ≡ Err e
err_of (Ok a) e is = cc
err_of (Err d) e is = let same : e ≡ d = cc in ap Err (sym same)

pub from_ok : {A E : Type 0} (r : Result A E) (P : A → Type 0) (Q : Type 0) → ((x : A) → P x → Q) → IsOkAnd r P → Q
from_ok (Ok x) P Q f p = f x p
from_ok (Err e) P Q f p = absurd p

pub and_ok : {A E : Type 0} (r : Result A E) (P Q : A → Type 0) → ((x : A) → P x → Q x) → IsOkAnd r P → IsOkAnd r Q
and_ok (Ok x) P Q f p = f x p
and_ok (Err e) P Q f p = absurd p

pub if_ok : {A E : Type 0} (r : Result A E) (P Q : A → Type 0) → ((x : A) → P x → Q x) → IsOkAnd r P → IfOk r Q
if_ok (Ok x) P Q f p = f x p
if_ok (Err e) P Q f p = tt

pub any_ok : {A E : Type 0} (r : Result A E) (Q : A → Type 0) → ((x : A) → Q x) → IfOk r Q
any_ok (Ok x) Q f = f x
any_ok (Err e) Q f = tt

pub no_ok : {A E : Type 0} (r : Result A E) (e : E) (Q : A → Type 0) → r ≡ Err e → IfOk r Q
no_ok r e Q is = subst (λ x. IfOk x Q) (sym is) tt

pub both_ok : {A E : Type 0} (r : Result A E) (P Q : A → Type 0) → ((x : A) → P x → Q x → ⊥) → IsOkAnd r P → IsOkAnd r Q → ⊥
both_ok (Ok x) P Q f p q = f x p q
both_ok (Err e) P Q f p q = p

pub ok_no_err : {A E : Type 0} (r : Result A E) (P : A → Type 0) → IsOkAnd r P → IsErr r → ⊥
ok_no_err (Ok x) P p err = cc
ok_no_err (Err e) P p err = p

pub if_err : {A E : Type 0} (r : Result A E) (P : A → Type 0) (Q : E → Type 0) → IsOkAnd r P → IfErr r Q
if_err (Ok x) P Q p = tt
if_err (Err e) P Q p = absurd p

pub if_some : {A : Type 0} (o : Option A) (P Q : A → Type 0) → ((x : A) → P x → Q x) → IfSome o P → IfSome o Q
if_some None P Q f p = tt
if_some (Some x) P Q f p = f x p

pub any_some : {A : Type 0} (o : Option A) (Q : A → Type 0) → ((x : A) → Q x) → IfSome o Q
any_some None Q f = tt
any_some (Some x) Q f = f x
