-- What holds of each element of a list.
use Rattle.std.proofs.Common.{ℕ, zero, suc, ◌<◌, List, [], ◌∷◌, ◌++◌, length, take, drop, get_or, arith, All, ◌≡◌, refl}
use Rattle.std.specs.List.{AllByRecursion}

-- what holds of all elements by their places holds of each
pub each-from_all : {A : Type 0} (P : A → Type 0) (xs : List A) → All P xs → AllByRecursion P xs
each-from_all P [] all = tt
each-from_all P (x ∷ xs) all = (all 0 x (omega arith), each-from_all P xs (λ k d within. all (suc k) d (omega arith)))

pub each-weaker : {A : Type 0} (P Q : A → Type 0) (xs : List A) → ((x : A) → P x → Q x) → AllByRecursion P xs → AllByRecursion Q xs
each-weaker P Q [] w all = tt
each-weaker P Q (x ∷ xs) w all = (w x all.0, each-weaker P Q xs w all.1)

-- what holds of each element of two lists
pub each-left : {A : Type 0} (P : A → Type 0) (xs ys : List A) → AllByRecursion P (xs ++ ys) → AllByRecursion P xs
each-left P [] ys all = tt
each-left P (x ∷ xs) ys all = (all.0, each-left P xs ys all.1)

pub each-right : {A : Type 0} (P : A → Type 0) (xs ys : List A) → AllByRecursion P (xs ++ ys) → AllByRecursion P ys
each-right P [] ys all = all
each-right P (x ∷ xs) ys all = each-right P xs ys all.1

pub each-append : {A : Type 0} (P : A → Type 0) (xs ys : List A) → AllByRecursion P xs → AllByRecursion P ys → AllByRecursion P (xs ++ ys)
each-append P [] ys all more = more
each-append P (x ∷ xs) ys all more = (all.0, each-append P xs ys all.1 more)

-- an element of a list has a fact of each
pub each-get : {A : Type 0} (P : A → Type 0) (xs : List A) (i : ℕ) (d : A) → AllByRecursion P xs → i < length xs → P (get_or xs i d)
each-get P [] i d all within = absurd (omega arith)
each-get P (x ∷ xs) zero d all within = all.0
each-get P (x ∷ xs) (suc i) d all within = each-get P xs i d all.1 (omega arith)

-- and of each element of its front and of its rest
pub each-take : {A : Type 0} (P : A → Type 0) (i : ℕ) (xs : List A) → AllByRecursion P xs → AllByRecursion P (take i xs)
each-take P zero xs all = tt
each-take P (suc i) [] all = tt
each-take P (suc i) (x ∷ xs) all = (all.0, each-take P i xs all.1)

pub each-drop : {A : Type 0} (P : A → Type 0) (i : ℕ) (xs : List A) → AllByRecursion P xs → AllByRecursion P (drop i xs)
each-drop P zero xs all = all
each-drop P (suc i) [] all = tt
each-drop P (suc i) (x ∷ xs) all = each-drop P i xs all.1

pub each-push : {A : Type 0} (P : A → Type 0) (xs : List A) (x : A) → AllByRecursion P xs → P x → AllByRecursion P (xs ++ x ∷ [])
each-push P xs x all one = each-append P xs (x ∷ []) all (one, tt)

-- within a list it is no matter what stands past its end
pub get_or-within : {A : Type 0} (xs : List A) (i : ℕ) (d e : A) → i < length xs → get_or xs i d ≡ get_or xs i e
get_or-within [] i d e within = absurd (omega arith)
get_or-within (x ∷ xs) zero d e within = refl
get_or-within (x ∷ xs) (suc i) d e within = get_or-within xs i d e (omega arith)
