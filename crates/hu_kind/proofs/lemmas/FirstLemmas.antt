-- The first of options.
use Rattle.std.proofs.Common.{◌≡◌, Bool, true, false, Option, None, Some, List, [], ◌∷◌, ◌++◌, refl}
use Rattle.std.specs.Bool.{then_some}
use Rattle.std.specs.Option.{option_map}
use Rattle.hu_kind.specs.First.{first_some}

pub first_skip : {A : Type 0} (o : Option A) (os : List (Option A)) → o ≡ None → first_some (o ∷ os) ≡ first_some os
first_skip o os h = rw h refl

pub first_here : {A : Type 0} (o : Option A) (os : List (Option A)) (x : A) → o ≡ Some x → first_some (o ∷ os) ≡ Some x
first_here o os x h = rw h refl

pub first_alone : {A : Type 0} (o : Option A) → first_some (o ∷ []) ≡ o
first_alone None = refl
first_alone (Some x) = refl

pub first_later : {A : Type 0} (os more : List (Option A)) → first_some os ≡ None → first_some (os ++ more) ≡ first_some more
first_later [] more h = refl
first_later (None ∷ os) more h = first_later os more h
first_later (Some x ∷ os) more h = cc

pub first_before : {A : Type 0} (os more : List (Option A)) (x : A) → first_some os ≡ Some x → first_some (os ++ more) ≡ Some x
first_before [] more x h = cc
first_before (None ∷ os) more x h = first_before os more x h
first_before (Some y ∷ os) more x h = h

-- where no option is one of these, the first is none of them
module _ {A : Type 0} (test : A → Bool) where
  abbrev pub passes : Option A → Bool
  passes None = false
  passes (Some x) = test x

  abbrev pub NonePasses : List (Option A) → Type 0
  NonePasses [] = Unit {0}
  NonePasses (option ∷ options) = (passes option ≡ false) × NonePasses options

  pub passes-first : (options : List (Option A)) → NonePasses options → passes (first_some options) ≡ false
  passes-first [] none = refl
  passes-first (None ∷ options) none = passes-first options none.1
  passes-first (Some x ∷ options) none = none.0

  pub passes-then : (b : Bool) (x : A) → test x ≡ false → passes (then_some b x) ≡ false
  passes-then true x h = h
  passes-then false x h = refl

  pub passes-map : {B : Type 0} (f : B → A) (found : Option B) → ((y : B) → test (f y) ≡ false) → passes (option_map f found) ≡ false
  passes-map f None h = refl
  passes-map f (Some y) h = h y
