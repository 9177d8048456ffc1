-- Steps of the walk over what waits.
use Rattle.std.proofs.Common.{◌≡◌, ℕ, zero, suc, ◌+◌, ◌<◌, Bool, true, false, cond, Option, None, Some, List, [], ◌∷◌}
use Rattle.std.proofs.Common.{◌++◌, map, filter, length, take, drop, get_or, refl, sym, ap, ◌∙◌, subst, append_assoc}
use Rattle.std.specs.Prelude.{is_none, is_some}
use Rattle.std.proofs.lemmas.List.{map-append, reverse-append, drop_more}
use Rattle.hu_kind.specs.declared.item.Item.{Item}
use Rattle.hu_kind.proofs.lemmas.Each.{each-get}
use Rattle.hu_proof.specs.declared.token.Token.{Token}
use Rattle.hu_proof.specs.declared.walk.Waiting.{Waiting}
use Rattle.hu_proof.specs.Judged.{token_items}
use Rattle.hu_proof.specs.Places.{PlaceOf, Follows, IsOneOf, places_of}
use Rattle.hu_proof.specs.Waiting.{WaitingOf, waiting_of, stack_of, Steps, IsChild, AreChildren, open_items, PushesChildren}
use Rattle.hu_proof.specs.Words.{numbers_of}
use Rattle.hu_proof.proofs.LineLemmas.{each-tokens}

pub stack-push : (xs : List Waiting) (one : Waiting) → stack_of (xs ++ one ∷ []) ≡ waiting_of one ∷ stack_of xs
stack-push xs one = ap (map waiting_of) (reverse-append xs (one ∷ []))

numbers-take : (items : List Item) (n : ℕ) → numbers_of (take n items) ≡ take n (numbers_of items)
numbers-take items zero = refl
numbers-take [] (suc n) = refl
numbers-take (x ∷ xs) (suc n) = ap (λ ys. x.0 ∷ ys) (numbers-take xs n)

pub steps : (path path' : List Item) (old new : List Waiting) (one : Waiting) → old ≡ new ++ one ∷ [] → path' ≡ take one.depth path ++ one.item ∷ []
    → Steps (numbers_of path) (stack_of old) (numbers_of path') (stack_of new) one.node.from (places_of one.node.places.items)
steps path path' old new one popped pushed = record {
  one = waiting_of one;
  is = ap stack_of popped ∙ stack-push new one;
  leads = ap numbers_of pushed ∙ (map-append (λ (i : Item). i.0) (take one.depth path) (one.item ∷ [])
      ∙ ap (λ ys. ys ++ one.item.0 ∷ []) (numbers-take path one.depth));
  starts = refl;
  holds = refl;
}

-- ---- children that wait

AreChildren-append : (order : List ℕ) (depth from : ℕ) (places : List PlaceOf) (xs ys : List ℕ) (cs ds : List WaitingOf)
    → AreChildren order depth from places xs cs → AreChildren order depth from places ys ds
    → AreChildren order depth from places (xs ++ ys) (cs ++ ds)
AreChildren-append order depth from places [] ys [] ds a b = b
AreChildren-append order depth from places [] ys (c ∷ cs) ds a b = absurd a
AreChildren-append order depth from places (x ∷ xs) ys [] ds a b = absurd a
AreChildren-append order depth from places (x ∷ xs) ys (c ∷ cs) ds a b = (a.0, AreChildren-append order depth from places xs ys cs ds a.1 b)

open_items-cons : (token : Token) (tokens : List Token) → open_items (token ∷ tokens) ≡ open_items (token ∷ []) ++ open_items tokens
open_items-cons token tokens = by (is_none token.bound)
  where
    by : (b : Bool) → map (λ (t : Token). t.item.0) (cond b (token ∷ filter (λ t. is_none t.bound) tokens) (filter (λ t. is_none t.bound) tokens))
        ≡ map (λ (t : Token). t.item.0) (cond b (token ∷ []) []) ++ open_items tokens
    by true = refl
    by false = refl

pub pushes-more : (order : List ℕ) (depth from : ℕ) (places : List PlaceOf) (tokens : List Token) (i : ℕ) (d : Token) (old mid new : List WaitingOf)
    → i < length tokens
    → PushesChildren order depth from places (drop (i + 1) tokens) old mid → PushesChildren order depth from places (get_or tokens i d ∷ []) mid new
    → PushesChildren order depth from places (drop i tokens) old new
pushes-more order depth from places tokens i d old mid new within later first =
    let token = get_or tokens i d in
    let items = open_items-cons token (drop (i + 1) tokens) in
    let same : open_items (drop i tokens) ≡ open_items (token ∷ []) ++ open_items (drop (i + 1) tokens) =
    ap open_items (drop_more tokens i d within) ∙ items in (
      first.0 ++ later.0,
      subst (λ xs. AreChildren order depth from places xs (first.0 ++ later.0)) (sym same)
          (AreChildren-append order depth from places (open_items (token ∷ [])) (open_items (drop (i + 1) tokens)) first.0 later.0 first.1 later.1),
      first.2 ∙ (ap (λ s. first.0 ++ s) later.2 ∙ sym (append_assoc first.0 later.0 old)),
    )

pub pushes-one : (order : List ℕ) (depth from : ℕ) (places : List PlaceOf) (token : Token) (child : WaitingOf) (old new : List WaitingOf)
    → is_none token.bound ≡ true
    → IsChild order depth from places token.item.0 child → new ≡ child ∷ old → PushesChildren order depth from places (token ∷ []) old new
pushes-one order depth from places token child old new opened one pushed = (
  child ∷ [],
  subst (λ b. AreChildren order depth from places (map (λ (t : Token). t.item.0) (cond b (token ∷ []) [])) (child ∷ [])) (sym opened) (one, tt),
  pushed,
)

pub token-later : (later : List ℕ) (tokens : List Token) (i : ℕ) (d : Token) → Follows later (token_items tokens) → i < length tokens
    → IsOneOf (get_or tokens i d).item.0 later
token-later later tokens i d f within = each-get (λ (token : Token). IsOneOf token.item.0 later) tokens i d (each-tokens later tokens f) within

pub none-from_some : {A : Type 0} (o : Option A) → is_some o ≡ false → is_none o ≡ true
none-from_some None h = refl
none-from_some (Some x) h = cc
