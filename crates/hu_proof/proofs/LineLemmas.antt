-- The check of a line by the places of its prefix is that by all records.
use Rattle.std.proofs.Common.{◌≡◌, ℕ, true, false, ℤ, Option, None, Some, option_map, List, [], ◌∷◌, refl, sym, ap, ◌∙◌, subst, inl, inr, ◌⊎◌}
use Rattle.std.specs.List.{AllByRecursion}
use Rattle.std.specs.Prelude.{Result}
use Rattle.std.specs.Ordering.{int_eq}
use Rattle.std.specs.Str.{bytes_eq}
use Rattle.std.proofs.lemmas.Bool.{false_from_ne_true}
use Rattle.std.proofs.lemmas.Bool.Decides.{Decides-int_eq}
use Rattle.hu_kind.specs.First.{first_some}
use Rattle.hu_kind.proofs.lemmas.FirstLemmas.{first_skip, first_alone}
use Rattle.hu_kind.proofs.lemmas.Members.{Member}
use Rattle.hu_proof.specs.declared.token.Token.{Token}
use Rattle.hu_proof.specs.declared.fault.CheckFault.{CheckFault}
use Rattle.hu_proof.specs.Check.{Node, prefix_fault, utility_fault, child_fault, wrong_child}
use Rattle.hu_proof.specs.Judged.{token_items, Judges, line_fault_at, children_fault_at}
use Rattle.hu_proof.specs.Places.{Follows, IsOneOf, PlaceOf, earned}
use Rattle.hu_proof.specs.Text.{Said, each, plain_item, token_of, words, said_of}
use Rattle.hu_proof.specs.Words.{IsLine, are_those, told}
use Rattle.hu_proof.proofs.Orders.{each-follows}

each-items : (P : ℕ → Type 0) (tokens : List Token) → AllByRecursion P (token_items tokens) → AllByRecursion (λ token. P token.item.0) tokens
each-items P [] all = tt
each-items P (token ∷ tokens) all = (all.0, each-items P tokens all.1)

pub each-tokens : (later : List ℕ) (tokens : List Token) → Follows later (token_items tokens) → AllByRecursion (λ token. IsOneOf token.item.0 later) tokens
each-tokens later tokens f = each-items (λ x. Member x later) tokens (each-follows later (token_items tokens) f)

-- ---- the first of several faults

pub judges-last : {T : Type 0} (r : Result T CheckFault) (a b c : Option CheckFault) → a ≡ None → b ≡ None → Judges r c
    → Judges r (first_some (a ∷ b ∷ c ∷ []))
judges-last r a b c ea eb j =
    let same : first_some (a ∷ b ∷ c ∷ []) ≡ c = first_skip a (b ∷ c ∷ []) ea ∙ (first_skip b (c ∷ []) eb ∙ first_alone c) in
    subst (Judges r) (sym same) j

are_those-told : (said : Option (List ℕ)) (items : List ℕ) → are_those said items ≡ true → bytes_eq (told said) items ≡ true
are_those-told None items h = cc
are_those-told (Some xs) items h = h

-- where the prefix is right, and the utility and the order of the tokens, the fault is that of the tokens
pub fault-children : (least : ℤ) (line : ℕ) (node : Node) (places : List PlaceOf) (text prefix tokens : List ℕ) (utility : ℤ)
    → IsLine text prefix utility tokens
    → are_those (each plain_item (words prefix)) node.prefix ≡ true → utility_fault line utility (earned places) ≡ None
    → option_map (λ item. CheckFault.WrongChild line (record { 0 = item })) (wrong_child node.later (told (each token_of (words tokens)))) ≡ None
    → line_fault_at least line node places (said_of text) ≡ children_fault_at least line node.later places (told (each token_of (words tokens)))
fault-children least line node places text prefix tokens utility l those sums ordered =
    let said : Said = record { prefix = told (each plain_item (words prefix)); utility = utility; tokens = told (each token_of (words tokens)) } in
    let right : prefix_fault line node said ≡ None = rw (are_those-told (each plain_item (words prefix)) node.prefix those) refl in
    let deep = children_fault_at least line node.later places said.tokens in
    ap (line_fault_at least line node places) l.is
    ∙ (first_skip (prefix_fault line node said) (utility_fault line utility (earned places) ∷ child_fault line node said ∷ deep ∷ []) right
    ∙ (first_skip (utility_fault line utility (earned places)) (child_fault line node said ∷ deep ∷ []) sums
    ∙ (first_skip (child_fault line node said) (deep ∷ []) ordered ∙ first_alone deep)))

-- where the prefix is right and the utility isn't, that is the fault
pub fault-utility : (least : ℤ) (line : ℕ) (node : Node) (places : List PlaceOf) (text prefix tokens : List ℕ) (utility summed : ℤ)
    → IsLine text prefix utility tokens
    → are_those (each plain_item (words prefix)) node.prefix ≡ true → earned places ≡ summed → (utility ≡ summed → ⊥)
    → line_fault_at least line node places (said_of text) ≡ Some (CheckFault.WrongUtility line utility summed)
fault-utility least line node places text prefix tokens utility summed l those is other =
    let said : Said = record { prefix = told (each plain_item (words prefix)); utility = utility; tokens = told (each token_of (words tokens)) } in
    let right : prefix_fault line node said ≡ None = rw (are_those-told (each plain_item (words prefix)) node.prefix those) refl in
    let deep = children_fault_at least line node.later places said.tokens in
    let wrong : int_eq utility summed ≡ false =
    false_from_ne_true (int_eq utility summed) (λ same. other ((Decides-int_eq utility summed).0 same)) in
    let fault : utility_fault line utility summed ≡ Some (CheckFault.WrongUtility line utility summed) = rw wrong refl in
    let rest = child_fault line node said ∷ deep ∷ [] in
    ap (line_fault_at least line node places) l.is
    ∙ first_skip (prefix_fault line node said) (utility_fault line utility (earned places) ∷ rest) right
    ∙ ap (λ z. first_some (utility_fault line utility z ∷ rest)) is
    ∙ ap (λ f. first_some (f ∷ rest)) fault

pub judged-same : (e : CheckFault) (a b : Option CheckFault) → a ≡ b → (e ≡ CheckFault.NoMemory) ⊎ (b ≡ Some e) → (e ≡ CheckFault.NoMemory) ⊎ (a ≡ Some e)
judged-same e a b same (inl memory) = inl memory
judged-same e a b same (inr fault) = inr (same ∙ fault)

pub utility-right : (line : ℕ) (stated summed : ℤ) → stated ≡ summed → utility_fault line stated summed ≡ None
utility-right line stated summed e = let same : int_eq stated summed ≡ true = (Decides-int_eq stated summed).1 e in rw same refl
