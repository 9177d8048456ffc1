-- What passes a test, put in order: what stands there, and that it ascends.
use Rattle.std.proofs.Common.{◌≡◌, ◌↔◌, ℕ, ◌<◌, Bool, true, Option, List, length, get_or, filter}
use Rattle.std.specs.List.{Contains}
use Rattle.std.specs.declared.cmp.Ordering.{Ordering}
use Rattle.std.specs.declared.cmp.Ordering.TheVariants.{Less}
use Rattle.std.proofs.lemmas.Map.Keys.{Less-from_sorted}
use Rattle.hu_kind.specs.Order.{ranking, cut}
use Rattle.hu_kind.proofs.lemmas.Members.{Contains-from_member, Member-from_contains, Member-filter, Member-from_filter}
use Rattle.hu_kind.proofs.lemmas.RankingLemmas.{IsExactOrder}
use Rattle.hu_answer.proofs.lemmas.Fronts.{sorted-cut}
use Rattle.hu_answer.proofs.lemmas.Ranked.{Member-ranked, Member-from_ranked, sorted-ranked}

-- just what passes stands there
pub picked : {A : Type 0} (cmp : A → A → Ordering) → IsExactOrder cmp → (p : A → Bool) (xs : List A) (x : A)
    → Contains (ranking cmp (filter p xs)) x ↔ (Contains xs x × (p x ≡ true))
picked cmp e p xs x = (there, back)
  where
    there : Contains (ranking cmp (filter p xs)) x → Contains xs x × (p x ≡ true)
    there c =
        let from = Member-from_filter p x xs (Member-from_ranked cmp x (filter p xs) (Member-from_contains x _ c)) in
        (Contains-from_member x xs from.0, from.1)

    back : Contains xs x × (p x ≡ true) → Contains (ranking cmp (filter p xs)) x
    back h = Contains-from_member x _ (Member-ranked cmp e x (filter p xs) (Member-filter p x xs (Member-from_contains x xs h.0) h.1))

-- lists with the same members have the same ones that pass
pub picks-again : {A : Type 0} (p : A → Bool) (xs ys : List A) → ((x : A) → Contains xs x → Contains ys x)
    → (x : A) → Contains (filter p xs) x → Contains (filter p ys) x
picks-again p xs ys again x c =
    let from = Member-from_filter p x xs (Member-from_contains x _ c) in
    let stands = Member-from_contains x ys (again x (Contains-from_member x xs from.0)) in
    Contains-from_member x _ (Member-filter p x ys stands from.1)

-- each element comes before those after it
pub ranking_ascends : {A : Type 0} (cmp : A → A → Ordering) → IsExactOrder cmp → (top : Option ℕ) (xs : List A) (i j : ℕ) (d : A)
    → i < j → j < length (cut top (ranking cmp xs)) → cmp (get_or (cut top (ranking cmp xs)) i d) (get_or (cut top (ranking cmp xs)) j d) ≡ Less
ranking_ascends cmp e top xs i j d before within =
    Less-from_sorted cmp (cut top (ranking cmp xs)) i j d (sorted-cut cmp top (ranking cmp xs) (sorted-ranked cmp e xs)) before within
