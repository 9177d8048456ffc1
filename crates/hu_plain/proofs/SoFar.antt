-- A search takes one part of its entries after another: what it has found so far.
use Rattle.std.proofs.Common.{◌≡◌, ℕ, ◌<◌, ◌≤◌, ◌+◌, List, [], ◌∷◌, ◌++◌, length, get_or, take, drop, sym, subst, inl, inr, ◌⊎◌, Contains}
use Rattle.std.proofs.lemmas.List.{take_all, take_more, take-append-drop}
use Rattle.std.proofs.lemmas.List.Elements.{Contains-get_or, Contains-append_left, Contains-push, Contains-push_cases}
use Rattle.hu_kind.specs.declared.entry.Entry.{Entry}
use Rattle.hu_collect.specs.State.{State, offered, IsInOrder, Reached, ReachedSome}
use Rattle.hu_collect.proofs.lemmas.Searching.{empty-contains, reached-in_order, reached-none, reached-one}
use Rattle.hu_collect.proofs.lemmas.Searching.{reached-both, reached-then, reached-as, some-reached, some-then}

-- an entry was offered, and then all that have a property
pub own-ordered : (old mid : State) (own : Entry) → mid ≡ offered old (own ∷ []) → IsInOrder mid
own-ordered old mid own is = reached-in_order (reached-one old own mid is)

module _ {P : Entry → Type 0} {old mid new : State} (own : Entry) where
  pub own-then : IsInOrder old → mid ≡ offered old (own ∷ []) → Reached mid P new → Reached old (λ e. (own ≡ e) ⊎ P e) new
  own-then ordered is found = reached-both {P = λ e. own ≡ e} {Q = P} ordered (reached-one old own mid is) found

  pub own-some : mid ≡ offered old (own ∷ []) → ReachedSome mid P new → ReachedSome old (λ e. (own ≡ e) ⊎ P e) new
  own-some is found =
      some-then {P = λ e. own ≡ e} {Q = P} {R = λ e. (own ≡ e) ⊎ P e} (λ e p. inl p) (λ e q. inr q) (reached-one old own mid is) found

-- an entry is of one of these parts, where E tells an entry of a part
pub record OfOne {S : Type 0} (E : S → Entry → Type 0) (parts : List S) (entry : Entry) : Type 0 where
  pub part : S
  pub among : Contains parts part
  pub is : E part entry

-- parts are the whole: an entry has a property just where it is of one of them
pub record AreWhole {S : Type 0} (E : S → Entry → Type 0) (P : Entry → Type 0) (parts : List S) : Type 0 where
  pub sound : (entry : Entry) → OfOne E parts entry → P entry
  pub complete : (entry : Entry) → P entry → OfOne E parts entry

-- all entries of the first parts that count were offered
pub record IsSoFar {S : Type 0} (E : S → Entry → Type 0) (P : Entry → Type 0) (old now : State) (parts : List S) (i : ℕ) : Type 0 where
  pub whole : AreWhole E P parts
  pub reached : Reached old (OfOne E (take i parts)) now

front : {S : Type 0} (i : ℕ) (ps : List S) (x : S) → Contains (take i ps) x → Contains ps x
front i ps x c = subst (λ xs. Contains xs x) (take-append-drop i ps) (Contains-append_left (take i ps) (drop i ps) x c)

module _ {S : Type 0} {E : S → Entry → Type 0} {P : Entry → Type 0} {parts : List S} where
  pub so_far-none : (s : State) → IsInOrder s → AreWhole E P parts → IsSoFar E P s s parts 0
  so_far-none s ordered whole = record {
    whole = whole;
    reached = reached-none {P = OfOne E (take 0 parts)} s ordered (λ e of pass high. empty-contains of.part of.among);
  }

  module _ {old now : State} {i : ℕ} (so_far : IsSoFar E P old now parts i) where
    sound-front : (entry : Entry) → OfOne E (take i parts) entry → P entry
    sound-front entry of =
        let whole = so_far.whole in
        whole.sound entry (record { part = of.part; among = front i parts of.part of.among; is = of.is })

    pub so_far-ordered : IsInOrder now
    so_far-ordered = reached-in_order so_far.reached

    -- want of memory between two parts
    pub so_far-stopped : ReachedSome old P now
    so_far-stopped = some-reached {P = OfOne E (take i parts)} {R = P} sound-front so_far.reached

    -- all parts have been taken
    pub so_far-all : length parts ≤ i → Reached old P now
    so_far-all past = reached-as {P = OfOne E (take i parts)} {R = P} sound-front
        (λ e p pass high. let whole = so_far.whole in subst (λ ps. OfOne E ps e) (sym (take_all i parts past)) (whole.complete e p))
        so_far.reached

    module _ (d : S) (within : i < length parts) where
      more : take (i + 1) parts ≡ take i parts ++ get_or parts i d ∷ []
      more = take_more parts i d within

      -- one part more
      pub so_far-next : {new : State} → IsInOrder old → Reached now (E (get_or parts i d)) new → IsSoFar E P old new parts (i + 1)
      so_far-next {new = new} ordered found = record {
        whole = so_far.whole;
        reached = subst (λ ps. Reached old (OfOne E ps) new) (sym more) (
            reached-then {P = OfOne E (take i parts)} {Q = E (get_or parts i d)} {R = OfOne E (take i parts ++ get_or parts i d ∷ [])} ordered
            (λ e of. record { part = of.part; among = Contains-append_left (take i parts) (get_or parts i d ∷ []) of.part of.among; is = of.is })
            (λ e is. record { part = get_or parts i d; among = Contains-push (take i parts) (get_or parts i d); is = is })
            (λ e of pass high. elim (Contains-push_cases (take i parts) (get_or parts i d) of.part of.among) [
              | inl before ↦ inl (record { part = of.part; among = before; is = of.is })
              | inr here ↦ inr (subst (λ s. E s e) (sym here) of.is)
            ])
            so_far.reached found);
      }

      -- want of memory within a part
      pub so_far-some : {new : State} → ReachedSome now (E (get_or parts i d)) new → ReachedSome old P new
      so_far-some found =
          some-then {P = OfOne E (take i parts)} {Q = E (get_or parts i d)} {R = P} sound-front
          (λ e is. let whole = so_far.whole in whole.sound e (record { part = get_or parts i d; among = Contains-get_or parts i d within; is = is }))
          so_far.reached found
