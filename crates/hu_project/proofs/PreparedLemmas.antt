-- What is open of a set whose children were offered.
use Rattle.std.proofs.Common.{◌≡◌, ℕ, ◌<◌, ℤ, int_le, List, [], ◌∷◌, length, refl, sym, ap, ◌∙◌, subst, arith, Contains, ◌⊎◌, inl, inr}
use Rattle.std.specs.List.{AllByRecursion, filter, flat_map}
use Rattle.hu_kind.proofs.lemmas.Each.{each-right}
use Rattle.hu_kind.proofs.lemmas.Members.{Member-map, Contains-from_member}
use Rattle.hu_kind.proofs.lemmas.Occurring.{by_members}
use Rattle.hu_totals.specs.Ranked.{Ranking}
use Rattle.hu_collect.specs.State.{State, floor_in, IsInOrder, Reached, ReachedSome}
use Rattle.hu_collect.proofs.lemmas.Searching.{reached-rule, reached-floor}
use Rattle.hu_rows.specs.declared.tally.Tally.{Tally}
use Rattle.hu_rows.specs.Rows.{RowOf, count_over}
use Rattle.hu_rows.specs.Handed.{reaches, narrowed}
use Rattle.hu_totals.specs.View.{lists_in}
use Rattle.hu_rows.proofs.lemmas.Counted.{count-narrower}
use Rattle.hu_search.specs.declared.child.Child.{Child}
use Rattle.hu_search.specs.Growth.{Grows}
use Rattle.hu_search.specs.Children.{ranks_of, AreEnough, IsOneOf, AreOpen, Fall}
use Rattle.hu_search.proofs.lemmas.Children.{upto-none, upto-stopped}
use Rattle.hu_project.specs.declared.level.Open.{Open}
use Rattle.hu_project.specs.Children.{child_if}
use Rattle.hu_project.specs.Level.{IsAfter, IsLevel, IsNarrow, AreTold, AreHanded, IsChoice, IsPrepared}
use Rattle.hu_project.proofs.LevelLemmas.{enough-children, is-kept, IsNarrow-narrowed, IsNarrow-none, AreOpen-none, AreOpen-chosen, from-open}

-- want of memory once the children were offered
pub some-offers : {s t : State} (r : Ranking) (set ranks : List ℕ) → Reached s (IsOneOf r set ranks) t → ReachedSome s (Grows r set) t
some-offers r set ranks first = upto-stopped r set ranks [] 0 (upto-none r set ranks [] first)

-- the children of a set were offered, and those are kept whose bound reaches a floor
pub record AreOffered (s t : State) (r : Ranking) (set : List ℕ) (rows : List RowOf) (tallies : List Tally) (met : List ℕ)
    (children kept : List Child) (floor : ℤ) : Type 0 where
  pub level : IsLevel s r set rows
  pub told : AreTold rows tallies met
  pub kids : children ≡ flat_map (child_if tallies) met
  pub kept_is : kept ≡ filter (λ child. int_le floor child.bound) children
  pub ordered : IsInOrder s
  pub offers : Reached s (IsOneOf r set (ranks_of children)) t
  pub floor_is : floor ≡ floor_in t

module _ {s t : State} {r : Ranking} {set : List ℕ} {rows : List RowOf} {tallies : List Tally} {met : List ℕ}
    {children kept : List Child} {floor : ℤ} (offered : AreOffered s t r set rows tallies met children kept floor) where
  after : IsAfter s t
  after = record { rule = reached-rule offered.offers; rises = reached-floor offered.ordered offered.offers }

  kept_told : kept ≡ filter (λ child. int_le floor child.bound) (flat_map (child_if tallies) met)
  kept_told = offered.kept_is ∙ ap (filter (λ child. int_le floor child.bound)) offered.kids

  pub IsNarrow-kept : IsNarrow t r set (ranks_of kept) (narrowed (reaches tallies floor) rows)
  IsNarrow-kept = subst (λ ks. IsNarrow t r set (ranks_of ks) (narrowed (reaches tallies floor) rows)) (sym kept_told)
      (IsNarrow-narrowed offered.level offered.told floor after offered.floor_is offered.level.rules)

  -- ranks that narrowed rows hold were met
  pub noted-kept : (rank : ℕ) → 0 < count_over (narrowed (reaches tallies floor) rows) (rank ∷ []) → Contains met rank
  noted-kept rank held = elim (offered.told.noted.each rank) [
    | inl m ↦ m
    | inr none ↦
        let count : count_over rows (rank ∷ []) ≡ 0 = ap (λ (t : Tally). t.count) (sym (offered.told.told rank) ∙ none) in
        absurd (omega (arith, count-narrower (reaches tallies floor) rank rows))
  ]

  pub below-kept : AllByRecursion (λ child. child.rank < length r.items) kept
  below-kept = by_members (λ (child : Child). child.rank < length r.items) kept (λ child m.
      let narrow = IsNarrow-kept in
      let later = narrow.later child.rank (Contains-from_member child.rank (ranks_of kept) (Member-map (λ (c : Child). c.rank) child kept m)) in
      (each-right (λ n. n < length r.items) set (child.rank ∷ []) later.in_table).0)

  enough : AreEnough s r set (ranks_of children)
  enough = subst (λ cs. AreEnough s r set (ranks_of cs)) (sym offered.kids) (enough-children offered.level offered.told)

  decide : (rank : ℕ) → Contains (ranks_of children) rank → Contains (ranks_of kept) rank ⊎ (Contains (ranks_of kept) rank → ⊥)
  decide = subst (λ cs. (rank : ℕ) → Contains (ranks_of cs) rank → Contains (ranks_of kept) rank ⊎ (Contains (ranks_of kept) rank → ⊥)) (sym offered.kids)
      (subst (λ ks. (rank : ℕ) → Contains (ranks_of (flat_map (child_if tallies) met)) rank → Contains (ranks_of ks) rank ⊎ (Contains (ranks_of ks) rank → ⊥))
      (sym kept_told) (is-kept offered.level offered.told floor))

  pub prepared-none : length (ranks_of kept) < 2 → (part : Open) → part.rows ≡ [] → part.children.items ≡ [] → part.places.items ≡ []
      → IsPrepared s t r set part
  prepared-none few part rows_none children_none places_none =
      let narrow = IsNarrow-kept in
      record {
        ranks = ranks_of children;
        kept = ranks_of kept;
        enough = enough;
        offers = offered.offers;
        opened = subst (AreOpen t r set (ranks_of children)) (sym children_none)
            (AreOpen-none (ranks_of kept) narrow.later narrow.enough few (ranks_of children));
        fall = subst Fall (sym children_none) tt;
        narrow = subst (IsNarrow t r set (ranks_of kept)) (sym rows_none) (IsNarrow-none (ranks_of kept) narrow.later narrow.enough few);
        chosen = subst (AllByRecursion (λ (child : Child). Contains (ranks_of kept) child.rank)) (sym children_none) tt;
        places = record {
          len = ap (λ ls. length (lists_in ls)) places_none ∙ ap length (sym children_none);
          each = λ i d within. let none = ap length children_none in absurd (omega arith);
        };
      }

  pub prepared-some : (below : List RowOf) → below ≡ narrowed (reaches tallies floor) rows → (part : Open) → IsChoice below kept floor part
      → IsPrepared s t r set part
  prepared-some below is_below part choice =
      let narrow : IsNarrow t r set (ranks_of kept) below = subst (IsNarrow t r set (ranks_of kept)) (sym is_below) IsNarrow-kept in
      record {
        ranks = ranks_of children;
        kept = ranks_of kept;
        enough = enough;
        offers = offered.offers;
        opened = AreOpen-chosen narrow narrow.rules choice.tails choice.told floor offered.floor_is
            (ranks_of children) decide kept part.children.items refl choice.same;
        fall = choice.fall;
        narrow = subst (IsNarrow t r set (ranks_of kept)) (sym choice.rows) narrow;
        chosen = by_members (λ (child : Child). Contains (ranks_of kept) child.rank) part.children.items
            (λ child m. (from-open narrow narrow.rules choice.tails choice.told floor offered.floor_is
            (ranks_of children) decide kept part.children.items refl choice.same child m).0);
        places = subst (λ rs. AreHanded rs part.children.items (lists_in part.places.items)) (sym choice.rows) choice.places;
      }
