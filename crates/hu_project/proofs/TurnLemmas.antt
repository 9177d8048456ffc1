-- One turn of a search: a child is entered, or the rest is left.
use Rattle.std.proofs.Common.{◌≡◌, ℕ, ◌<◌, ◌≤◌, ◌+◌, ◌<ℤ◌, List, [], ◌∷◌, ◌++◌, length, get_or, refl, ◌∙◌, arith, Contains, ◌⊎◌}
use Rattle.std.specs.List.{AllByRecursion}
use Rattle.std.proofs.lemmas.Int.{ints}
use Rattle.hu_kind.specs.Order.{Ascend}
use Rattle.hu_kind.proofs.lemmas.Each.{each-get}
use Rattle.hu_kind.proofs.lemmas.Ascending.{few-from}
use Rattle.hu_totals.specs.Ranked.{Ranking}
use Rattle.hu_collect.specs.State.{State, floor_in, IsInOrder, Reached, ReachedSome}
use Rattle.hu_collect.proofs.lemmas.Searching.{reached-rule, reached-floor, reached-in_order}
use Rattle.hu_rows.specs.Handed.{handed, ArePlaces}
use Rattle.hu_totals.specs.View.{lists_in}
use Rattle.hu_search.specs.declared.child.Child.{Child}
use Rattle.hu_search.specs.Growth.{Grows}
use Rattle.hu_search.proofs.lemmas.Children.{upto-none, upto-next, upto-some, upto-all}
use Rattle.hu_project.specs.declared.level.Open.{Open}
use Rattle.hu_project.specs.Level.{IsLater, IsLevel, IsPrepared, IsSoFar}
use Rattle.hu_project.proofs.LevelLemmas.{IsLevel-handed}

pub so_far-none : {old mid : State} {r : Ranking} {set : List ℕ} {part : Open} → IsPrepared old mid r set part → IsSoFar old mid r set part 0
so_far-none {mid = mid} {r} {set} {part} prepared = record {
  mid = mid;
  prepared = prepared;
  after = record { rule = refl; rises = omega (arith, ints) };
  made = upto-none r set prepared.ranks part.children.items prepared.offers;
}

module _ {old now : State} {r : Ranking} {set : List ℕ} {part : Open} {at : ℕ} (so_far : IsSoFar old now r set part at) (ordered : IsInOrder old)
    (d : Child) where
  pub so_far-ordered : IsInOrder now
  so_far-ordered = reached-in_order so_far.made

  pub so_far-rule : now.rule ≡ old.rule
  so_far-rule = reached-rule so_far.made

  pub so_far-all : (length part.children.items ≤ at) ⊎ ((get_or part.children.items at d).bound <ℤ floor_in now) → Reached old (Grows r set) now
  so_far-all ends =
      let p = so_far.prepared in
      upto-all r set p.ranks part.children.items at d ordered p.enough p.offers p.opened p.fall so_far.after.rises ends so_far.made

  module _ (within : at < length part.children.items) where
    kept-here : Contains so_far.prepared.kept (get_or part.children.items at d).rank
    kept-here = each-get (λ (child : Child). Contains so_far.prepared.kept child.rank) part.children.items at d so_far.prepared.chosen within

    pub turn-later : IsLater r set (get_or part.children.items at d).rank
    turn-later = let narrow = so_far.prepared.narrow in narrow.later (get_or part.children.items at d).rank kept-here

    pub turn-level : IsLevel now r (set ++ (get_or part.children.items at d).rank ∷ []) (handed (get_or part.children.items at d).rank part.rows)
    turn-level = let narrow = so_far.prepared.narrow in IsLevel-handed narrow narrow.rules (get_or part.children.items at d).rank kept-here so_far.after

    pub turn-places : ArePlaces part.rows (handed (get_or part.children.items at d).rank part.rows) (get_or (lists_in part.places.items) at [])
    turn-places = so_far.prepared.places.each at d within

    pub so_far-next : {next : State} → Reached now (Grows r (set ++ (get_or part.children.items at d).rank ∷ [])) next → IsSoFar old next r set part (at + 1)
    so_far-next made = record {
      mid = so_far.mid;
      prepared = so_far.prepared;
      after = record {
        rule = reached-rule made ∙ so_far.after.rule;
        rises = let a = so_far.after.rises in let b = reached-floor (reached-in_order so_far.made) made in omega (arith, ints, a, b);
      };
      made = upto-next r set so_far.prepared.ranks part.children.items at d within ordered so_far.made made;
    }

    pub so_far-some : {next : State} → ReachedSome now (Grows r (set ++ (get_or part.children.items at d).rank ∷ [])) next → ReachedSome old (Grows r set) next
    so_far-some some = upto-some r set so_far.prepared.ranks part.children.items at d within so_far.made some

pub few-ranks : (n : ℕ) (xs : List ℕ) → Ascend xs → AllByRecursion (λ x. x < n) xs → length xs ≤ n
few-ranks n [] up below = omega arith
few-ranks n (x ∷ xs) up below = omega (arith, few-from n x xs up.1 below.1 up.0 below.0)
