use Rattle.std.proofs.Common.{◌≡◌, ◌<◌, ◌∙◌, ℕ, [], ◌⊎◌, length, map, ap, refl, sym, subst, Contains}
use Rattle.std.specs.Int.{w128}
use Rattle.std.specs.List.{AllByRecursion, flat_map}
use Rattle.std.specs.List.Sorted.{IsPermutation}
use Rattle.std.proofs.lemmas.Int.{to_z-of_z}
use Rattle.hu_rows.specs.Handed.{reaches, handed_if, places_at, ArePlaces}
use Rattle.hu_totals.specs.View.{lists_in}
use Rattle.hu_search.specs.declared.child.Child.{Child}
use Rattle.hu_search.specs.Children.{ranks_of}
use Rattle.hu_project.specs.Children.{open_if}
use Rattle.hu_project.proofs.ChoiceLemmas.{AreNoted-tails, below-chosen, chosen-each, AreHanded-chosen}
use Rattle.hu_project.proofs.level.choose.Goals as goal

pub forget-requires : goal.forget-requires
forget-requires c = record {
  noted = AreNoted-tails c.args.rows c.tell_tails.new.self c.args.met.now c.requires.counted
      (subst (λ n. AllByRecursion (λ (rank : ℕ). rank < n) c.args.met.now) (sym c.tell_tails.ensures.len) c.requires.met)
      c.tell_tails.ensures.value c.requires.noted;
}

pub places_of-requires : goal.places_of-requires
places_of-requires c =
    let floor = to_z-of_z w128 c.args.floor c.ranges.floor in
    let chosen = c.best_first.new.children.items in
    let same : IsPermutation (flat_map (open_if c.tell_tails.new.self c.args.floor) c.args.kept.now) chosen =
    subst (λ xs. IsPermutation xs chosen) (c.in_ok-children.ensures ∙ (λ j. flat_map (open_if c.tell_tails.new.self (floor j)) c.args.kept.now))
    c.best_first.ensures.same in
    let below = below-chosen c.tell_tails.new.self c.args.floor c.args.kept.now chosen same (length c.args.board.now.tallies) c.requires.kept in
    let n : length c.hand_out.new.self ≡ length c.args.board.now.tallies = c.in_ok-hand_out.ensures.len ∙ c.requires.board.places in
    record {
      below = subst (λ xs. AllByRecursion (λ (child : Child). child.rank < length c.hand_out.new.self) xs) (sym c.deref.ensures.value)
          (subst (λ m. AllByRecursion (λ (child : Child). child.rank < m) chosen) (sym n) below);
    }

pub clear-requires-clause-below : goal.clear-requires-clause-below
clear-requires-clause-below c =
    let floor = to_z-of_z w128 c.args.floor c.ranges.floor in
    let chosen = c.best_first.new.children.items in
    let same : IsPermutation (flat_map (open_if c.tell_tails.new.self c.args.floor) c.args.kept.now) chosen =
    subst (λ xs. IsPermutation xs chosen) (c.in_ok-children.ensures ∙ (λ j. flat_map (open_if c.tell_tails.new.self (floor j)) c.args.kept.now))
    c.best_first.ensures.same in
    let below = below-chosen c.tell_tails.new.self c.args.floor c.args.kept.now chosen same (length c.args.board.now.tallies) c.requires.kept in
    let n : length c.hand_out.new.self ≡ length c.args.board.now.tallies = c.in_ok-hand_out.ensures.len ∙ c.requires.board.places in
    subst (λ xs. AllByRecursion (λ (child : Child). child.rank < length c.hand_out.new.self) xs) (sym c.deref-2.ensures.value)
    (subst (λ m. AllByRecursion (λ (child : Child). child.rank < m) chosen) (sym n) below)

pub clear-requires-clause-each : goal.clear-requires-clause-each
clear-requires-clause-each c =
    let floor = to_z-of_z w128 c.args.floor c.ranges.floor in
    let tails = c.tell_tails.new.self in
    let chosen = c.best_first.new.children.items in
    let same : IsPermutation (flat_map (open_if tails c.args.floor) c.args.kept.now) chosen =
    subst (λ xs. IsPermutation xs chosen) (c.in_ok-children.ensures ∙ (λ j. flat_map (open_if tails (floor j)) c.args.kept.now)) c.best_first.ensures.same in
    let out : (rank : ℕ) → ArePlaces c.args.rows (handed_if (reaches tails c.args.floor rank) rank c.args.rows) (places_at c.hand_out.new.self rank) =
    λ rank. subst (λ f. ArePlaces c.args.rows (handed_if (reaches tails f rank) rank c.args.rows) (places_at c.hand_out.new.self rank)) floor
    (c.in_ok-hand_out.ensures.value rank) in
    λ rank. subst (λ xs. Contains (ranks_of xs) rank ⊎ (places_at c.hand_out.new.self rank ≡ [])) (sym c.deref-2.ensures.value)
    (chosen-each tails c.args.floor c.args.kept.now chosen same c.args.rows c.requires.counted c.tell_tails.ensures.value c.hand_out.new.self out
    c.requires.least c.requires.held rank)

pub returns-clause-ok : goal.returns-clause-ok
returns-clause-ok c =
    let floor = to_z-of_z w128 c.args.floor c.ranges.floor in
    let tails = c.tell_tails.new.self in
    let chosen = c.best_first.new.children.items in
    let same : IsPermutation (flat_map (open_if tails c.args.floor) c.args.kept.now) chosen =
    subst (λ xs. IsPermutation xs chosen) (c.in_ok-children.ensures ∙ (λ j. flat_map (open_if tails (floor j)) c.args.kept.now)) c.best_first.ensures.same in
    let out : (rank : ℕ) → ArePlaces c.args.rows (handed_if (reaches tails c.args.floor rank) rank c.args.rows) (places_at c.hand_out.new.self rank) =
    λ rank. subst (λ f. ArePlaces c.args.rows (handed_if (reaches tails f rank) rank c.args.rows) (places_at c.hand_out.new.self rank)) floor
    (c.in_ok-hand_out.ensures.value rank) in
    record {
      tails = tails;
      told = c.tell_tails.ensures.value;
      rows = refl;
      same = same;
      fall = c.best_first.ensures.fall;
      places = AreHanded-chosen tails c.args.floor c.args.kept.now chosen same c.args.rows c.requires.counted c.tell_tails.ensures.value c.hand_out.new.self
          out (lists_in c.in_ok-places.places.items)
          (c.in_ok-places.ensures ∙ ap (map (λ (child : Child). places_at c.hand_out.new.self child.rank)) c.deref.ensures.value);
    }
