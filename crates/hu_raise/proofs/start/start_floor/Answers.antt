use Rattle.std.proofs.Common.{◌≡◌, ◌∙◌, ◌-◌, ◌≤ℤ◌, pos, ap, sym, subst, get_or, rules, FitsSigned, arith}
use Rattle.std.specs.Int.{w128}
use Rattle.std.specs.Option.{unwrap_or}
use Rattle.std.specs.Ordering.{is_lt, int_cmp}
use Rattle.std.proofs.lemmas.Int.{to_z-of_z}
use Rattle.std.proofs.lemmas.Cmp.{int_cmp_total}
use Rattle.std.proofs.lemmas.List.Sorted.{ranks_by, IsStrictWeakOrder-flip, answers_always}
use Rattle.hu_raise.specs.StartFloor.{earned, descending, KeepsAnswers}
use Rattle.hu_raise.proofs.DescendingLemmas.{Descend-from_sorted, descending-permutation}
use Rattle.hu_raise.proofs.StartLemmas.{start_of-least, start_of-alike}
use Rattle.hu_raise.proofs.start.start_floor.Goals as goal

pub returns-clause-value : goal.returns-clause-value
returns-clause-value c =
    let sorted = c.sort_unstable_by.new.self.items in
    let down = Descend-from_sorted sorted
    (c.sort_unstable_by.ensures.sorted (λ x y. is_lt (int_cmp y x))
    (IsStrictWeakOrder-flip _ (ranks_by int_cmp_total (λ x. x)))
    (answers_always _ _ _ (λ f a r f' k. search rules))) in
    let made : descending (earned c.args.totals.now) ≡ sorted = ap descending (sym c.in_ok-utilities.ensures)
    ∙ descending-permutation c.in_ok-utilities.utilities.items sorted c.sort_unstable_by.ensures.permutation down in
    let fits : FitsSigned w128 c.unwrap_or.result = search rules in
    let place = c.args.k - 1 in
    to_z-of_z w128 c.unwrap_or.result fits
    ∙ c.unwrap_or.ensures
    ∙ ap (λ found. unwrap_or found (pos 1)) c.copied.ensures
    ∙ c.get.ensures.lookup.4 (omega arith) (pos 1)
    ∙ ap (λ utilities. get_or utilities place (pos 1)) (c.deref.ensures.value ∙ sym made)

pub returns-clause-least : goal.returns-clause-least
returns-clause-least c = subst (λ floor. pos 1 ≤ℤ floor) (sym (returns-clause-value c)) (start_of-least c.args.k c.args.totals.now)

pub returns-clause-alike : goal.returns-clause-alike
returns-clause-alike c =
    let alike = start_of-alike c.args.k c.args.totals.now c.requires in
    subst (KeepsAnswers c.args.k c.args.totals.now) (sym (returns-clause-value c)) alike
