use Rattle.std.proofs.Common.{◌≡◌, ◌+◌, ◌<◌, ◌++◌, [], ◌∷◌, length, inl, inr, sym, subst, arith}
use Rattle.std.specs.List.{AllByRecursion}
use Rattle.std.proofs.lemmas.Bool.{cases_lt}
use Rattle.hu_kind.specs.Order.{Ascend}
use Rattle.hu_kind.proofs.lemmas.Each.{each-push, each-weaker}
use Rattle.hu_kind.proofs.lemmas.Members.{Member, Member-append_left, Member-append_right}
use Rattle.hu_kind.proofs.lemmas.Ascending.{Ascend-last}
use Rattle.hu_average.specs.Children.{IsLater}
use Rattle.hu_average.proofs.search.all_ranks.Goals as goal

pub loop-rank-preserved : goal.loop-rank-preserved
loop-rank-preserved c =
    let z = c.loop-rank.rank in
    let was = c.loop-rank.invariant in
    let old = c.loop-rank.ranks.items in
    let pushed : c.push.new.self.items ≡ old ++ z ∷ [] = c.in_ok-push.ensures.items in
    record {
      below = subst (AllByRecursion (λ x. x < z + 1)) (sym pushed)
          (each-push (λ x. x < z + 1) old z (each-weaker (λ x. x < z) (λ x. x < z + 1) old (λ x low. omega (arith, low)) was.below) (omega arith));
      ascending = subst Ascend (sym pushed) (Ascend-last old z was.ascending was.below);
      whole = λ x low. subst (Member x) (sym pushed) (elim (cases_lt x z) [
        | inl l ↦ Member-append_left x old (z ∷ []) (was.whole x l)
        | inr g ↦ Member-append_right x old (z ∷ []) (inl (omega (arith, low, g)))
      ]);
    }

pub returns-clause-later : goal.returns-clause-later
returns-clause-later c =
    let was = c.loop-rank.invariant in
    let n = length c.args.ranked.now.items in
    record {
      each = each-weaker (λ z. z < c.loop-rank.rank) (IsLater c.args.ranked.now []) c.loop-rank.ranks.items
          (λ z low. record { ascending = (tt, tt); in_table = (omega (arith, low, c.loop-rank.auto.rank-end, c.len-rank-end.ensures.value), tt) }) was.below;
      ascending = was.ascending;
    }
