use Rattle.std.proofs.Common.{◌≡◌, [], ◌∷◌, ◌∙◌, ap, sym, subst, true, int_le, ◌*ℤ◌, pos, rules, SFits}
use Rattle.std.specs.Int.{w128}
use Rattle.std.proofs.lemmas.Int.{to_z-of_z}
use Rattle.std.specs.BTreeSet.{insert_key}
use Rattle.hu_kind.specs.Order.{cut}
use Rattle.hu_average.specs.Order.{average_cmp}
use Rattle.hu_average.specs.Answer.{reaches}
use Rattle.hu_average.specs.Best.{IsKept}
use Rattle.hu_average.proofs.BestLemmas.{best_with, offered-one, offered-kept}
use Rattle.hu_average.proofs.best.Best.offer.Goals as goal

pub invariant_of-self-2 : goal.invariant_of-self-2
invariant_of-self-2 c =
    let s = c.self.inside in
    let e = c.args.entry in
    let keys : c.trim.new.entries.keys ≡ cut s.top (insert_key average_cmp s.entries.keys e) =
    c.trim.ensures ∙ ap (cut s.top) c.in_ok-insert.ensures.keys ∙ ap (λ x. cut s.top (insert_key average_cmp s.entries.keys x)) c.new.ensures in
    let fits : SFits w128 s.least = search rules in
    let least = to_z-of_z w128 s.least fits in
    let high : reaches s.least e ≡ true =
    sym (c.reaches.ensures ∙ (λ j. int_le (least j *ℤ pos (c.of.ensures.count j)) (c.of.ensures.utility j))) ∙ (search rules) in
    let b = best_with s.least s.top s.entries.keys in
    record {
      least = c.self.invariant.least;
      kept = subst IsKept (offered-one b e c.self.invariant.kept high ∙ ap (best_with s.least s.top) (sym keys)) (offered-kept b (e ∷ []));
    }

pub returns : goal.returns
returns c =
    let s = c.self.inside in
    let e = c.args.entry in
    let keys : c.trim.new.entries.keys ≡ cut s.top (insert_key average_cmp s.entries.keys e) =
    c.trim.ensures ∙ ap (cut s.top) c.in_ok-insert.ensures.keys ∙ ap (λ x. cut s.top (insert_key average_cmp s.entries.keys x)) c.new.ensures in
    let fits : SFits w128 s.least = search rules in
    let least = to_z-of_z w128 s.least fits in
    let high : reaches s.least e ≡ true =
    sym (c.reaches.ensures ∙ (λ j. int_le (least j *ℤ pos (c.of.ensures.count j)) (c.of.ensures.utility j))) ∙ (search rules) in
    let b = best_with s.least s.top s.entries.keys in
    rw (← c.self.view_is) (ap (best_with s.least s.top) keys ∙ sym (offered-one b e c.self.invariant.kept high))
