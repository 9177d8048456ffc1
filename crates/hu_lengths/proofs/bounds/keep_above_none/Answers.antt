use Rattle.std.proofs.Common.{◌≡◌, ap, ◌∙◌, true, pos, int_lt, take, to_z, of_z, arith}
use Rattle.std.specs.List.{insert, position_or_len}
use Rattle.std.specs.Int.{w128}
use Rattle.std.proofs.lemmas.Int.{ints, to_z-of_z}
use Rattle.hu_lengths.specs.Bound.{put}
use Rattle.hu_lengths.proofs.NodeLemmas.{insert-put}
use Rattle.hu_lengths.proofs.bounds.keep_above_none.Goals as goal

pub returns-in_ok-insert : goal.returns-in_ok-insert
returns-in_ok-insert c =
    let old = c.args.best.now.items in
    let value = c.args.value in
    let same : to_z w128 (of_z w128 value) ≡ value = to_z-of_z w128 value c.ranges.value in
    let above : int_lt (pos 0) value ≡ true = let high = c.if-value-gt0.true in grind (arith, ints) in
    let place : c.place_of-place.result ≡ position_or_len (λ other. int_lt other value) old =
    c.place_of-place.ensures.value ∙ ap (λ xs. position_or_len (λ other. int_lt other (to_z w128 (of_z w128 value))) xs) c.deref.ensures.value
    ∙ ap (λ v. position_or_len (λ other. int_lt other v) old) same in
    let items : c.insert.new.self.items ≡ put value old =
    c.in_ok-insert.ensures.items ∙ ap (λ v. insert old c.place_of-place.result v) same ∙ ap (λ p. insert old p value) place ∙ insert-put value old in
    rw above (c.truncate.ensures.items ∙ ap (take c.args.room) items)
