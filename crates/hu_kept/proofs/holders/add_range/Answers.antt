use Rattle.std.proofs.Common.{◌∷◌, []}
use Rattle.hu_kept.proofs.HolderLemmas.{more-kept, range-next}
use Rattle.hu_kept.proofs.holders.add_range.Goals as goal

pub loop-place-preserved : goal.loop-place-preserved
loop-place-preserved c =
    let old = c.loop-place.places.items in
    let new = c.push.new.self.items in
    let i = c.loop-place.place in
    let is = c.in_ok-push.ensures.items in
    record {
      kept = λ place h. more-kept old new (i ∷ []) is place (c.loop-place.invariant.kept place h);
      range = λ place low high. range-next old new i c.args.from place is (c.loop-place.invariant.range place) low high;
    }
