use Rattle.std.proofs.Common.{[], ◌∷◌, refl, arith}
use Rattle.hu_trials.proofs.lengths.bound_of.Goals as goal

pub bound-requires : goal.bound-requires
bound-requires g c = record {
  list = (
    c.args.rank ∷ [],
    record {
      before = [];
      ends = refl;
      ascending = (tt, tt);
      in_table = (omega (arith, c.if-assert.false, c.len.ensures.value), tt);
      is = c.in_ok-list.ensures;
    },
  );
}
