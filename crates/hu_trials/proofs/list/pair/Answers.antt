use Rattle.std.proofs.Common.{[], arith}
use Rattle.hu_list.proofs.lemmas.Joining.{Joins-single}
use Rattle.hu_trials.proofs.list.pair.Goals as goal

pub join-requires : goal.join-requires
join-requires g c =
    let r = c.args.ranked.now in (
      r.records,
      [],
      c.args.a,
      c.args.b,
      Joins-single r c.records-records.ensures.rules c.in_ok-x.x c.in_ok-y.y c.args.a
          c.args.b (omega arith) c.in_ok-x.ensures c.in_ok-y.ensures,
    )

pub returns : goal.returns
returns g c =
    let r = c.args.ranked.now in
    c.in_ok-join.ensures r.records [] c.args.a c.args.b
    (Joins-single r c.records-records.ensures.rules c.in_ok-x.x c.in_ok-y.y c.args.a c.args.b
    (omega arith) c.in_ok-x.ensures c.in_ok-y.ensures)
