use Rattle.std.proofs.Common.{◌≡◌, ◌+◌, ◌<◌, ◌^◌, ◌++◌, ◌∷◌, [], pos, None, Some, refl, sym, ap, ◌∙◌, subst}
use Rattle.std.proofs.Common.{arith, length, map, inr, ◌⊎◌, sum_by, append_assoc}
use Rattle.std.specs.Prelude.{IfSome}
use Rattle.std.specs.Int.{w128}
use mir.Val.{to_z, of_z}
use Rattle.std.proofs.lemmas.Bool.{eqb-false}
use Rattle.std.proofs.lemmas.Int.{to_z-of_z}
use Rattle.hu_base.specs.Base.{records_of}
use Rattle.hu_collect.specs.Limited.{all_state}
use Rattle.hu_collect.specs.State.{fresh, offered}
use Rattle.hu_kind.specs.Record.{absolute_of}
use Rattle.hu_proof.specs.declared.fault.CheckFault.TheVariants.{NoMemory}
use Rattle.hu_proof.specs.Check.{root, walk}
use Rattle.hu_proof.specs.Judged.{line_fault_at, node_at}
use Rattle.hu_proof.specs.Opened.{prefix_entry, prefixes_in}
use Rattle.hu_proof.specs.Places.{places_of, AllAscend}
use Rattle.hu_proof.specs.Text.{pieces, said_of}
use Rattle.hu_proof.specs.Waiting.{stack_of, nodes_of, nodes_now, entry_at, Stands, Steps, IsNode, Fits}
use Rattle.hu_proof.specs.Words.{numbers_of}
use Rattle.hu_proof.proofs.LineLemmas.{judged-same}
use Rattle.hu_proof.proofs.TurnLemmas.{root-node, room-node, walk-end, walk-fault, judges-err, some-pieces}
use Rattle.hu_proof.proofs.TurnLemmas.{length-numbers, passed, turned, entry-held, offered-more}
use Rattle.hu_proof.proofs.walk.walk.Goals.{At-lines, In-Some-cut}
use Rattle.hu_proof.proofs.walk.walk.Goals as goal

pub lines-init : goal.lines-init
lines-init c =
    let records = records_of c.args.base.now in
    let order = c.args.order.now in
    let node = c.in_ok-root.field-0 in
    let m = to_z w128 (of_z w128 c.args.least) in
    let places = c.in_ok-root.ensures.places ∙ ap (map (λ r. (r, pos 0))) c.records.ensures in
    let first : IsNode records order [] node.from (places_of node.places.items) =
    subst (λ f. IsNode records order [] f (places_of node.places.items)) (sym c.in_ok-root.ensures.from)
    (root-node records order (places_of node.places.items) c.requires.apart places) in
    record {
      line = omega arith;
      stands = (
        subst (λ xs. IsNode records order (numbers_of xs) node.from (places_of node.places.items)) (sym c.new.ensures.items) first,
        subst (λ ws. Fits records order (numbers_of c.new.result.items) (stack_of ws)) (sym c.new-2.ensures.items) tt,
      );
      walks = ap (λ ns. walk records m 3 ns (pieces c.args.text.now))
          (ap (λ ws. node_at order (numbers_of c.new.result.items) node.from ∷ nodes_of order (numbers_of c.new.result.items) (stack_of ws))
          c.new-2.ensures.items
          ∙ (ap (λ xs. node_at order (numbers_of xs) node.from ∷ []) c.new.ensures.items ∙ ap (λ f. node_at order [] f ∷ []) c.in_ok-root.ensures.from));
      found = ([], c.new-3.ensures, refl);
    }

-- the fault of what is left is that of the text
left_at : (c : At-lines)
    → let path = numbers_of c.lines.progress.path.items in
    let stack = stack_of c.lines.progress.waiting.items in
    walk (records_of c.args.base.now) c.args.least c.lines.number (nodes_now c.args.order.now path stack c.lines.current) (pieces c.lines.rest.now)
    ≡ walk (records_of c.args.base.now) c.args.least 3 (root c.args.order.now ∷ []) (pieces c.args.text.now)
left_at c =
    let records = records_of c.args.base.now in
    let nodes = nodes_now c.args.order.now (numbers_of c.lines.progress.path.items) (stack_of c.lines.progress.waiting.items) c.lines.current in
    subst (λ m. walk records m c.lines.number nodes (pieces c.lines.rest.now) ≡ walk records m 3 (root c.args.order.now ∷ []) (pieces c.args.text.now))
    (to_z-of_z w128 c.args.least c.ranges.least) c.lines.invariant.walks

-- the same of the line that is cut off, at the node at hand, with what follows it
line_at : (c : In-Some-cut)
    → let path = numbers_of c.lines.progress.path.items in
    let nodes = nodes_of c.args.order.now path (stack_of c.lines.progress.waiting.items) in
    walk (records_of c.args.base.now) c.args.least c.lines.number (node_at c.args.order.now path c.in-Some.node.from ∷ nodes)
    (c.in-Some-cut.text.now ∷ pieces c.in-Some-cut.more.now)
    ≡ walk (records_of c.args.base.now) c.args.least 3 (root c.args.order.now ∷ []) (pieces c.args.text.now)
line_at c =
    let nodes = nodes_now c.args.order.now (numbers_of c.lines.progress.path.items) (stack_of c.lines.progress.waiting.items) in
    let walked = walk (records_of c.args.base.now) c.args.least c.lines.number in
    sym (ap (λ current. walked (nodes current) (pieces c.lines.rest.now)) c.in-Some.is ∙ ap (walked (nodes (Some c.in-Some.node))) c.in-Some-cut.ensures.found)
    ∙ left_at (goal.at.In-Some-cut c).At-lines

pub visit-requires-clause-room : goal.visit-requires-clause-room
visit-requires-clause-room c =
    let records = records_of c.args.base.now in
    let stands = subst (Stands records c.args.order.now (numbers_of c.lines.progress.path.items) (stack_of c.lines.progress.waiting.items)) c.in-Some.is
    c.lines.invariant.stands in
    let fits : sum_by absolute_of records < 2 ^ 127 = omega (arith, c.sum-sum.ensures.fits) in
    room-node records c.args.order.now (numbers_of c.lines.progress.path.items) c.in-Some.node.from _ stands.0
    (subst AllAscend c.records.ensures c.in_ok-root.ensures.rises) fits

pub returns-in_err-visit-clause-fault : goal.returns-in_err-visit-clause-fault
returns-in_err-visit-clause-fault c =
    let records = records_of c.args.base.now in
    let order = c.args.order.now in
    let least = c.args.least in
    let node = c.in-Some.node in
    let places = places_of node.places.items in
    let path = numbers_of c.lines.progress.path.items in
    let stack = stack_of c.lines.progress.waiting.items in
    let e = c.in_err-visit.field-0.0 in
    let stands = subst (Stands records order path stack) c.in-Some.is c.lines.invariant.stands in
    let same = subst (λ m. (e ≡ NoMemory) ⊎ (line_fault_at m c.lines.number (node_at order path node.from) places (said_of c.in-Some-cut.text.now) ≡ Some e))
    (to_z-of_z w128 least c.ranges.least) c.in_err-visit.ensures.fault in
    let walked = walk-fault records least c.lines.number order path node.from places (nodes_of order path stack) c.in-Some-cut.text.now
    (pieces c.in-Some-cut.more.now) e stands.0 (some-pieces c.in-Some-cut.more.now) same in
    judges-err c.from_residual-in_err-visit.result e _ c.from_residual-in_err-visit.ensures
    (judged-same e _ _ (sym (line_at (goal.at.returns-in_err-visit-clause-fault c).In-Some-cut)) walked)

pub lines-preserved : goal.lines-preserved
lines-preserved c =
    let records = records_of c.args.base.now in
    let order = c.args.order.now in
    let least = c.args.least in
    let node = c.in-Some.node in
    let places = places_of node.places.items in
    let xs = c.lines.progress.path.items in
    let path = numbers_of xs in
    let stack = stack_of c.lines.progress.waiting.items in
    let stack1 = stack_of c.visit.new.progress.waiting.items in
    let text = c.in-Some-cut.text.now in
    let more = c.in-Some-cut.more.now in
    let back = to_z-of_z w128 least c.ranges.least in
    let stands = subst (Stands records order path stack) c.in-Some.is c.lines.invariant.stands in
    let none = subst (λ m. line_fault_at m c.lines.number (node_at order path node.from) places (said_of text) ≡ None) back
    c.in_ok-visit.ensures.fault in
    let told = c.in_ok-visit.ensures.pushed in
    let offer = c.in_ok-visit.ensures.found in
    let path2 = numbers_of c.next.new.progress.path.items in
    let stack2 = stack_of c.next.new.progress.waiting.items in
    let steps = subst (λ p. IfSome c.in_ok-current.current (λ next. Steps (numbers_of p.items) stack1 path2 stack2 next.from (places_of next.places.items)))
    c.in_ok-visit.ensures.path c.in_ok-current.ensures.some in
    let pass = passed records least c.lines.number order path node.from (length xs) places stack stack1 text (pieces more) (length-numbers xs) stands.0
    stands.1 (some-pieces more) none told in
    let turn = turned records order path path2 stack1 stack2 c.in_ok-current.current pass.fits steps c.in_ok-current.ensures.none in
    let done = c.lines.invariant.found.0 in
    record {
      line = omega (arith, c.lines.invariant.line, c.in-Some-cut.ensures.shorter);
      stands = turn.stands;
      walks = subst (λ m. walk records m (c.lines.number + 1) (nodes_now order path2 stack2 c.in_ok-current.current) (pieces more)
          ≡ walk records m 3 (root order ∷ []) (pieces c.args.text.now)) (sym back)
          (ap (λ ns. walk records least (c.lines.number + 1) ns (pieces more)) (sym turn.nodes)
          ∙ (sym pass.walks ∙ line_at (goal.at.lines-preserved c).In-Some-cut));
      found = (
        done ++ path ∷ [],
        subst (λ found. all_state found ≡ offered (fresh (to_z w128 (of_z w128 least)) None) (map (prefix_entry records) (done ++ path ∷ [])))
            (sym c.next.ensures.found)
            (offered-more (fresh (to_z w128 (of_z w128 least)) None) records done path (all_state c.lines.progress.found)
            (all_state c.visit.new.progress.found)
            (entry_at path places) c.lines.invariant.found.1 offer (entry-held records order path node.from places stands.0)),
        append_assoc done (path ∷ []) (prefixes_in (pieces more))
            ∙ (ap (λ ps. done ++ ps) (sym pass.prefixes) ∙ (ap (λ ps. done ++ prefixes_in ps) (sym c.in-Some-cut.ensures.found)
            ∙ c.lines.invariant.found.2)),
      );
    }

pub returns-else-is_empty-clause-fault : goal.returns-else-is_empty-clause-fault
returns-else-is_empty-clause-fault c =
    let records = records_of c.args.base.now in
    let order = c.args.order.now in
    let least = c.args.least in
    let path = numbers_of c.lines.progress.path.items in
    let stack = stack_of c.lines.progress.waiting.items in
    let empty : stack ≡ [] = subst (Stands records order path stack) c.in_default.is c.lines.invariant.stands in
    let none : nodes_now order path stack c.lines.current ≡ [] = ap (nodes_now order path stack) c.in_default.is ∙ ap (nodes_of order path) empty in
    inr (sym (left_at (goal.at.returns-else-is_empty-clause-fault c).At-lines)
    ∙ ap (λ nodes. walk records least c.lines.number nodes (pieces c.lines.rest.now)) none
    ∙ walk-end records least c.lines.number c.lines.rest.now (eqb-false (length c.lines.rest.now) 0 (sym c.if-is_empty.ensures)))
