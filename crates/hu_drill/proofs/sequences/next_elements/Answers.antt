use Rattle.std.proofs.Common.{◌∙◌, ap}
use Rattle.hu_drill.specs.Draws.{after_draws}
use Rattle.hu_drill.specs.Drilled.{element_from}
use Rattle.hu_drill.proofs.DrawLemmas.{after_draws-more}
use Rattle.hu_drill.proofs.DrilledLemmas.{elements_of-more}
use Rattle.hu_drill.proofs.sequences.next_elements.Goals as goal

pub loop-preserved : goal.loop-preserved
loop-preserved c =
    let kept = c.loop.invariant in
    let before = c.args.draws.now.state in
    record {
      state = c.in_ok-next_element.ensures.state ∙ ap (after_draws 4) kept.state ∙ after_draws-more 4 c.loop.counter before;
      value = elements_of-more c.loop.list.items c.push.new.self.items c.in_ok-next_element.field-0 c.loop.counter before kept.value
          (c.in_ok-next_element.ensures.value ∙ ap element_from kept.state) c.in_ok-push.ensures.items;
    }
