use Rattle.std.proofs.Common.{◌∙◌, ap, sym, arith}
use Rattle.hu_totals.specs.Weights.{numbers_of}
use Rattle.hu_closed.specs.Keys.{closes_below, is_set_key}
use Rattle.hu_closed.proofs.KeyLemmas.{set_key-some}
use Rattle.hu_closed.proofs.lemmas.RankLemmas.{last-within, set_key-open, shuts}
use Rattle.hu_closed.proofs.SetLemmas.{below-none, below-some}
use Rattle.hu_closed.proofs.sets.RecordSets.closes_below.Goals as goal

pub found-requires : goal.found-requires
found-requires c =
    let set =
    ap is_set_key c.numbers-numbers.ensures ∙ set_key-open c.args.self.now c.args.ranked.now c.args.key.now
    c.args.last c.tell_rules.ensures c.requires.base c.requires.key in
    set_key-some c.numbers-numbers.result.now set

pub any_closes-requires-clause-key : goal.any_closes-requires-clause-key
any_closes-requires-clause-key c =
    ap is_set_key c.numbers-numbers.ensures ∙ set_key-open c.args.self.now c.args.ranked.now c.args.key.now c.args.last
    c.tell_rules.ensures c.requires.base c.requires.key

pub any_outside_below-requires-clause-key : goal.any_outside_below-requires-clause-key
any_outside_below-requires-clause-key c =
    ap is_set_key c.numbers-numbers.ensures ∙ set_key-open c.args.self.now c.args.ranked.now c.args.key.now c.args.last
    c.tell_rules.ensures c.requires.base c.requires.key

pub any_outside_below-requires-clause-last : goal.any_outside_below-requires-clause-last
any_outside_below-requires-clause-last c =
    let within = last-within c.args.ranked.now.items c.args.key.now c.args.last c.requires.key in
    omega arith

pub returns-in-Some-clause-value : goal.returns-in-Some-clause-value
returns-in-Some-clause-value c =
    let table = c.args.ranked.now.items in
    c.any_closes.ensures
    ∙ below-some c.args.self.now c.numbers-numbers.result.now c.found.result c.in-Some.held.rest
    (numbers_of c.in-Some.held.items.now) table c.args.last c.found.ensures c.in-Some.ensures.some
    ∙ ap (λ key. closes_below c.args.self.now table key c.args.last) c.numbers-numbers.ensures

pub returns-in-None-clause-value : goal.returns-in-None-clause-value
returns-in-None-clause-value c =
    let table = c.args.ranked.now.items in
    c.any_outside_below.ensures
    ∙ below-none c.args.self.now c.numbers-numbers.result.now c.found.result table c.args.last c.found.ensures c.in-None.ensures.none
    ∙ ap (λ key. closes_below c.args.self.now table key c.args.last) c.numbers-numbers.ensures

pub returns-in-Some-clause-shuts : goal.returns-in-Some-clause-shuts
returns-in-Some-clause-shuts c closes grown g =
    shuts c.args.self.now c.args.ranked.now c.args.key.now c.args.last c.tell_rules.ensures c.requires.base
    (sym (returns-in-Some-clause-value c) ∙ closes) grown g

pub returns-in-None-clause-shuts : goal.returns-in-None-clause-shuts
returns-in-None-clause-shuts c closes grown g =
    shuts c.args.self.now c.args.ranked.now c.args.key.now c.args.last c.tell_rules.ensures c.requires.base
    (sym (returns-in-None-clause-value c) ∙ closes) grown g
