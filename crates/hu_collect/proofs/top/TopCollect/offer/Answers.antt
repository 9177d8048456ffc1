use Rattle.std.proofs.Common.{◌≡◌, ◌<ℤ◌, ◌≤ℤ◌, Some, take, ap, sym, ◌∙◌, rules}
use Rattle.std.specs.BTreeSet.{insert_key}
use Rattle.hu_kind.specs.Order.{entry_cmp}
use Rattle.hu_collect.specs.Rule.{floor_by}
use Rattle.hu_collect.proofs.Bodies.{made-put, made-refused, top-put, same_state}
use Rattle.hu_collect.proofs.top.TopCollect.offer.Goals as goal

pub returns-then-entry-self : goal.returns-then-entry-self
returns-then-entry-self c =
    let s = c.self.inside in
    let low : c.args.entry.utility <ℤ s.floor = search rules in
    rw (← c.self.view_is) (same_state s.start (Some s.limit) (sym (made-refused s.limit s.start s.floor s.entries.keys c.args.entry c.self.invariant low)))

pub invariant_of-self-2 : goal.invariant_of-self-2
invariant_of-self-2 c =
    let s = c.self.inside in
    let least : s.floor ≤ℤ c.args.entry.utility = search rules in
    let keys : c.trim.new.entries.keys ≡ take s.limit (insert_key entry_cmp s.entries.keys c.args.entry) =
    c.trim.ensures ∙ ap (take s.limit) c.in_ok-insert.ensures.keys in
    let floor : c.floor_over-self-inside.result ≡ floor_by (Some s.limit) s.start c.trim.new.entries.keys = search rules in
    let value : c.floor_over-self-inside.result ≡ floor_by (Some s.limit) s.start
    (take s.limit (insert_key entry_cmp s.entries.keys c.args.entry)) = rw (← keys) floor in
    rw keys (top-put s.limit s.start s.floor _ s.entries.keys c.args.entry c.self.invariant least (search rules))

pub returns : goal.returns
returns c =
    let s = c.self.inside in
    let least : s.floor ≤ℤ c.args.entry.utility = search rules in
    let keys : c.trim.new.entries.keys ≡ take s.limit (insert_key entry_cmp s.entries.keys c.args.entry) =
    c.trim.ensures ∙ ap (take s.limit) c.in_ok-insert.ensures.keys in
    rw (← c.self.view_is) (same_state s.start (Some s.limit) (keys ∙ sym (made-put s.limit s.start s.floor s.entries.keys c.args.entry c.self.invariant least)))
