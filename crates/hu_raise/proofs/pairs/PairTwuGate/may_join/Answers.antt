use Rattle.std.proofs.Common.{◌≡◌, ◌∙◌, ◌==◌, [], ap, sym, get_or, arith, subst}
use Rattle.std.specs.List.{list_any}
use Rattle.std.specs.List.Sorted.{IsStrictlyIncreasing}
use Rattle.std.proofs.lemmas.List.{get_or-map, length-map}
use Rattle.hu_raise.specs.Partners.{PairTable}
use Rattle.hu_totals.specs.View.{lists_in}
use Rattle.hu_raise.proofs.SearchLemmas.{found-list_any}
use Rattle.hu_raise.proofs.pairs.PairTwuGate.may_join.Goals as goal

pub returns-in-Some : goal.returns-in-Some
returns-in-Some c =
    let a = c.args.a in
    let vectors = c.self.inside.partners.items in
    let found = c.in-Some.ensures.lookup.3 in
    let within = rw c.deref.ensures.value at found.0 in
    let here : c.in-Some.partners.now.items ≡ get_or (lists_in vectors) a [] =
    ap (λ v. v.items) (found.1 c.in-Some.partners.now ∙ ap (λ vs. get_or vs a c.in-Some.partners.now) c.deref.ensures.value)
    ∙ sym (get_or-map (λ v. v.items) vectors a c.in-Some.partners.now [] within) in
    let up : IsStrictlyIncreasing (get_or (lists_in vectors) a []) = c.self.invariant.ascending a [] (omega (arith, length-map vectors (λ v. v.items))) in
    let there : c.deref-in-Some.result.now ≡ get_or (lists_in vectors) a [] = c.deref-in-Some.ensures.value ∙ here in
    let answer =
    found-list_any c.deref-in-Some.result.now c.args.b c.binary_search.result
    (subst IsStrictlyIncreasing (sym there) up) c.binary_search.ensures.position in
    record {
      exact = c.is_ok.ensures.value ∙ answer
          ∙ ap (list_any (λ later. later == c.args.b)) (there ∙ ap (λ (table : PairTable). get_or table.partners a []) c.self.view_is);
    }
