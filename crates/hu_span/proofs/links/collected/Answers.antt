use Rattle.std.proofs.Common.{◌≡◌, ◌∙◌, ◌<◌, ◌-◌, ◌++◌, ◌∷◌, [], zero, length, sym, ap, subst, arith}
use Rattle.std.proofs.lemmas.List.{length-map}
use Rattle.hu_span.specs.declared.mark.Mark.{Mark}
use Rattle.hu_span.specs.Links.{keys_of, IsBack}
use Rattle.hu_span.proofs.LinkLemmas.{collected-all, collected-next, collected-none, marks-picked, IsCollected}
use Rattle.hu_span.proofs.links.collected.Goals as goal

pub older-init : goal.older-init
older-init c =
    let back = c.requires.last.1 in
    let marks = c.args.held.now.marks.items in
    let keys = keys_of marks in
    let size = length-map marks (λ (m : Mark). m.item.0) in
    record {
      within = omega (arith, back.within);
      marks = λ item back.
          collected-none item keys marks (omega (arith, size)) c.args.last (subst (IsBack keys item c.args.last) (sym size) back)
          c.new-own.result.marks.items c.new-own.ensures.marks;
      spans = λ item back.
          collected-none item keys c.args.held.now.spans.items (omega (arith, size, c.requires.spans)) c.args.last
          (subst (IsBack keys item c.args.last) (sym size) back) c.new-own.result.spans.items c.new-own.ensures.spans;
    }

pub index-requires : goal.index-requires
index-requires c = omega (arith, c.older-test.true, c.older.invariant.within)

pub index-requires-in-older : goal.index-requires-in-older
index-requires-in-older c = omega (arith, c.older-test.true, c.older.invariant.within, c.requires.spans)

pub older-preserved : goal.older-preserved
older-preserved c =
    let marks = c.args.held.now.marks.items in
    let spans = c.args.held.now.spans.items in
    let keys = keys_of marks in
    let size = length-map marks (λ (m : Mark). m.item.0) in
    let linked = c.requires.linked in
    let some = c.older-test.true in
    let place : c.older.upto - 1 < length keys = omega (arith, some, c.older.invariant.within, size) in
    let next = linked.each (c.older.upto - 1) place in
    let old = c.older.own in
    record {
      within = omega (arith, next.within, c.older.invariant.within);
      marks = λ item back.
          collected-next item keys marks (omega (arith, size)) c.older.upto old.marks.items c.push.new.self.marks.items c.args.olders.now
          (c.older.invariant.marks item back) some c.index.result.now linked
          (c.in_ok-push.ensures.marks ∙ ap (λ m. old.marks.items ++ m ∷ []) c.index.ensures);
      spans = λ item back.
          collected-next item keys spans (omega (arith, size, c.requires.spans)) c.older.upto old.spans.items c.push.new.self.spans.items c.args.olders.now
          (c.older.invariant.spans item back) some c.index-in-older.result.now linked
          (c.in_ok-push.ensures.spans ∙ ap (λ s. old.spans.items ++ s ∷ []) c.index-in-older.ensures);
    }

pub returns-clause-marks : goal.returns-clause-marks
returns-clause-marks c item back =
    let marks = c.args.held.now.marks.items in
    let none : c.older.upto ≡ zero = omega (arith, c.older-test.false) in
    c.reverse.ensures.items ∙ collected-all item (keys_of marks) marks (sym (length-map marks (λ (m : Mark). m.item.0))) c.older.own.marks.items
    (subst (λ u. IsCollected item (keys_of marks) marks u c.older.own.marks.items) none (c.older.invariant.marks item back)) ∙ marks-picked item marks

pub returns-clause-spans : goal.returns-clause-spans
returns-clause-spans c item back =
    let marks = c.args.held.now.marks.items in
    let spans = c.args.held.now.spans.items in
    let none : c.older.upto ≡ zero = omega (arith, c.older-test.false) in
    c.reverse-2.ensures.items ∙ collected-all item (keys_of marks) spans (c.requires.spans ∙ sym (length-map marks (λ (m : Mark). m.item.0)))
    c.older.own.spans.items
    (subst (λ u. IsCollected item (keys_of marks) spans u c.older.own.spans.items) none (c.older.invariant.spans item back))
