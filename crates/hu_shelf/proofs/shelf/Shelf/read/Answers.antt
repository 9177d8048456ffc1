use Rattle.std.proofs.Common.{◌≡◌, true, false, refl, ap, sym, ◌∙◌, inr}
use Rattle.std.specs.Str.{bytes_eq}
use Rattle.std.proofs.lemmas.Slice.Eq.{bytes_eq-Decides}
use Rattle.hu_base.specs.Base.{records_of}
use Rattle.hu_kept.specs.Kept.{fresh}
use Rattle.hu_shelf.specs.Settings.{store_with}
use Rattle.hu_shelf.specs.Store.{after_byte, store_text, told_by}
use Rattle.hu_shelf.proofs.FindLemmas.{none_by_text, some_by_text, told_by-parts}
use Rattle.hu_shelf.proofs.shelf.Shelf.read.Goals as goal

pub returns-then-not-branch-clause-err : goal.returns-then-not-branch-clause-err
returns-then-not-branch-clause-err c =
    let text = c.args.text.items in
    let settings = c.in-Some.settings in
    let s = store_with settings c.records.result.now in
    let told : told_by text ≡ s =
    told_by-parts text c.cut.result.1.now c.cut-2.result.0.now c.cut-2.result.1.now (fresh settings.least settings.top settings.closed)
    c.in_ok-base.field-0 c.in-Some-2.base c.records.result.now (c.cut.ensures.after ∙ ap (after_byte 10) c.deref.ensures.value)
    c.cut-2.ensures.before c.cut-2.ensures.after c.in-Some.ensures.some c.in_ok-base.ensures.records c.in-Some-2.is c.records.ensures in
    let other : bytes_eq (store_text s) text ≡ false =
    ap (bytes_eq (store_text s)) (sym c.deref-2.ensures.value) ∙ sym c.in_ok-is_text_of.ensures.value ∙ c.if-not-branch.true in
    inr (refl, none_by_text text s told other)

pub returns-clause-ok : goal.returns-clause-ok
returns-clause-ok c =
    let text = c.args.text.items in
    let s = store_with c.in-Some.settings c.records.result.now in
    let same : bytes_eq (store_text s) text ≡ true =
    ap (bytes_eq (store_text s)) (sym c.deref-2.ensures.value) ∙ sym c.in_ok-is_text_of.ensures.value ∙ c.if-not-branch.false in
    let is = (bytes_eq-Decides (store_text s) text).0 same in
    let records = ap (store_with c.in-Some.settings) c.records.ensures in
    some_by_text text (store_with c.in-Some.settings (records_of c.in-Some-2.base)) c.of.result (sym is ∙ ap store_text records)
    c.of.ensures.shelf c.of.ensures.store
