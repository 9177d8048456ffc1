use Rattle.std.proofs.Common.{◌≡◌, ◌∙◌, ◌++◌, [], length, ap, sym, subst, append-nil}
use Rattle.hu_base.specs.Base.{records_of}
use Rattle.hu_kept.specs.Changes.{changes}
use Rattle.hu_kept.specs.Entries.{IsKeeping, entries_from, keeping}
use Rattle.hu_kept.specs.Kept.{answer_of, with_batch}
use Rattle.hu_kept.proofs.HeldLemmas.{shortened}
use Rattle.hu_kept.proofs.kept.Kept.append_by.Goals as goal

pub returns-in-Ok-clause-changes : goal.returns-in-Ok-clause-changes
returns-in-Ok-clause-changes g c =
    let old : entries_from c.self.inside.entries.entries ≡ answer_of c.args.self.now = c.self.invariant.answer ∙ ap answer_of c.self.view_is in
    let joined : records_of c.join_fitting.new.self ≡ records_of c.self.inside.records ++ records_of c.args.batch = ap records_of c.in_ok-join_fitting.ensures.ok in
    let new : entries_from c.in-Ok.entries.entries ≡ answer_of (with_batch c.args.self.now (records_of c.args.batch)) =
    c.in-Ok.ensures
    ∙ ap (λ rs. answer_of (keeping c.self.inside.aim rs)) joined
    ∙ ap (λ kept. answer_of (with_batch kept (records_of c.args.batch))) c.self.view_is in
    c.between-changes.ensures ∙ (λ j. changes (old j) (new j))

pub invariant_of-self-in-Err : goal.invariant_of-self-in-Err
invariant_of-self-in-Err g c =
    let old = c.self.inside.records in
    let kept = c.self.invariant in
    let same = shortened old (records_of c.args.batch) _ c.join_fitting.new.self c.shorten.new.self c.in_ok-join_fitting.ensures.ok
    (ap length c.records-count.ensures) c.shorten.ensures in
    let noted = c.note.new.self in
    let front : noted ++ [] ≡ records_of old = append-nil noted ∙ c.in_ok-note.ensures.ok in
    subst (λ base. IsKeeping c.self.inside.aim base noted c.self.inside.entries.entries) (sym same)
    (record { asked = kept.asked; own = kept.own; front = ([], front); answer = kept.answer })
