use Rattle.std.proofs.Common.{◌≡◌, ◌∙◌, ap, sym, subst, to_z, of_z, ◌<◌, length, Err}
use Rattle.std.specs.Int.{w128}
use Rattle.std.proofs.lemmas.Int.{to_z-of_z}
use Rattle.std.proofs.lemmas.Result.{err_from_is_err_and}
use Rattle.hu_input.specs.Names.{texts_of}
use Rattle.hu_base.specs.Base.{records_in}
use Rattle.hu_certify.specs.Text.{certificate_text}
use Rattle.hu_certify.specs.declared.fault.CertFault.TheVariants as cert
use Rattle.hu_run.specs.Ending.{given}
use Rattle.hu_run.proofs.CertifyLemmas.{given-short, certified, uncertified}
use Rattle.hu_run.proofs.jobs.certify.answer.Goals as goal

pub returns-in_err-text : goal.returns-in_err-text
returns-in_err-text g c =
    let a = c.args in
    let old = g.F.Files.state a.files.now in
    let new = g.F.Files.state c.read_files.new.files in
    let names = texts_of a.names.now in
    let bases = c.in_ok-batches.batches.items in
    let all = c.in_ok-batches.ensures in
    let stop = err_from_is_err_and c.from_residual-in_err-text.result c.from_residual-in_err-text.ensures.1 in
    let exact = to_z-of_z w128 a.least c.ranges.least in
    let long : c.in_err-text.field-0.0 ≡ cert.TooLong → 268435456 < length (certificate_text (records_in bases) a.least) = λ is.
    subst (λ least. 268435456 < length (certificate_text (records_in bases) least)) exact
    (subst (λ records. 268435456 < length (certificate_text records (to_z w128 (of_z w128 a.least)))) c.in_ok-base.ensures
    (c.in_err-text.ensures.long (ap Err is))) in
    rw (stop.1, stop.2) (uncertified a.least old new names bases c.in_err-text.field-0.0 all long)

pub returns : goal.returns
returns g c =
    let a = c.args in
    let bases = c.in_ok-batches.batches.items in
    let all = c.in_ok-batches.ensures in
    let exact = to_z-of_z w128 a.least c.ranges.least in
    let text : c.in_ok-text.text.items ≡ certificate_text (records_in bases) a.least =
    c.in_ok-text.ensures.text ∙ ap (λ records. certificate_text records (to_z w128 (of_z w128 a.least))) c.in_ok-base.ensures
    ∙ ap (certificate_text (records_in bases)) exact in
    record {
      ending = certified a.least (g.F.Files.state a.files.now) (g.F.Files.state c.read_files.new.files) (texts_of a.names.now) bases all
          (ap given (sym text) ∙ given-short c.in_ok-text.text.items c.in_ok-text.ensures.short);
      same = all.same;
    }
