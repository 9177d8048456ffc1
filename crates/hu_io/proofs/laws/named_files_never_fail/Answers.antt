use Rattle.std.proofs.Common.{◌≡◌, arith}
use Rattle.std.proofs.lemmas.Grind.{common_steps}
use Rattle.hu_io.specs.Files.{content_in}
use Rattle.hu_io.proofs.laws.named_files_never_fail.Goals as goal

pub returns : goal.returns
returns c = λ before now name unplanned named plan same rose.
    let here : content_in now.files name ≡ content_in before.files name = cc in
    grind (arith, common_steps)
