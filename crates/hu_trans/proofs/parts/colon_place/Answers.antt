use Rattle.std.proofs.Common.{refl}
use Rattle.hu_trans.proofs.LineLemmas.{first_place}
use Rattle.hu_trans.proofs.parts.colon_place.Goals as goal

pub returns : goal.returns
returns c = first_place 58 c.args.text.now c.memchr.result _ c.memchr.ensures refl
