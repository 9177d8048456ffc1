-- A worked row that takes a lemma: what is said of all supersets.
use Rattle.std.proofs.Common.{[], ◌∷◌, refl, arith}
use Rattle.hu_kind.specs.Worked.{base_a}
use Rattle.hu_answer.specs.Supersets.{IsClosedSet}
use Rattle.hu_answer.proofs.lemmas.Closed.{closed-set}

-- in base A {2, 3, 5} is closed
pub closed_2_3_5 : IsClosedSet base_a (2 ∷ 3 ∷ 5 ∷ [])
closed_2_3_5 = closed-set base_a (2 ∷ 3 ∷ 5 ∷ []) (omega arith) refl
