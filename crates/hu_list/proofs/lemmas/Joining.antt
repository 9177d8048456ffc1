-- Lists that may be joined.
use Rattle.std.proofs.Common.{◌≡◌, ℕ, ◌<◌, None, List, [], ◌∷◌, refl}
use Rattle.hu_totals.specs.Ranked.{Ranking, IsRanking}
use Rattle.hu_list.specs.declared.list.Node.{Node}
use Rattle.hu_list.specs.Nodes.{list_of}
use Rattle.hu_list.specs.Joins.{Joins}
use Rattle.hu_list.proofs.ListLemmas.{AreRanked-ranking}

-- the lists of two ranks
pub Joins-single : (r : Ranking) → IsRanking r → (x y : List Node) (a b : ℕ) → a < b → x ≡ list_of r.records (a ∷ [])
    → y ≡ list_of r.records (b ∷ []) → Joins None x y r.records [] a b
Joins-single r rules x y a b below x_is y_is =
    record {
      ranked = AreRanked-ranking r rules;
      ascending = ((below, tt), (tt, tt));
      prefix_is = refl;
      x_is = x_is;
      y_is = y_is;
    }
