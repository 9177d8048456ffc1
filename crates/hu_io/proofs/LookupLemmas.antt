-- Look-ups by name in a map from texts, and in the list of its pairs.
use Rattle.std.proofs.Common.{◌≡◌, ℕ, Bool, true, false, cond, List, [], ◌∷◌, map, Option, Some, String, refl, ap, sym, ◌∙◌}
use Rattle.std.specs.Option.{option_map}
use Rattle.std.specs.Map.{lookup}
use Rattle.std.specs.BTreeMap.{BTreeMap, UpdatesBy, get_by_text}
use Rattle.std.specs.Str.{bytes_eq}
use Rattle.std.specs.String.{string_bytes, string_cmp}
use Rattle.std.specs.Ordering.{is_eq, nat_cmp}
use Rattle.std.specs.Cmp.Lexicographic.{slice_cmp}
use Rattle.std.proofs.lemmas.Map.Text.{is_eq-slice_cmp, btree_map_updates_text}
use Rattle.std.proofs.lemmas.Bool.{false_from_ne_true}
use Rattle.std.proofs.lemmas.Slice.Eq.{bytes_eq-Decides}
use Rattle.hu_io.specs.Files.{content_in, Adds}

-- the pairs (name, bytes) of a map's entries
abbrev pub pairs_of : {Y X : Type 0} → (X → List ℕ) → List (String Y × X) → List (List ℕ × List ℕ)
pairs_of g es = map (λ e. (string_bytes e.0, g e.1)) es

-- a value that is read after a choice is chosen among values that are read
option_map-cond : {X Y : Type 0} (g : X → Y) (b : Bool) (x : X) (p : Option Y) (q : Option X) → p ≡ option_map g q
    → cond b (Some (g x)) p ≡ option_map g (cond b (Some x) q)
option_map-cond g true x p q e = refl
option_map-cond g false x p q e = e

-- the pairs find by its bytes what the entries find by the order of texts
pub content_in-pairs : {Y X : Type 0} (g : X → List ℕ) (name : List ℕ) (es : List (String Y × X))
    → content_in (pairs_of g es) name ≡ option_map g (lookup (λ k. is_eq (slice_cmp nat_cmp name (string_bytes k))) es)
content_in-pairs g name [] = refl
content_in-pairs g name ((k, x) ∷ es) = rw is_eq-slice_cmp (option_map-cond g _ x _ _ (content_in-pairs g name es))

-- a value set at a name is what the pairs find there, and the other names are as before
pub Adds-pairs : {Y X : Type 0} (g : X → List ℕ) (name : List ℕ) (m n : BTreeMap (String Y) X) (x : X)
    → UpdatesBy string_cmp (λ k. slice_cmp nat_cmp name (string_bytes k)) m n (Some x)
    → Adds (pairs_of g m.entries) (pairs_of g n.entries) name (g x)
Adds-pairs g name m n x h = record {
  added = content_in-pairs g name n.entries ∙ ap (option_map g) h.1;
  others = λ other ne.
      let differs : bytes_eq name other ≡ false = false_from_ne_true _ (λ e. ne (sym ((bytes_eq-Decides name other).0 e))) in
      let found : get_by_text n other ≡ get_by_text m other = btree_map_updates_text name m n (Some x) h other ∙ rw differs refl in
      content_in-pairs g other n.entries ∙ ap (option_map g) found ∙ sym (content_in-pairs g other m.entries);
}
