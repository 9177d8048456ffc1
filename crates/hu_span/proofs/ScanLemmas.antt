-- What is told row by row while it is gathered.
use Rattle.std.proofs.Common.{◌≡◌, ℕ, suc, ◌+◌, ◌<◌, Bool, ℤ, List, [], ◌∷◌, ◌++◌, map, length, filter, get_or, take, drop, flat_map}
use Rattle.std.proofs.Common.{append-nil, refl, sym, ap, ◌∙◌, subst, inr}
use Rattle.std.specs.List.{AllByRecursion}
use Rattle.std.proofs.lemmas.List.{map-append, take_more, take-append-drop}
use Rattle.std.proofs.lemmas.List.Concat.{flat_map-append}
use Rattle.hu_kind.specs.Sequence.{IsSequence}
use Rattle.hu_kind.proofs.lemmas.Each.{each-left, each-right}
use Rattle.hu_chain.specs.declared.chain.Growth.{Growth}
use Rattle.hu_chain.specs.declared.chain.Growth.TheVariants.{IntoLast, AfterLast}
use Rattle.hu_chain.specs.declared.place.Place.{Place}
use Rattle.hu_chain.specs.Bound.{IsFit}
use Rattle.hu_chain.specs.Pattern.{last_item, Ends}
use Rattle.hu_chain.specs.Place.{chain_of}
use Rattle.hu_chain.specs.Search.{IsPlaceOf}
use Rattle.hu_chain.proofs.lemmas.Growing.{chain_of-rules}
use Rattle.hu_span.specs.declared.links.Links.{Links}
use Rattle.hu_span.specs.declared.mark.Mark.{Mark}
use Rattle.hu_span.specs.declared.tally.Told.{Told}
use Rattle.hu_span.specs.declared.trail.Held.{Held}
use Rattle.hu_span.specs.declared.trail.TrailCell.{TrailCell}
use Rattle.hu_span.specs.Child.{ArePlaces, AreTold, IsGathered, MayTellEach}
use Rattle.hu_span.specs.Gather.{beside_marks, row_marks}
use Rattle.hu_span.specs.Growing.{AreRecords, IsReached, Records}
use Rattle.hu_span.specs.Kept.{takes, weighed_of}
use Rattle.hu_span.specs.Mark.{mark_at, marks_from, marks_of, places_of}
use Rattle.hu_span.specs.Trail.{AreHeld}
use Rattle.hu_span.proofs.FamilyLemmas.{may-tell-each}
use Rattle.hu_span.proofs.GatherLemmas.{grown_from}
use Rattle.hu_span.proofs.ReachLemmas.{Ends-reached}
use Rattle.hu_span.proofs.RowsLemmas.{beside_kept, beside-all, fit-each, grown-kept, AreRowsLeft}
use Rattle.hu_span.proofs.WalkLemmas.{beside-fit, fit-taken, later-fit, stays-fit}
use Rattle.hu_span.proofs.WeighedLemmas.{weighed-records}

-- ---- all marks fit

row-fit : (growth : Growth) (r : List (List (ℕ × ℤ))) (row last : ℕ) (places : List Place) → IsSequence r → AllByRecursion (IsPlaceOf r last) places
    → AllByRecursion IsFit places → AllByRecursion IsFit (places_of (row_marks growth r row places))
row-fit IntoLast r row last [] rules are fits = tt
row-fit IntoLast r row last (place ∷ places) rules are fits =
    let here = beside_marks r row place in
    let others = row_marks IntoLast r row places in
    stays-fit here (here ++ others) others refl (row-fit IntoLast r row last places rules are.1 fits.1) (beside-fit r rules last row place are.0 fits.0)
row-fit AfterLast r row last places rules are fits = later-fit r last row places rules are fits

places-at : (row item : ℕ) (places : List Place) → places_of (map (mark_at row item) places) ≡ places
places-at row item [] = refl
places-at row item (place ∷ places) = ap (λ ps. place ∷ ps) (places-at row item places)

grown-fit : (growth : Growth) (pattern : List (List ℕ)) (row : ℕ) (rs : Records) → AllByRecursion IsSequence rs → Ends pattern
    → AllByRecursion IsFit (places_of (marks_from pattern (last_item pattern) row rs))
    → AllByRecursion IsFit (places_of (grown_from growth pattern row rs))
grown-fit growth pattern row [] rules ends fit = tt
grown-fit growth pattern row (r ∷ rs) rules ends fit =
    let own = map (mark_at row (last_item pattern)) (chain_of pattern r) in
    let more = marks_from pattern (last_item pattern) (suc row) rs in
    let split = subst (AllByRecursion IsFit) (map-append (λ (mark : Mark). mark.place) own more) fit in
    let front = each-left IsFit (places_of own) (places_of more) split in
    let back = each-right IsFit (places_of own) (places_of more) split in
    let here = row_marks growth r row (chain_of pattern r) in
    let others = grown_from growth pattern (suc row) rs in
    stays-fit here (here ++ others) others refl (grown-fit growth pattern (suc row) rs rules.1 ends back)
    (row-fit growth r row (last_item pattern) (chain_of pattern r) rules.0 (chain_of-rules pattern r ends)
    (subst (AllByRecursion IsFit) (places-at row (last_item pattern) (chain_of pattern r)) front))

-- all marks of kept items by which a pattern grows
abbrev pub all_grown : Growth → (ℕ → Bool) → Records → List (List ℕ) → List Mark
all_grown growth keep records pattern = filter (takes keep) (grown_from growth pattern 0 records)

pub all-gathered : (growth : Growth) (keep : ℕ → Bool) (records : Records) (pattern : List (List ℕ)) (marks : List Mark) → AreRecords records
    → IsReached pattern → ArePlaces records pattern (last_item pattern) marks
    → IsGathered records keep pattern growth (all_grown growth keep records pattern)
all-gathered growth keep records pattern marks are is places =
    let fit = subst (λ ms. AllByRecursion IsFit (places_of ms)) places.is (fit-each records (last_item pattern) marks places.each) in
    let fits = grown-fit growth pattern 0 records are.rules (Ends-reached pattern is) fit in
    record {
      are = are;
      begun = inr is;
      grown = grown-kept keep growth records pattern (all_grown growth keep records pattern) are.rules is refl
          (fit-taken (takes keep) (grown_from growth pattern 0 records) fits);
    }

-- of a pattern whose places are held
pub held-gathered : (growth : Growth) {keep : ℕ → Bool} {records : Records} {trail : List TrailCell} {pattern : List (List ℕ)} {held : Held}
    → AreHeld keep records trail pattern held
    → IsGathered (weighed_of keep records) keep pattern growth (all_grown growth keep (weighed_of keep records) pattern)
held-gathered growth {keep} {records} {trail} {pattern} {held} are =
    all-gathered growth keep (weighed_of keep records) pattern held.marks.items (weighed-records keep records are.are) are.reached are.places

-- ---- beside each place

pub map-next : {X A : Type 0} (f : X → List A) (xs : List X) (i : ℕ) (d : X) → i < length xs
    → flat_map f (take i xs) ++ f (get_or xs i d) ≡ flat_map f (take (i + 1) xs)
map-next f xs i d within =
    let x = get_or xs i d in
    ap (λ ys. flat_map f (take i xs) ++ ys) (sym (append-nil (f x))) ∙ sym (flat_map-append f (take i xs) (x ∷ []))
    ∙ ap (flat_map f) (sym (take_more xs i d within))

map-split : {X A : Type 0} (f : X → List A) (xs : List X) (i : ℕ) (d : X) → i < length xs
    → flat_map f xs ≡ (flat_map f (take i xs) ++ f (get_or xs i d)) ++ flat_map f (drop (i + 1) xs)
map-split f xs i d within =
    ap (flat_map f) (sym (take-append-drop (i + 1) xs)) ∙ flat_map-append f (take (i + 1) xs) (drop (i + 1) xs)
    ∙ ap (λ ys. ys ++ flat_map f (drop (i + 1) xs)) (sym (map-next f xs i d within))

pub beside-may : (keep : ℕ → Bool) (records : Records) (pattern : List (List ℕ)) (marks : List Mark) (i : ℕ) (d : Mark)
    → IsGathered records keep pattern IntoLast (all_grown IntoLast keep records pattern) → marks ≡ marks_of records pattern (last_item pattern)
    → i < length marks
    → MayTellEach (flat_map (beside_kept keep records) (take i marks)) (beside_kept keep records (get_or marks i d))
beside-may keep records pattern marks i d all is within =
    let f = beside_kept keep records in
    may-tell-each records keep pattern IntoLast (all_grown IntoLast keep records pattern) all
    (flat_map f (take i marks)) (f (get_or marks i d)) (flat_map f (drop (i + 1) marks))
    (sym (beside-all keep records pattern (last_item pattern)) ∙ ap (flat_map f) (sym is) ∙ map-split f marks i d within)

-- ---- row by row

-- what was told of the rows that are done
pub record AreHeard (records : Records) (keep : ℕ → Bool) (pattern : List (List ℕ)) (reaches : List ℤ) (links : Links) (tells : List Told)
    (left : List Mark) : Type 0 where
  pub done : List Mark
  pub rows : AreRowsLeft records keep pattern left done
  pub told : AreTold reaches links tells done

pub rows-may : (keep : ℕ → Bool) (records : Records) (pattern : List (List ℕ)) (left done more : List Mark)
    → IsGathered records keep pattern AfterLast (all_grown AfterLast keep records pattern) → AreRowsLeft records keep pattern left (done ++ more)
    → MayTellEach done more
rows-may keep records pattern left done more all next =
    may-tell-each records keep pattern AfterLast (all_grown AfterLast keep records pattern) all done more
    (filter (takes keep) (grown_from AfterLast pattern next.rest.row (drop next.rest.row records))) (sym next.so_far)
