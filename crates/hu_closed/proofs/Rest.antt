-- Records from the first that holds a key on.
use Rattle.std.proofs.Common.{◌≡◌, ◌∙◌, ℕ, zero, suc, ◌+◌, ◌<◌, ℤ, pos, Bool, true, not, ◌&&◌, ◌||◌, List, [], ◌∷◌, length, get_or, take, drop}
use Rattle.std.proofs.Common.{refl, sym, ap, arith}
use Rattle.std.specs.List.{list_all}
use Rattle.std.proofs.lemmas.Bool.{or_left}
use Rattle.std.proofs.lemmas.List.{take-append-drop, length-drop, get_or-drop, get_or_default}
use Rattle.std.proofs.lemmas.List.Folds.{list_all-append}
use Rattle.hu_kind.specs.Order.{Ascend}
use Rattle.hu_closed.specs.Keys.{are_among, is_among}
use Rattle.hu_closed.specs.Holders.{found_at}
use Rattle.hu_closed.specs.Found.{stands_in, IsHeld}
use Rattle.hu_closed.proofs.ListTests.{all-kept}

unheld-stands : (key : List ℤ) (item : ℕ) (before : List (List ℕ)) → list_all (λ items. not (are_among items key)) before ≡ true
    → stands_in before key item ≡ true
unheld-stands key item before none =
    all-kept (λ items. not (are_among items key)) (λ items. not (are_among items key) || is_among items (pos item))
    (λ items out. or_left (not (are_among items key)) (is_among items (pos item)) out) before none

-- those before hold no key that an item could lack
stands-drop : (found : List (List ℕ)) (key : List ℤ) (i : ℕ) (item : ℕ)
    → list_all (λ items. not (are_among items key)) (take i found) ≡ true → stands_in (drop i found) key item ≡ stands_in found key item
stands-drop found key i item none =
    let test : List ℕ → Bool = λ items. not (are_among items key) || is_among items (pos item) in
    sym (ap (λ b. b && list_all test (drop i found)) (unheld-stands key item (take i found) none))
    ∙ sym (list_all-append test (take i found) (drop i found))
    ∙ ap (list_all test) (take-append-drop i found)

-- what stands at places from one on
pub found_at-drop : (lists : List (List ℕ)) (i : ℕ) (places : List ℕ) → found_at lists (drop i places) ≡ drop i (found_at lists places)
found_at-drop lists zero places = refl
found_at-drop lists (suc i) [] = refl
found_at-drop lists (suc i) (p ∷ places) = found_at-drop lists i places

pub IsHeld-from : (found : List (List ℕ)) (key : List ℤ) (i : ℕ) (items : List ℕ) → i < length found
    → items ≡ get_or found i [] → Ascend items → are_among items key ≡ true
    → list_all (λ items. not (are_among items key)) (take i found) ≡ true → IsHeld found key (drop i found) items
IsHeld-from found key i items within is up whole none =
    let here : get_or found i items ≡ items = get_or_default found i items [] within ∙ sym is in
    let same : i + 0 ≡ i = omega arith in
    let first : get_or (drop i found) 0 items ≡ items = get_or-drop i found 0 items ∙ ap (λ k. get_or found k items) same ∙ here in
    record {
      holding = record {
        ascending = up;
        at = (0, omega (arith, length-drop i found), first);
        whole = whole;
      };
      part = (i, within, here);
      stands = λ item. stands-drop found key i item none;
    }
