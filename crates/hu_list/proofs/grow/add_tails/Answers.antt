use Rattle.std.proofs.Common.{◌≡◌, ◌++◌, ◌∷◌, [], ℕ, List, Bool, true, false, pos, cond, get_or, length, drop, nat_lt, ◌&&◌, sym, ap, ◌∙◌, arith, ◌+ℤ◌, ◌+◌, ◌-◌, to_z, of_z, eqb}
use Rattle.std.proofs.Common.{take, refl, inl, inr}
use Rattle.std.specs.declared.vec.Vec.{Vec}
use Rattle.std.specs.declared.alloc.Global.{Global}
use Rattle.std.specs.Int.{w128}
use Rattle.std.proofs.lemmas.Bool.{lt-ltb, cases_eq, eq-eqb, eqb-true}
use Rattle.std.proofs.lemmas.List.{take_all, length-drop, length-map}
use Rattle.std.proofs.lemmas.Int.{ints}
use Rattle.hu_totals.specs.View.{dense_pair, cells_of}
use Rattle.hu_totals.specs.declared.ranked.Dense.{Dense}
use Rattle.hu_totals.specs.Cells.{among}
use Rattle.hu_totals.proofs.lemmas.GainLemmas.{place-within}
use Rattle.hu_search.specs.Slots.{at}
use Rattle.hu_search.proofs.lemmas.Slots.{added-seen}
use Rattle.hu_list.specs.declared.tail.Tail.{Tail}
use Rattle.hu_list.specs.Tails.{TailOf}
use Rattle.hu_list.specs.Passes.{growing}
use Rattle.hu_list.specs.View.{tail_of, lists_of}
use Rattle.hu_list.proofs.PassLemmas.{pass-next}
use Rattle.hu_list.proofs.grow.add_tails.Goals.{then-not-is_empty+in_ok-add, else-not-is_empty}
use Rattle.hu_list.proofs.grow.add_tails.Goals as goal

pub overflow_add-left : goal.overflow_add-left
overflow_add-left c =
    let none : Dense = record { rank = 0; value = pos 0 } in
    omega (arith, ints, place-within [] c.args.tail.now.cells.now c.loop-at.at none c.loop-at-test.true, c.requires.fits)

-- a number that isn't 0 is above it
has_some : (n : ℕ) → eqb n 0 ≡ false → nat_lt 0 n ≡ true
has_some n h = elim (cases_eq n 0) [
  | inl e ↦ let is : eqb n 0 ≡ true = eq-eqb n 0 e in cc
  | inr ne ↦ lt-ltb 0 n (omega (arith, ne))
]

-- a tail more where cells are left
one-more : (here kept some : Bool) (tails : List TailOf) (tail : TailOf) → some ≡ true
    → cond (here && kept) (tails ++ tail ∷ []) tails ≡ cond here (cond (kept && some) (tails ++ tail ∷ []) tails) tails
one-more true true some tails tail is = ap (λ b. cond b (tails ++ tail ∷ []) tails) (sym is)
one-more true false some tails tail is = refl
one-more false kept some tails tail is = refl

-- and none where there are none
none-more : (here kept some : Bool) (tails : List TailOf) (tail : TailOf) → some ≡ false
    → tails ≡ cond here (cond (kept && some) (tails ++ tail ∷ []) tails) tails
none-more true true some tails tail is = ap (λ b. cond b (tails ++ tail ∷ []) tails) (sym is)
none-more true false some tails tail is = refl
none-more false kept some tails tail is = refl

pub loop-at-preserved : goal.loop-at-preserved
loop-at-preserved c =
    let none : Dense = record { rank = 0; value = pos 0 } in
    let cells = c.args.tail.now.cells.now in
    let i = c.loop-at.at in
    let tail = tail_of c.args.tail.now in
    let keep = c.args.slots.now.ranks in
    let within = c.loop-at-test.true in
    let cell = get_or cells i none in
    let rest = drop (i + 1) cells in
    let same : take (length cells - (i + 1)) rest ≡ rest = take_all (length cells - (i + 1)) rest (omega (arith, length-drop (i + 1) cells)) in
    let size : length (take (length cells - (i + 1)) rest) ≡ length (cells_of rest) = ap length same ∙ sym (length-map rest dense_pair) in
    let own : to_z w128 (of_z w128 (to_z w128 (of_z w128 c.args.tail.now.own) +ℤ to_z w128 (of_z w128 cell.value))) ≡ tail.own +ℤ cell.value =
    omega (arith, ints, place-within [] cells i none within, c.requires.fits) in
    let lists_at : List (Vec Tail Global) → ℕ → List TailOf = λ lists z. at [] keep (lists_of lists) z in
    let olds = c.loop-at.lists.items in
    let left : TailOf = record { own = tail.own +ℤ cell.value; cells = cells_of rest } in
    let some = nat_lt 0 (length (cells_of rest)) in
    let after : (z : ℕ) → lists_at c.if-not-is_empty.lists.items z
    ≡ cond (eqb z cell.rank) (cond (among cell.rank keep && some) (lists_at olds z ++ left ∷ []) (lists_at olds z)) (lists_at olds z) =
    λ z. elim c.if-not-is_empty.branch [
      | then-not-is_empty+in_ok-add w ↦
          let empty : c.is_empty.result ≡ false = w.if-not-is_empty.true in
          let filled : some ≡ true = has_some (length (cells_of rest)) (ap (λ n. eqb n 0) (sym size) ∙ sym c.is_empty.ensures ∙ empty) in
          ap (λ (lists : Vec (Vec Tail Global) Global). lists_at lists.items z) w.lists-is
          ∙ added-seen tail_of keep olds w.add.new.lists.items (eqb z cell.rank && among cell.rank keep) _ z (w.in_ok-add.ensures.added z)
          ∙ (λ j. cond (eqb z cell.rank && among cell.rank keep)
          (lists_at olds z ++ (record { own = own j; cells = cells_of (same j) }) ∷ []) (lists_at olds z))
          ∙ one-more (eqb z cell.rank) (among cell.rank keep) some (lists_at olds z) left filled
      | else-not-is_empty w ↦
          let empty : c.is_empty.result ≡ true = w.if-not-is_empty.false in
          let none_left : some ≡ false =
          ap (nat_lt 0) (eqb-true (length (cells_of rest)) 0 (ap (λ n. eqb n 0) (sym size) ∙ sym c.is_empty.ensures ∙ empty)) in
          ap (λ (lists : Vec (Vec Tail Global) Global). lists_at lists.items z) w.lists-is
          ∙ none-more (eqb z cell.rank) (among cell.rank keep) some (lists_at olds z) left none_left
    ] in
    record {
      len = elim c.if-not-is_empty.branch [
        | then-not-is_empty+in_ok-add w ↦ ap (λ (lists : Vec (Vec Tail Global) Global). length lists.items) w.lists-is ∙ w.add.ensures.len
        | else-not-is_empty w ↦ ap (λ (lists : Vec (Vec Tail Global) Global). length lists.items) w.lists-is ∙ c.loop-at.invariant.len
      ];
      lists = λ z. pass-next cells i none c.requires.rules.ascending within (growing keep tail) z (lists_at olds z) (lists_at c.if-not-is_empty.lists.items z) (after z)
          ∙ c.loop-at.invariant.lists z;
    }
