-- Entries that are found first and offered then.
use Rattle.std.proofs.Common.{◌≡◌, ℕ, int_le, nat_le, true, ℤ, ◌≤ℤ◌, None, List, [], ◌∷◌, ◌++◌, length}
use Rattle.std.proofs.Common.{refl, sym, ap, ◌∙◌, subst, arith, append_assoc, append-nil, Contains, Result, Ok, Err, IfOk, IsErr}
use Rattle.std.proofs.lemmas.Bool.{and_parts, and_from, le-leb}
use Rattle.std.proofs.lemmas.Int.{ints}
use Rattle.std.proofs.lemmas.List.Elements.{All-weaker}
use Rattle.hu_kind.specs.declared.entry.Entry.{Entry}
use Rattle.hu_kind.specs.Order.{entry_cmp}
use Rattle.hu_kind.specs.Answer.{found}
use Rattle.hu_kind.specs.Itemsets.{item_patterns}
use Rattle.hu_kind.proofs.lemmas.Members.{Member-append_left, Member-filter, Member-from_filter, Member-from_contains, Contains-from_member}
use Rattle.hu_totals.proofs.lemmas.RankingRules.{All-from_each}
use Rattle.hu_totals.proofs.lemmas.SortedLists.{Member-from_ranking, Member-to_ranking}
use Rattle.hu_kind.proofs.lemmas.Occurring.{by_members}
use Rattle.hu_collect.specs.State.{State, offered, floor_in, IsInOrder, OfferedSome, Mines}
use Rattle.hu_kind.proofs.lemmas.EntryOrder.{entry_exact}
use Rattle.hu_collect.proofs.lemmas.Searching.{offered-then, offered-reaching}
use Rattle.hu_lengths.specs.Lengths.{has_length, of_lengths, upto_length, sized_answer}

-- ---- offers in turn

-- the first of some entries were offered
pub record IsPart (old now : State) (whole rest : List Entry) : Type 0 where
  pub done : List Entry
  pub parts : done ++ rest ≡ whole
  pub is : now ≡ offered old done

pub part-none : (s : State) (whole : List Entry) → IsInOrder s → IsPart s s whole whole
part-none s whole ordered = record { done = []; parts = refl; is = sym ordered }

pub part-next : {old now next : State} {whole rest : List Entry} (entry : Entry) → IsPart old now whole (entry ∷ rest)
    → next ≡ offered now (entry ∷ []) → IsPart old next whole rest
part-next {old} {now} {rest = rest} entry part takes = record {
  done = part.done ++ entry ∷ [];
  parts = append_assoc part.done (entry ∷ []) rest ∙ part.parts;
  is = takes ∙ ap (λ s. offered s (entry ∷ [])) part.is ∙ offered-then old part.done (entry ∷ []);
}

pub part-all : {old now : State} {whole : List Entry} → IsPart old now whole [] → now ≡ offered old whole
part-all {old} part = part.is ∙ ap (offered old) (sym (append-nil part.done) ∙ part.parts)

pub part-some : {old now : State} {whole rest : List Entry} → IsPart old now whole rest → OfferedSome old whole now
part-some {whole = whole} {rest} part = (
  part.done,
  All-from_each (Contains whole) part.done (by_members (Contains whole) part.done (λ e m.
      subst (λ es. Contains es e) part.parts (Contains-from_member e (part.done ++ rest) (Member-append_left e part.done rest m)))),
  part.is,
)

-- ---- what is found first

module _ (long : ℕ) (floor : ℤ) (records : List (List (ℕ × ℤ))) where
  found-upto : (x : Entry) → Contains (sized_answer records floor None 0 long) x → Contains (upto_length long (item_patterns records)) x
  found-upto x c =
      let sized = found floor (item_patterns records) in
      let ranked = Member-from_ranking entry_cmp x (of_lengths 0 long sized) (Member-from_contains x (sized_answer records floor None 0 long) c) in
      let here = Member-from_filter (λ (e : Entry). has_length 0 long e.key) x sized ranked in
      let pattern = Member-from_filter (λ (e : Entry). int_le floor e.utility) x (item_patterns records) here.0 in
      let short = and_parts (nat_le 0 (length x.key)) (nat_le (length x.key) long) here.1 in
      Contains-from_member x (upto_length long (item_patterns records))
      (Member-filter (λ (e : Entry). nat_le (length e.key) long) x (item_patterns records) pattern.0 short.1)

  upto-found : (x : Entry) → floor ≤ℤ x.utility → Contains (upto_length long (item_patterns records)) x → Contains (sized_answer records floor None 0 long) x
  upto-found x reaches c =
      let sized = found floor (item_patterns records) in
      let here = Member-from_filter (λ (e : Entry). nat_le (length e.key) long) x (item_patterns records) (Member-from_contains x
      (upto_length long (item_patterns records)) c) in
      let enough : int_le floor x.utility ≡ true = grind (arith, ints) in
      let fits : has_length 0 long x.key ≡ true = and_from (nat_le 0 (length x.key)) (nat_le (length x.key) long) (le-leb 0 (length x.key)
      (omega arith)) here.1 in
      Contains-from_member x (sized_answer records floor None 0 long)
      (Member-to_ranking entry_cmp entry_exact x (of_lengths 0 long sized)
      (Member-filter (λ (e : Entry). has_length 0 long e.key) x sized
      (Member-filter (λ (e : Entry). int_le floor e.utility) x (item_patterns records) here.0 enough) fits))

-- offers of what was found first are offers of all up to a length
pub mines-upto : {T E : Type 0} (result : Result T E) (old new : State) (long : ℕ) (records : List (List (ℕ × ℤ))) → IsInOrder old
    → Mines old (sized_answer records (floor_in old) None 0 long) new result → Mines old (upto_length long (item_patterns records)) new result
mines-upto (Ok x) old new long records ordered is =
    is ∙ offered-reaching old (sized_answer records (floor_in old) None 0 long) (upto_length long (item_patterns records)) ordered
    (λ e passing reaches. (found-upto long (floor_in old) records e, upto-found long (floor_in old) records e reaches))
mines-upto (Err x) old new long records ordered some = (
  some.0,
  All-weaker (Contains (sized_answer records (floor_in old) None 0 long)) (Contains (upto_length long (item_patterns records)))
      (found-upto long (floor_in old) records) some.0 some.1,
  some.2,
)

pub if_ok-as : {T E : Type 0} (result : Result T E) (P Q : T → Type 0) → ((x : T) → P x → Q x) → IfOk result P → IfOk result Q
if_ok-as (Ok x) P Q f h = f x h
if_ok-as (Err e) P Q f h = tt

-- want of memory leaves some of the offers
pub stopped : {T E : Type 0} (old new : State) (entries : List Entry) (result : Result T E) → IsErr result → OfferedSome old entries new
    → Mines old entries new result
stopped old new entries (Ok x) err some = cc
stopped old new entries (Err e) err some = some
