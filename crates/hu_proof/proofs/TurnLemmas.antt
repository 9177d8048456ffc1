-- One line of the walk: what waits after it is what is to be opened.
use Rattle.std.proofs.Common.{◌≡◌, ℕ, zero, suc, ◌+◌, ◌<◌, ◌≤◌, ◌^◌, ℤ, pos, Option, None, Some, List, [], ◌∷◌, ◌++◌}
use Rattle.std.proofs.Common.{map, filter, length, take, drop, refl, sym, ap, ◌∙◌, subst, inl, inr, ◌⊎◌, arith, sum_by}
use Rattle.std.proofs.Common.{IfSome, IfNone, ◌==◌, Ok, Err}
use Rattle.std.specs.Prelude.{is_none, Result}
use Rattle.std.specs.Result.{IsErr, IsErrAnd}
use Rattle.std.specs.List.{AllByRecursion, join_with_byte}
use Rattle.std.proofs.lemmas.Bool.{cond_both}
use Rattle.std.proofs.lemmas.List.{take_all, length-append, map-append, length-map}
use Rattle.std.proofs.lemmas.List.Splits.{join_with_byte-slice_split, length-slice_split}
use Rattle.hu_kind.specs.declared.entry.Entry.{Entry}
use Rattle.hu_collect.specs.State.{State, offered}
use Rattle.hu_collect.proofs.lemmas.Searching.{offered-then}
use Rattle.hu_kind.proofs.lemmas.EntryOrder.{entry-same}
use Rattle.hu_proof.specs.Opened.{prefixes_in, prefix_entry}
use Rattle.hu_kind.specs.Record.{absolute_of}
use Rattle.hu_kind.proofs.lemmas.FirstLemmas.{first_skip, first_here, first_alone}
use Rattle.hu_kind.proofs.lemmas.Members.{Member}
use Rattle.hu_proof.specs.declared.fault.CheckFault.{CheckFault}
use Rattle.hu_proof.specs.declared.line.Opened.{Opened}
use Rattle.hu_proof.specs.declared.token.Token.{Token}
use Rattle.hu_proof.specs.Check.{Node, grown, children, line_fault, opened_by, walk}
use Rattle.hu_proof.specs.Judged.{token_items, line_fault_at, Judges, SaysTokens, node_at}
use Rattle.hu_proof.specs.Places.{PlaceOf, held, narrowed, earned, Apart, Follows, HasRoom, AllAscend, places_of}
use Rattle.hu_proof.specs.Text.{pieces, said_of}
use Rattle.hu_proof.specs.Words.{numbers_of}
use Rattle.hu_kind.specs.declared.item.Item.{Item}
use Rattle.hu_proof.specs.Waiting.{WaitingOf, entry_at, prefix_at, nodes_of, nodes_now, Stands, IsNode, Fits, Steps}
use Rattle.hu_proof.specs.Waiting.{IsChild, AreChildren, open_items, PushesChildren}
use Rattle.hu_proof.proofs.HeldLemmas.{narrowed-held, line_fault-held, earned-held, length-held, room-held}
use Rattle.hu_proof.proofs.Orders.{Apart-grown, each-follows}
use Rattle.hu_proof.proofs.Walks.{checked, prefixes-cons}

-- ---- children

-- the nodes of waiting children are the children of the node
record Children (records : List (List (ℕ × ℤ))) (order path : List ℕ) (from : ℕ) (items : List ℕ) (children stack : List WaitingOf) : Type 0 where
  nodes : nodes_of order path (children ++ stack) ≡ map (grown (node_at order path from)) items ++ nodes_of order path stack
  fits : Fits records order path (children ++ stack)

whole-path : (path : List ℕ) (n : ℕ) → n ≡ length path → take n path ≡ path
whole-path path n e = take_all n path (omega arith)

child-node : (records : List (List (ℕ × ℤ))) (order path : List ℕ) (from depth : ℕ) (places : List PlaceOf) (item : ℕ) (child : WaitingOf)
    → depth ≡ length path
    → IsNode records order path from places → Member item (drop from order) → IsChild order depth from places item child
    → IsNode records order (prefix_at path child) child.from child.places
child-node records order path from depth places item child at node m c =
    let prefix : prefix_at path child ≡ path ++ item ∷ [] = rw (c.of_item) (ap (λ p. p ++ item ∷ []) (whole-path path child.depth (c.at_depth ∙ at))) in
    record {
      holds = c.narrow ∙ (ap (narrowed item) node.holds ∙ (narrowed-held records path item ∙ ap (held records) (sym prefix)));
      apart = subst (λ p. Apart (p ++ drop child.from order)) (sym prefix)
          (subst (λ later. Apart ((path ++ item ∷ []) ++ later)) (sym c.later) (Apart-grown path (drop from order) item node.apart m));
    }

-- the node of a waiting child
child-grown : (order path : List ℕ) (from depth : ℕ) (places : List PlaceOf) (item : ℕ) (child : WaitingOf) → take child.depth path ≡ path
    → IsChild order depth from places item child
    → node_at order (prefix_at path child) child.from ≡ grown (node_at order path from) item
child-grown order path from depth places item child same c =
    ap (λ p. node_at order p child.from) (ap (λ q. q ++ child.item ∷ []) same ∙ ap (λ i. path ++ i ∷ []) c.of_item)
    ∙ ap (λ (later : List ℕ). let n : Node = record { prefix = path ++ item ∷ []; later = later } in n) c.later

are-children : (records : List (List (ℕ × ℤ))) (order path : List ℕ) (from depth : ℕ) (places : List PlaceOf) (items : List ℕ)
    (children stack : List WaitingOf) → depth ≡ length path
    → IsNode records order path from places → AllByRecursion (λ item. Member item (drop from order)) items
    → AreChildren order depth from places items children → Fits records order path stack
    → Children records order path from items children stack
are-children records order path from depth places [] [] stack at node all a fits = record { nodes = refl; fits = fits }
are-children records order path from depth places [] (c ∷ cs) stack at node all a fits = absurd a
are-children records order path from depth places (x ∷ xs) [] stack at node all a fits = absurd a
are-children records order path from depth places (x ∷ xs) (c ∷ cs) stack at node all a fits =
    let rest = are-children records order path from depth places xs cs stack at node all.1 a.1 fits in
    let one = child-node records order path from depth places x c at node all.0 a.0 in
    let same : take c.depth path ≡ path = whole-path path c.depth (a.0.at_depth ∙ at) in
    record {
      nodes = ap (λ p. node_at order (prefix_at path c) c.from ∷ nodes_of order p (cs ++ stack)) same
          ∙ (ap (λ ns. node_at order (prefix_at path c) c.from ∷ ns) rest.nodes
          ∙ ap (λ n. n ∷ (map (grown (node_at order path from)) xs ++ nodes_of order path stack)) (child-grown order path from depth places x c same a.0));
      fits = (omega (arith, a.0.at_depth), one, subst (λ p. Fits records order p (cs ++ stack)) (sym same) rest.fits);
    }

-- ---- the next prefix

take-front : (n : ℕ) (path : List ℕ) (item : ℕ) → n ≤ length path → take n (path ++ item ∷ []) ≡ take n path
take-front zero path item within = refl
take-front (suc n) [] item within = absurd (omega arith)
take-front (suc n) (x ∷ xs) item within = ap (λ ys. x ∷ ys) (take-front n xs item (omega arith))

longer-depth : (n : ℕ) (path : List ℕ) (item : ℕ) → n ≤ length path → n ≤ length (path ++ item ∷ [])
longer-depth n path item within = omega (arith, length-append path (item ∷ []))

longer : (records : List (List (ℕ × ℤ))) (order path : List ℕ) (item : ℕ) (stack : List WaitingOf) → Fits records order path stack
    → (nodes_of order (path ++ item ∷ []) stack ≡ nodes_of order path stack) × Fits records order (path ++ item ∷ []) stack
longer records order path item [] fits = (refl, tt)
longer records order path item (q ∷ stack) fits =
    let same : take q.depth (path ++ item ∷ []) ≡ take q.depth path = take-front q.depth path item fits.0 in (
      ap (λ p. node_at order (p ++ q.item ∷ []) q.from ∷ nodes_of order p stack) same,
      (
        longer-depth q.depth path item fits.0,
        subst (λ p. IsNode records order (p ++ q.item ∷ []) q.from q.places) (sym same) fits.1,
        subst
            (λ p. Fits records order p stack) (sym same) fits.2,
      ),
    )

-- what Steps leads to
record Stepped (records : List (List (ℕ × ℤ))) (order path path' : List ℕ) (stack stack' : List WaitingOf) (from : ℕ) (places : List PlaceOf) : Type 0 where
  nodes : nodes_of order path stack ≡ node_at order path' from ∷ nodes_of order path' stack'
  node : IsNode records order path' from places
  fits : Fits records order path' stack'

stepped : (records : List (List (ℕ × ℤ))) (order path path' : List ℕ) (stack stack' : List WaitingOf) (from : ℕ) (places : List PlaceOf)
    → Fits records order path stack
    → Steps path stack path' stack' from places → Stepped records order path path' stack stack' from places
stepped records order path path' stack stack' from places fits s =
    let one = s.one in
    let waits : Fits records order path (one ∷ stack') = subst (Fits records order path) s.is fits in
    let long = longer records order (take one.depth path) one.item stack' waits.2 in
    let same : prefix_at path one ≡ path' = sym s.leads in
    record {
      nodes = ap (nodes_of order path) s.is
          ∙ (ap (λ ns. node_at order (prefix_at path one) one.from ∷ ns) (sym long.0)
          ∙ (ap (λ p. node_at order p one.from ∷ nodes_of order p stack') same ∙ ap (λ f. node_at order path' f ∷ nodes_of order path' stack') s.starts));
      node = subst (λ p. IsNode records order p from places) same
          (subst (λ f. IsNode records order (prefix_at path one) f places) s.starts
          (subst (IsNode records order (prefix_at path one) one.from) s.holds waits.1));
      fits = subst (λ p. Fits records order p stack') same long.1;
    }

-- after the next prefix is taken, or none is there
pub record Turned (records : List (List (ℕ × ℤ))) (order path path' : List ℕ) (stack stack' : List WaitingOf) (next : Option Opened) : Type 0 where
  pub nodes : nodes_of order path stack ≡ nodes_now order path' stack' next
  pub stands : Stands records order path' stack' next

pub turned : (records : List (List (ℕ × ℤ))) (order path path' : List ℕ) (stack stack' : List WaitingOf) (next : Option Opened)
    → Fits records order path stack
    → IfSome next (λ node. Steps path stack path' stack' node.from (places_of node.places.items)) → IfNone next ((stack ≡ []) × (stack' ≡ []))
    → Turned records order path path' stack stack' next
turned records order path path' stack stack' None fits some none = record {
  nodes = ap (nodes_of order path) none.0 ∙ ap (nodes_of order path') (sym none.1);
  stands = none.1;
}
turned records order path path' stack stack' (Some node) fits some none =
    let s = stepped records order path path' stack stack' node.from (places_of node.places.items) fits some in
    record { nodes = s.nodes; stands = (s.node, s.fits) }

-- ---- a line

each-open : (P : ℕ → Type 0) (tokens : List Token) → AllByRecursion P (token_items tokens) → AllByRecursion P (open_items tokens)
each-open P [] all = tt
each-open P (token ∷ tokens) all =
    let rest = each-open P tokens all.1 in
    cond_both (is_none token.bound) (token ∷ filter (λ t. is_none t.bound) tokens) (filter (λ t. is_none t.bound) tokens)
    (λ ts. AllByRecursion P (map (λ (t : Token). t.item.0) ts)) (λ e. (all.0, rest)) (λ e. rest)

map-items : (node : Node) (tokens : List Token) → map (grown node) (map (λ (t : Token). t.item.0) tokens) ≡ map (λ t. grown node t.item.0) tokens
map-items node [] = refl
map-items node (token ∷ tokens) = ap (λ ns. grown node token.item.0 ∷ ns) (map-items node tokens)

walk-line : (records : List (List (ℕ × ℤ))) (least : ℤ) (line : ℕ) (node : Node) (nodes : List Node) (text : List ℕ) (rest : List (List ℕ))
    → 0 < length rest → line_fault records least line node (said_of text) ≡ None
    → walk records least line (node ∷ nodes) (text ∷ rest) ≡ walk records least (line + 1) (opened_by node (said_of text) ++ nodes) rest
walk-line records least line node nodes text [] some e = absurd (omega arith)
walk-line records least line node nodes text (next ∷ rest) some e =
    let later = walk records least (line + 1) (opened_by node (said_of text) ++ nodes) (next ∷ rest) in
    first_skip (line_fault records least line node (said_of text)) (later ∷ []) e ∙ first_alone later

-- a line without a fault
pub record Passed (records : List (List (ℕ × ℤ))) (least : ℤ) (line : ℕ) (order path : List ℕ) (from : ℕ) (stack stack' : List WaitingOf) (text : List ℕ)
    (rest : List (List ℕ)) : Type 0 where
  pub walks : walk records least line (node_at order path from ∷ nodes_of order path stack) (text ∷ rest) ≡ walk records least (line + 1)
      (nodes_of order path stack') rest
  pub fits : Fits records order path stack'
  pub prefixes : prefixes_in (text ∷ rest) ≡ path ∷ prefixes_in rest

pub passed : (records : List (List (ℕ × ℤ))) (least : ℤ) (line : ℕ) (order path : List ℕ) (from depth : ℕ) (places : List PlaceOf)
    (stack stack' : List WaitingOf) (text : List ℕ) (rest : List (List ℕ))
    → depth ≡ length path → IsNode records order path from places → Fits records order path stack → 0 < length rest
    → line_fault_at least line (node_at order path from) places (said_of text) ≡ None
    → (told : (tokens : List Token) × SaysTokens text tokens × Follows (drop from order) (token_items tokens) × PushesChildren order depth from places
    tokens stack stack')
    → Passed records least line order path from stack stack' text rest
passed records least line order path from depth places stack stack' text rest at node fits some fault told =
    let tokens = told.0 in
    let said = told.1.0 in
    let here = node_at order path from in
    let none : line_fault records least line here (said_of text) ≡ None =
    sym (line_fault-held records least line here places (said_of text) node.holds) ∙ fault in
    let all = each-open (λ item. Member item (drop from order)) tokens (each-follows (drop from order) (token_items tokens) told.2) in
    let waits = are-children records order path from depth places (open_items tokens) told.3.0 stack at node all told.3.1 fits in
    let kids : opened_by here (said_of text) ≡ map (grown here) (open_items tokens) =
    ap (opened_by here) told.1.1 ∙ (ap (children here) told.1.2 ∙ sym (map-items here (filter (λ t. is_none t.bound) tokens))) in
    let right = checked records least line here said (sym (ap (line_fault records least line here) told.1.1) ∙ none) in
    record {
      walks = walk-line records least line here (nodes_of order path stack) text rest some none
          ∙ ap (λ ns. walk records least (line + 1) ns rest) (ap (λ ks. ks ++ nodes_of order path stack) kids
          ∙ (sym waits.nodes ∙ ap (nodes_of order path) (sym told.3.2)));
      fits = subst (Fits records order path) (sym told.3.2) waits.fits;
      prefixes = prefixes-cons text rest said told.1.1 ∙ ap (λ p. p ∷ prefixes_in rest) right.prefix;
    }

-- ---- the entries

pub entry-held : (records : List (List (ℕ × ℤ))) (order path : List ℕ) (from : ℕ) (places : List PlaceOf) → IsNode records order path from places
    → entry_at path places ≡ prefix_entry records path
entry-held records order path from places node =
    entry-same (entry_at path places) (prefix_entry records path) refl
    (ap earned node.holds ∙ earned-held records path) (ap length node.holds ∙ length-held records path)

pub offered-more : (start : State) (records : List (List (ℕ × ℤ))) (done : List (List ℕ)) (path : List ℕ) (old new : State) (entry : Entry)
    → old ≡ offered start (map (prefix_entry records) done) → new ≡ offered old (entry ∷ [])
    → entry ≡ prefix_entry records path → new ≡ offered start (map (prefix_entry records) (done ++ path ∷ []))
offered-more start records done path old new entry so_far more same =
    more ∙ (ap (λ s. offered s (entry ∷ [])) so_far ∙ (offered-then start (map (prefix_entry records) done) (entry ∷ [])
    ∙ (ap (λ e. offered start (map (prefix_entry records) done ++ e ∷ [])) same
    ∙ ap (offered start) (sym (map-append (prefix_entry records) done (path ∷ []))))))

-- ---- the first prefix and the end

held-none : (records : List (List (ℕ × ℤ))) → held records [] ≡ map (λ r. (r, pos 0)) records
held-none [] = refl
held-none (r ∷ rs) = ap (λ ps. (r, pos 0) ∷ ps) (held-none rs)

pub root-node : (records : List (List (ℕ × ℤ))) (order : List ℕ) (places : List PlaceOf) → Apart order → places ≡ map (λ r. (r, pos 0)) records
    → IsNode records order [] 0 places
root-node records order places apart e = record { holds = e ∙ sym (held-none records); apart = apart }

pub room-node : (records : List (List (ℕ × ℤ))) (order path : List ℕ) (from : ℕ) (places : List PlaceOf) → IsNode records order path from places
    → AllAscend records → sum_by absolute_of records < 2 ^ 127 → HasRoom (drop from order) places
room-node records order path from places node up fits = subst (HasRoom (drop from order)) (sym node.holds)
    (room-held records path (drop from order) node.apart up fits)

walk-past : (records : List (List (ℕ × ℤ))) (least : ℤ) (line : ℕ) (ps : List (List ℕ)) → (ps ≡ [] ∷ [] → ⊥)
    → walk records least line [] ps ≡ Some (CheckFault.NotOfForm line)
walk-past records least line [] out = refl
walk-past records least line ([] ∷ []) out = absurd (out refl)
walk-past records least line ((b ∷ bs) ∷ []) out = refl
walk-past records least line (p ∷ q ∷ rest) out = refl

pub walk-end : (records : List (List (ℕ × ℤ))) (least : ℤ) (line : ℕ) (rest : List ℕ) → (length rest ≡ 0 → ⊥)
    → walk records least line [] (pieces rest) ≡ Some (CheckFault.NotOfForm line)
walk-end records least line rest some =
    walk-past records least line (pieces rest) (λ e. some (let same : rest ≡ [] = sym (join_with_byte-slice_split 10 rest) ∙ ap (join_with_byte 10) e in
    ap length same))

pub some-pieces : (rest : List ℕ) → 0 < length (pieces rest)
some-pieces rest = omega (arith, length-slice_split (λ byte. byte == 10) rest)

pub length-numbers : (items : List Item) → length items ≡ length (numbers_of items)
length-numbers items = sym (length-map items (λ i. i.0))

-- ---- a fault of a line

pub judges-err : {T : Type 0} (r : Result T CheckFault) (e : CheckFault) (o : Option CheckFault) → IsErr r × IsErrAnd r (λ y. y ≡ e)
    → (e ≡ CheckFault.NoMemory) ⊎ (o ≡ Some e) → Judges r o
judges-err (Ok x) e o h j = absurd h.1
judges-err (Err y) e o h (inl memory) = inl (h.1 ∙ memory)
judges-err (Err y) e o h (inr fault) = inr (fault ∙ ap Some (sym h.1))

pub walk-fault : (records : List (List (ℕ × ℤ))) (least : ℤ) (line : ℕ) (order path : List ℕ) (from : ℕ) (places : List PlaceOf) (nodes : List Node)
    (text : List ℕ) (rest : List (List ℕ)) (e : CheckFault)
    → IsNode records order path from places → 0 < length rest
    → (e ≡ CheckFault.NoMemory) ⊎ (line_fault_at least line (node_at order path from) places (said_of text) ≡ Some e)
    → (e ≡ CheckFault.NoMemory) ⊎ (walk records least line (node_at order path from ∷ nodes) (text ∷ rest) ≡ Some e)
walk-fault records least line order path from places nodes text rest e node some (inl memory) = inl memory
walk-fault records least line order path from places nodes text [] e node some (inr fault) = absurd (omega arith)
walk-fault records least line order path from places nodes text (next ∷ rest) e node some (inr fault) =
    let here = node_at order path from in
    inr (first_here (line_fault records least line here (said_of text))
    (walk records least (line + 1) (opened_by here (said_of text) ++ nodes) (next ∷ rest) ∷ []) e
    (sym (line_fault-held records least line here places (said_of text) node.holds) ∙ fault))
