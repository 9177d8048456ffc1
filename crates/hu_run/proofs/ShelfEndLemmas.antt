-- What the end of an attempt at what is asked of a store says of the status.
use Rattle.std.proofs.Common.{◌≡◌, ◌∙◌, ◌⊎◌, ℕ, ◌≤◌, List, [], ◌∷◌, Ok, Err, Option, Some, None, MatchOption, ap, sym, subst, refl, inl, inr, arith}
use Rattle.std.proofs.lemmas.Result.{IfOk-weaker}
use Rattle.std.specs.Prelude.{◌≢◌, IsErr, IsOkAnd, IfOk, IfSome, codes, ⊤}
use Rattle.hu_io.specs.State.{FilesState, Appended, Broke}
use Rattle.hu_io.specs.Count.{Rose}
use Rattle.hu_input.specs.Input.{Refusal}
use Rattle.hu_shelf.specs.Keeper.{KeeperState, Stays}
use Rattle.hu_shelf.specs.Store.{store_text}
use Rattle.hu_run.specs.declared.words.WordFault.{WordFault}
use Rattle.hu_run.specs.declared.stop.Stop.TheVariants.{Words, Refused, ReadFailed, Denied, TooLong, WriteFailed, NoMemory}
use Rattle.hu_run.specs.declared.shelf.fault.StoreFault.{StoreFault}
use Rattle.hu_run.specs.declared.shelf.stop.ShelfStop.{ShelfStop}
use Rattle.hu_run.specs.declared.shelf.stop.ShelfStop.TheVariants.{Job, Declined, StoreFailed}
use Rattle.hu_run.specs.Stop.{told_line, word_text, refusal_line, read_failed_line}
use Rattle.hu_run.specs.Run.{Streams, Spares, Tells}
use Rattle.hu_run.specs.ShelfJob.{Shelving, make, add, show, shelf_job, store_name}
use Rattle.hu_run.specs.ShelfEnding.{ShelfEnding, leaves, declines, refuses, lacks, Given, given_by, shelf_ending, status_of}
use Rattle.hu_run.specs.ShelfStop.{declined_line, store_failed_line, shelf_stop_line, shelf_stop_status}
use Rattle.hu_run.specs.ShelfRun.{Finds, WhereTold, HasLeft, Lacking, TellsRefused, TellsDeclined, TellsUnread, TellsFailed, RunsShelf}
use Rattle.hu_run.specs.ShelfRun.{Unharmed, KeeperUnharmed, kept_after}
use Rattle.hu_run.specs.ShelfAttempt.{Scene, scene, Attempts, HasFailed, HasFault, HasMissed, HasRefusal, Leaves, Unmoved, Untouched}
use Rattle.hu_run.proofs.ResultLemmas.{from_ok, and_ok, if_ok, any_ok, no_ok}
use Rattle.hu_run.proofs.StatusLemmas.{SaidBy, said-within, said-at, SaysWords, says-job, says-no_job}
use Rattle.hu_run.proofs.SparesLemmas.{KeepsSink, sink-same, sink-put, sink-broke, sink-told, spares-written, spares-stopped, spares-unread}

-- ---- what is found

module _ (keeper : KeeperState) (files : FilesState) (asked : Shelving) where
  pub finds-map : (P Q : ShelfEnding → Type 0) → ((e : ShelfEnding) → P e → Q e) → Finds keeper files asked P → Finds keeper files asked Q
  finds-map P Q f found = record {
    text = found.text;
    given = found.given;
    there = found.there;
    read = found.read;
    is = f (shelf_ending asked found.text found.given) found.is;
  }

  -- what is found is what is told, where that is told
  finds-told : (P : ShelfEnding → Type 0) → Finds keeper files asked P → WhereTold keeper files asked P
  finds-told P found = by keeper.texts files.contents found.there found.read
    where
      by : (texts : Option (List ℕ → List ℕ)) (contents : Option (List ℕ → Option (List ℕ)))
          → MatchOption texts ⊤ (λ t. t (store_name asked) ≡ found.text) → IfSome contents (λ told. found.given ≡ given_by told asked)
          → MatchOption texts ⊤ (λ t. IfSome contents (λ told. P (shelf_ending asked (t (store_name asked)) (given_by told asked))))
      by None contents there read = tt
      by (Some t) None there read = tt
      by (Some t) (Some told) there read =
          subst (λ text. P (shelf_ending asked text (given_by told asked))) (sym there)
          (subst (λ given. P (shelf_ending asked found.text given)) read found.is)

  -- something is found
  finds-all : (P : ShelfEnding → Type 0) → ((e : ShelfEnding) → P e) → Finds keeper files asked P
  finds-all P all = by keeper.texts files.contents
    where
      with_given : (texts : Option (List ℕ → List ℕ)) (contents : Option (List ℕ → Option (List ℕ))) → Type 0
      with_given texts contents = (text : List ℕ) × (given : Given) × MatchOption texts ⊤ (λ t. t (store_name asked) ≡ text)
          × IfSome contents (λ told. given ≡ given_by told asked)

      pick : (texts : Option (List ℕ → List ℕ)) (contents : Option (List ℕ → Option (List ℕ))) → with_given texts contents
      pick None None = ([], (λ sum. Ok []), tt, tt)
      pick None (Some told) = ([], given_by told asked, tt, refl)
      pick (Some t) None = (t (store_name asked), (λ sum. Ok []), refl, tt)
      pick (Some t) (Some told) = (t (store_name asked), given_by told asked, refl, refl)

      by : (texts : Option (List ℕ → List ℕ)) (contents : Option (List ℕ → Option (List ℕ))) → Finds keeper files asked P
      by texts contents =
          let found = pick keeper.texts files.contents in
          record { text = found.0; given = found.1; there = found.2; read = found.3; is = all (shelf_ending asked found.0 found.1) }

  told-all : (P : ShelfEnding → Type 0) → ((e : ShelfEnding) → P e) → WhereTold keeper files asked P
  told-all P all = finds-told P (finds-all P all)

-- ---- what is left

module _ (keeper after : KeeperState) where
  -- a store was left: something was written, and the keeper is as before but for a text
  record Left (W : List ℕ → Type 0) : Type 0 where
    written : List ℕ
    wrote : W written
    later : (name : List ℕ) → keeper.faults name ≤ after.faults name
    plan : after.plan ≡ keeper.plan

  but_text : (asked : Shelving) (text : List ℕ) → kept_after asked text keeper ≡ record keeper { texts = (kept_after asked text keeper).texts }
  but_text (make name store) text = refl
  but_text (add name file) text = refl
  but_text (show name) text = refl

  left_by : (asked : Shelving) (W : List ℕ → Type 0) (e : ShelfEnding) → HasLeft keeper after asked W e → Left W
  left_by asked W (leaves store written) has =
      let same = has.1 ∙ but_text asked (store_text store) in
      record { written = written; wrote = has.2; later = λ name. omega (arith, ap (λ k. k.faults name) same); plan = ap (λ k. k.plan) same }
  left_by asked W (declines fault) has = absurd has
  left_by asked W (refuses name refusal) has = absurd has
  left_by asked W (lacks name) has = absurd has

  left-ending : (asked : Shelving) (W : List ℕ → Type 0) (e : ShelfEnding) → HasLeft keeper after asked W e → (0 ≡ status_of e) × (Lacking e → ⊥)
  left-ending asked W (leaves store written) has = (refl, λ lacking. lacking)
  left-ending asked W (declines fault) has = absurd has
  left-ending asked W (refuses name refusal) has = absurd has
  left-ending asked W (lacks name) has = absurd has

  pub stays-same : after ≡ keeper → Stays keeper after
  stays-same same = record {
    texts = ap (λ k. k.texts) same;
    later = λ name. omega (arith, ap (λ k. k.faults name) same);
    plan = ap (λ k. k.plan) same;
  }

module _ (s : Streams) (keeper after : KeeperState) where
  abbrev here : Scene
  here = scene s.files s.files_after s.out s.out_after keeper after

  abbrev Asks : (Shelving → Type 0) → Type 0
  Asks P = IsOkAnd (shelf_job s.words) P

  -- ---- what every end says

  -- what each status says alone, from 0 on
  abbrev facts : List (Type 0)
  facts = Asks (λ asked. Finds keeper s.files asked (HasLeft keeper after asked (Appended s.out s.out_after)))
      ∷ Asks (λ asked. Finds keeper s.files asked (TellsRefused s asked)) ∷ IsErr (shelf_job s.words) ∷ Asks (TellsUnread s keeper)
      ∷ (Asks (λ asked. Finds keeper s.files asked (HasLeft keeper after asked (Broke s.out s.out_after)))
      × Rose s.out.faults s.out_after.faults × Tells s (told_line (codes "write failed")))
      ∷ Tells s (told_line (codes "out of memory")) ∷ ⊥ ∷ Asks (λ asked. Finds keeper s.files asked (TellsDeclined s asked))
      ∷ Asks (TellsFailed s keeper after) ∷ []

  -- the status is that of the ending, or want of memory
  abbrev AsStatus : ℕ → ShelfEnding → Type 0
  AsStatus status e = (status ≡ status_of e) ⊎ (status ≡ 5)

  -- and where the file isn't there
  abbrev AsLacking : ℕ → ShelfEnding → Type 0
  AsLacking status e = Lacking e → (status ≡ 3) ⊎ (status ≡ 5)

  -- what a status says of the ending: complete, and lacking
  abbrev Fits : ℕ → Shelving → Type 0
  Fits status asked = (Unharmed s keeper after asked → Finds keeper s.files asked (AsStatus status))
      × (KeeperUnharmed keeper after asked → WhereTold keeper s.files asked (AsLacking status))

  -- what it says of the keeper
  record Keeps (status : ℕ) : Type 0 where
    texts : status ≢ 0 → status ≢ 4 → after.texts ≡ keeper.texts
    later : (name : List ℕ) → keeper.faults name ≤ after.faults name
    plan : after.plan ≡ keeper.plan

  -- all that is promised of a status, which says its own fact and never another's
  runs-by : (status : ℕ) → SaidBy facts status → SaysWords s (shelf_job s.words) status → IfOk (shelf_job s.words) (Fits status) → Keeps status
      → Spares s status → RunsShelf s keeper after status
  runs-by status said words fits keeps spared = record {
    within = let within = said-within facts status said in omega (arith, within);
    not_denied = said-at facts status said 6;
    done = said-at facts status said 0;
    refused = said-at facts status said 1;
    no_job = (said-at facts status said 2, words.refused);
    no_job_told = words.told;
    unread = said-at facts status said 3;
    broken = λ is. (said-at facts status said 4 is).0;
    broken_rose = λ is. (said-at facts status said 4 is).1;
    broken_told = λ is. (said-at facts status said 4 is).2;
    memory_told = said-at facts status said 5;
    declined = said-at facts status said 7;
    failed = said-at facts status said 8;
    complete = IfOk-weaker (shelf_job s.words) _ _ (λ asked fits. fits.0) fits;
    lacking = IfOk-weaker (shelf_job s.words) _ _ (λ asked fits. fits.1) fits;
    texts_same = keeps.texts;
    keeper_later = keeps.later;
    keeper_plan = keeps.plan;
    spares = spared;
  }

  -- what is found is no missing file
  finds-fits : (status : ℕ) (asked : Shelving) (P : ShelfEnding → Type 0)
      → ((e : ShelfEnding) → P e → (Unharmed s keeper after asked → status ≡ status_of e) × (Lacking e → ⊥)) → Finds keeper s.files asked P
      → Fits status asked
  finds-fits status asked P at found = (
    λ unharmed. finds-map keeper s.files asked P (AsStatus status) (λ e p. inl ((at e p).0 unharmed)) found,
    λ _. finds-told keeper s.files asked (AsLacking status)
        (finds-map keeper s.files asked P (AsLacking status) (λ e p lacking. absurd ((at e p).1 lacking)) found),
  )

  ending-fits : (asked : Shelving) (x : ShelfEnding) → (Lacking x → ⊥) → Finds keeper s.files asked (λ e. e ≡ x) → Fits (status_of x) asked
  ending-fits asked x there =
      finds-fits (status_of x) asked (λ e. e ≡ x) (λ e is. (λ _. sym (ap status_of is), λ lacking. there (subst Lacking is lacking)))

  stays : (status : ℕ) → Stays keeper after → Keeps status
  stays status kept = record { texts = λ _ _. kept.texts; later = kept.later; plan = kept.plan }

  -- nothing was touched
  untouched-by : (status : ℕ) (P : Shelving → Type 0) (line : List ℕ) → ((asked : Shelving) → P asked → Untouched here) → Asks P → SaidBy facts status
      → IfOk (shelf_job s.words) (Fits status) → Tells s line → RunsShelf s keeper after status
  untouched-by status P line same ends said fits told =
      let untouched = from_ok (shelf_job s.words) P (Untouched here) same ends in
      runs-by status said (says-job P ends) fits (stays status untouched.keeper)
      (spares-stopped s status untouched.files untouched.out (sink-told s line told))

  -- a store was left
  module _ (W : List ℕ → Type 0) (ends : Asks (λ asked. Leaves asked here W)) where
    left : Left keeper after W
    left = from_ok (shelf_job s.words) _ _ (λ asked p. left_by keeper after asked W _ p.finds.is) ends

    left-by : (status : ℕ) → SaidBy facts status → ((asked : Shelving) → Unharmed s keeper after asked → status ≡ 0) → (status ≢ 0 → status ≢ 4 → ⊥)
        → KeepsSink s.out s.out_after → (status ≢ 4 → s.out_after.faults ≡ s.out.faults) → KeepsSink s.err s.err_after → RunsShelf s keeper after status
    left-by status said at written out out_same err =
        runs-by status said (says-job _ ends)
        (if_ok (shelf_job s.words) _ _ (λ asked p. finds-fits status asked (HasLeft keeper after asked W) (λ e has.
        let ending = left-ending keeper after asked W e has in
        (λ unharmed. at asked unharmed ∙ ending.0, ending.1)) p.finds) ends)
        (record { texts = λ not_0 not_4. absurd (written not_0 not_4); later = left.later; plan = left.plan })
        (spares-written s status (from_ok (shelf_job s.words) _ _ (λ asked p. p.files) ends) out out_same err)

  -- ---- each end

  -- the text is left, and the whole answer was appended
  done : Asks (λ asked. Leaves asked here (Appended s.out s.out_after)) → s.err_after ≡ s.err → RunsShelf s keeper after 0
  done ends silent =
      let W = Appended s.out s.out_after in
      let wrote = (left W ends).wrote in
      left-by W ends 0 (and_ok (shelf_job s.words) _ _ (λ asked p. p.finds) ends) (λ _ _. refl) (λ not. absurd (not refl))
      (sink-put wrote) (λ _. wrote.faults) (sink-same s.err s.err_after silent)

  -- the text is left, and a proper front of the answer was
  broken : Asks (λ asked. Leaves asked here (Broke s.out s.out_after)) → Tells s (told_line (codes "write failed")) → RunsShelf s keeper after 4
  broken ends told =
      let W = Broke s.out s.out_after in
      let wrote = (left W ends).wrote in
      left-by W ends 4 (and_ok (shelf_job s.words) _ _ (λ asked p. p.finds) ends, wrote.rose, told) (λ asked unharmed. absurd (unharmed.out wrote.rose))
      (λ _ not. not refl) (sink-broke wrote) (λ not. absurd (not refl)) (sink-told s _ told)

  -- a line of the file is refused
  refused : (name : List ℕ) (refusal : Refusal) → Asks (λ asked. HasRefusal asked here name refusal)
      → Tells s (refusal_line name refusal.number refusal.reason) → RunsShelf s keeper after 1
  refused name refusal ends told =
      untouched-by 1 _ _ (λ asked p. p.untouched) ends
      (and_ok (shelf_job s.words) _ _ (λ asked p. finds-map keeper s.files asked (λ e. e ≡ refuses name refusal) (TellsRefused s asked)
      (λ e is. subst (TellsRefused s asked) (sym is) (p.named, told)) p.finds) ends)
      (if_ok (shelf_job s.words) _ _ (λ asked p. ending-fits asked (refuses name refusal) (λ lacking. lacking) p.finds) ends) told

  -- the store doesn't allow it
  declined : (name : List ℕ) (fault : StoreFault) → Asks (λ asked. HasFault asked here name fault) → Tells s (declined_line name fault)
      → RunsShelf s keeper after 7
  declined name fault ends told =
      untouched-by 7 _ _ (λ asked p. p.untouched) ends
      (and_ok (shelf_job s.words) _ _ (λ asked p. finds-map keeper s.files asked (λ e. e ≡ declines fault) (TellsDeclined s asked)
      (λ e is. subst (TellsDeclined s asked) (sym is) (subst (λ n. Tells s (declined_line n fault)) p.named told)) p.finds) ends)
      (if_ok (shelf_job s.words) _ _ (λ asked p. ending-fits asked (declines fault) (λ lacking. lacking) p.finds) ends) told

  -- the keeper failed
  failed : (name : List ℕ) → Asks (λ asked. HasFailed asked here name) → Tells s (store_failed_line name) → RunsShelf s keeper after 8
  failed name ends told =
      untouched-by 8 _ _ (λ asked p. p.untouched) ends
      (and_ok (shelf_job s.words) _ _ (λ asked p. record {
        rose = rose asked p;
        told = subst (λ n. Tells s (store_failed_line n)) p.named told;
      }) ends)
      (if_ok (shelf_job s.words) _ _ (λ asked p. (λ unharmed. absurd (unharmed.store (rose asked p)), λ unharmed. absurd (unharmed (rose asked p)))) ends) told
    where
      rose : (asked : Shelving) → HasFailed asked here name → Rose (keeper.faults (store_name asked)) (after.faults (store_name asked))
      rose asked p = subst (λ n. Rose (keeper.faults n) (after.faults n)) p.named p.rose

  -- there is no memory
  out_of_memory : Asks (λ asked. Untouched here) → Tells s (told_line (codes "out of memory")) → RunsShelf s keeper after 5
  out_of_memory ends told =
      untouched-by 5 _ _ (λ asked p. p) ends told (any_ok (shelf_job s.words) _ (λ asked.
      (λ _. finds-all keeper s.files asked (AsStatus 5) (λ e. inr refl), λ _. told-all keeper s.files asked (AsLacking 5) (λ e lacking. inr refl)))) told

  -- a read of the file failed
  unread : (name : List ℕ) → Asks (λ asked. HasMissed asked here name) → Tells s (read_failed_line name) → RunsShelf s keeper after 3
  unread name ends told =
      runs-by 3
      (and_ok (shelf_job s.words) _ _ (λ asked p. record { name = name; named = p.named; rose = p.missed.rose; there = p.there; told = told }) ends)
      (says-job _ ends)
      (if_ok (shelf_job s.words) _ _ (λ asked p. (
        λ unharmed. absurd (unharmed.file name p.named p.missed.rose),
        λ _. told-all keeper s.files asked (AsLacking 3) (λ e lacking. inl refl),
      )) ends)
      (from_ok (shelf_job s.words) _ _ (λ asked p. stays 3 p.keeper) ends)
      (from_ok (shelf_job s.words) _ _ (λ asked p. spares-unread s name p.missed p.out (sink-told s _ told)) ends)

  -- nothing is asked by the words
  no_job : (fault : WordFault) → shelf_job s.words ≡ Err fault → Unmoved here → Tells s (told_line (word_text fault)) → RunsShelf s keeper after 2
  no_job fault is unmoved told =
      runs-by 2 (subst IsErr (sym is) refl) (says-no_job fault is told) (no_ok (shelf_job s.words) fault _ is)
      (stays 2 (stays-same keeper after unmoved.keeper)) (spares-stopped s 2 unmoved.files unmoved.out (sink-told s _ told))

  never : {A : Type 0} → Asks (λ asked. ⊥) → A
  never ends = absurd (from_ok (shelf_job s.words) _ ⊥ (λ asked p. p) ends)

  -- what the attempt stopped at, and what was told of it
  pub stopped : (stop : ShelfStop) → Attempts s.words here (Err stop) → Tells s (shelf_stop_line stop) → RunsShelf s keeper after (shelf_stop_status stop)
  stopped (Job (Words fault)) ends told = no_job fault ends.0 ends.1 told
  stopped (Job (Refused name number reason)) ends told = refused name.now (record { number = number; reason = reason }) ends told
  stopped (Job (ReadFailed name)) ends told = unread name.now ends told
  stopped (Job (Denied cert fault)) ends told = never ends
  stopped (Job TooLong) ends told = never ends
  stopped (Job WriteFailed) ends told = broken ends told
  stopped (Job NoMemory) ends told = out_of_memory ends told
  stopped (Declined name fault) ends told = declined name.now fault ends told
  stopped (StoreFailed name) ends told = failed name.now ends told

  pub finished : Attempts s.words here (Ok tt) → s.err_after ≡ s.err → RunsShelf s keeper after 0
  finished ends silent = done ends silent
