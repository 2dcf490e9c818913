-- What a keeper in memory holds, seen as a keeper's tables.
use Rattle.std.proofs.Common.{◌≡◌, ℕ, ◌+◌, ◌<◌, ◌≤◌, ◌==◌, Bool, true, false, ◌&&◌, IsTrue, nat_le, List, [], ◌∷◌, ◌++◌, length, Option, Some, None, IsSome, Result, Ok, Err, OnOk, OnErr, bytes_eq, if◌then◌else◌, refl, sym, ap, subst, ◌∙◌, true≢false, arith}
use Rattle.std.specs.List.{list_any}
use Rattle.std.specs.Option.{option_or}
use Rattle.std.proofs.Math.Path.{fun_ext}
use Rattle.std.proofs.lemmas.Bool.{and_parts}
use Rattle.std.proofs.lemmas.Bool.Decides.{nat_tests}
use Rattle.std.proofs.lemmas.List.{length-append, length-map, length_push, map-append, append_assoc}
use Rattle.std.proofs.lemmas.List.Folds.{list_all-append}
use Rattle.prov_base.specs.declared.place.Digest.{Digest}
use Rattle.keeper.specs.declared.records.Head.{Head}
use Rattle.keeper.specs.declared.records.Page.{Page}
use Rattle.keeper.specs.Batch.{BatchView, empty_batch, heads_over, last_head, last_page, over}
use Rattle.memory_keeper.specs.Held.{ListedTables, HeldView, IsHeld, AreNext, are_pages_of, joined, maps_of, told_of}
use Rattle.keeper.specs.Keeping.{KeeperView, AreKept}
use Rattle.keeper.specs.Tables.{TablesView, head_at, most_trials}
use Rattle.memory_keeper.proofs.LastEntries.{and_true, last_of-all, last_of-append}
use Rattle.memory_keeper.proofs.HeadLists.{heads_of, heads_over-next, length-heads_over, head_at-over, AreNext-push}

-- a page that is found is one of a trial that is there
page_found : (count : ℕ) (pages : List (ℕ × ℕ × Page)) (trial number : ℕ) → IsTrue (are_pages_of count pages) → IsSome (last_page pages trial number) → (1 ≤ trial) × (trial ≤ count)
page_found count pages trial number are there = by_value (last_page pages trial number) refl there
  where
    bounds : (e : ℕ × ℕ × Page) → IsTrue (e.0 == trial && e.1 == number) × IsTrue (nat_le 1 e.0 && nat_le e.0 count) → (1 ≤ trial) × (trial ≤ count)
    bounds e is =
        let same = (and_parts (e.0 == trial) (e.1 == number) is.0).0 in
        let within = and_parts (nat_le 1 e.0) (nat_le e.0 count) is.1 in
        (grind (arith, nat_tests), grind (arith, nat_tests))

    by_value : (o : Option Page) → last_page pages trial number ≡ o → IsSome o → (1 ≤ trial) × (trial ≤ count)
    by_value None is some = absurd (true≢false (sym some))
    by_value (Some page) is some =
        let found = last_of-all (λ (e : ℕ × ℕ × Page). e.2) (λ e. e.0 == trial && e.1 == number) (λ e. nat_le 1 e.0 && nat_le e.0 count) pages page are is in
        bounds found.0 found.1

-- more trials have the same pages
are_pages_of-more : (few many : ℕ) (pages : List (ℕ × ℕ × Page)) → few ≤ many → IsTrue (are_pages_of few pages) → IsTrue (are_pages_of many pages)
are_pages_of-more few many [] below are = refl
are_pages_of-more few many (e ∷ later) below are =
    let parts = and_parts (nat_le 1 e.0 && nat_le e.0 few) (are_pages_of few later) are in
    let within = and_parts (nat_le 1 e.0) (nat_le e.0 few) parts.0 in
    let wider : nat_le e.0 many ≡ true = grind (arith, nat_tests) in
    and_true (nat_le 1 e.0 && nat_le e.0 many) (are_pages_of many later) (and_true (nat_le 1 e.0) (nat_le e.0 many) within.0 wider) (are_pages_of-more few many later below parts.1)

pages_append : (count : ℕ) (xs ys : List (ℕ × ℕ × Page)) → IsTrue (are_pages_of count xs) → IsTrue (are_pages_of count ys) → IsTrue (are_pages_of count (xs ++ ys))
pages_append count xs ys first second =
    list_all-append (λ (e : ℕ × ℕ × Page). nat_le 1 e.0 && nat_le e.0 count) xs ys ∙ and_true (are_pages_of count xs) (are_pages_of count ys) first second

pages_push : (count : ℕ) (pages : List (ℕ × ℕ × Page)) (trial number : ℕ) (page : Page) → IsTrue (are_pages_of count pages) → 1 ≤ trial → trial ≤ count → IsTrue (are_pages_of count (pages ++ (trial, number, page) ∷ []))
pages_push count pages trial number page are low high =
    let at_least : nat_le 1 trial ≡ true = grind (arith, nat_tests) in
    let at_most : nat_le trial count ≡ true = grind (arith, nat_tests) in
    pages_append count pages ((trial, number, page) ∷ []) are (and_true (nat_le 1 trial && nat_le trial count) true (and_true (nat_le 1 trial) (nat_le trial count) at_least at_most) refl)

same_tables : (hs hs' : List Head) (ps ps' : ℕ → ℕ → Option Page) (cs cs' : Digest → Option (List ℕ)) (us us' : List ℕ → Option ℕ) → hs ≡ hs' → ps ≡ ps' → cs ≡ cs' → us ≡ us' → ◌≡◌ {A = TablesView} (record { heads = hs; pages = ps; contents = cs; current = us }) (record { heads = hs'; pages = ps'; contents = cs'; current = us' })
same_tables hs hs' ps ps' cs cs' us us' a b c d = cc

next_over : (tables : ListedTables) (batch : BatchView) (o : Bool) → IsHeld tables batch o → AreNext (length tables.heads) batch.heads
next_over tables batch o held = rw (← held.committed) held.next

-- how many trials are seen
pub trials_seen : (tables : ListedTables) (batch : BatchView) (o : Bool) → IsHeld tables batch o → length (heads_over tables.heads batch.heads) ≡ batch.committed + batch.added
trials_seen tables batch o held =
    length-heads_over tables.heads batch.heads (next_over tables batch o held) ∙ rw (← held.committed, ← held.added) refl

-- a page that is seen is one of a trial that is seen
page_seen : (tables : ListedTables) (batch : BatchView) (o : Bool) (trial number : ℕ) → IsHeld tables batch o → IsSome ((over batch (maps_of tables)).pages trial number) → (1 ≤ trial) × (trial ≤ batch.committed + batch.added)
page_seen tables batch o trial number held there = by_value (last_page batch.pages trial number) refl there
  where
    below : IsSome (if list_any (λ d. d == trial) batch.dropped then None else last_page tables.pages trial number) → (1 ≤ trial) × (trial ≤ batch.committed + batch.added)
    below is =
        let kept : IsSome (last_page tables.pages trial number) = subst (λ dropped. IsSome (if list_any (λ d. d == trial) dropped then None else last_page tables.pages trial number)) held.dropped is in
        let found = page_found (length tables.heads) tables.pages trial number held.pages kept in
        let count : batch.committed ≡ length tables.heads = held.committed in
        (found.0, omega arith)

    by_value : (p : Option Page) → last_page batch.pages trial number ≡ p → IsSome (option_or p (if list_any (λ d. d == trial) batch.dropped then None else last_page tables.pages trial number)) → (1 ≤ trial) × (trial ≤ batch.committed + batch.added)
    by_value None is some = below some
    by_value (Some page) is some = page_found (batch.committed + batch.added) batch.pages trial number held.new_pages (rw is refl)

-- So what it tells is as the tables of a keeper are.
pub kept_of : (held : HeldView) → IsHeld held.tables held.batch held.is_open → AreKept held.is_open (told_of held)
kept_of held is = record {
  committed = record { few = is.few; pages_of_trials = λ trial number there. page_found (length held.tables.heads) held.tables.pages trial number is.pages there };
  seen = record {
    few = let count = trials_seen held.tables held.batch held.is_open is in rw count is.room;
    pages_of_trials = λ trial number there.
        let count = trials_seen held.tables held.batch held.is_open is in
        let found = page_seen held.tables held.batch held.is_open trial number is there in
        (found.0, rw count found.1);
  };
  closed = λ shut. ap (λ (batch : BatchView). over batch (maps_of held.tables)) (is.closed shut);
}

-- ---- what is seen, key by key

pub head_seen : (tables : ListedTables) (batch : BatchView) (o : Bool) (trial : ℕ) → IsHeld tables batch o → head_at (heads_over tables.heads batch.heads) trial ≡ option_or (last_head batch.heads trial) (head_at tables.heads trial)
head_seen tables batch o trial held =
    let next = next_over tables batch o held in
    ap (λ hs. head_at hs trial) (heads_over-next tables.heads batch.heads next) ∙ head_at-over tables.heads batch.heads trial next

-- ---- one thing more

pub trial_added : (tables : ListedTables) (batch : BatchView) (o : Bool) (number : ℕ) (head : Head) → IsHeld tables batch o → number ≡ batch.committed + batch.added + 1 → heads_over tables.heads (batch.heads ++ (number, head) ∷ []) ≡ heads_over tables.heads batch.heads ++ head ∷ []
trial_added tables batch o number head held is =
    let next = next_over tables batch o held in
    let count : number ≡ length tables.heads + length batch.heads + 1 = is ∙ rw (← held.committed, ← held.added) refl in
    heads_over-next tables.heads (batch.heads ++ (number, head) ∷ []) (AreNext-push (length tables.heads) batch.heads (number, head) next count)
    ∙ ap (λ hs. tables.heads ++ hs) (map-append (λ (e : ℕ × Head). e.1) batch.heads ((number, head) ∷ []))
    ∙ sym (append_assoc tables.heads (heads_of batch.heads) (head ∷ []))
    ∙ ap (λ hs. hs ++ head ∷ []) (sym (heads_over-next tables.heads batch.heads next))

pub held_trial : (tables : ListedTables) (batch : BatchView) (o : Bool) (number : ℕ) (head : Head) → IsHeld tables batch o → o ≡ true → number ≡ batch.committed + batch.added + 1 → batch.committed + batch.added < most_trials → IsHeld tables (record batch { added = batch.added + 1; heads = batch.heads ++ (number, head) ∷ [] }) o
held_trial tables batch o number head held open_batch is room = record {
  few = held.few;
  pages = held.pages;
  committed = held.committed;
  next = AreNext-push batch.committed batch.heads (number, head) held.next (is ∙ rw (← held.added) refl);
  added = ap (λ n. n + 1) held.added ∙ sym (length_push batch.heads (number, head));
  room = omega arith;
  new_pages = are_pages_of-more (batch.committed + batch.added) (batch.committed + (batch.added + 1)) batch.pages (omega arith) held.new_pages;
  dropped = held.dropped;
  closed = λ shut. absurd (true≢false (sym open_batch ∙ shut));
}

pub held_page : (tables : ListedTables) (batch : BatchView) (o : Bool) (trial number : ℕ) (page : Page) → IsHeld tables batch o → o ≡ true → (1 ≤ trial) × (trial ≤ length (heads_over tables.heads batch.heads)) → IsHeld tables (record batch { pages = batch.pages ++ (trial, number, page) ∷ [] }) o
held_page tables batch o trial number page held open_batch there = record {
  few = held.few;
  pages = held.pages;
  committed = held.committed;
  next = held.next;
  added = held.added;
  room = held.room;
  new_pages =
      let count = trials_seen tables batch o held in
      let within : trial ≤ batch.committed + batch.added = subst (λ n. trial ≤ n) count there.1 in
      pages_push (batch.committed + batch.added) batch.pages trial number page held.new_pages there.0 within;
  dropped = held.dropped;
  closed = λ shut. absurd (true≢false (sym open_batch ∙ shut));
}

-- ---- the batch as part of the tables

pub joined_seen : (tables : ListedTables) (batch : BatchView) (o : Bool) → IsHeld tables batch o → maps_of (joined batch tables) ≡ over batch (maps_of tables)
joined_seen tables batch o held =
    same_tables _ _ _ _ _ _ _ _
    (sym (heads_over-next tables.heads batch.heads (next_over tables batch o held)))
    (fun_ext (λ trial. fun_ext (λ number.
    last_of-append (λ (e : ℕ × ℕ × Page). e.2) (λ e. e.0 == trial && e.1 == number) tables.pages batch.pages
    ∙ ap (λ dropped. option_or (last_page batch.pages trial number) (if list_any (λ d. d == trial) dropped then None else last_page tables.pages trial number)) (sym held.dropped))))
    (fun_ext (λ digest. last_of-append (λ (e : Digest × List ℕ). e.1) (λ e. bytes_eq e.0.bytes digest.bytes) tables.contents batch.contents))
    (fun_ext (λ path. last_of-append (λ (e : List ℕ × ℕ). e.1) (λ e. bytes_eq e.0 path) tables.current batch.current))

pub held_joined : (tables : ListedTables) (batch : BatchView) (o : Bool) → IsHeld tables batch o → IsHeld (joined batch tables) (empty_batch (length (joined batch tables).heads)) false
held_joined tables batch o held =
    let count : length (tables.heads ++ heads_of batch.heads) ≡ batch.committed + batch.added =
    length-append tables.heads (heads_of batch.heads) ∙ ap (λ n. length tables.heads + n) (length-map batch.heads (λ e. e.1)) ∙ rw (← held.committed, ← held.added) refl in
    record {
      few = rw count held.room;
      pages = rw count (pages_append (batch.committed + batch.added) tables.pages batch.pages (are_pages_of-more (length tables.heads) (batch.committed + batch.added) tables.pages (let c : batch.committed ≡ length tables.heads = held.committed in omega arith) held.pages) held.new_pages);
      committed = refl;
      next = tt;
      added = refl;
      room = let r : length (tables.heads ++ heads_of batch.heads) ≤ most_trials = rw count held.room in omega arith;
      new_pages = refl;
      dropped = refl;
      closed = λ _. refl;
    }

-- ---- answers

-- what holds of a batch that a call wrote or left, whichever it was
pub by_answer : {T E : Type 0} (P : BatchView → Type 0) (before written after : BatchView) (result : Result T E) → OnOk result (after ≡ written) → OnErr result (after ≡ before) → P written → P before → P after
by_answer P before written after (Ok done) ok err wrote left = subst P (sym ok) wrote
by_answer P before written after (Err fault) ok err wrote left = subst P (sym err) left

pub kept_at : (tables : ListedTables) (batch : BatchView) (o : Bool) → IsHeld tables batch o → AreKept o (told_of (record { tables = tables; batch = batch; is_open = o }))
kept_at tables batch o is = kept_of (record { tables = tables; batch = batch; is_open = o }) is

-- after a commit
pub held_after : (tables : ListedTables) (batch : BatchView) (o : Bool) (new : ListedTables) (rest : BatchView) (count : ℕ) → IsHeld tables batch o → new ≡ joined batch tables → rest ≡ empty_batch count → count ≡ length new.heads → IsHeld new rest false
held_after tables batch o new rest count held grown emptied is = rw (emptied, is, grown) (held_joined tables batch o held)

pub told_after : (tables : ListedTables) (batch : BatchView) (o : Bool) (new : ListedTables) (rest : BatchView) (count : ℕ) → IsHeld tables batch o → new ≡ joined batch tables → rest ≡ empty_batch count → told_of (record { tables = new; batch = rest; is_open = false }) ≡ record { committed = over batch (maps_of tables); seen = over batch (maps_of tables) }
told_after tables batch o new rest count held grown emptied =
    rw (emptied, grown) (ap (λ (t : TablesView). let kept : KeeperView = record { committed = t; seen = t } in kept) (joined_seen tables batch o held))
