-- What stays in the tables as a trial is written, step by step.
use Rattle.std.proofs.Common.{◌≡◌, ℕ, zero, suc, ◌+◌, ◌<◌, ◌≤◌, ◌==◌, ◌&&◌, Bool, true, false, if◌then◌else◌, List, [], ◌∷◌, ◌++◌, length, Option, Some, None, bytes_eq, refl, sym, ap, ◌∙◌, subst, arith, eqb-true}
use Rattle.std.specs.List.{slice_get}
use Rattle.std.proofs.lemmas.Bool.Decides.{Decides-eqb}
use Rattle.std.proofs.lemmas.Slice.Eq.{bytes_eq-Decides}
use Rattle.prov_base.specs.declared.place.Digest.{Digest}
use Rattle.keeper.specs.declared.records.Head.{Head}
use Rattle.keeper.specs.declared.records.Page.{Page}
use Rattle.keeper.specs.Tables.{TablesView, head_at, with_trial, with_page, with_content}
use Rattle.content_store.specs.Contents.{digest_of}
use Rattle.trial_tables.specs.Whole.{fine, damaged, whole_page, page_in}
use Rattle.trial_tables.specs.declared.damage.Damage.TheVariants.{PageDigest}
use Rattle.trial_tables.specs.Written.{Written, put, clash, go_on, put_over, put_one, put_each, page_of, with_pages, next_trial, with_whole, write_in}
use Rattle.trial_tables.specs.Stays.{EarlierStays}

-- the tables of what was written
abbrev tables_in : TablesView → Written → TablesView
tables_in t (put u) = u
tables_in t (clash digest kept given) = t

abbrev is_put : Written → Bool
is_put (put u) = true
is_put (clash digest kept given) = false

-- ---- contents

pub record Frame (a b : TablesView) : Type 0 where
  pub heads : b.heads ≡ a.heads
  pub pages : b.pages ≡ a.pages
  pub current : b.current ≡ a.current
  pub contents : (digest : Digest) (bytes : List ℕ) → a.contents digest ≡ Some bytes → b.contents digest ≡ Some bytes

frame_same : (a : TablesView) → Frame a a
frame_same a = record { heads = refl; pages = refl; current = refl; contents = λ digest bytes is. is }

frame_then : (a b c : TablesView) → Frame a b → Frame b c → Frame a c
frame_then a b c one two = record {
  heads = two.heads ∙ one.heads;
  pages = two.pages ∙ one.pages;
  current = two.current ∙ one.current;
  contents = λ digest bytes is. two.contents digest bytes (one.contents digest bytes is);
}

-- one content more, where none stood under its digest
content_more : (bytes : List ℕ) (t : TablesView) → t.contents (digest_of bytes) ≡ None → Frame t (with_content (digest_of bytes) bytes t)
content_more bytes t none = record { heads = refl; pages = refl; current = refl; contents = λ digest other is. stays digest other is (bytes_eq (digest_of bytes).bytes digest.bytes) refl }
  where
    is_it : (digest : Digest) → bytes_eq (digest_of bytes).bytes digest.bytes ≡ true → t.contents (digest_of bytes) ≡ t.contents digest
    is_it digest same = ap (λ (b : List ℕ). t.contents (record { bytes = b })) ((bytes_eq-Decides (digest_of bytes).bytes digest.bytes).0 same)

    stays : (digest : Digest) (other : List ℕ) → t.contents digest ≡ Some other → (b : Bool) → bytes_eq (digest_of bytes).bytes digest.bytes ≡ b → (if b then Some bytes else t.contents digest) ≡ Some other
    stays digest other is true same = cc (none, is_it digest same, is)
    stays digest other is false same = is

over_stays : (bytes : List ℕ) (t u : TablesView) (o : Option (List ℕ)) → t.contents (digest_of bytes) ≡ o → put_over bytes o t ≡ put u → Frame t u
over_stays bytes t u None is eq = subst (λ (v : TablesView). Frame t v) (ap (λ (w : Written). tables_in t w) eq) (content_more bytes t is)
over_stays bytes t u (Some kept) is eq = by_test (bytes_eq kept bytes) eq
  where
    by_test : (b : Bool) → (if b then put t else clash (digest_of bytes) (length kept) (length bytes)) ≡ put u → Frame t u
    by_test true same = subst (λ (v : TablesView). Frame t v) (ap (λ (w : Written). tables_in t w) same) (frame_same t)
    by_test false same = cc (same)

each_stays : (contents : List (List ℕ)) (t u : TablesView) → put_each contents t ≡ put u → Frame t u
each_stays [] t u eq = subst (λ (v : TablesView). Frame t v) (ap (λ (w : Written). tables_in t w) eq) (frame_same t)
each_stays (bytes ∷ more) t u eq = go (put_one bytes t) refl eq (λ v is. each_stays more v u is)
  where
    go : (w : Written) → put_one bytes t ≡ w → go_on w (put_each more) ≡ put u → ((v : TablesView) → put_each more v ≡ put u → Frame v u) → Frame t u
    go (put v) is goes rest = frame_then t v u (over_stays bytes t v (t.contents (digest_of bytes)) refl is) (rest v goes)
    go (clash digest kept given) is goes rest = cc (goes)

-- ---- pages

pages_heads : (trial number : ℕ) (pages : List (List ℕ)) (t : TablesView) → (with_pages trial number pages t).heads ≡ t.heads
pages_heads trial number [] t = refl
pages_heads trial number (bytes ∷ more) t = pages_heads trial (number + 1) more (with_page trial number (page_of bytes) t)

pages_contents : (trial number : ℕ) (pages : List (List ℕ)) (t : TablesView) → (with_pages trial number pages t).contents ≡ t.contents
pages_contents trial number [] t = refl
pages_contents trial number (bytes ∷ more) t = pages_contents trial (number + 1) more (with_page trial number (page_of bytes) t)

pages_current : (trial number : ℕ) (pages : List (List ℕ)) (t : TablesView) → (with_pages trial number pages t).current ≡ t.current
pages_current trial number [] t = refl
pages_current trial number (bytes ∷ more) t = pages_current trial (number + 1) more (with_page trial number (page_of bytes) t)

-- where a test of two numbers is false, the other page stands
other_page : (page : Page) (o : Option Page) (p q : Bool) → p && q ≡ false → (if p && q then Some page else o) ≡ o
other_page page o p q is = ap (λ (b : Bool). if b then Some page else o) is

apart : (p q : Bool) → p ≡ false → p && q ≡ false
apart true q is = cc (is)
apart false q is = refl

apart_too : (p q : Bool) → q ≡ false → p && q ≡ false
apart_too true q is = is
apart_too false q is = refl

other_trial : (trial number : ℕ) (pages : List (List ℕ)) (t : TablesView) (other m : ℕ) → (trial == other) ≡ false → (with_pages trial number pages t).pages other m ≡ t.pages other m
other_trial trial number [] t other m not = refl
other_trial trial number (bytes ∷ more) t other m not =
    other_trial trial (number + 1) more (with_page trial number (page_of bytes) t) other m not
    ∙ other_page (page_of bytes) (t.pages other m) (trial == other) (number == m) (apart (trial == other) (number == m) not)

number_not : (n m : ℕ) → m < n → (n == m) ≡ false
number_not n m less = by_test (n == m) refl
  where
    by_test : (b : Bool) → (n == m) ≡ b → (n == m) ≡ false
    by_test true is = let same : n ≡ m = eqb-true n m is in absurd (omega (arith, less, same))
    by_test false is = is

below : (trial number : ℕ) (pages : List (List ℕ)) (t : TablesView) (m : ℕ) → m < number → (with_pages trial number pages t).pages trial m ≡ t.pages trial m
below trial number [] t m less = refl
below trial number (bytes ∷ more) t m less =
    below trial (number + 1) more (with_page trial number (page_of bytes) t) m (omega (arith, less))
    ∙ other_page (page_of bytes) (t.pages trial m) (trial == trial) (number == m) (apart_too (trial == trial) (number == m) (number_not number m less))

self_is : (n : ℕ) → (n == n) ≡ true
self_is n = (Decides-eqb n n).1 refl

abbrev option_page : Option (List ℕ) → Option Page
option_page None = None
option_page (Some b) = Some (page_of b)

at_it : (trial number : ℕ) (pages : List (List ℕ)) (t : TablesView) (i : ℕ) (bytes : List ℕ) → slice_get pages i ≡ Some bytes → (with_pages trial number pages t).pages trial (number + i) ≡ Some (page_of bytes)
at_it trial number [] t i bytes is = cc (is)
at_it trial number (first ∷ more) t zero bytes is =
    let here : number + 0 ≡ number = omega arith in
    ap (λ (m : ℕ). (with_pages trial (number + 1) more (with_page trial number (page_of first) t)).pages trial m) here
    ∙ below trial (number + 1) more (with_page trial number (page_of first) t) number (omega arith)
    ∙ ap (λ (b : Bool). if b && (number == number) then Some (page_of first) else t.pages trial number) (self_is trial)
    ∙ ap (λ (b : Bool). if b then Some (page_of first) else t.pages trial number) (self_is number)
    ∙ ap (λ (o : Option (List ℕ)). option_page o) is
at_it trial number (first ∷ more) t (suc i) bytes is =
    let next : number + suc i ≡ number + 1 + i = omega arith in
    ap (λ (m : ℕ). (with_pages trial (number + 1) more (with_page trial number (page_of first) t)).pages trial m) next
    ∙ at_it trial (number + 1) more (with_page trial number (page_of first) t) i bytes is

-- ---- the whole

-- what was written: the contents, and then the trial over the tables that they leave
pub record Wrote (contents : List (List ℕ)) (head : Head) (pages : List (List ℕ)) (before after : TablesView) : Type 0 where
  pub between : TablesView
  pub frame : Frame before between
  pub whole : after ≡ with_whole head pages between

wrote : (contents : List (List ℕ)) (head : Head) (pages : List (List ℕ)) (before after : TablesView) → write_in contents head pages before ≡ put after → Wrote contents head pages before after
wrote contents head pages before after eq = go (put_each contents before) refl eq
  where
    go : (w : Written) → put_each contents before ≡ w → go_on w (λ with_contents. put (with_whole head pages with_contents)) ≡ put after → Wrote contents head pages before after
    go (put u) is goes = record { between = u; frame = each_stays contents before u is; whole = sym (ap (λ (w : Written). tables_in before w) goes) }
    go (clash digest kept given) is goes = cc (goes)

head_stays : (heads : List Head) (head : Head) (trial : ℕ) → trial ≤ length heads → head_at (heads ++ head ∷ []) trial ≡ head_at heads trial
head_stays heads head zero within = refl
head_stays [] head (suc i) within = absurd (omega (arith, within))
head_stays (first ∷ heads) head (suc zero) within = refl
head_stays (first ∷ heads) head (suc (suc i)) within = head_stays heads head (suc i) (omega (arith, within))

not_next : (heads : List Head) (trial : ℕ) → trial ≤ length heads → (length heads + 1 == trial) ≡ false
not_next heads trial within = number_not (length heads + 1) trial (omega (arith, within))

module _ (contents : List (List ℕ)) (head : Head) (pages : List (List ℕ)) (before after : TablesView) (w : Wrote contents head pages before after) where
  abbrev pub mid : TablesView
  mid = w.between

  abbrev pub new : TablesView
  new = with_whole head pages mid

  same_number : next_trial mid ≡ next_trial before
  same_number = ap (λ (hs : List Head). length hs + 1) w.frame.heads

  at_new : (P : TablesView → Type 0) → P new → P after
  at_new P holds = subst P (sym w.whole) holds

  pub page_back : (number : ℕ) (bytes : List ℕ) → slice_get pages number ≡ Some bytes → page_in after (next_trial before) number ≡ fine bytes
  page_back number bytes is = at_new (λ t. page_in t (next_trial before) number ≡ fine bytes)
      (ap (λ (n : ℕ). whole_page number (new.pages n number)) (sym same_number)
      ∙ ap (λ (m : ℕ). whole_page number (new.pages (next_trial mid) m)) from_none
      ∙ ap (λ (o : Option Page). whole_page number o) (at_it (next_trial mid) 0 pages (with_trial head mid) number bytes is)
      ∙ ap (λ (b : Bool). if b then fine bytes else damaged (PageDigest number (digest_of bytes) (digest_of bytes))) ((bytes_eq-Decides (digest_of bytes).bytes (digest_of bytes).bytes).1 refl))
    where
      from_none : number ≡ 0 + number
      from_none = omega arith

  pub is_current : after.current head.path ≡ Some (next_trial before)
  is_current = at_new (λ t. t.current head.path ≡ Some (next_trial before))
      (ap (λ (b : Bool). if b then Some (next_trial mid) else (with_pages (next_trial mid) 0 pages (with_trial head mid)).current head.path) ((bytes_eq-Decides head.path head.path).1 refl)
      ∙ ap (λ (n : ℕ). Some n) same_number)

  pub stays : EarlierStays head.path before after
  stays = at_new (λ t. EarlierStays head.path before t) (record {
    heads = λ trial within.
        ap (λ (hs : List Head). head_at hs trial) (pages_heads (next_trial mid) 0 pages (with_trial head mid) ∙ ap (λ (hs : List Head). hs ++ head ∷ []) w.frame.heads)
        ∙ head_stays before.heads head trial within;
    pages = λ trial number within.
        other_trial (next_trial mid) 0 pages (with_trial head mid) trial number (ap (λ (n : ℕ). n == trial) same_number ∙ not_next before.heads trial within)
        ∙ ap (λ (f : ℕ → ℕ → Option Page). f trial number) w.frame.pages;
    contents = λ digest bytes is.
        ap (λ (f : Digest → Option (List ℕ)). f digest) (pages_contents (next_trial mid) 0 pages (with_trial head mid)) ∙ w.frame.contents digest bytes is;
    current = λ other not.
        ap (λ (b : Bool). if b then Some (next_trial mid) else (with_pages (next_trial mid) 0 pages (with_trial head mid)).current other) not
        ∙ ap (λ (f : List ℕ → Option ℕ). f other) (pages_current (next_trial mid) 0 pages (with_trial head mid) ∙ w.frame.current);
  })

pub pages_back : (contents : List (List ℕ)) (head : Head) (pages : List (List ℕ)) (before after : TablesView) → write_in contents head pages before ≡ put after
    → (number : ℕ) (bytes : List ℕ) → slice_get pages number ≡ Some bytes → page_in after (next_trial before) number ≡ fine bytes
pages_back contents head pages before after eq = page_back contents head pages before after (wrote contents head pages before after eq)

pub all_stays : (contents : List (List ℕ)) (head : Head) (pages : List (List ℕ)) (before after : TablesView) → write_in contents head pages before ≡ put after → EarlierStays head.path before after
all_stays contents head pages before after eq = stays contents head pages before after (wrote contents head pages before after eq)

pub new_is_current : (contents : List (List ℕ)) (head : Head) (pages : List (List ℕ)) (before after : TablesView) → write_in contents head pages before ≡ put after → after.current head.path ≡ Some (next_trial before)
new_is_current contents head pages before after eq = is_current contents head pages before after (wrote contents head pages before after eq)
