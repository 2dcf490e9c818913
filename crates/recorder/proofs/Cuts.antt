-- Pages are the rows, cut behind each row that fills one.
use Rattle.std.proofs.Common.{◌≡◌, ℕ, zero, suc, nat_le, ◌<◌, ◌≤◌, Bool, true, false, List, [], ◌∷◌, ◌++◌, length, refl, sym, ap, subst, ◌∙◌, append_assoc, arith, if◌then◌else◌}
use Rattle.std.specs.List.{concat}
use Rattle.std.proofs.lemmas.Bool.{le-leb, leb-true, leb-false, lt-leb}
use Rattle.std.proofs.lemmas.List.{append-nil, length-append}
use Rattle.trace_rows.specs.declared.row.Row.{Row}
use Rattle.trace_rows.specs.RowBytes.{row_bytes, rows_bytes, AreRows}
use Rattle.trace_rows.proofs.PageLaws.{some_bytes}
use Rattle.recorder.specs.PageCuts.{last_page, pages_behind, pages, AreCut, AreDecodedAs, HaveBytes}

-- ---- one behind the other

last_bytes : (page : List ℕ) → concat (last_page page) ≡ page
last_bytes [] = refl
last_bytes (byte ∷ bytes) = append-nil (byte ∷ bytes)

behind_bytes : (page : List ℕ) (rows : List Row) → concat (pages_behind page rows) ≡ page ++ rows_bytes rows
behind_bytes page [] = last_bytes page ∙ sym (append-nil page)
behind_bytes page (row ∷ rows) = by (nat_le 65536 (length (page ++ row_bytes row))) (behind_bytes [] rows) (behind_bytes (page ++ row_bytes row) rows) ∙ append_assoc page (row_bytes row) (rows_bytes rows)
  where
    by : (b : Bool) → concat (pages_behind [] rows) ≡ rows_bytes rows → concat (pages_behind (page ++ row_bytes row) rows) ≡ (page ++ row_bytes row) ++ rows_bytes rows
        → concat (if b then (page ++ row_bytes row) ∷ pages_behind [] rows else pages_behind (page ++ row_bytes row) rows) ≡ (page ++ row_bytes row) ++ rows_bytes rows
    by true new more = ap (λ bytes. (page ++ row_bytes row) ++ bytes) new
    by false new more = more

pub all_bytes : (rows : List Row) → concat (pages rows) ≡ rows_bytes rows
all_bytes rows = behind_bytes [] rows

-- ---- where each ends

bytes_behind : (rows : List Row) (row : Row) → rows_bytes (rows ++ row ∷ []) ≡ rows_bytes rows ++ row_bytes row
bytes_behind [] row = append-nil (row_bytes row)
bytes_behind (first ∷ rows) row = ap (λ bytes. row_bytes first ++ bytes) (bytes_behind rows row) ∙ sym (append_assoc (row_bytes first) (rows_bytes rows) (row_bytes row))

record Ends (rows : List Row) : Type 0 where
  pub front : List Row
  pub last : Row
  pub is : rows ≡ front ++ last ∷ []

ends : (row : Row) (rows : List Row) → Ends (row ∷ rows)
ends row [] = record { front = []; last = row; is = refl }
ends row (next ∷ rows) =
    let behind = ends next rows in
    record { front = row ∷ behind.front; last = behind.last; is = ap (λ more. row ∷ more) behind.is }

-- what a front of the bytes has is no more than all
less_front : (front : List Row) (last : Row) (rows : List Row) → rows ≡ front ++ last ∷ [] → length (rows_bytes rows) < 65536 → length (rows_bytes front) < 65536
less_front front last rows is less =
    omega (arith, less, ap (λ r. length (rows_bytes r)) is, ap length (bytes_behind front last), length-append (rows_bytes front) (row_bytes last))

last_cut : (done : List Row) → length (rows_bytes done) < 65536 → AreCut (done ++ []) (pages_behind (rows_bytes done) [])
last_cut [] less = refl
last_cut (row ∷ rows) less =
    let all = ends row rows in
    let page = rows_bytes (row ∷ rows) in
    subst (AreCut ((row ∷ rows) ++ [])) (one page (omega (arith, some_bytes row, length-append (row_bytes row) (rows_bytes rows)))) (
      [],
      record {
        front = all.front;
        last = all.last;
        in_order = append-nil (row ∷ rows) ∙ all.is;
        spelled = ap rows_bytes all.is;
        less = less_front all.front all.last (row ∷ rows) all.is less;
        full = λ some. absurd (omega (arith, some));
      },
      refl,
    )
  where
    one : (page : List ℕ) → 0 < length page → page ∷ [] ≡ last_page page
    one [] some = absurd (omega (arith, some))
    one (byte ∷ bytes) some = refl

cut_behind : (rows done : List Row) → length (rows_bytes done) < 65536 → AreCut (done ++ rows) (pages_behind (rows_bytes done) rows)
cut_behind [] done less = last_cut done less
cut_behind (row ∷ rows) done less =
    next row rows done less (cut_behind rows [] (omega arith)) (cut_behind rows (done ++ row ∷ []))
  where
    next : (row : Row) (rows done : List Row) → length (rows_bytes done) < 65536 → AreCut rows (pages_behind [] rows)
        → (length (rows_bytes (done ++ row ∷ [])) < 65536 → AreCut ((done ++ row ∷ []) ++ rows) (pages_behind (rows_bytes (done ++ row ∷ [])) rows))
        → AreCut (done ++ row ∷ rows) (pages_behind (rows_bytes done) (row ∷ rows))
    next row rows done less new more = by (nat_le 65536 (length (rows_bytes done ++ row_bytes row))) refl
      where
        is : rows_bytes (done ++ row ∷ []) ≡ rows_bytes done ++ row_bytes row
        is = bytes_behind done row

        by : (b : Bool) → nat_le 65536 (length (rows_bytes done ++ row_bytes row)) ≡ b
            → AreCut (done ++ row ∷ rows) (if b then (rows_bytes done ++ row_bytes row) ∷ pages_behind [] rows else pages_behind (rows_bytes done ++ row_bytes row) rows)
        by true above = (rows, record { front = done; last = row; in_order = refl; spelled = sym is; less = less; full = λ some. leb-true 65536 (length (rows_bytes done ++ row_bytes row)) above }, new)
        by false above =
            subst (λ page. AreCut (done ++ row ∷ rows) (pages_behind page rows)) is
            (subst (λ all. AreCut all (pages_behind (rows_bytes (done ++ row ∷ [])) rows)) (append_assoc done (row ∷ []) rows)
            (more (omega (arith, leb-false 65536 (length (rows_bytes done ++ row_bytes row)) above, ap length is))))

pub all_cut : (rows : List Row) → AreCut rows (pages rows)
all_cut rows = cut_behind rows [] (omega arith)

-- ---- none is empty

have_bytes : (rows : List Row) (ps : List (List ℕ)) → AreCut rows ps → HaveBytes ps
have_bytes rows [] cut = λ k d below. absurd (omega (arith, below))
have_bytes rows (page ∷ ps) cut = by (have_bytes cut.0 ps cut.2)
  where
    by : HaveBytes ps → HaveBytes (page ∷ ps)
    by more zero d below =
        omega (arith, some_bytes cut.1.last, ap length cut.1.spelled, ap length (bytes_behind cut.1.front cut.1.last), length-append (rows_bytes cut.1.front) (row_bytes cut.1.last))
    by more (suc k) d below = more k d (omega (arith, below))

pub all_have_bytes : (rows : List Row) → HaveBytes (pages rows)
all_have_bytes rows = have_bytes rows (pages rows) (all_cut rows)

-- ---- what each is decoded as

rows_parts : (xs ys : List Row) → AreRows (xs ++ ys) → AreRows xs × AreRows ys
rows_parts [] ys all = (tt, all)
rows_parts (x ∷ xs) ys all =
    let more = rows_parts xs ys all.1 in
    ((all.0, more.0), more.1)

decoded : (rows : List Row) (ps : List (List ℕ)) → AreRows rows → AreCut rows ps → AreDecodedAs rows ps
decoded rows [] fit cut = cut
decoded rows (page ∷ ps) fit cut =
    let first = cut.1 in
    let own = first.front ++ first.last ∷ [] in
    let is : rows ≡ own ++ cut.0 = first.in_order ∙ sym (append_assoc first.front (first.last ∷ []) cut.0) in
    let both = rows_parts own cut.0 (subst AreRows is fit) in
    (own, cut.0, is, record { spelled = first.spelled; are_rows = both.0 }, decoded cut.0 ps both.1 cut.2)

pub all_decoded : (rows : List Row) → AreRows rows → AreDecodedAs rows (pages rows)
all_decoded rows fit = decoded rows (pages rows) fit (all_cut rows)

-- ---- there is one way to cut

bytes_both : (xs ys : List Row) → rows_bytes (xs ++ ys) ≡ rows_bytes xs ++ rows_bytes ys
bytes_both [] ys = refl
bytes_both (x ∷ xs) ys = ap (λ bytes. row_bytes x ++ bytes) (bytes_both xs ys) ∙ sym (append_assoc (row_bytes x) (rows_bytes xs) (rows_bytes ys))

-- rows that do not fill the page stay on it
open_page : (front rows done : List Row) → length (rows_bytes (done ++ front)) < 65536 → pages_behind (rows_bytes done) (front ++ rows) ≡ pages_behind (rows_bytes (done ++ front)) rows
open_page [] rows done less = ap (λ d. pages_behind (rows_bytes d) rows) (sym (append-nil done))
open_page (row ∷ front) rows done less =
    let is = bytes_behind done row in
    let same = append_assoc done (row ∷ []) front in
    let below : length (rows_bytes done ++ row_bytes row) < 65536 = omega (arith, less, ap (λ d. length (rows_bytes d)) same, ap length (bytes_both (done ++ row ∷ []) front), length-append (rows_bytes (done ++ row ∷ [])) (rows_bytes front), ap length is) in
    ap (λ b. if b then (rows_bytes done ++ row_bytes row) ∷ pages_behind [] (front ++ rows) else pages_behind (rows_bytes done ++ row_bytes row) (front ++ rows))
    (lt-leb 65536 (length (rows_bytes done ++ row_bytes row)) below)
    ∙ ap (λ page. pages_behind page (front ++ rows)) (sym is) ∙ open_page front rows (done ++ row ∷ []) (subst (λ d. length (rows_bytes d) < 65536) (sym same) less) ∙ ap (λ d. pages_behind (rows_bytes d) rows) same

-- the row that fills the page, or the last of all, ends it
closed_page : (done : List Row) (last : Row) (behind : List Row) → (0 < length behind → 65536 ≤ length (rows_bytes done ++ row_bytes last))
    → pages_behind (rows_bytes done) (last ∷ behind) ≡ (rows_bytes done ++ row_bytes last) ∷ pages behind
closed_page done last [] full = by (nat_le 65536 (length (rows_bytes done ++ row_bytes last)))
  where
    one : (page : List ℕ) → 0 < length page → last_page page ≡ page ∷ []
    one [] some = absurd (omega (arith, some))
    one (byte ∷ bytes) some = refl

    by : (b : Bool) → (if b then (rows_bytes done ++ row_bytes last) ∷ pages_behind [] [] else pages_behind (rows_bytes done ++ row_bytes last) []) ≡ (rows_bytes done ++ row_bytes last) ∷ []
    by true = refl
    by false = one (rows_bytes done ++ row_bytes last) (omega (arith, some_bytes last, length-append (rows_bytes done) (row_bytes last)))
closed_page done last (next ∷ rest) full =
    ap (λ b. if b then (rows_bytes done ++ row_bytes last) ∷ pages_behind [] (next ∷ rest) else pages_behind (rows_bytes done ++ row_bytes last) (next ∷ rest))
    (le-leb 65536 (length (rows_bytes done ++ row_bytes last)) (full (omega arith)))

pub cut_once : (rows : List Row) (ps : List (List ℕ)) → AreCut rows ps → ps ≡ pages rows
cut_once rows [] cut = sym (ap pages cut)
cut_once rows (page ∷ ps) cut =
    let first = cut.1 in
    let is = first.spelled ∙ bytes_behind first.front first.last in
    ap (λ p. p ∷ ps) is ∙ ap (λ qs. (rows_bytes first.front ++ row_bytes first.last) ∷ qs) (cut_once cut.0 ps cut.2)
    ∙ sym (ap pages first.in_order ∙ open_page first.front (first.last ∷ cut.0) [] first.less ∙ closed_page first.front first.last cut.0 (λ some. omega (arith, first.full some, ap length is)))
