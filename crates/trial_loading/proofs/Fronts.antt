-- The pages so far, and one page more.
use Rattle.std.proofs.Common.{◌≡◌, ℕ, ◌+◌, List, [], ◌∷◌, ◌++◌, length, map, refl, sym, ap, subst, ◌∙◌, append_assoc, append-nil, length-append, arith}
use Rattle.std.proofs.lemmas.List.{map-append}
use Rattle.keeper.specs.Tables.{TablesView}
use Rattle.trace_rows.specs.declared.row.Row.{Row}
use Rattle.trace_rows.specs.Page.{IsPage}
use Rattle.trace_rows.specs.RowBytes.{row_bytes, rows_bytes, AreRows}
use Rattle.trial_tables.specs.Whole.{Check, fine, damaged, page_in}
use Rattle.trial_loading.specs.declared.gathering.OnePage.{OnePage}
use Rattle.trial_loading.specs.Gathering.{IsOnePage, IsFront}
use Rattle.trial_loading.specs.TrialPages.{HoldsRows, HoldPages, rows_on}

pub rows_on_more : (each more : List (List Row)) → rows_on (each ++ more) ≡ rows_on each ++ rows_on more
rows_on_more [] more = refl
rows_on_more (rows ∷ each) more = ap (λ (l : List Row). rows ++ l) (rows_on_more each more) ∙ sym (append_assoc rows (rows_on each) (rows_on more))

bytes_more : (rows more : List Row) → rows_bytes (rows ++ more) ≡ rows_bytes rows ++ rows_bytes more
bytes_more [] more = refl
bytes_more (row ∷ rows) more = ap (λ (l : List ℕ). row_bytes row ++ l) (bytes_more rows more) ∙ sym (append_assoc (row_bytes row) (rows_bytes rows) (rows_bytes more))

are_more : (rows more : List Row) → AreRows rows → AreRows more → AreRows (rows ++ more)
are_more [] more are also = also
are_more (row ∷ rows) more are also = (are.0, are_more rows more are.1 also)

page_more : (bytes others : List ℕ) (rows more : List Row) → IsPage bytes rows → IsPage others more → IsPage (bytes ++ others) (rows ++ more)
page_more bytes others rows more page other = record {
  spelled = ap (λ (l : List ℕ). l ++ others) page.spelled ∙ (ap (λ (l : List ℕ). rows_bytes rows ++ l) other.spelled ∙ sym (bytes_more rows more));
  are_rows = are_more rows more page.are_rows other.are_rows;
}

pub pages_more : (tables : TablesView) (trial number : ℕ) (each : List (List Row)) (rows : List Row)
    → HoldPages tables trial number each → HoldsRows (page_in tables trial (number + length each)) rows → HoldPages tables trial number (each ++ rows ∷ [])
pages_more tables trial number [] rows hold more = (subst (λ n. HoldsRows (page_in tables trial n) rows) (omega arith) more, tt)
pages_more tables trial number (first ∷ each) rows hold more =
    (hold.0, pages_more tables trial (number + 1) each rows hold.1 (subst (λ n. HoldsRows (page_in tables trial n) rows) (omega arith) more))

pub pages_before : (tables : TablesView) (trial number : ℕ) (each more : List (List Row)) → HoldPages tables trial number (each ++ more) → HoldPages tables trial number each
pages_before tables trial number [] more hold = tt
pages_before tables trial number (first ∷ each) more hold = (hold.0, pages_before tables trial (number + 1) each more hold.1)

more_at : (tables : TablesView) (trial number : ℕ) (bytes cuts : List ℕ) (page : OnePage) (found : Check (List ℕ)) → page_in tables trial number ≡ found
    → IsOnePage found page → IsFront tables trial number bytes cuts → IsFront tables trial (number + 1) (bytes ++ page.bytes) (cuts ++ page.count ∷ [])
more_at tables trial number bytes cuts page (damaged damage) at one front = absurd one
more_at tables trial number bytes cuts page (fine given) at one front =
    let each = front.each in
    let rows = one.1.0 in
    let is_page : IsPage page.bytes rows = subst (λ (l : List ℕ). IsPage l rows) (sym one.0) one.1.1.0 in
    let there : HoldsRows (page_in tables trial number) rows = subst (λ c. HoldsRows c rows) (sym at) one.1.1.0 in
    record {
      each = each ++ rows ∷ [];
      count = length-append each (rows ∷ []) ∙ ap (λ n. n + 1) front.count;
      hold = pages_more tables trial 0 each rows front.hold (subst (λ n. HoldsRows (page_in tables trial n) rows) (sym (omega (arith, front.count))) there);
      is_page = subst (IsPage (bytes ++ page.bytes)) (sym (rows_on_more each (rows ∷ []) ∙ ap (λ (l : List Row). rows_on each ++ l) (append-nil rows)))
          (page_more bytes page.bytes (rows_on each) rows front.is_page is_page);
      cuts_are = ap (λ (l : List ℕ). l ++ page.count ∷ []) front.cuts_are ∙ (ap (λ n. map length each ++ n ∷ []) (sym one.1.1.1) ∙ sym (map-append length each (rows ∷ [])));
    }

pub front_more : (tables : TablesView) (trial number : ℕ) (bytes cuts : List ℕ) (page : OnePage)
    → IsOnePage (page_in tables trial number) page → IsFront tables trial number bytes cuts → IsFront tables trial (number + 1) (bytes ++ page.bytes) (cuts ++ page.count ∷ [])
front_more tables trial number bytes cuts page one front = more_at tables trial number bytes cuts page (page_in tables trial number) refl one front

pub no_pages : (tables : TablesView) (trial : ℕ) → IsFront tables trial 0 [] []
no_pages tables trial = record { each = []; count = refl; hold = tt; is_page = record { spelled = refl; are_rows = tt }; cuts_are = refl }

-- the rows up to a row of a page, and those behind it
pub around_row : (before : List (List Row)) (front : List Row) (row : Row) (behind : List Row) (after : List (List Row))
    → rows_on (before ++ (front ++ row ∷ behind) ∷ after) ≡ (rows_on before ++ front ++ row ∷ []) ++ (behind ++ rows_on after)
around_row before front row behind after =
    rows_on_more before ((front ++ row ∷ behind) ∷ after)
    ∙ (ap (λ (l : List Row). rows_on before ++ l) (append_assoc front (row ∷ behind) (rows_on after))
    ∙ (sym (append_assoc (rows_on before) front (row ∷ (behind ++ rows_on after)))
    ∙ sym (append_assoc (rows_on before ++ front) (row ∷ []) (behind ++ rows_on after))))
