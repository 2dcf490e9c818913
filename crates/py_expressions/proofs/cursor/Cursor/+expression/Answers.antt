use Rattle.std.proofs.Common.{rules, arith, sym, ◌∙◌}
use Rattle.py_expressions.proofs.Connectives.{or_one, or_next, or_first, or_right, or_full, and_one, and_next, and_first, and_right, and_full, sum_one, sum_next, sum_first, sum_right, sum_full, term_one, term_next, term_first, term_right, term_full}
use Rattle.py_expressions.proofs.Choices.{expr_one, expr_choice, chosen_refused, choice_full, test_refused, else_refused, other_refused}
use Rattle.py_expressions.proofs.Prefixes.{not_one, not_next, not_cmp_refused, not_here, not_operand_refused, unary_one, unary_next, unary_prim_refused, unary_here, unary_operand_refused}
use Rattle.py_expressions.proofs.Compared.{cmp_one, cmp_next, cmp_left_refused, cmp_full, cmp_sign_refused, cmp_right_refused, cmp_second_refused}
use Rattle.py_expressions.specs.ParsedRows.{items_part, index_part, pairs_part}
use Rattle.py_expressions.proofs.BracketParts.{call_closed, part_closed, list_closed, dict_closed}
use Rattle.py_expressions.proofs.ClosedParts.{closed_first, closed_last}
use Rattle.py_expressions.proofs.Lying.{items_low, index_low, pairs_low}
use Rattle.py_expressions.proofs.PrimParts.{prim_one, prim_next, prim_end, prim_first, prim_right, prim_full, trailer_dot, trailer_dot_refused, trailer_name_refused}
use Rattle.py_expressions.proofs.AtomParts.{round_opens, square_opens, curly_opens, opening_full, group_none, group_some, group_first, group_last}
use Rattle.py_expressions.proofs.RowParts.{rest_init, rest_next, rest_last, rest_end, rest_refused}
use Rattle.py_expressions.proofs.ItemParts.{row_one, row_several, row_first, row_rest, row_full, first_pushed, items_none, items_one, items_first}
use Rattle.py_expressions.proofs.IndexParts.{bound_none, bound_some, bound_refused, index_one, index_from_start, index_range, index_start_refused, index_row_refused, index_end_refused}
use Rattle.py_expressions.proofs.PairParts.{pairs_init, pairs_next, pairs_last, pairs_end, key_refused, colon_refused, value_refused}
use Rattle.py_expressions.proofs.Returns.{taken_kept, taken_twice, absent_kept, refused_kept, row_kept, list_kept, rest_kept, items_kept, index_kept, index_end_kept, index_tuple, single, pairs_kept, row_shorter, pair_shorter, group_ok, group_err, list_ok, list_err, dict_ok, dict_err, call_ok, call_err, part_ok, part_err, items_ok, items_err}
use Rattle.py_expressions.proofs.cursor.Cursor.+expression.Goals as goal

pub or-returns-in_err-left-clause-refused : goal.or-returns-in_err-left-clause-refused
or-returns-in_err-left-clause-refused t c = search (rules, or_first)

pub or-loop-at-init : goal.or-loop-at-init
or-loop-at-init t c = or_one _ _ _ _ c.in_ok-left.ensures.found

pub or-returns-in_err-goes_above-clause-refused : goal.or-returns-in_err-goes_above-clause-refused
or-returns-in_err-goes_above-clause-refused t c = let is = or_full _ _ _ _ _ _ _ c.loop-at.invariant c.in-Some.ensures.taken c.in_err-goes_above.ensures.deep in search (rules, is)

pub or-returns-in_err-right-clause-refused : goal.or-returns-in_err-right-clause-refused
or-returns-in_err-right-clause-refused t c = let fits = c.in_ok-goes_above.ensures.fits in let is = or_right _ _ _ _ _ _ _ _ c.loop-at.invariant c.in-Some.ensures.taken fits (omega arith) (omega (arith, fits)) c.in_err-right.ensures.refused in search (rules, is)

pub or-loop-at-preserved : goal.or-loop-at-preserved
or-loop-at-preserved t c = search (rules, or_next)

pub and-returns-in_err-left-clause-refused : goal.and-returns-in_err-left-clause-refused
and-returns-in_err-left-clause-refused t c = search (rules, and_first)

pub and-loop-at-init : goal.and-loop-at-init
and-loop-at-init t c = and_one _ _ _ _ c.in_ok-left.ensures.found

pub and-returns-in_err-goes_above-clause-refused : goal.and-returns-in_err-goes_above-clause-refused
and-returns-in_err-goes_above-clause-refused t c = let is = and_full _ _ _ _ _ _ _ c.loop-at.invariant c.in-Some.ensures.taken c.in_err-goes_above.ensures.deep in search (rules, is)

pub and-returns-in_err-right-clause-refused : goal.and-returns-in_err-right-clause-refused
and-returns-in_err-right-clause-refused t c = let fits = c.in_ok-goes_above.ensures.fits in let is = and_right _ _ _ _ _ _ _ _ c.loop-at.invariant c.in-Some.ensures.taken fits (omega arith) (omega (arith, fits)) c.in_err-right.ensures.refused in search (rules, is)

pub and-loop-at-preserved : goal.and-loop-at-preserved
and-loop-at-preserved t c = search (rules, and_next)

pub sum-returns-in_err-left-clause-refused : goal.sum-returns-in_err-left-clause-refused
sum-returns-in_err-left-clause-refused t c = search (rules, sum_first)

pub sum-loop-at-init : goal.sum-loop-at-init
sum-loop-at-init t c = sum_one _ _ _ _ c.in_ok-left.ensures.found

pub sum-returns-in_err-goes_above-clause-refused : goal.sum-returns-in_err-goes_above-clause-refused
sum-returns-in_err-goes_above-clause-refused t c = let is = sum_full _ _ _ _ _ _ _ _ c.loop-at.invariant c.in-Some.ensures.taken c.in_err-goes_above.ensures.deep in search (rules, is)

pub sum-returns-in_err-right-clause-refused : goal.sum-returns-in_err-right-clause-refused
sum-returns-in_err-right-clause-refused t c = let fits = c.in_ok-goes_above.ensures.fits in let is = sum_right _ _ _ _ _ _ _ _ _ c.loop-at.invariant c.in-Some.ensures.taken fits (omega arith) (omega (arith, fits)) c.in_err-right.ensures.refused in search (rules, is)

pub sum-loop-at-preserved : goal.sum-loop-at-preserved
sum-loop-at-preserved t c = search (rules, sum_next)

pub term-returns-in_err-left-clause-refused : goal.term-returns-in_err-left-clause-refused
term-returns-in_err-left-clause-refused t c = search (rules, term_first)

pub term-loop-at-init : goal.term-loop-at-init
term-loop-at-init t c = term_one _ _ _ _ c.in_ok-left.ensures.found

pub term-returns-in_err-goes_above-clause-refused : goal.term-returns-in_err-goes_above-clause-refused
term-returns-in_err-goes_above-clause-refused t c = let is = term_full _ _ _ _ _ _ _ _ c.loop-at.invariant c.in-Some.ensures.taken c.in_err-goes_above.ensures.deep in search (rules, is)

pub term-returns-in_err-right-clause-refused : goal.term-returns-in_err-right-clause-refused
term-returns-in_err-right-clause-refused t c = let fits = c.in_ok-goes_above.ensures.fits in let is = term_right _ _ _ _ _ _ _ _ _ c.loop-at.invariant c.in-Some.ensures.taken fits (omega arith) (omega (arith, fits)) c.in_err-right.ensures.refused in search (rules, is)

pub term-loop-at-preserved : goal.term-loop-at-preserved
term-loop-at-preserved t c = search (rules, term_next)

pub expr-returns-in_err-chosen-clause-refused : goal.expr-returns-in_err-chosen-clause-refused
expr-returns-in_err-chosen-clause-refused t c = search (rules, chosen_refused)

pub expr-returns-in_default-clause-found : goal.expr-returns-in_default-clause-found
expr-returns-in_default-clause-found t c = search (rules, expr_one)

pub expr-returns-in_err-goes_above-clause-refused : goal.expr-returns-in_err-goes_above-clause-refused
expr-returns-in_err-goes_above-clause-refused t c = let is = choice_full _ _ _ _ _ _ _ c.in_ok-chosen.ensures.found c.in-Some.ensures.taken c.in_err-goes_above.ensures.deep in search (rules, is)

pub expr-returns-in_err-test-clause-refused : goal.expr-returns-in_err-test-clause-refused
expr-returns-in_err-test-clause-refused t c = let fits = c.in_ok-goes_above.ensures.fits in let is = test_refused _ _ _ _ _ _ _ _ c.in_ok-chosen.ensures.found c.in-Some.ensures.taken fits (omega arith) (omega (arith, fits)) c.in_err-test.ensures.refused in search (rules, is)

pub expr-returns-in_err-keyword-clause-refused : goal.expr-returns-in_err-keyword-clause-refused
expr-returns-in_err-keyword-clause-refused t c = let fits = c.in_ok-goes_above.ensures.fits in let is = else_refused _ _ _ _ _ _ _ _ _ _ c.in_ok-chosen.ensures.found c.in-Some.ensures.taken fits (omega arith) (omega (arith, fits)) c.in_ok-test.ensures.found c.in_err-keyword.ensures.refused in search (rules, is)

pub expr-returns-in_err-other-clause-refused : goal.expr-returns-in_err-other-clause-refused
expr-returns-in_err-other-clause-refused t c = let fits = c.in_ok-goes_above.ensures.fits in let is = other_refused _ _ _ _ _ _ _ _ _ _ _ _ c.in_ok-chosen.ensures.found c.in-Some.ensures.taken c.in_ok-test.ensures.found c.in_ok-keyword.ensures.taken fits (omega arith) (omega (arith, fits)) c.in_err-other.ensures.refused in search (rules, is)

pub not-returns-in_default-clause-found : goal.not-returns-in_default-clause-found
not-returns-in_default-clause-found t c = search (rules, not_one)

pub not-returns-in_default-clause-refused : goal.not-returns-in_default-clause-refused
not-returns-in_default-clause-refused t c = search (rules, not_cmp_refused)

pub not-returns-in_err-goes_here-clause-refused : goal.not-returns-in_err-goes_here-clause-refused
not-returns-in_err-goes_here-clause-refused t c = let is = not_here c.args.room _ _ _ _ c.in-Some.ensures.taken c.in_err-goes_here.ensures.deep in search (rules, is)

pub not-returns-in_err-operand-clause-refused : goal.not-returns-in_err-operand-clause-refused
not-returns-in_err-operand-clause-refused t c = let fits = c.in_ok-goes_here.ensures.fits in let is = not_operand_refused c.args.room _ _ _ _ _ c.in-Some.ensures.taken (omega arith) (omega (arith, fits)) c.in_err-operand.ensures.refused in search (rules, is)

pub cmp-returns-in_err-left-clause-refused : goal.cmp-returns-in_err-left-clause-refused
cmp-returns-in_err-left-clause-refused t c = search (rules, cmp_left_refused)

pub cmp-returns-then-not-at_comparison-clause-found : goal.cmp-returns-then-not-at_comparison-clause-found
cmp-returns-then-not-at_comparison-clause-found t c = search (rules, cmp_one)

pub cmp-returns-in_err-goes_above-clause-refused : goal.cmp-returns-in_err-goes_above-clause-refused
cmp-returns-in_err-goes_above-clause-refused t c = let is = cmp_full c.args.room _ _ _ _ c.in_ok-left.ensures.found (search rules) c.in_err-goes_above.ensures.deep in search (rules, is)

pub cmp-returns-in_err-at-clause-refused : goal.cmp-returns-in_err-at-clause-refused
cmp-returns-in_err-at-clause-refused t c = let is = cmp_sign_refused c.args.room _ _ _ _ c.in_ok-left.ensures.found (search rules) c.in_ok-goes_above.ensures.fits c.in_err-at.ensures.refused in search (rules, is)

pub cmp-returns-in_err-right-clause-refused : goal.cmp-returns-in_err-right-clause-refused
cmp-returns-in_err-right-clause-refused t c = let fits = c.in_ok-goes_above.ensures.fits in let is = cmp_right_refused c.args.room _ _ _ _ _ _ _ _ c.in_ok-left.ensures.found c.in_ok-at.ensures.taken fits (omega arith) (omega (arith, fits)) c.in_err-right.ensures.refused in search (rules, is)

pub cmp-returns-then-at_comparison-clause-refused : goal.cmp-returns-then-at_comparison-clause-refused
cmp-returns-then-at_comparison-clause-refused t c = search (rules, cmp_second_refused)

pub cmp-returns-clause-found : goal.cmp-returns-clause-found
cmp-returns-clause-found t c = search (rules, cmp_next)

pub expr-returns-clause-found : goal.expr-returns-clause-found
expr-returns-clause-found t c = search (rules, expr_choice)

pub not-returns-clause-found : goal.not-returns-clause-found
not-returns-clause-found t c = search (rules, not_next)

pub unary-returns-in_default-clause-found : goal.unary-returns-in_default-clause-found
unary-returns-in_default-clause-found t c = search (rules, unary_one)

pub unary-returns-in_default-clause-refused : goal.unary-returns-in_default-clause-refused
unary-returns-in_default-clause-refused t c = search (rules, unary_prim_refused)

pub unary-returns-in_err-goes_here-clause-refused : goal.unary-returns-in_err-goes_here-clause-refused
unary-returns-in_err-goes_here-clause-refused t c = let is = unary_here c.args.room _ _ _ _ _ c.in-Some.ensures.taken c.in_err-goes_here.ensures.deep in search (rules, is)

pub unary-returns-in_err-operand-clause-refused : goal.unary-returns-in_err-operand-clause-refused
unary-returns-in_err-operand-clause-refused t c = let fits = c.in_ok-goes_here.ensures.fits in let is = unary_operand_refused c.args.room _ _ _ _ _ _ c.in-Some.ensures.taken (omega arith) (omega (arith, fits)) c.in_err-operand.ensures.refused in search (rules, is)

pub unary-returns-clause-found : goal.unary-returns-clause-found
unary-returns-clause-found t c = unary_next c.args.room _ _ _ _ _ _ _ _ _ c.in-Some.ensures.taken c.sign_of.ensures (omega (arith, c.in_ok-goes_here.ensures.fits)) c.in_ok-operand.ensures.found c.in_ok-part.ensures.tree c.in_ok-part.ensures.height c.in_ok-part.ensures.deepest c.in_ok-part.ensures.other

pub prim-returns-in_err-left-clause-refused : goal.prim-returns-in_err-left-clause-refused
prim-returns-in_err-left-clause-refused t c = search (rules, prim_first)

pub prim-loop-alloc-init : goal.prim-loop-alloc-init
prim-loop-alloc-init t c = prim_one _ _ _ _ c.in_ok-left.ensures.found

pub prim-returns-in_err-goes_above-clause-refused : goal.prim-returns-in_err-goes_above-clause-refused
prim-returns-in_err-goes_above-clause-refused t c =
    let is = prim_full _ _ _ _ _ c.loop-alloc.invariant (sym c.at_trailer.ensures ∙ c.loop-alloc-test.true) c.in_err-goes_above.ensures.deep in search (rules, is)

pub prim-returns-in_err-left-2-clause-refused : goal.prim-returns-in_err-left-2-clause-refused
prim-returns-in_err-left-2-clause-refused t c =
    let fits = c.in_ok-goes_above.ensures.fits in
    let is = prim_right _ _ _ _ _ _ c.loop-alloc.invariant (sym c.at_trailer.ensures ∙ c.loop-alloc-test.true) fits (omega arith) (omega (arith, fits)) c.in_err-left-2.ensures.refused in search (rules, is)

pub prim-loop-alloc-preserved : goal.prim-loop-alloc-preserved
prim-loop-alloc-preserved t c = prim_next _ _ _ _ _ _ _ c.loop-alloc.invariant c.in_ok-goes_above.ensures.fits (let fits = c.in_ok-goes_above.ensures.fits in omega (arith, fits)) c.in_ok-left-2.ensures.found

pub prim-returns-clause-found : goal.prim-returns-clause-found
prim-returns-clause-found t c = prim_end _ _ _ _ c.loop-alloc.invariant (sym c.at_trailer.ensures ∙ c.loop-alloc-test.false)

pub trailer-returns-in-Some-clause-found : goal.trailer-returns-in-Some-clause-found
trailer-returns-in-Some-clause-found t c = call_ok _ _ _ _ _ _ _ c.in-Some.ensures.taken c.arguments.ensures.found

pub trailer-returns-in-Some-clause-refused : goal.trailer-returns-in-Some-clause-refused
trailer-returns-in-Some-clause-refused t c = call_err _ _ _ _ _ c.in-Some.ensures.taken c.arguments.ensures.refused

pub trailer-returns-in-Some-take_sign-clause-found : goal.trailer-returns-in-Some-take_sign-clause-found
trailer-returns-in-Some-take_sign-clause-found t c = part_ok _ _ _ _ _ _ _ (taken_kept _ _ _ _ _ c.in_default.ensures.kept c.in-Some-take_sign.ensures.taken) c.subscription.ensures.found

pub trailer-returns-in-Some-take_sign-clause-refused : goal.trailer-returns-in-Some-take_sign-clause-refused
trailer-returns-in-Some-take_sign-clause-refused t c = part_err _ _ _ _ _ (taken_kept _ _ _ _ _ c.in_default.ensures.kept c.in-Some-take_sign.ensures.taken) c.subscription.ensures.refused

pub trailer-returns-in_err-at-clause-refused : goal.trailer-returns-in_err-at-clause-refused
trailer-returns-in_err-at-clause-refused t c =
    let is = trailer_dot_refused c.args.room _ _ c.in_default.ensures.absent (absent_kept 2 _ _ c.in_default.ensures.kept c.in_default-take_sign.ensures.absent)
    (refused_kept _ _ _ _ _ (c.in_default-take_sign.ensures.kept ∙ c.in_default.ensures.kept) c.in_err-at.ensures.refused) in
    search (rules, is)

pub trailer-returns-in_err-name-clause-refused : goal.trailer-returns-in_err-name-clause-refused
trailer-returns-in_err-name-clause-refused t c =
    let is = trailer_name_refused c.args.room _ _ _ _ (taken_twice _ _ _ _ _ _ c.in_default-take_sign.ensures.kept c.in_default.ensures.kept c.in_ok-at.ensures.taken) c.in_err-name.ensures.refused in search (rules, is)

pub trailer-returns-clause-found : goal.trailer-returns-clause-found
trailer-returns-clause-found t c =
    let taken = taken_twice _ _ _ _ _ _ c.in_default-take_sign.ensures.kept c.in_default.ensures.kept c.in_ok-at.ensures.taken in
    let named = c.in_ok-name.ensures.taken in
    search (rules, trailer_dot, taken, named)

pub arguments-returns-in_err-arguments-clause-refused : goal.arguments-returns-in_err-arguments-clause-refused
arguments-returns-in_err-arguments-clause-refused t c = let is = closed_first (items_part 1) 1 _ _ _ c.in_err-arguments.ensures.refused in search (rules, is)

pub arguments-returns-in_err-sign-clause-refused : goal.arguments-returns-in_err-sign-clause-refused
arguments-returns-in_err-sign-clause-refused t c =
    let f = c.in_ok-arguments.ensures.found in
    let is = closed_last (items_part 1) 1 c.args.room _ _ _ _ f.before_is f.is_read (λ at. let low = items_low f.written at in let same = f.height_is in let fits = f.fits in omega (arith, low, same, fits)) c.in_err-sign.ensures.refused in search (rules, is)

pub subscription-returns-in_err-index-clause-refused : goal.subscription-returns-in_err-index-clause-refused
subscription-returns-in_err-index-clause-refused t c = let is = closed_first index_part 3 _ _ _ c.in_err-index.ensures.refused in search (rules, is)

pub subscription-returns-in_err-sign-clause-refused : goal.subscription-returns-in_err-sign-clause-refused
subscription-returns-in_err-sign-clause-refused t c =
    let f = c.in_ok-index.ensures.found in
    let is = closed_last index_part 3 c.args.room _ _ _ _ f.before_is f.is_read (λ at. let low = index_low f.written at in let same = f.height_is in let fits = f.fits in omega (arith, low, same, fits)) c.in_err-sign.ensures.refused in search (rules, is)

-- ---- atoms

pub atom-returns-in_err-goes_here-clause-refused : goal.atom-returns-in_err-goes_here-clause-refused
atom-returns-in_err-goes_here-clause-refused t c = let is = opening_full _ _ _ _ _ _ round_opens c.in-Some.ensures.taken c.in_err-goes_here.ensures.deep in search (rules, is)

pub atom-returns-in-Some-clause-found : goal.atom-returns-in-Some-clause-found
atom-returns-in-Some-clause-found t c = group_ok _ _ _ _ _ _ _ c.in-Some.ensures.taken (let fits = c.in_ok-goes_here.ensures.fits in omega (arith, fits)) c.group.ensures.found

pub atom-returns-in-Some-clause-refused : goal.atom-returns-in-Some-clause-refused
atom-returns-in-Some-clause-refused t c = group_err _ _ _ _ _ _ c.in-Some.ensures.taken (omega arith) (let fits = c.in_ok-goes_here.ensures.fits in omega (arith, fits)) c.group.ensures.refused

pub atom-returns-in_err-goes_here-2-clause-refused : goal.atom-returns-in_err-goes_here-2-clause-refused
atom-returns-in_err-goes_here-2-clause-refused t c =
    let is = opening_full _ _ _ _ _ _ square_opens (taken_kept _ _ _ _ _ c.in_default.ensures.kept c.in-Some-take_sign.ensures.taken) c.in_err-goes_here-2.ensures.deep in search (rules, is)

pub atom-returns-in-Some-take_sign-clause-found : goal.atom-returns-in-Some-take_sign-clause-found
atom-returns-in-Some-take_sign-clause-found t c =
    list_ok _ _ _ _ _ _ _ (taken_kept _ _ _ _ _ c.in_default.ensures.kept c.in-Some-take_sign.ensures.taken) (let fits = c.in_ok-goes_here-2.ensures.fits in omega (arith, fits)) c.list.ensures.found

pub atom-returns-in-Some-take_sign-clause-refused : goal.atom-returns-in-Some-take_sign-clause-refused
atom-returns-in-Some-take_sign-clause-refused t c = list_err _ _ _ _ _ _ (taken_kept _ _ _ _ _ c.in_default.ensures.kept c.in-Some-take_sign.ensures.taken) (omega arith) (let fits = c.in_ok-goes_here-2.ensures.fits in omega (arith, fits)) c.list.ensures.refused

pub atom-returns-in_err-goes_here-3-clause-refused : goal.atom-returns-in_err-goes_here-3-clause-refused
atom-returns-in_err-goes_here-3-clause-refused t c =
    let is = opening_full _ _ _ _ _ _ curly_opens (taken_twice _ _ _ _ _ _ c.in_default-take_sign.ensures.kept c.in_default.ensures.kept c.in-Some-take_sign-2.ensures.taken) c.in_err-goes_here-3.ensures.deep in search (rules, is)

pub atom-returns-in-Some-take_sign-2-clause-found : goal.atom-returns-in-Some-take_sign-2-clause-found
atom-returns-in-Some-take_sign-2-clause-found t c =
    dict_ok _ _ _ _ _ _ _ (taken_twice _ _ _ _ _ _ c.in_default-take_sign.ensures.kept c.in_default.ensures.kept c.in-Some-take_sign-2.ensures.taken) (let fits = c.in_ok-goes_here-3.ensures.fits in omega (arith, fits)) c.dict.ensures.found

pub atom-returns-in-Some-take_sign-2-clause-refused : goal.atom-returns-in-Some-take_sign-2-clause-refused
atom-returns-in-Some-take_sign-2-clause-refused t c =
    dict_err _ _ _ _ _ _ (taken_twice _ _ _ _ _ _ c.in_default-take_sign.ensures.kept c.in_default.ensures.kept c.in-Some-take_sign-2.ensures.taken) (omega arith) (let fits = c.in_ok-goes_here-3.ensures.fits in omega (arith, fits)) c.dict.ensures.refused

pub group-returns-in-Some-clause-found : goal.group-returns-in-Some-clause-found
group-returns-in-Some-clause-found t c = group_none _ _ _ _ _ _ c.in-Some.ensures.taken c.in_ok-part.ensures.tree c.in_ok-part.ensures.height c.in_ok-part.ensures.deepest c.in_ok-part.ensures.form

pub group-returns-in_err-inner-clause-refused : goal.group-returns-in_err-inner-clause-refused
group-returns-in_err-inner-clause-refused t c = let is = group_first _ _ _ c.in_default.ensures.absent (refused_kept _ _ _ _ _ c.in_default.ensures.kept c.in_err-inner.ensures.refused) in search (rules, is)

pub group-returns-in_err-sign-clause-refused : goal.group-returns-in_err-sign-clause-refused
group-returns-in_err-sign-clause-refused t c =
    let is = refused_kept _ _ _ _ _ c.in_default.ensures.kept (group_last c.args.room _ _ _ _ c.in_ok-inner.ensures.found c.in_err-sign.ensures.refused) in search (rules, is)

pub group-returns-clause-found : goal.group-returns-clause-found
group-returns-clause-found t c = group_some _ _ _ _ _ _ _ _ (row_kept _ _ _ _ _ c.in_default.ensures.kept c.in_ok-inner.ensures.found) c.in_ok-sign.ensures.taken c.grouped.ensures.tree c.grouped.ensures.height c.grouped.ensures.deepest c.grouped.ensures.form

pub list-returns-in_err-items-clause-refused : goal.list-returns-in_err-items-clause-refused
list-returns-in_err-items-clause-refused t c = let is = closed_first (items_part 3) 3 _ _ _ c.in_err-items.ensures.refused in search (rules, is)

pub list-returns-in_err-sign-clause-refused : goal.list-returns-in_err-sign-clause-refused
list-returns-in_err-sign-clause-refused t c =
    let f = c.in_ok-items.ensures.found in
    let is = closed_last (items_part 3) 3 c.args.room _ _ _ _ f.before_is f.is_read (λ at. let low = items_low f.written at in let same = f.height_is in let fits = f.fits in omega (arith, low, same, fits)) c.in_err-sign.ensures.refused in search (rules, is)

pub dict-returns-in_err-pairs-clause-refused : goal.dict-returns-in_err-pairs-clause-refused
dict-returns-in_err-pairs-clause-refused t c = let is = closed_first pairs_part 5 _ _ _ c.in_err-pairs.ensures.refused in search (rules, is)

pub dict-returns-in_err-sign-clause-refused : goal.dict-returns-in_err-sign-clause-refused
dict-returns-in_err-sign-clause-refused t c =
    let f = c.in_ok-pairs.ensures.found in
    let is = closed_last pairs_part 5 c.args.room _ _ _ _ f.before_is f.is_read (λ at. let low = pairs_low f.written at in let same = f.height_is in let fits = f.fits in omega (arith, low, same, fits)) c.in_err-sign.ensures.refused in search (rules, is)

pub arguments-returns-clause-found : goal.arguments-returns-clause-found
arguments-returns-clause-found t c = call_closed _ _ _ _ _ _ _ c.args.callee _ c.in_ok-arguments.ensures.found c.in_ok-sign.ensures.taken c.call.ensures.tree c.call.ensures.height c.call.ensures.deepest c.call.ensures.form

pub subscription-returns-clause-found : goal.subscription-returns-clause-found
subscription-returns-clause-found t c = part_closed _ _ _ _ _ _ _ c.args.object _ c.in_ok-index.ensures.found c.in_ok-sign.ensures.taken c.subscript.ensures.tree c.subscript.ensures.height c.subscript.ensures.deepest c.subscript.ensures.form

pub list-returns-clause-found : goal.list-returns-clause-found
list-returns-clause-found t c = list_closed _ _ _ _ _ _ _ _ c.in_ok-items.ensures.found c.in_ok-sign.ensures.taken c.in_ok-part.ensures.tree c.in_ok-part.ensures.height c.in_ok-part.ensures.deepest c.in_ok-part.ensures.form

pub dict-returns-clause-found : goal.dict-returns-clause-found
dict-returns-clause-found t c = dict_closed _ _ _ _ _ _ _ _ c.in_ok-pairs.ensures.found c.in_ok-sign.ensures.taken c.in_ok-part.ensures.tree c.in_ok-part.ensures.height c.in_ok-part.ensures.deepest c.in_ok-part.ensures.form

-- ---- rows

pub row-returns-in_err-first-clause-refused : goal.row-returns-in_err-first-clause-refused
row-returns-in_err-first-clause-refused t c = let is = row_first _ _ _ c.in_err-first.ensures.refused in search (rules, is)

pub row-returns-in_default-clause-found : goal.row-returns-in_default-clause-found
row-returns-in_default-clause-found t c = list_kept _ _ _ _ _ _ c.in_default.ensures.kept (row_one _ _ _ _ c.in_ok-first.ensures.found c.in_default.ensures.absent)

pub row-returns-in_err-goes_above-clause-refused : goal.row-returns-in_err-goes_above-clause-refused
row-returns-in_err-goes_above-clause-refused t c = let is = row_full _ _ _ _ _ _ _ c.in_ok-first.ensures.found c.in-Some.ensures.taken c.in_err-goes_above.ensures.deep in search (rules, is)

pub row-returns-in_err-row-clause-refused : goal.row-returns-in_err-row-clause-refused
row-returns-in_err-row-clause-refused t c = let fits = c.in_ok-goes_above.ensures.fits in let is = row_rest _ _ _ _ _ _ _ _ c.in_ok-first.ensures.found c.in-Some.ensures.taken fits (omega arith) (omega (arith, fits)) c.in_err-row.ensures.refused in search (rules, is)

pub row-returns-clause-found : goal.row-returns-clause-found
row-returns-clause-found t c =
    let fits = c.in_ok-goes_above.ensures.fits in
    row_several _ _ _ _ _ _ _ _ _ _ _ c.in_ok-first.ensures.found c.in-Some.ensures.taken fits (omega (arith, fits))
    (first_pushed c.new-row.result _ _ c.new-row.ensures.empty c.new-row.ensures.height c.new-row.ensures.form c.in_ok-push.ensures.list c.in_ok-push.ensures.height c.in_ok-push.ensures.deepest c.in_ok-push.ensures.form)
    c.in_ok-row.ensures.found c.in_ok-part.ensures.tree c.in_ok-part.ensures.height c.in_ok-part.ensures.deepest c.in_ok-part.ensures.form

pub more_items-loop-alloc-init : goal.more_items-loop-alloc-init
more_items-loop-alloc-init t c = rest_init _ _ _ c.requires.row_fits

pub more_items-returns-in_err-next-clause-refused : goal.more_items-returns-in_err-next-clause-refused
more_items-returns-in_err-next-clause-refused t c = let is = rest_refused _ _ _ _ _ _ c.loop-alloc.invariant (sym c.at_expr.ensures ∙ c.loop-alloc-test.true) c.in_err-next.ensures.refused in search (rules, is)

pub more_items-loop-alloc-preserved : goal.more_items-loop-alloc-preserved
more_items-loop-alloc-preserved t c =
    rest_next _ _ _ _ _ _ _ _ _ _ c.loop-alloc.invariant c.in_ok-next.ensures.found c.in-Some.ensures.taken c.in_ok-push.ensures.list c.in_ok-push.ensures.height c.in_ok-push.ensures.deepest c.in_ok-push.ensures.form

pub more_items-loop-alloc-smaller : goal.more_items-loop-alloc-smaller
more_items-loop-alloc-smaller t c = row_shorter _ _ _ _ _ _ _ c.in_ok-next.ensures.found c.in-Some.ensures.taken

pub more_items-returns-in_default-clause-found : goal.more_items-returns-in_default-clause-found
more_items-returns-in_default-clause-found t c =
    rest_kept _ _ _ _ _ _ c.in_default.ensures.kept (rest_last _ _ _ _ _ _ _ _ c.loop-alloc.invariant c.in_ok-next.ensures.found c.in_default.ensures.absent c.in_ok-push.ensures.list c.in_ok-push.ensures.height c.in_ok-push.ensures.deepest c.in_ok-push.ensures.form)

pub more_items-returns-clause-found : goal.more_items-returns-clause-found
more_items-returns-clause-found t c = rest_end _ _ _ _ _ c.loop-alloc.invariant (sym c.at_expr.ensures ∙ c.loop-alloc-test.false)

pub items-returns-then-at_sign-clause-found : goal.items-returns-then-at_sign-clause-found
items-returns-then-at_sign-clause-found t c = items_none _ _ _ _ _ c.new-row.ensures.empty c.new-row.ensures.height c.new-row.ensures.deepest (sym c.at_sign.ensures ∙ c.if-at_sign.true)

pub items-returns-in_err-first-clause-refused : goal.items-returns-in_err-first-clause-refused
items-returns-in_err-first-clause-refused t c = let is = items_first _ _ _ _ (sym c.at_sign.ensures ∙ c.if-at_sign.false) c.in_err-first.ensures.refused in search (rules, is)

pub items-returns-in-Some-clause-found : goal.items-returns-in-Some-clause-found
items-returns-in-Some-clause-found t c = items_ok _ _ _ _ _ _ _ _ _ _ _ c.requires.closes c.in_ok-first.ensures.found c.in-Some.ensures.taken
    (first_pushed c.new-row.result _ _ c.new-row.ensures.empty c.new-row.ensures.height c.new-row.ensures.form c.in_ok-push.ensures.list c.in_ok-push.ensures.height c.in_ok-push.ensures.deepest c.in_ok-push.ensures.form) c.more_items.ensures.found

pub items-returns-in-Some-clause-refused : goal.items-returns-in-Some-clause-refused
items-returns-in-Some-clause-refused t c = items_err _ _ _ _ _ _ _ _ c.requires.closes c.in_ok-first.ensures.found c.in-Some.ensures.taken c.more_items.ensures.refused

pub items-returns-in-None-clause-found : goal.items-returns-in-None-clause-found
items-returns-in-None-clause-found t c = items_kept _ _ _ _ _ _ _ c.in-None.ensures.kept (items_one _ _ _ _ _ _ _ c.requires.closes c.in_ok-first.ensures.found
    (first_pushed c.new-row.result _ _ c.new-row.ensures.empty c.new-row.ensures.height c.new-row.ensures.form c.in_ok-push.ensures.list c.in_ok-push.ensures.height c.in_ok-push.ensures.deepest c.in_ok-push.ensures.form) c.in-None.ensures.absent)

-- ---- what stands in the brackets of a subscription

pub bound-returns-then-at_sign-clause-found : goal.bound-returns-then-at_sign-clause-found
bound-returns-then-at_sign-clause-found t c = bound_none _ _ (sym c.at_sign.ensures ∙ c.if-at_sign.true)

pub bound-returns-in_err-part-clause-refused : goal.bound-returns-in_err-part-clause-refused
bound-returns-in_err-part-clause-refused t c = let is = bound_refused _ _ _ (sym c.at_sign.ensures ∙ c.if-at_sign.false) c.in_err-part.ensures.refused in search (rules, is)

pub bound-returns-clause-found : goal.bound-returns-clause-found
bound-returns-clause-found t c = bound_some _ _ _ _ c.in_ok-part.ensures.found

pub index-returns-in_err-high-clause-refused : goal.index-returns-in_err-high-clause-refused
index-returns-in_err-high-clause-refused t c = let is = index_start_refused _ _ _ _ _ c.in-Some.ensures.taken c.in_err-high.ensures.refused in search (rules, is)

pub index-returns-in-Some-clause-found : goal.index-returns-in-Some-clause-found
index-returns-in-Some-clause-found t c = index_from_start _ _ _ _ _ _ c.in-Some.ensures.taken c.in_ok-high.ensures.found

pub index-returns-in_err-part-clause-refused : goal.index-returns-in_err-part-clause-refused
index-returns-in_err-part-clause-refused t c = let is = index_row_refused _ _ _ c.in_default.ensures.absent (refused_kept _ _ _ _ _ c.in_default.ensures.kept c.in_err-part.ensures.refused) in search (rules, is)

pub index-returns-then-is_tuple-clause-found : goal.index-returns-then-is_tuple-clause-found
index-returns-then-is_tuple-clause-found t c = index_kept _ _ _ _ _ c.in_default.ensures.kept (index_tuple _ _ _ _ _ c.in_ok-part.ensures.found c.if-is_tuple.true)

pub index-returns-in_default-take_sign-clause-found : goal.index-returns-in_default-take_sign-clause-found
index-returns-in_default-take_sign-clause-found t c =
    index_kept _ _ _ _ _ c.in_default.ensures.kept (index_end_kept _ _ _ _ _ c.in_default-take_sign.ensures.kept (index_one _ _ _ _ _ c.in_ok-part.ensures.found (λ one. c.in_default-take_sign.ensures.absent)))

pub index-returns-in_err-high-2-clause-refused : goal.index-returns-in_err-high-2-clause-refused
index-returns-in_err-high-2-clause-refused t c =
    let is = index_end_refused c.args.room _ _ _ _ _ _ (single _ _ _ _ _ _ c.in_default.ensures.kept c.in_ok-part.ensures.found c.if-is_tuple.false) c.in-Some-take_sign.ensures.taken c.in_err-high-2.ensures.refused in search (rules, is)

pub index-returns-clause-found : goal.index-returns-clause-found
index-returns-clause-found t c = index_range _ _ _ _ _ _ _ _ (single _ _ _ _ _ _ c.in_default.ensures.kept c.in_ok-part.ensures.found c.if-is_tuple.false) c.in-Some-take_sign.ensures.taken c.in_ok-high-2.ensures.found

-- ---- pairs

pub pairs-loop-alloc-init : goal.pairs-loop-alloc-init
pairs-loop-alloc-init t c = pairs_init _ _ _ _ c.new-row.ensures.empty c.new-row.ensures.height c.new-row.ensures.deepest

pub pairs-returns-in_err-key-clause-refused : goal.pairs-returns-in_err-key-clause-refused
pairs-returns-in_err-key-clause-refused t c = let is = key_refused _ _ _ _ _ _ c.loop-alloc.invariant (sym c.at_sign.ensures ∙ c.loop-alloc-test.true) c.in_err-key.ensures.refused in search (rules, is)

pub pairs-returns-in_err-sign-clause-refused : goal.pairs-returns-in_err-sign-clause-refused
pairs-returns-in_err-sign-clause-refused t c = let is = colon_refused _ _ _ _ _ _ _ _ c.loop-alloc.invariant c.in_ok-key.ensures.found c.in_err-sign.ensures.refused in search (rules, is)

pub pairs-returns-in_err-value-clause-refused : goal.pairs-returns-in_err-value-clause-refused
pairs-returns-in_err-value-clause-refused t c = let is = value_refused _ _ _ _ _ _ _ _ _ _ c.loop-alloc.invariant c.in_ok-key.ensures.found c.in_ok-sign.ensures.taken c.in_err-value.ensures.refused in search (rules, is)

pub pairs-loop-alloc-preserved : goal.pairs-loop-alloc-preserved
pairs-loop-alloc-preserved t c = pairs_next _ _ _ _ _ _ _ _ _ _ _ _ _ _ c.loop-alloc.invariant c.in_ok-key.ensures.found c.in_ok-sign.ensures.taken c.in_ok-value.ensures.found c.in-Some.ensures.taken c.in_ok-push.ensures.list c.in_ok-push.ensures.height c.in_ok-push.ensures.deepest

pub pairs-loop-alloc-smaller : goal.pairs-loop-alloc-smaller
pairs-loop-alloc-smaller t c = pair_shorter _ _ _ _ _ _ _ _ _ _ c.in_ok-key.ensures.found c.in_ok-sign.ensures.taken c.in_ok-value.ensures.found c.in-Some.ensures.taken

pub pairs-returns-in_default-clause-found : goal.pairs-returns-in_default-clause-found
pairs-returns-in_default-clause-found t c = pairs_kept _ _ _ _ _ _ c.in_default.ensures.kept
    (pairs_last _ _ _ _ _ _ _ _ _ _ _ _ c.loop-alloc.invariant c.in_ok-key.ensures.found c.in_ok-sign.ensures.taken c.in_ok-value.ensures.found c.in_default.ensures.absent c.in_ok-push.ensures.list c.in_ok-push.ensures.height c.in_ok-push.ensures.deepest)

pub pairs-returns-clause-found : goal.pairs-returns-clause-found
pairs-returns-clause-found t c = pairs_end _ _ _ _ _ c.loop-alloc.invariant (sym c.at_sign.ensures ∙ c.loop-alloc-test.false)
