use Rattle.std.proofs.Common.{◌+◌, drop, refl, sym, ◌∙◌, arith, length-take, length-drop}
use Rattle.std.proofs.lemmas.List.{take_rest, drop-drop}
use Rattle.prov_real.proofs.Search.{unread_is, line_in_parts, searched_to_end, line_taken, too_long}
use Rattle.prov_real.proofs.lines.Unread.whole_line.Goals as goal

pub invariant_of-self : goal.invariant_of-self
invariant_of-self c =
    let items = c.self.inside.bytes.items in
    let start = c.self.inside.start in
    let unread = unread_is c.deref.result.now items start c.deref.ensures.value in
    let back = rw (unread, take_rest (drop start items) c.self.inside.searched) at c.in_default.ensures in
    rw unread (searched_to_end items start c.self.invariant.begun (line_in_parts (drop start items) c.self.inside.searched c.self.invariant.line back))

pub returns-in_default : goal.returns-in_default
returns-in_default c =
    let items = c.self.inside.bytes.items in
    let start = c.self.inside.start in
    let unread = unread_is c.deref.result.now items start c.deref.ensures.value in
    let back = rw (unread, take_rest (drop start items) c.self.inside.searched) at c.in_default.ensures in
    (rw c.self.view_is at (line_in_parts (drop start items) c.self.inside.searched c.self.invariant.line back), c.self.view_is)

pub returns : goal.returns
returns c =
    let items = c.self.inside.bytes.items in
    let start = c.self.inside.start in
    let searched = c.self.inside.searched in
    let length = searched + c.in-Some.at in
    let unread = unread_is c.deref.result.now items start c.deref.ensures.value in
    let found = rw (unread, take_rest (drop start items) searched) at c.in-Some.ensures in
    let taken = line_taken (drop start items) searched c.in-Some.at c.self.invariant.line found in
    let line = c.of.ensures ∙ rw unread at c.in_ok-line.ensures.items in
    let left = drop-drop (length + 1) start items in
    rw line (taken.0, omega (arith, length-take length (drop start items)), sym c.self.view_is ∙ rw left at taken.1)

pub returns-then-length-gt-LONGEST_LINE : goal.returns-then-length-gt-LONGEST_LINE
returns-then-length-gt-LONGEST_LINE c =
    let items = c.self.inside.bytes.items in
    let start = c.self.inside.start in
    let searched = c.self.inside.searched in
    let unread = unread_is c.deref.result.now items start c.deref.ensures.value in
    let found = rw (unread, take_rest (drop start items) searched) at c.in-Some.ensures in
    let taken = line_taken (drop start items) searched c.in-Some.at c.self.invariant.line found in
    (too_long _ (searched + c.in-Some.at) (drop start items) c.args.self.now c.self.view_is taken.0 c.if-length-gt-LONGEST_LINE.true (omega (arith, found.0, length-drop searched (drop start items))), refl)
