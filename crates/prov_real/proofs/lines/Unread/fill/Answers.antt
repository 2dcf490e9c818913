use Rattle.std.proofs.Common.{ℕ, ◌++◌, List, take, Option, Some, None, ap, sym, ◌∙◌, append_assoc}
use Rattle.std.specs.Io.KnownBytes.{Keeps, Consumes, prepend_known}
use Rattle.prov_real.proofs.Search.{unread_grown}
use Rattle.prov_real.proofs.lines.Unread.fill.Goals as goal

-- what a source gave stands behind what was read before
keeps_read : (front piece : List ℕ) (before after : Option (List ℕ)) → Consumes before after piece → Keeps (prepend_known front before) (prepend_known (front ++ piece) after)
keeps_read front piece None after consumed = tt
keeps_read front piece (Some xs) None consumed = consumed
keeps_read front piece (Some xs) (Some ys) consumed = append_assoc front piece ys ∙ ap (λ rest. front ++ rest) (sym consumed)

pub returns-in_ok-extend_from_slice-in-Ok-clause-kept :
    goal.returns-in_ok-extend_from_slice-in-Ok-clause-kept
returns-in_ok-extend_from_slice-in-Ok-clause-kept g c =
    let items = c.self-2.inside.bytes.items in
    let piece = take c.in-Ok.count c.read.new.buf in
    let grown = rw c.in_ok-reserve.ensures.items at c.in_ok-extend_from_slice-in-Ok.ensures.items in
    let unread = unread_grown items c.extend_from_slice.new.self.items piece c.args.self.now c.self-2.inside.start grown c.self-2.invariant.begun (rw c.compact.ensures at c.self-2.view_is) in
    rw unread (keeps_read c.args.self.now piece _ _ c.in-Ok.ensures.bytes.0)
