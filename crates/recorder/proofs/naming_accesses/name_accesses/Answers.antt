use Rattle.std.proofs.Common.{rules, ◌+◌, map, drop, Some, sym, subst}
use Rattle.py_model.specs.Told.{AreNamedAccesses}
use Rattle.py_value.specs.Seen.{access_seen}
use Rattle.row_words.specs.Fits.{Each}
use Rattle.row_words.specs.AccessBytes.{IsAccess}
use Rattle.recorder.proofs.InRange.{each_more}
use Rattle.recorder.specs.MomentRows.{numbered_access}
use Rattle.recorder.specs.Naming.{named_in_access}
use Rattle.recorder.specs.Numbers.{Goes}
use Rattle.recorder.proofs.Numbering.{one_turn_at, last_turn, front_at}
use Rattle.recorder.proofs.naming_accesses.name_accesses.Goals as goal

pub loop-access-preserved : goal.loop-access-preserved
loop-access-preserved c =
    let f = access_seen c.args.values.now in
    let items = c.args.accesses.now in
    let i = c.loop-access.access-index in
    let now = c.name_access.new.namer in
    let is = front_at items i c.access-item.result c.loop-access-test.true c.access-item.is in (
      subst (λ done. Goes access_seen (λ view c. Some (numbered_access view c)) named_in_access (map f items) (map f (drop (i + 1) items)) c.args.namer.now now done) (sym c.in_ok-push.ensures.items)
          (one_turn_at access_seen (λ view c. Some (numbered_access view c)) named_in_access f items i c.access-item.result (map f items) c.args.namer.now c.loop-access.namer now c.loop-access.own.items c.in_ok-named.named is
          c.loop-access.invariant.0 c.in_ok-named.ensures.numbers),
      (c.in_ok-named.ensures.ready, ((subst (AreNamedAccesses c.args.values.now) is c.loop-access.invariant.1.1.0).1, subst (Each IsAccess) (sym c.in_ok-push.ensures.items) (each_more IsAccess c.loop-access.own.items c.in_ok-named.named c.loop-access.invariant.1.1.1 c.in_ok-named.ensures.fits))),
    )

pub returns-clause-numbers : goal.returns-clause-numbers
returns-clause-numbers c =
    let f = access_seen c.args.values.now in
    let items = c.args.accesses.now in
    last_turn access_seen (λ view c. Some (numbered_access view c)) named_in_access f items c.loop-access.access-index (map f items) c.args.namer.now c.loop-access.namer c.loop-access.own.items c.loop-access-test.false c.loop-access.invariant.0
    c.loop-access.invariant.1.0.interned

pub returns-clause-fits : goal.returns-clause-fits
returns-clause-fits c = (search rules, c.loop-access.invariant.1.1.1)
