use Rattle.std.proofs.Common.{refl, subst, ℕ, List, Option, Some, None, unwrap_or, codes, Ok}
use Rattle.py_model.specs.Plan.{Plan, name_of}
use Rattle.py_value.specs.Values.{ValuesView}
use Rattle.op_work.specs.Work.{Comes, IsNamedName, seen_name}
use Rattle.op_pieces.specs.declared.pieces.Piece.TheVariants.{Plain}
use Rattle.op_printing.proofs.Putting.{after_puts, puts_piece, puts_words}
use Rattle.op_printing.proofs.names.push_noted.Goals as goal

abbrev or_unknown : ValuesView → Option (List ℕ) → (List ℕ → Plan) → Plan
or_unknown table name go = go (unwrap_or name (codes "?"))

pub returns-in_ok-push-in-Some : goal.returns-in_ok-push-in-Some
returns-in_ok-push-in-Some c =
    let read = subst (λ name. Comes IsNamedName seen_name (λ table. name_of c.args.place) c.args.work.now c.args.work.now (Ok name)) c.in-Some.is c.name.ensures in
    after_puts or_unknown read (λ table interned extends go. refl)
    (puts_piece (λ table go. or_unknown table (seen_name table (Some c.in-Some.name)) go) c.args.work.now c.args.out.now.items c.push.new.out.items (Plain c.in-Some.name)
    c.in_ok-push-in-Some.ensures c.requires read.is_named (λ table interned extends go. refl))

pub returns-in_ok-push_word-in-None : goal.returns-in_ok-push_word-in-None
returns-in_ok-push_word-in-None c =
    let read = subst (λ name. Comes IsNamedName seen_name (λ table. name_of c.args.place) c.args.work.now c.args.work.now (Ok name)) c.in-None.is c.name.ensures in
    after_puts or_unknown read (λ table interned extends go. refl)
    (puts_words (λ table go. or_unknown table (seen_name table None) go) c.args.work.now c.in_ok-push_word-in-None.ensures c.requires (λ table interned extends go. refl))
